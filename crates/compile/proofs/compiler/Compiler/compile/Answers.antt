use Rattle.std.proofs.Common.{length, sym, ap}
use Rattle.std.proofs.lemmas.Result.{err_from_is_err_and}
use Rattle.compile.specs.Compiled.{answer_of, buffer_with}
use Rattle.compile.proofs.TextLaws.{text_law, charts_law}
use Rattle.compile.proofs.Compiling.{refused, accepted, answers, within}
use Rattle.compile.proofs.Filing.{loads_as, room_suffices}
use Rattle.compile.proofs.compiler.Compiler.compile.Goals as goal

pub returns-in_err-check : goal.returns-in_err-check
returns-in_err-check c =
    let p = err_from_is_err_and c.from_residual.result c.from_residual.ensures.1 in
    let is = refused c.args.text.now (length c.args.buffer.now) c.check.new.self.draft c.in_err-check.field-0.0 c.in_err-check.ensures in
    rw (p.1, p.2) record {
      answer = sym (ap answer_of is);
      buffer = sym (ap (λ w. buffer_with w c.args.buffer.now) is);
      text = text_law c.args.text.now;
      chart = charts_law c.args.text.now;
      loads_back = tt;
      within = tt;
      room_suffices = room_suffices c.args.text.now;
    }

pub returns : goal.returns
returns c =
    let text = c.args.text.now in
    let a = accepted text c.check.new.self.draft c.in_ok-check.ensures in
    let r = c.write_draft.result in
    let f = answers text c.args.buffer.now c.write_draft.new.buffer r a.lines a.chart (c.write_draft.ensures a.lines a.drafted) in record {
      answer = f.answer;
      buffer = f.buffer;
      text = text_law text;
      chart = charts_law text;
      loads_back = loads_as text c.args.buffer.now c.write_draft.new.buffer r f;
      within = within text (length c.args.buffer.now) r f.answer;
      room_suffices = room_suffices text;
    }
