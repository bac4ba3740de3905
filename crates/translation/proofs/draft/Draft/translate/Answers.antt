use Rattle.std.proofs.Common.{Err, ap, ◌∙◌}
use Rattle.std.proofs.lemmas.Result.{err_from_is_err_and}
use Rattle.lines.specs.Next.{lines_left}
use Rattle.translation.specs.Drafts.{sketch_of}
use Rattle.translation.proofs.PartLaws.{text_sound}
use Rattle.translation.proofs.Reading.{translated, not_translated}
use Rattle.translation.proofs.draft.Draft.translate.Goals as goal

pub returns : goal.returns
returns c =
    record {
      drafted =
          translated (lines_left c.args.text) (sketch_of c.erase.new.self) (sketch_of c.read.new.self) c.close.new.self
          c.erase.ensures c.in_ok-read.ensures c.close.ensures;
      sound = text_sound c.args.text.tokens.now c.args.text.end;
    }

pub returns-in_err-read : goal.returns-in_err-read
returns-in_err-read c =
    let p = err_from_is_err_and c.from_residual.result c.from_residual.ensures.1 in
    record {
      drafted =
          not_translated (lines_left c.args.text) (sketch_of c.erase.new.self) (sketch_of c.read.new.self) c.read.new.self c.in_err-read.field-0.0 c.from_residual.result
          c.in_err-read.ensures (p.1 ∙ ap (λ f. Err f) p.2);
      sound = text_sound c.args.text.tokens.now c.args.text.end;
    }
