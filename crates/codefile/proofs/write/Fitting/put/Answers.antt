use Rattle.std.proofs.Common.{refl, ap, ◌∙◌, arith}
use Rattle.codefile.specs.Written.{code_for, head_bytes, over}
use Rattle.codefile.proofs.WrittenFiles.{puts_file}
use Rattle.codefile.proofs.RoundTrip.{written_loads}
use Rattle.codefile.proofs.write.Fitting.put.Goals as goal

pub returns : goal.returns
returns c =
    let old = c.args.buffer.now in
    let code = code_for c.args.self.now.contents in
    let head = c.put_head.ensures ∙ ap (λ d. over 0 (head_bytes d code.initial) old) c.directory.ensures in
    let whole = puts_file code old c.put_head.new.buffer c.put_words.new.buffer c.put_words-2.new.buffer c.put_words-3.new.buffer c.requires head c.put_words.ensures c.put_words-2.ensures c.put_words-3.ensures in
    record { file = whole; loads_back = written_loads code _ _ c.put_words-3.new.buffer (omega arith) c.args.self.now.few refl whole }
