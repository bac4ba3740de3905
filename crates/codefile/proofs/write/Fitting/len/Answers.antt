use Rattle.std.proofs.Common.{sym, refl}
use Rattle.codefile.specs.Written.{code_for}
use Rattle.codefile.proofs.WrittenFiles.{length_file}
use Rattle.codefile.proofs.write.Fitting.len.Goals as goal

pub returns : goal.returns
returns c = record { file = sym (length_file (code_for c.args.self.now.contents)); words = refl }
