use Rattle.std.proofs.Common.{rules}
use Rattle.controller.specs.Standing.{stage_of}
use Rattle.controller.proofs.Loading.{loads_text}
use Rattle.controller.proofs.controller.Controller.load.Goals as goal

pub returns-clause-text : goal.returns-clause-text
returns-clause-text c =
    λ text room h. loads_text text c.args.bytes.now room (stage_of c.args.self.now.phase) c.begin.new.self _ (search rules) (search rules) h

pub returns-in_err-load-clause-text : goal.returns-in_err-load-clause-text
returns-in_err-load-clause-text c =
    λ text room h. loads_text text c.args.bytes.now room (stage_of c.args.self.now.phase) _ c.from_residual-in_err-load.result (search rules) (search rules) h
