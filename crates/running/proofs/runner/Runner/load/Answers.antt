use Rattle.std.proofs.Common.{rules}
use Rattle.controller.specs.Standing.{stage_of}
use Rattle.running.proofs.Roomy.{never_too_short}
use Rattle.running.proofs.runner.Runner.load.Goals as goal

pub returns-clause-room : goal.returns-clause-room
returns-clause-room c = never_too_short c.args.text.now (stage_of c.args.self.now.controller.phase) c.load_text.result (search rules)
