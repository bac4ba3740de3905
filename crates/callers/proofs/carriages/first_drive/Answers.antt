use Rattle.std.proofs.Common.{rules}
use Rattle.callers.proofs.carriages.first_drive.Goals as goal

pub returns-clause-chart : goal.returns-clause-chart
returns-clause-chart c = λ k f. let h = c.in_ok-verdict.ensures.chart k f in search rules
