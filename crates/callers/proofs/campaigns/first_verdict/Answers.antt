use Rattle.std.proofs.Common.{rules}
use Rattle.callers.proofs.campaigns.first_verdict.Goals as goal

pub returns-in-Ok-Found-clause-chart : goal.returns-in-Ok-Found-clause-chart
returns-in-Ok-Found-clause-chart g c = λ k f. let h = c.in-Ok-Found.ensures.chart k f in search rules
