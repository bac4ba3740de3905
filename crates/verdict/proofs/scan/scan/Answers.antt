use Rattle.std.proofs.Common.{rules}
use Rattle.verdict.specs.Scans.{Settled}
use Rattle.verdict.proofs.Scanning.{by_chart_too}
use Rattle.verdict.proofs.scan.scan.Goals as goal

pub returns-clause-chart : goal.returns-clause-chart
unfolding Settled
returns-clause-chart c = by_chart_too _ _ _ _ _ (search rules) (search rules)
