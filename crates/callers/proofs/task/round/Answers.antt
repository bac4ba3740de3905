use Rattle.callers.proofs.Tasking.{round_of}
use Rattle.callers.proofs.task.round.Goals as goal

pub returns-clause-chart : goal.returns-clause-chart
returns-clause-chart g c =
    λ k f.
    round_of c.cycle.new.image (c.in_ok-verdict.ensures.chart k f) c.in_ok-verdict.ensures.rule c.advance.ensures.kept c.advance.ensures.rule
