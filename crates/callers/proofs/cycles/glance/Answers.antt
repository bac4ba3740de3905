use Rattle.callers.proofs.cycles.glance.Goals as goal

pub returns-clause-chart : goal.returns-clause-chart
returns-clause-chart g c =
    λ k f. let w = c.in_ok-verdict.ensures.chart k f in (w.outcome, (w.comes, w.verdict))
