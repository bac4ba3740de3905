use Rattle.std.proofs.Common.{sym, ap, subst}
use Rattle.evolution.specs.Agreement.{CompiledFrom}
use Rattle.callers.proofs.Scanning.{opened}
use Rattle.callers.proofs.cycles.begin.Goals as goal

pub returns-clause-chart : goal.returns-clause-chart
returns-clause-chart g c =
    λ k f.
    let sampled = c.in_ok-sampled.ensures.controller in
    opened sampled (c.in-Ok.ensures.chart k (subst (CompiledFrom k) (sym (ap (λ x. x.program) sampled)) f))
