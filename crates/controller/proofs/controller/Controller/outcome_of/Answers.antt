use Rattle.std.proofs.Common.{subst}
use Rattle.evolution.specs.Agreement.{CompiledFrom}
use Rattle.plain.specs.Behaviours.{by_chart}
use Rattle.plain.specs.Charts.{ComesTo}
use Rattle.controller.proofs.controller.Controller.outcome_of.Goals as goal

pub returns-clause-chart : goal.returns-clause-chart
returns-clause-chart c =
    λ k. subst (λ x. CompiledFrom k x.program → ComesTo (by_chart k) x.state x.previous c.args.frame c.scan.result) c.self.view_is (c.scan.ensures.chart k)
