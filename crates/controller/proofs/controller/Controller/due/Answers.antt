use Rattle.std.proofs.Common.{◌<◌, ◌^◌, ap, ◌∙◌, subst, rules}
use Rattle.evolution.specs.Agreement.{CompiledFrom}
use Rattle.verdict.proofs.Scanning.{by_chart_too}
use Rattle.plain.specs.Behaviours.{by_chart}
use Rattle.plain.specs.Charts.{ComesTo}
use Rattle.controller.specs.Parts.{OutcomeHolds}
use Rattle.controller.proofs.controller.Controller.due.Goals as goal

pub returns-clause-chart_comes : goal.returns-clause-chart_comes
returns-clause-chart_comes c =
    let i = c.self.inside in
    let fits : i.state.active < 2 ^ 64 = search rules in
    let holds = subst (OutcomeHolds i.program i.state i.previous) (ap (λ x. x.phase) c.self.view_is ∙ c.requires) c.self.invariant in
    λ k. subst (λ x. CompiledFrom k x.program → ComesTo (by_chart k) x.state x.previous c.args.frame c.args.outcome) c.self.view_is
    (by_chart_too i.program c.args.frame _ i.state c.args.outcome fits holds k)
