use Rattle.std.proofs.Common.{sym, subst}
use Rattle.plain.specs.Behaviours.{by_chart}
use Rattle.controller.specs.Calls.{in_phase, WorkedAs}
use Rattle.controller.specs.declared.phase.Phase.TheVariants.{Worked}
use Rattle.controller.proofs.Working.{worked_as}
use Rattle.controller.proofs.controller.Controller.work_open.Goals as goal

pub returns-clause-chart : goal.returns-clause-chart
returns-clause-chart c =
    let o = c.outcome_of-outcome.result in
    λ k f.
    subst (λ x. WorkedAs (by_chart k) c.args.self.now.phase c.args.self.now o.verdict (in_phase (Worked c.args.frame o) x))
    (sym c.self.view_is)
    (worked_as (by_chart k) c.args.self.now.phase c.args.self.now c.args.frame o c.requires (c.outcome_of-outcome.ensures.chart k f))
