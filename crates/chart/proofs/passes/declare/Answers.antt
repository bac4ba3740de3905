use Rattle.std.proofs.Common.{refl, arith, subst}
use Rattle.lines.specs.Parts.{Shows}
use Rattle.chart.proofs.LinePasses.{has_push}
use Rattle.chart.proofs.passes.declare.Goals as goal

pub returns-in-Step : goal.returns-in-Step
returns-in-Step c = λ tree lines shown knows.
    let is = subst (λ l. Shows l tree) c.in-Step.is shown in
    rw is (refl, λ n. rw (has_push n lines _, c.add.ensures.numbers n.value, knows n) (grind arith))
