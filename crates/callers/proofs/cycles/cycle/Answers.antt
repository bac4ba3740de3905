use Rattle.std.proofs.Common.{rules, ◌≡◌, sym, ap, ◌∙◌, subst}
use Rattle.evolution.specs.Agreement.{CompiledFrom}
use Rattle.plain.specs.Behaviours.{by_words}
use Rattle.controller.specs.Calls.{due}
use Rattle.callers.proofs.Scanning.{cycled}
use Rattle.callers.proofs.cycles.cycle.Goals as goal

pub returns-clause-words : goal.returns-clause-words
returns-clause-words g c =
    let shown : (g.I.Image.meaning c.deliver.new.image).outputs ≡ c.in-Ok.field-0 = search rules in
    let w = c.in_ok-verdict.ensures.words in
    let still = ap (λ x. x.program) w.controller in
    cycled w c.in-Ok.ensures.controller (shown ∙ c.in-Ok.ensures.words ∙ ap (λ p. due (by_words p) c.begin.new.controller.phase) still)

pub returns-clause-chart : goal.returns-clause-chart
returns-clause-chart g c =
    λ k f.
    let shown : (g.I.Image.meaning c.deliver.new.image).outputs ≡ c.in-Ok.field-0 = search rules in
    let w = c.in_ok-verdict.ensures.chart k f in
    let still = ap (λ x. x.program) w.controller in
    cycled w c.in-Ok.ensures.controller (shown ∙ c.in-Ok.ensures.chart k (subst (CompiledFrom k) (sym still) f))
