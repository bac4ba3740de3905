use Rattle.std.proofs.Common.{◌∙◌, subst}
use Rattle.plain.specs.Behaviours.{by_words, by_chart}
use Rattle.controller.specs.Calls.{GoesOn}
use Rattle.controller.specs.declared.phase.Request.TheVariants as request
use Rattle.controller.proofs.Resting.{left_at_rest, shows}
use Rattle.controller.proofs.controller.Controller.deliver.Goals as goal

pub returns-clause-rests : goal.returns-clause-rests
returns-clause-rests g c =
    let now = c.args.self.now in
    let turn = subst (λ t. GoesOn t request.Deliver now) c.in-Ok-Deliver.field-0-is c.in-Ok-Deliver.ensures.turn in
    let shown = shows (g.I.Image.meaning c.args.image.now) (g.I.Image.meaning c.deliver.new.self) c.due-outputs.result c.in_default.field-0 c.in_default.ensures.answer c.in_default.ensures.shown in
    left_at_rest (by_words now.program) now c.land.new.self now.phase c.in-Ok-Deliver.frame (g.I.Image.meaning c.deliver.new.self).outputs c.in-Ok-Deliver.outcome turn.1
    c.due-outputs.ensures.comes c.land.ensures (shown ∙ c.due-outputs.ensures.words)

pub returns-clause-chart_rests : goal.returns-clause-chart_rests
returns-clause-chart_rests g c =
    λ k f.
    let now = c.args.self.now in
    let turn = subst (λ t. GoesOn t request.Deliver now) c.in-Ok-Deliver.field-0-is c.in-Ok-Deliver.ensures.turn in
    let shown = shows (g.I.Image.meaning c.args.image.now) (g.I.Image.meaning c.deliver.new.self) c.due-outputs.result c.in_default.field-0 c.in_default.ensures.answer c.in_default.ensures.shown in
    left_at_rest (by_chart k) now c.land.new.self now.phase c.in-Ok-Deliver.frame (g.I.Image.meaning c.deliver.new.self).outputs c.in-Ok-Deliver.outcome turn.1
    (c.due-outputs.ensures.chart_comes k f) c.land.ensures (shown ∙ c.due-outputs.ensures.chart k f)
