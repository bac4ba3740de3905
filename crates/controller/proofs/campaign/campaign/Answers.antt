use Rattle.std.proofs.Common.{◌≡◌, ◌+◌, ◌<◌, ◌≤◌, length, get_or, take, drop, sym, ap, ◌∙◌, subst, arith}
use Rattle.std.proofs.lemmas.List.{drop-set-lt, drop-drop}
use Rattle.evolution.specs.Agreement.{CompiledFrom}
use Rattle.plain.specs.declared.calls.Call.TheVariants.{Sample}
use Rattle.plain.specs.Behaviours.{Behaviour, by_words, by_chart}
use Rattle.plain.specs.Campaigns.{Campaign}
use Rattle.plain.proofs.Moments.{finished}
use Rattle.controller.specs.Standing.{standing}
use Rattle.controller.specs.Beside.{Makes}
use Rattle.controller.proofs.Stepping.{makes_one_more}
use Rattle.controller.proofs.campaign.campaign.Goals as goal

pub loop-k-preserved : goal.loop-k-preserved
loop-k-preserved g c =
    let k = c.loop-k.k in
    let calls = c.args.calls.now in
    let log = c.loop-k.log in
    let inv = c.loop-k.invariant in
    let made = c.enter.ensures in
    let few : k < length calls = omega arith in
    let room : k < length log = omega arith in
    let more = λ (b : Behaviour). makes_one_more g.I.Image.meaning g.I.Image.becomes b c.args.image.now calls log k Sample c.loop-k.controller c.loop-k.image c.enter.new.entry c.enter.new.controller c.enter.new.image made.active few room in
    record {
      program = made.program ∙ inv.program;
      words = more (by_words c.args.controller.now.program) inv.words (subst (λ p. Makes g.I.Image.meaning g.I.Image.becomes (by_words p) (get_or calls k Sample) c.loop-k.controller c.loop-k.image c.enter.new.entry.answer c.enter.new.controller c.enter.new.image) inv.program made.words);
      chart = λ a f. more (by_chart a) (inv.chart a f) (made.chart a (subst (CompiledFrom a) (sym inv.program) f));
      rest = drop-set-lt (k + 1) log k c.enter.new.entry (omega arith) ∙ sym (drop-drop 1 k log) ∙ ap (drop 1) inv.rest ∙ drop-drop 1 k c.args.log.now;
    }

pub returns-clause-words : goal.returns-clause-words
returns-clause-words g c =
    let k = c.loop-k.k in
    let log = c.loop-k.log in
    let all : k ≡ c.min-made.result = omega arith in
    let few : k ≤ length log = omega arith in
    subst
    (λ n. Campaign g.I.Image.meaning g.I.Image.becomes (by_words c.args.controller.now.program) c.args.image.now (take n c.args.calls.now) c.args.log.now log (standing c.loop-k.controller (g.I.Image.meaning c.loop-k.image).outputs) c.loop-k.image)
    all (finished g.I.Image.meaning g.I.Image.becomes (by_words c.args.controller.now.program) k c.args.log.now log few c.loop-k.invariant.rest c.loop-k.invariant.words)

pub returns-clause-chart : goal.returns-clause-chart
returns-clause-chart g c =
    λ a f.
    let k = c.loop-k.k in
    let log = c.loop-k.log in
    let all : k ≡ c.min-made.result = omega arith in
    let few : k ≤ length log = omega arith in
    subst
    (λ n. Campaign g.I.Image.meaning g.I.Image.becomes (by_chart a) c.args.image.now (take n c.args.calls.now) c.args.log.now log (standing c.loop-k.controller (g.I.Image.meaning c.loop-k.image).outputs) c.loop-k.image)
    all (finished g.I.Image.meaning g.I.Image.becomes (by_chart a) k c.args.log.now log few c.loop-k.invariant.rest (c.loop-k.invariant.chart a f))
