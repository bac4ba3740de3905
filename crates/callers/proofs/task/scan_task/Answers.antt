use Rattle.std.proofs.Common.{◌≡◌, suc, ◌+◌, sym, ◌∙◌, subst, arith}
use Rattle.evolution.specs.Agreement.{CompiledFrom}
use Rattle.plain.specs.Behaviours.{by_words}
use Rattle.callers.specs.Tasks.{Round}
use Rattle.callers.proofs.Tasking.{same_program, one_more}
use Rattle.callers.proofs.task.scan_task.Goals as goal

pub loop-made-preserved : goal.loop-made-preserved
loop-made-preserved g c =
    let meaning = g.I.Image.meaning in
    let becomes = g.I.Image.becomes in
    let so_far = c.loop-made.invariant in
    let more = c.in_default.ensures in
    let count : c.loop-made.made + 1 ≡ suc c.loop-made.made = omega arith in
    record {
      program = same_program more.words ∙ so_far.program;
      words = one_more c.args.controller.now c.args.image.now count so_far.words (subst (λ p. Round meaning becomes (by_words p) c.loop-made.controller c.loop-made.image c.in_default.field-0 c.round.new.controller c.round.new.image) so_far.program more.words);
      chart = λ a f. one_more c.args.controller.now c.args.image.now count (so_far.chart a f) (more.chart a (subst (CompiledFrom a) (sym so_far.program) f));
    }
