use Rattle.std.proofs.Common.{◌≡◌}
use Rattle.evolution.specs.Agreement.{CompiledFrom}
use Rattle.evolution.specs.Chart.{Chart}
use Rattle.plain.specs.Behaviours.{by_words, by_chart}
use Rattle.callers.specs.Tasks.{Rounds}
use Rattle.callers.proofs.task.scan_task.Given as goal

abbrev pub invariant-loop-made : goal.invariant-loop-made
invariant-loop-made g l =
    let meaning = g.I.Image.meaning in
    let becomes = g.I.Image.becomes in
    record {
      program : l.controller.program ≡ l.fn.controller.program;
      words : Rounds meaning becomes (by_words l.fn.controller.program) l.made l.fn.controller l.fn.image l.controller l.image;
      chart : (c : Chart) → CompiledFrom c l.fn.controller.program → Rounds meaning becomes (by_chart c) l.made l.fn.controller l.fn.image l.controller l.image;
    }
