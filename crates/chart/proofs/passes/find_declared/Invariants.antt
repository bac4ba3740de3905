use Rattle.std.proofs.Common.{◌≡◌, List, length}
use Rattle.words.specs.Emitted.{Kept, kept_in}
use Rattle.lines.specs.Grammar.{Tree}
use Rattle.lines.specs.Next.{lines_left}
use Rattle.lines.proofs.WholeText.{Left}
use Rattle.chart.specs.Said.{steps_of, all}
use Rattle.chart.specs.Checks.{has_initial}
use Rattle.chart.specs.Sets.{Knows}
use Rattle.chart.specs.Scratch.{Emits}
use Rattle.chart.proofs.passes.find_declared.Given as goal

abbrev pub invariant-loop-line : goal.invariant-loop-line
invariant-loop-line l =
    (ls : List Tree) × Left l.text ls l.rest × (l.any_initial ≡ has_initial ls) × Knows l.declared (all steps_of ls) ×
    ((after : Kept) → Emits (lines_left l.rest) (kept_in l.words) after → Emits (lines_left l.text) (kept_in l.initial.words) after)

abbrev pub decreases-loop-line : goal.decreases-loop-line
decreases-loop-line l = length l.rest.tokens.now
