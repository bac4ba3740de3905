use Rattle.std.proofs.Common.{◌≡◌, List, [], length}
use Rattle.words.specs.Emitted.{Kept, kept_in}
use Rattle.lines.specs.declared.shape.Number.{Number}
use Rattle.lines.specs.Grammar.{Tree}
use Rattle.lines.specs.Next.{lines_left}
use Rattle.chart.specs.Checks.{noted, chart_faults, first_of, on_lines}
use Rattle.chart.specs.Sets.{Knows}
use Rattle.chart.specs.Seen.{Remembers}
use Rattle.chart.specs.Scratch.{Emits}
use Rattle.chart.proofs.passes.find_fault.Given as goal

abbrev pub invariant-loop-line : goal.invariant-loop-line
invariant-loop-line l =
    (before : List Tree) × Remembers l.seen before × (l.findings.declared.now ≡ l.declared) ×
    ((ns : List Number) → Knows l.declared ns →
    on_lines (λ ls. noted l.findings.first (chart_faults ns before ls)) (lines_left l.rest) ≡ on_lines (λ ls. first_of (chart_faults ns [] ls)) (lines_left l.text)) ×
    ((after : Kept) → Emits (lines_left l.rest) (kept_in l.words) after → Emits (lines_left l.text) (kept_in l.initial.words) after)

abbrev pub decreases-loop-line : goal.decreases-loop-line
decreases-loop-line l = length l.rest.tokens.now
