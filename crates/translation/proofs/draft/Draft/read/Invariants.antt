use Rattle.std.proofs.Common.{◌≡◌, List, length}
use Rattle.lines.specs.Grammar.{Tree}
use Rattle.lines.proofs.WholeText.{Left}
use Rattle.translation.specs.Drafts.{sketch_of, read_all}
use Rattle.translation.proofs.draft.Draft.read.Given as goal

-- some lines are read, and what is left, behind them, gives the whole
abbrev pub invariant-loop-line : goal.invariant-loop-line
invariant-loop-line l = (ls : List Tree) × Left l.text ls l.rest × (sketch_of l.self ≡ read_all (sketch_of l.initial.self) ls)

abbrev pub decreases-loop-line : goal.decreases-loop-line
decreases-loop-line l = length l.rest.tokens.now
