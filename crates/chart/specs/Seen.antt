-- What is remembered of the lines before, and what a line adds. Assumes nothing.
use Rattle.std.specs.Prelude.{◌≡◌, Bool, List, [], ◌∷◌, Ok, Result}
use Rattle.faults.specs.declared.TextFault.{TextFault}
use Rattle.lines.specs.declared.shape.Number.{Number}
use Rattle.lines.specs.Grammar.{Tree}
use Rattle.chart.specs.declared.set.NumberSet.{NumberSet}
use Rattle.chart.specs.declared.seen.Seen.{Seen}
use Rattle.chart.specs.declared.findings.Findings.{Findings}
use Rattle.chart.specs.Said.{steps_of, transitions_of, holdings_of, all}
use Rattle.chart.specs.Checks.{noted, faults_in, has_initial}
use Rattle.chart.specs.Sets.{Empty, Knows, KnowsHeld}

-- what the lines before declare and hold, the last of them first
pub record Remembers (seen : Seen) (before : List Tree) : Type 0 where
  pub steps : Knows seen.steps (all steps_of before)
  pub transitions : Knows seen.transitions (all transitions_of before)
  pub held : KnowsHeld seen.held.rows.items (all holdings_of before)

-- it remembers no line, and has read no list
pub record Unused (seen : Seen) : Type 0 where
  pub lines : Remembers seen []
  pub listed : Empty seen.listed

-- the faults of a line are noted, by the steps that are declared, and the line is remembered
pub record NotesLine (before : List Tree) (t : Tree) (old new : Findings) (seen : Seen) : Type 0 where
  pub declared : new.declared ≡ old.declared
  pub faults : (ns : List Number) → Knows old.declared.now ns → new.first ≡ noted old.first (faults_in ns before t)
  pub remembers : Remembers seen (t ∷ before)

-- the text is read, and its lines declare these steps, one of them initial or none
pub record Declared (text : Result (List Tree) TextFault) (initial : Bool) (declared : NumberSet) : Type 0 where
  pub lines : List Tree
  pub read : text ≡ Ok lines
  pub one : initial ≡ has_initial lines
  pub steps : Knows declared (all steps_of lines)
