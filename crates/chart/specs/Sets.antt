-- Sets of numbers, and tables of the outputs that a step holds. Assumes nothing.
use Rattle.std.specs.Prelude.{◌≡◌, ℕ, Bool, false, not, List, [], filter, slice_index_or}
use Rattle.lines.specs.declared.shape.Number.{Number}
use Rattle.chart.specs.declared.set.NumberSet.{NumberSet}
use Rattle.chart.specs.declared.table.Row.{Row}
use Rattle.chart.specs.Said.{Holding}
use Rattle.chart.specs.Checks.{has, same_number, same_holding}
use Rattle.chart.specs.Numbers.{member}

-- whether a number is in the set
abbrev pub holds : NumberSet → ℕ → Bool
holds set n = member n set.numbers

-- the set has no number
abbrev pub Empty : NumberSet → Type 0
Empty set = (n : ℕ) → holds set n ≡ false

-- the set has the values of these numbers
abbrev pub Knows : NumberSet → List Number → Type 0
Knows set ns = (n : Number) → holds set n.value ≡ has same_number n ns

-- the numbers that the set lacks
abbrev pub unknown : NumberSet → List Number → List Number
unknown set ns = filter (λ n. not (holds set n.value)) ns

-- whether a row has a mark for the output
abbrev pub is_marked : Row → ℕ → Bool
is_marked row q = slice_index_or row.marks q false

-- what is read behind the end of a table
abbrev pub no_row : Row
no_row = record { marks = [] }

-- whether the table, a row for each step, has a mark for the step and the output
abbrev pub marked : List Row → ℕ → ℕ → Bool
marked table s q = is_marked (slice_index_or table s no_row) q

-- the table has these holdings
abbrev pub KnowsHeld : List Row → List Holding → Type 0
KnowsHeld table hs = (h : Holding) → marked table h.step h.output ≡ has same_holding h hs
