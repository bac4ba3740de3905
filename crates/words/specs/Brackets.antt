-- The words of a part: each lawful there, and its brackets in balance, at most 17 open. Assumes nothing.
use Rattle.std.specs.Prelude.{ℕ, ◌+◌, ◌-◌, Bool, false, cond, not, ◌&&◌, ◌||◌, List, [], ◌∷◌, ◌==◌, nat_le}
use Rattle.words.specs.declared.instruction.Part.{Part}
use Rattle.words.specs.Words.{lawful, operator_of}

abbrev pub opens : ℕ → Bool
opens w = operator_of w == 7 || operator_of w == 8

abbrev pub closes : ℕ → Bool
closes w = operator_of w == 9

-- so many brackets being open, the word opens the eighteenth, or closes one where none is open
abbrev pub spoils : ℕ → ℕ → Bool
spoils depth w = cond (opens w) (nat_le 17 depth) (cond (closes w) (depth == 0) false)

-- how many are open after the word
abbrev pub after : ℕ → ℕ → ℕ
after depth w = cond (opens w) (depth + 1) (cond (closes w) (depth - 1) depth)

-- from so many open brackets, the words are lawful in the part and leave none open
abbrev pub sound : Part → ℕ → List ℕ → Bool
sound p depth [] = depth == 0
sound p depth (w ∷ ws) = lawful p w && (not (spoils depth w) && sound p (after depth w) ws)
