-- Lists of numbers that stand for sets. Assumes nothing.
use Rattle.std.specs.Prelude.{ℕ, Bool, true, false, not, ◌&&◌, ◌||◌, List, [], ◌∷◌, ◌==◌, nat_le}

-- whether a number is in the list
abbrev pub member : ℕ → List ℕ → Bool
member n [] = false
member n (m ∷ ms) = n == m || member n ms

-- no number stands twice, and each is a byte
abbrev pub distinct : List ℕ → Bool
distinct [] = true
distinct (n ∷ ns) = (nat_le n 255 && not (member n ns)) && distinct ns
