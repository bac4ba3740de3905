-- The numbers of the format. Assumes nothing.
use Rattle.std.specs.Prelude.{ℕ, ◌+◌, ◌*◌, List, [], ◌∷◌}

-- what a code file begins with
abbrev pub mark : List ℕ
mark = 83 ∷ 82 ∷ 73 ∷ 49 ∷ []

-- how long a code file can be: 44 bytes before the words, and four for each of 4,096
abbrev pub longest_file : ℕ
longest_file = 44 + 4 * 4096
