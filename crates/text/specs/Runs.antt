-- Runs of digits and of letters. Assumes nothing.
use Rattle.std.specs.Prelude.{ℕ, ◌+◌, ◌-◌, ◌*◌, List, fold}
use Rattle.std.specs.Char.{is_ascii_digit, is_ascii_lowercase}
use Rattle.std.specs.List.{prefix_len}

-- how many digits the bytes begin with
abbrev pub digits : List ℕ → ℕ
digits bs = prefix_len is_ascii_digit bs

-- how many letters a to z the bytes begin with
abbrev pub letters : List ℕ → ℕ
letters bs = prefix_len is_ascii_lowercase bs

-- the value of digits, the last one worth ones
abbrev pub worth : List ℕ → ℕ
worth ds = fold (λ v b. v * 10 + (b - 48)) 0 ds
