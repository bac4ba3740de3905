-- A frame: a number below 2 ^ 64, read as 64 bits. Assumes nothing.
use Rattle.std.specs.Prelude.{ℕ, zero, suc, ◌+◌, ◌*◌, ◌/◌, ◌%◌, ◌^◌, Bool, cond, not, ◌&&◌, ◌||◌, ◌==◌, nat_lt}

-- whether bit n of x is on; of a frame no bit above 63 is
unfoldable pub bit : ℕ → ℕ → Bool
bit n x = x / 2 ^ n % 2 == 1

-- the number whose first k bits are as f says, and no other is on
abbrev pub pack : ℕ → (ℕ → Bool) → ℕ
pack zero f = 0
pack (suc k) f = pack k (λ n. f (suc n)) * 2 + cond (f 0) 1 0

-- x with bit n on, and every other bit as it was
unfoldable pub on : ℕ → ℕ → ℕ
on x n = pack 64 (λ k. bit k x || k == n)

-- x with bit n off, and every other bit as it was
unfoldable pub off : ℕ → ℕ → ℕ
off x n = pack 64 (λ k. bit k x && not (k == n))

-- bit n alone; a number above 63 has no bit
unfoldable pub mask : ℕ → ℕ
mask n = cond (nat_lt n 64) (2 ^ n) 0
