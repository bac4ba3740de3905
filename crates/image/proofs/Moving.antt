-- A carriage after n advances with one output on. Assumes nothing.
use Rattle.std.proofs.Common.{◌≡◌, ℕ, zero, suc, ◌+◌, ◌-◌, ◌≤◌, min, refl, ap, ◌∙◌, arith}
use Rattle.frames.specs.Bits.{bit}
use Rattle.image.specs.Meaning.{advancing}
use Rattle.image.specs.Track.{moved, driven, under, at_start}

moved_up : (position : ℕ) → moved 1 position ≡ min (position + 1) 100
unfolding bit
moved_up position = refl

moved_down : (position : ℕ) → moved 2 position ≡ position - 1
unfolding bit
moved_down position = refl

up_to : (n : ℕ) → n ≤ 100 → under 1 n at_start ≡ record { position = n; outputs = 1 }
up_to zero few = refl
up_to (suc n) few =
    let next : min (n + 1) 100 ≡ suc n = omega arith in
    ap (driven advancing) (up_to n (omega arith)) ∙ ap (λ p. record { position = p; outputs = 1 }) (moved_up n ∙ next)

-- from the upper end
down_to : (n : ℕ) → n ≤ 100 → under 2 n (record { position = 100; outputs = 1 }) ≡ record { position = 100 - n; outputs = 2 }
down_to zero few = refl
down_to (suc n) few =
    let next : 100 - n - 1 ≡ 100 - suc n = omega arith in
    ap (driven advancing) (down_to n (omega arith)) ∙ ap (λ p. record { position = p; outputs = 2 }) (moved_down (100 - n) ∙ next)

pub up : (n : ℕ) → n ≤ 100 → (under 1 n at_start).position ≡ n
up n few = ap (λ c. c.position) (up_to n few)

pub down : (n : ℕ) → n ≤ 100 → (under 2 n (under 1 100 at_start)).position ≡ 100 - n
down n few = ap (λ c. (under 2 n c).position) (up_to 100 (omega arith)) ∙ ap (λ c. c.position) (down_to n few)
