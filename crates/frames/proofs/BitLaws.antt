-- The laws of `bit`, `on`, `off` and `pack`. Assumes nothing.
use Rattle.std.proofs.Common.{◌≡◌, ℕ, zero, suc, ◌+◌, ◌-◌, ◌*◌, ◌/◌, ◌%◌, ◌^◌, ◌<◌, ◌≤◌, min, max, Bool, true, false, cond, not, ◌&&◌, ◌||◌, eqb, ltb, sym, refl, ap, ◌∙◌, subst, ap₂, ⊎_elim, pow-suc, arith, pow_mono}
use native.Mathlib.Nat.{div-eq_of_lt}
use lib.Bits.{bit_and, bit_or, and_step, or_step, or_lt, and_le_l}
use Rattle.std.proofs.lemmas.Nat.{shr-shr, pow_below, one_shl}
use Rattle.std.proofs.lemmas.Bool.{cond-true, cond-false, cases_Bool, ltb-true, lt-ltb}
use Rattle.std.proofs.lemmas.Bool.Decides.{nat_tests}
use Rattle.frames.specs.Edges.{only_in}
use Rattle.frames.specs.Bits.{bit, pack, on, off, mask}

pub bit_zero : (x : ℕ) → bit 0 x ≡ eqb (x % 2) 1
unfolding bit
bit_zero x = ap (λ (y : ℕ). eqb (y % 2) 1) (omega arith)

pub bit_suc : (n x : ℕ) → bit (suc n) x ≡ bit n (x / 2)
unfolding bit
bit_suc n x =
    let e : suc n ≡ 1 + n = omega arith in
    ap (λ (y : ℕ). eqb (y % 2) 1) (ap (λ (k : ℕ). x / 2 ^ k) e ∙ sym (shr-shr x 1 n))

-- a number by its half and its last bit
same_low : (x : ℕ) (b : Bool) → x % 2 ≡ cond b 1 0 → bit 0 x ≡ b
same_low x true e = bit_zero x ∙ ap (λ (y : ℕ). eqb y 1) e
same_low x false e = bit_zero x ∙ ap (λ (y : ℕ). eqb y 1) e

same_high : (n x q : ℕ) → x / 2 ≡ q → bit (suc n) x ≡ bit n q
same_high n x q e = bit_suc n x ∙ ap (bit n) e

pub bit_low : (q : ℕ) (b : Bool) → bit 0 (q * 2 + cond b 1 0) ≡ b
bit_low q true = same_low (q * 2 + 1) true (omega arith)
bit_low q false = same_low (q * 2 + 0) false (omega arith)

pub bit_high : (n q : ℕ) (b : Bool) → bit (suc n) (q * 2 + cond b 1 0) ≡ bit n q
bit_high n q true = same_high n (q * 2 + 1) q (omega arith)
bit_high n q false = same_high n (q * 2 + 0) q (omega arith)

low_and : (x a b : ℕ) → x % 2 ≡ min (a % 2) (b % 2) → eqb (x % 2) 1 ≡ (eqb (a % 2) 1 && eqb (b % 2) 1)
low_and x a b e = grind (arith, nat_tests)

low_or : (x a b : ℕ) → x % 2 ≡ max (a % 2) (b % 2) → eqb (x % 2) 1 ≡ (eqb (a % 2) 1 || eqb (b % 2) 1)
low_or x a b e = grind (arith, nat_tests)

pub bit_and_lem : (n a b : ℕ) → bit n (bit_and a b) ≡ (bit n a && bit n b)
bit_and_lem zero a b =
    let e : bit_and a b % 2 ≡ min (a % 2) (b % 2) = omega (arith, and_step a b) in
    bit_zero (bit_and a b) ∙ low_and (bit_and a b) a b e ∙ sym (ap₂ (λ x y. x && y) (bit_zero a) (bit_zero b))
bit_and_lem (suc n) a b =
    let e : bit_and a b / 2 ≡ bit_and (a / 2) (b / 2) = omega (arith, and_step a b) in
    same_high n (bit_and a b) _ e ∙ bit_and_lem n (a / 2) (b / 2) ∙ sym (ap₂ (λ x y. x && y) (bit_suc n a) (bit_suc n b))

pub bit_or_lem : (n a b : ℕ) → bit n (bit_or a b) ≡ (bit n a || bit n b)
bit_or_lem zero a b =
    let e : bit_or a b % 2 ≡ max (a % 2) (b % 2) = omega (arith, or_step a b) in
    bit_zero (bit_or a b) ∙ low_or (bit_or a b) a b e ∙ sym (ap₂ (λ x y. x || y) (bit_zero a) (bit_zero b))
bit_or_lem (suc n) a b =
    let e : bit_or a b / 2 ≡ bit_or (a / 2) (b / 2) = omega (arith, or_step a b) in
    same_high n (bit_or a b) _ e ∙ bit_or_lem n (a / 2) (b / 2) ∙ sym (ap₂ (λ x y. x || y) (bit_suc n a) (bit_suc n b))

-- one bit alone
pub bit_nought : (n : ℕ) → bit n 0 ≡ false
bit_nought zero = bit_zero 0
bit_nought (suc n) = same_high n 0 0 refl ∙ bit_nought n

eqb_suc : (m n : ℕ) → eqb (suc m) (suc n) ≡ eqb m n
eqb_suc m n = grind (arith, nat_tests)

pub bit_pow : (m n : ℕ) → bit m (2 ^ n) ≡ eqb m n
bit_pow zero zero = bit_zero 1
bit_pow zero (suc n) = let e : 2 ^ suc n % 2 ≡ 0 = omega (arith, pow-suc 2 n) in same_low (2 ^ suc n) false e ∙ grind (arith, nat_tests)
bit_pow (suc m) zero = same_high m 1 0 refl ∙ bit_nought m ∙ grind (arith, nat_tests)
bit_pow (suc m) (suc n) =
    let e : 2 ^ suc n / 2 ≡ 2 ^ n = omega (arith, pow-suc 2 n) in
    same_high m (2 ^ suc n) _ e ∙ bit_pow m n ∙ sym (eqb_suc m n)

-- all the others
pub bit_rest : (k m x : ℕ) → x < 2 ^ k → m < k → bit m (2 ^ k - 1 - x) ≡ not (bit m x)
bit_rest zero m x h l = absurd (omega arith)
bit_rest (suc k) zero x h l =
    let p = pow-suc 2 k in
    bit_zero (2 ^ suc k - 1 - x) ∙ turn ∙ sym (ap not (bit_zero x))
  where
    turn : eqb ((2 ^ suc k - 1 - x) % 2) 1 ≡ not (eqb (x % 2) 1)
    turn = let e : (2 ^ suc k - 1 - x) % 2 + x % 2 ≡ 1 = omega (arith, pow-suc 2 k, h) in grind (arith, nat_tests, e)
bit_rest (suc k) (suc m) x h l =
    let e : (2 ^ suc k - 1 - x) / 2 ≡ 2 ^ k - 1 - x / 2 = omega (arith, pow-suc 2 k, h) in
    same_high m (2 ^ suc k - 1 - x) _ e ∙ bit_rest k m (x / 2) (omega (arith, pow-suc 2 k, h)) (omega arith) ∙ sym (ap not (bit_suc m x))

-- a number below 2 ^ k has no bit from k on
pub bit_above : (k n x : ℕ) → x < 2 ^ k → k ≤ n → bit n x ≡ false
unfolding bit
bit_above k n x hx h =
    let wide : 2 ^ k ≤ 2 ^ n = pow_mono h in
    let below : x < 2 ^ n = omega arith in
    ap (λ (y : ℕ). eqb (y % 2) 1) (div-eq_of_lt below)

-- a frame has no bit above its last
pub frame_bit_above : (n x : ℕ) → x < 2 ^ 64 → 64 ≤ n → bit n x ≡ false
frame_bit_above n x hx h = bit_above 64 n x hx h

-- ---- a number is its bits
low_from : (x y : ℕ) → bit 0 x ≡ bit 0 y → x % 2 ≡ y % 2
low_from x y e = let f = sym (bit_zero x) ∙ e ∙ bit_zero y in grind (arith, nat_tests, f)

pub same_bits : (k x y : ℕ) → x < 2 ^ k → y < 2 ^ k → ((n : ℕ) → n < k → bit n x ≡ bit n y) → x ≡ y
same_bits zero x y hx hy h = omega arith
same_bits (suc k) x y hx hy h =
    let p = pow-suc 2 k in
    let low = low_from x y (h 0 (omega arith)) in
    let high = same_bits k (x / 2) (y / 2) (omega arith) (omega arith) (λ n l. sym (bit_suc n x) ∙ h (suc n) (omega arith) ∙ bit_suc n y) in
    omega arith

below_next : (k q : ℕ) (b : Bool) → q < 2 ^ k → q * 2 + cond b 1 0 < 2 ^ suc k
below_next k q true h = omega (arith, pow-suc 2 k)
below_next k q false h = omega (arith, pow-suc 2 k)

pub pack_fits : (k : ℕ) (f : ℕ → Bool) → pack k f < 2 ^ k
pack_fits zero f = omega arith
pack_fits (suc k) f = below_next k (pack k (λ n. f (suc n))) (f 0) (pack_fits k (λ n. f (suc n)))

pub bit_pack : (k : ℕ) (f : ℕ → Bool) (n : ℕ) → n < k → bit n (pack k f) ≡ f n
bit_pack zero f n l = absurd (omega arith)
bit_pack (suc k) f zero l = bit_low (pack k (λ n. f (suc n))) (f 0)
bit_pack (suc k) f (suc n) l = bit_high n (pack k (λ n. f (suc n))) (f 0) ∙ bit_pack k (λ n. f (suc n)) n (omega arith)

-- the number with given bits
pub packs : (k x : ℕ) (f : ℕ → Bool) → x < 2 ^ k → ((n : ℕ) → n < k → bit n x ≡ f n) → x ≡ pack k f
packs k x f hx h = same_bits k x (pack k f) hx (pack_fits k f) (λ n l. h n l ∙ sym (bit_pack k f n l))

-- ---- the bits that two frames do not share
pub only_in_packs : (x y : ℕ) → x < 2 ^ 64 → y < 2 ^ 64 → bit_and x (2 ^ 64 - 1 - y) ≡ only_in x y
unfolding only_in
only_in_packs x y hx hy =
    packs 64 (bit_and x (2 ^ 64 - 1 - y)) _ (omega (arith, and_le_l x (2 ^ 64 - 1 - y)))
    (λ n l. bit_and_lem n x (2 ^ 64 - 1 - y) ∙ ap (λ b. bit n x && b) (bit_rest 64 n y hy l))

-- ---- one bit on, one bit off
pub bit_on : (m x n : ℕ) → m < 64 → bit m (on x n) ≡ (bit m x || eqb m n)
unfolding on
bit_on m x n hm = bit_pack 64 (λ k. bit k x || eqb k n) m hm

pub bit_off : (m x n : ℕ) → m < 64 → bit m (off x n) ≡ (bit m x && not (eqb m n))
unfolding off
bit_off m x n hm = bit_pack 64 (λ k. bit k x && not (eqb k n)) m hm

pub on_fits : (x n : ℕ) → x < 2 ^ 64 → on x n < 2 ^ 64
unfolding on
on_fits x n hx = pack_fits 64 (λ k. bit k x || eqb k n)

pub off_fits : (x n : ℕ) → x < 2 ^ 64 → off x n < 2 ^ 64
unfolding off
off_fits x n hx = pack_fits 64 (λ k. bit k x && not (eqb k n))

-- ---- the same, by the mask of the bit
-- a one that is shifted
pub shifted : (n : ℕ) → n < 64 → 1 * 2 ^ n % 18446744073709551616 ≡ mask n
unfolding mask
shifted n h = one_shl n 64 h ∙ sym (cond-true (ltb n 64) _ _ (lt-ltb n 64 h))

mask_fits : (n : ℕ) → mask n < 2 ^ 64
unfolding mask
mask_fits n =
    let P : ℕ → Type 0 = λ y. y < 2 ^ 64 in
    ⊎_elim
    (λ h. subst P (sym (cond-true (ltb n 64) _ _ h)) (pow_below n 64 (ltb-true n 64 h)))
    (λ h. subst P (sym (cond-false (ltb n 64) _ _ h)) (omega arith))
    (cases_Bool (ltb n 64))

bit_mask : (m n : ℕ) → m < 64 → bit m (mask n) ≡ eqb m n
unfolding mask
bit_mask m n hm =
    ⊎_elim
    (λ h. ap (bit m) (cond-true (ltb n 64) _ _ h) ∙ bit_pow m n)
    (λ h. ap (bit m) (cond-false (ltb n 64) _ _ h) ∙ bit_nought m ∙ grind (arith, nat_tests, h, hm))
    (cases_Bool (ltb n 64))

pub or_mask : (x n : ℕ) → x < 2 ^ 64 → bit_or x (mask n) ≡ on x n
unfolding on
or_mask x n hx =
    packs 64 (bit_or x (mask n)) _ (or_lt 64 x (mask n) hx (mask_fits n))
    (λ k l. bit_or_lem k x (mask n) ∙ ap (λ b. bit k x || b) (bit_mask k n l))

pub and_mask : (x n : ℕ) → x < 2 ^ 64 → bit_and x (2 ^ 64 - 1 - mask n) ≡ off x n
unfolding off
and_mask x n hx =
    let rest = 2 ^ 64 - 1 - mask n in
    packs 64 (bit_and x rest) _ (omega (arith, and_le_l x rest))
    (λ k l. bit_and_lem k x rest ∙ ap (λ b. bit k x && b) (bit_rest 64 k (mask n) (mask_fits n) l ∙ ap not (bit_mask k n l)))
