-- What is known before s(m), and what it gives of s(m). Assumes nothing.
use Rattle.std.proofs.Common.{◌≡◌, ℕ, ◌+◌, ◌<◌, ◌≤◌, Bool, true, false, ap, ◌∙◌, ⊎_elim, arith}
use Rattle.std.proofs.lemmas.Bool.{cases_lt}
use Rattle.verdict.specs.Verdicts.{StableFirst, Circles, Neither}
use Rattle.verdict.proofs.Judging.{Follows, never_stable}

-- none of s(1) to s(m - 1) is stable, and no two of them are equal
pub record Before {S : Type 0} (stable : S → Bool) (s : ℕ → S) (m : ℕ) : Type 0 where
  pub none : (i : ℕ) → 1 ≤ i → i < m → stable (s i) ≡ false
  pub apart : (i h : ℕ) → 1 ≤ i → i < h → h < m → s i ≡ s h → ⊥

pub before_first : {S : Type 0} (stable : S → Bool) (s : ℕ → S) → Before stable s 1
before_first stable s = record { none = λ i low few. absurd (omega arith); apart = λ i h low less few e. absurd (omega arith) }

pub before_next : {S : Type 0} {stable : S → Bool} {s : ℕ → S} {m : ℕ} → Before stable s m → stable (s m) ≡ false → ((i : ℕ) → 1 ≤ i → i < m → s i ≡ s m → ⊥) → Before stable s (m + 1)
before_next {stable = stable} {s = s} {m = m} b q new = record { none = none; apart = apart }
  where
    none : (i : ℕ) → 1 ≤ i → i < m + 1 → stable (s i) ≡ false
    none i low few = ⊎_elim (λ l. b.none i low l) (λ l. let e : i ≡ m = omega arith in ap (λ x. stable (s x)) e ∙ q) (cases_lt i m)

    apart : (i h : ℕ) → 1 ≤ i → i < h → h < m + 1 → s i ≡ s h → ⊥
    apart i h low less few e =
        ⊎_elim (λ l. b.apart i h low less l e) (λ l. let x : h ≡ m = omega arith in new i low (omega arith) (e ∙ ap s x)) (cases_lt h m)

-- ---- what s(m) then gives
pub found_stable : {S : Type 0} {stable : S → Bool} {s : ℕ → S} {m : ℕ} → Before stable s m → 1 ≤ m → m ≤ 64 → stable (s m) ≡ true → StableFirst stable s m
found_stable b low few q = record { some = low; few = few; is_stable = q; least = b.none }

pub found_circle : {S : Type 0} {stable : S → Bool} {s : ℕ → S} {j k : ℕ} → Follows stable s → Before stable s k → k ≤ 64 → stable (s k) ≡ false → 1 ≤ j → j < k → s j ≡ s k → Circles stable s j k
found_circle {j = j} {k = k} f b few q low less e = record {
  none = λ x some l. never_stable f j k low less e (λ y a b′. b.none y a b′) x some;
  repeats = record { some = low; earlier = less; few = few; equal = e };
  least = λ a h below r. b.apart a h r.some r.earlier below r.equal;
}

pub found_neither : {S : Type 0} {stable : S → Bool} {s : ℕ → S} {m : ℕ} → 64 < m → Before stable s m → Neither stable s
found_neither l b = record {
  none = λ i low few. b.none i low (omega arith);
  apart = λ j k r. let f = r.few in b.apart j k r.some r.earlier (omega arith) r.equal;
}
