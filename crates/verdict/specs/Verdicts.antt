-- The verdict on a sequence of states s(1), s(2), .., of which `stable` says whether one is stable. Assumes nothing.
use Rattle.std.specs.Prelude.{◌≡◌, ℕ, ◌<◌, ◌≤◌, ◌↔◌, Bool, true, false}
use Rattle.verdict.specs.declared.outcome.Verdict.{Verdict}
use Rattle.verdict.specs.declared.outcome.Verdict.TheVariants.{Stable, Circling, Overlong}

-- s(1) to s(64) have no stable state
abbrev pub NoneStable : {S : Type 0} → (S → Bool) → (ℕ → S) → Type 0
NoneStable stable s = (n : ℕ) → 1 ≤ n → n ≤ 64 → stable (s n) ≡ false

-- the first stable state of s(1) to s(64) is s(m)
pub record StableFirst {S : Type 0} (stable : S → Bool) (s : ℕ → S) (m : ℕ) : Type 0 where
  pub some : 1 ≤ m
  pub few : m ≤ 64
  pub is_stable : stable (s m) ≡ true
  pub least : (n : ℕ) → 1 ≤ n → n < m → stable (s n) ≡ false

-- s(k) repeats s(j), both among s(1) to s(64)
pub record Repeats {S : Type 0} (s : ℕ → S) (j k : ℕ) : Type 0 where
  pub some : 1 ≤ j
  pub earlier : j < k
  pub few : k ≤ 64
  pub equal : s j ≡ s k

-- no stable state, and the first repetition is s(k), of the state s(j)
pub record Circles {S : Type 0} (stable : S → Bool) (s : ℕ → S) (j k : ℕ) : Type 0 where
  pub none : NoneStable stable s
  pub repeats : Repeats s j k
  pub least : (i h : ℕ) → h < k → Repeats s i h → ⊥

-- neither a stable state nor a repetition
pub record Neither {S : Type 0} (stable : S → Bool) (s : ℕ → S) : Type 0 where
  pub none : NoneStable stable s
  pub apart : (j k : ℕ) → Repeats s j k → ⊥

-- the verdict v on the states s
pub record Verdicts {S : Type 0} (stable : S → Bool) (s : ℕ → S) (v : Verdict) : Type 0 where
  pub is_stable : (m : ℕ) → v ≡ Stable m ↔ StableFirst stable s m
  pub is_circling : (j k : ℕ) → v ≡ Circling j k ↔ Circles stable s j k
  pub is_overlong : v ≡ Overlong ↔ Neither stable s
  -- a scan circles exactly if s(1) to s(64) have a repetition and no stable state
  pub circles :
      ((j : ℕ) × ((k : ℕ) × (v ≡ Circling j k))) ↔ (NoneStable stable s × ((j : ℕ) × ((k : ℕ) × Repeats s j k)))
  -- it then never comes to rest, however long it goes on
  pub never : (j k : ℕ) → v ≡ Circling j k → (n : ℕ) → 1 ≤ n → stable (s n) ≡ false
  -- and a scan that is stable rests in its state
  pub rests : (m : ℕ) → v ≡ Stable m → (n : ℕ) → m ≤ n → s n ≡ s m
