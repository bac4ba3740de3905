-- From what a verdict says to when it is given. Assumes nothing.
use Rattle.std.proofs.Common.{◌≡◌, ℕ, zero, suc, ◌<◌, ◌≤◌, Bool, true, false, refl, sym, ap, ap₂, ◌∙◌, subst, ⊎_elim, arith}
use Rattle.std.proofs.lemmas.Bool.{both_ways, cases_lt, cases_order}
use Rattle.verdict.specs.declared.outcome.Verdict.{Verdict}
use Rattle.verdict.specs.declared.outcome.Verdict.TheVariants.{Stable, Circling, Overlong}
use Rattle.verdict.specs.Verdicts.{NoneStable, StableFirst, Repeats, Circles, Neither, Verdicts}

-- what a verdict says
abbrev pub Judged : {S : Type 0} → (S → Bool) → (ℕ → S) → Verdict → Type 0
Judged stable s (Stable m) = StableFirst stable s m
Judged stable s (Circling j k) = Circles stable s j k
Judged stable s Overlong = Neither stable s

-- from s(1) on, equal states are followed by equal ones, and a stable one is followed by itself
pub record Follows {S : Type 0} (stable : S → Bool) (s : ℕ → S) : Type 0 where
  pub alike : (m n : ℕ) → 1 ≤ m → 1 ≤ n → s m ≡ s n → s (suc m) ≡ s (suc n)
  pub stays : (n : ℕ) → 1 ≤ n → stable (s n) ≡ true → s (suc n) ≡ s n

-- ---- a circle: where s(j) equals s(k), every state is one of s(1) to s(k - 1)
record OnCircle {S : Type 0} (s : ℕ → S) (k n : ℕ) : Type 0 where
  place : ℕ
  some : 1 ≤ place
  below : place < k
  same : s n ≡ s place

on_round : {S : Type 0} {stable : S → Bool} {s : ℕ → S} → Follows stable s → (j k : ℕ) → 1 ≤ j → j < k → s j ≡ s k → (n : ℕ) → OnCircle s k (suc n) → OnCircle s k (suc (suc n))
on_round {s = s} f j k h l e n c = ⊎_elim on back (cases_lt (suc c.place) k)
  where
    same : s (suc (suc n)) ≡ s (suc c.place)
    same = f.alike (suc n) c.place (omega arith) c.some c.same

    on : suc c.place < k → OnCircle s k (suc (suc n))
    on less = record { place = suc c.place; some = omega arith; below = less; same = same }

    back : k ≤ suc c.place → OnCircle s k (suc (suc n))
    back more =
        let b = c.below in
        let end : suc c.place ≡ k = omega arith in
        record { place = j; some = h; below = l; same = same ∙ ap s end ∙ sym e }

round : {S : Type 0} {stable : S → Bool} {s : ℕ → S} → Follows stable s → (j k : ℕ) → 1 ≤ j → j < k → s j ≡ s k → (n : ℕ) → 1 ≤ n → OnCircle s k n
round f j k h l e zero p = absurd (omega arith)
round f j k h l e (suc zero) p = record { place = 1; some = omega arith; below = omega arith; same = refl }
round f j k h l e (suc (suc n)) p = on_round f j k h l e n (round f j k h l e (suc n) (omega arith))

pub never_stable : {S : Type 0} {stable : S → Bool} {s : ℕ → S} → Follows stable s → (j k : ℕ) → 1 ≤ j → j < k → s j ≡ s k → ((n : ℕ) → 1 ≤ n → n < k → stable (s n) ≡ false) → (n : ℕ) → 1 ≤ n → stable (s n) ≡ false
never_stable {stable = stable} f j k h l e none n p = let c = round f j k h l e n p in ap stable c.same ∙ none c.place c.some c.below

-- ---- a stable state stays
stays_on : {S : Type 0} {stable : S → Bool} {s : ℕ → S} → Follows stable s → (m : ℕ) → 1 ≤ m → stable (s m) ≡ true → (n : ℕ) → m ≤ n → s n ≡ s m
stays_on f m h q zero l = absurd (omega arith)
stays_on {stable = stable} {s = s} f m h q (suc n) l =
    ⊎_elim (λ less. let e : suc n ≡ m = omega arith in ap s e)
    (λ more. let i = stays_on f m h q n more in f.stays n (omega arith) (ap stable i ∙ q) ∙ i)
    (cases_lt n m)

-- ---- no two verdicts fit
one_stable : {S : Type 0} {stable : S → Bool} {s : ℕ → S} {m n : ℕ} → StableFirst stable s m → StableFirst stable s n → m ≡ n
one_stable {m = m} {n = n} a b =
    ⊎_elim (λ e. e)
    (⊎_elim (λ l. absurd (both_ways _ (b.least m a.some l) a.is_stable)) (λ l. absurd (both_ways _ (a.least n b.some l) b.is_stable)))
    (cases_order m n)

not_none : {S : Type 0} {stable : S → Bool} {s : ℕ → S} {m : ℕ} → StableFirst stable s m → NoneStable stable s → ⊥
not_none {m = m} a none = both_ways _ (none m a.some a.few) a.is_stable

one_end : {S : Type 0} {stable : S → Bool} {s : ℕ → S} {i h j k : ℕ} → Circles stable s i h → Circles stable s j k → h ≡ k
one_end {i = i} {h = h} {j = j} {k = k} a b =
    ⊎_elim (λ e. e) (⊎_elim (λ l. absurd (b.least i h l a.repeats)) (λ l. absurd (a.least j k l b.repeats))) (cases_order h k)

-- s(i) and s(j) both equal s(k), so that the earlier of them is repeated by the later one, before k
one_begin : {S : Type 0} {stable : S → Bool} {s : ℕ → S} {i j k : ℕ} → Circles stable s i k → Circles stable s j k → i ≡ j
one_begin {stable = stable} {s = s} {k = k} a b = ⊎_elim (λ e. e) (⊎_elim (λ l. absurd (before a b l)) (λ l. absurd (before b a l))) (cases_order _ _)
  where
    before : {i j : ℕ} → Circles stable s i k → Circles stable s j k → i < j → ⊥
    before {i} {j} a b l =
        let u = a.repeats in
        let v = b.repeats in
        let x = v.earlier in
        let y = v.few in
        b.least i j x (record { some = u.some; earlier = l; few = omega arith; equal = u.equal ∙ sym v.equal })

one_circle : {S : Type 0} {stable : S → Bool} {s : ℕ → S} {i h j k : ℕ} → Circles stable s i h → Circles stable s j k → Circling i h ≡ Circling j k
one_circle {stable = stable} {s = s} {i = i} a b =
    let e = one_end a b in
    ap₂ (λ x y. Circling x y) (one_begin (subst (Circles stable s i) e a) b) e

same_stable : (m n : ℕ) → Stable m ≡ Stable n → m ≡ n
same_stable m n e = cc

same_circling : (i h j k : ℕ) → Circling i h ≡ Circling j k → (i ≡ j) × (h ≡ k)
same_circling i h j k e = (cc, cc)

-- ---- the theorem
pub verdicts : {S : Type 0} {stable : S → Bool} {s : ℕ → S} → Follows stable s → (v : Verdict) → Judged stable s v → Verdicts stable s v
verdicts {stable = stable} {s = s} f (Stable m) a =
    record {
      is_stable = λ n. (λ e. subst (StableFirst stable s) (same_stable m n e) a, λ b. ap (λ x. Stable x) (one_stable a b));
      is_circling = λ j k. (λ e. cc, λ b. absurd (not_none a b.none));
      is_overlong = (λ e. cc, λ b. absurd (not_none a b.none));
      circles = (λ w. let e = w.1.1 in cc, λ w. absurd (not_none a w.0));
      never = λ j k e. cc;
      rests =
          λ n e k l.
          let b = subst (StableFirst stable s) (same_stable m n e) a in
          stays_on f n b.some b.is_stable k l;
    }
verdicts {stable = stable} {s = s} f (Circling j k) a =
    record {
      is_stable = λ n. (λ e. cc, λ b. absurd (not_none b a.none));
      is_circling =
          λ i h. (
            λ e. let p = same_circling j k i h e in subst (λ x. Circles stable s x h) p.0 (subst (Circles stable s j) p.1 a),
            λ b. one_circle a b,
          );
      is_overlong = (λ e. cc, λ b. absurd (b.apart j k a.repeats));
      circles = (λ w. (a.none, (j, (k, a.repeats))), λ w. (j, (k, refl)));
      never =
          λ i h e n p.
          let r = a.repeats in
          never_stable f j k r.some r.earlier r.equal (λ n low less. let few = r.few in a.none n low (omega arith)) n p;
      rests = λ n e k l. cc;
    }
verdicts {stable = stable} {s = s} f Overlong a =
    record {
      is_stable = λ n. (λ e. cc, λ b. absurd (not_none b a.none));
      is_circling = λ j k. (λ e. cc, λ b. absurd (a.apart j k b.repeats));
      is_overlong = (λ e. a, λ b. refl);
      circles = (λ w. let e = w.1.1 in cc, λ w. absurd (a.apart w.1.0 w.1.1.0 w.1.1.1));
      never = λ j k e. cc;
      rests = λ n e k l. cc;
    }

-- ---- the same verdict fits other states that agree
-- the same states, and the same ones of them stable
pub record Alike {S : Type 0} (stable stable′ : S → Bool) (s s′ : ℕ → S) : Type 0 where
  pub same : (n : ℕ) → s n ≡ s′ n
  pub rest : (n : ℕ) → stable (s n) ≡ stable′ (s′ n)

turned : {S : Type 0} {stable stable′ : S → Bool} {s s′ : ℕ → S} → Alike stable stable′ s s′ → Alike stable′ stable s′ s
turned a = record { same = λ n. sym (a.same n); rest = λ n. sym (a.rest n) }

none_as : {S : Type 0} {stable stable′ : S → Bool} {s s′ : ℕ → S} → Alike stable stable′ s s′ → NoneStable stable s → NoneStable stable′ s′
none_as a none n low few = sym (a.rest n) ∙ none n low few

repeats_as : {S : Type 0} {stable stable′ : S → Bool} {s s′ : ℕ → S} → Alike stable stable′ s s′ → {j k : ℕ} → Repeats s j k → Repeats s′ j k
repeats_as a {j} {k} r = record { some = r.some; earlier = r.earlier; few = r.few; equal = sym (a.same j) ∙ r.equal ∙ a.same k }

stable_as : {S : Type 0} {stable stable′ : S → Bool} {s s′ : ℕ → S} {m : ℕ} → Alike stable stable′ s s′ → StableFirst stable s m → StableFirst stable′ s′ m
stable_as {m = m} a b =
    record { some = b.some; few = b.few; is_stable = sym (a.rest m) ∙ b.is_stable; least = λ n low less. sym (a.rest n) ∙ b.least n low less }

circles_as : {S : Type 0} {stable stable′ : S → Bool} {s s′ : ℕ → S} {j k : ℕ} → Alike stable stable′ s s′ → Circles stable s j k → Circles stable′ s′ j k
circles_as a b = record {
  none = none_as a b.none;
  repeats = repeats_as a b.repeats;
  least = λ i h l r. b.least i h l (repeats_as (turned a) r);
}

neither_as : {S : Type 0} {stable stable′ : S → Bool} {s s′ : ℕ → S} → Alike stable stable′ s s′ → Neither stable s → Neither stable′ s′
neither_as a b = record { none = none_as a b.none; apart = λ j k r. b.apart j k (repeats_as (turned a) r) }

pub verdicts_as : {S : Type 0} {stable stable′ : S → Bool} {s s′ : ℕ → S} {v : Verdict} → Alike stable stable′ s s′ → Verdicts stable s v → Verdicts stable′ s′ v
verdicts_as a h = record {
  is_stable = λ m. (λ e. stable_as a ((h.is_stable m).0 e), λ b. (h.is_stable m).1 (stable_as (turned a) b));
  is_circling = λ j k. (λ e. circles_as a ((h.is_circling j k).0 e), λ b. (h.is_circling j k).1 (circles_as (turned a) b));
  is_overlong = (λ e. neither_as a (h.is_overlong.0 e), λ b. h.is_overlong.1 (neither_as (turned a) b));
  circles = (
    λ w. let r = h.circles.0 w in (none_as a r.0, (r.1.0, (r.1.1.0, repeats_as a r.1.1.1))),
    λ w. h.circles.1 (none_as (turned a) w.0, (w.1.0, (w.1.1.0, repeats_as (turned a) w.1.1.1))),
  );
  never = λ j k e n low. sym (a.rest n) ∙ h.never j k e n low;
  rests = λ m e n l. sym (a.same n) ∙ h.rests m e n l ∙ a.same m;
}
