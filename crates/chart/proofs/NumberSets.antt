-- Lists of distinct numbers. Assumes nothing.
use Rattle.std.proofs.Common.{◌≡◌, ℕ, zero, suc, ◌<◌, ◌≤◌, Bool, true, false, cond, not, ◌&&◌, ◌||◌, eqb, leb, List, [], ◌∷◌, ◌++◌, length, get_or, is_some, Some, None, Option, sym, refl, ap, ◌∙◌, subst, ⊎_elim, le_of_suc-le-suc, not-suc-le-zero, arith}
use Rattle.std.proofs.lemmas.Bool.{cases_Bool, false≢true, eqb-true, eqb-false, eq-eqb, leb-true, le-leb, and_parts, and_from, or_cases, or_parts, or_from, or_left, or_right, not-true, not_from_false, cond-true, cond-false}
use Rattle.std.proofs.lemmas.Bool.Decides.{nat_tests}
use Rattle.search.specs.Earliest.{Earliest}
use Rattle.chart.specs.Numbers.{member, distinct}

-- ---- what a search says
member_at : (ns : List ℕ) (n i d : ℕ) → i < length ns → get_or ns i d ≡ n → member n ns ≡ true
member_at [] n i d h e = absurd (not-suc-le-zero h)
member_at (m ∷ ms) n zero d h e = or_left (eqb n m) (member n ms) (eq-eqb n m (sym e))
member_at (m ∷ ms) n (suc i) d h e = or_right (eqb n m) (member n ms) (member_at ms n i d (le_of_suc-le-suc h) e)

at_member : (ns : List ℕ) (n d : ℕ) → member n ns ≡ true → (i : ℕ) × (i < length ns) × (get_or ns i d ≡ n)
at_member [] n d h = absurd (false≢true h)
at_member (m ∷ ms) n d h =
    ⊎_elim
    (λ e. (0, omega arith, sym (eqb-true n m e)))
    (λ t. let r = at_member ms n d t in (suc r.0, omega (arith, r.1), r.2))
    (or_cases (eqb n m) (member n ms) h)

pub earliest_member : (ns : List ℕ) (n : ℕ) (o : Option ℕ) → Earliest ns n o → is_some o ≡ member n ns
earliest_member ns n (Some i) h = sym (member_at ns n i n h.0 h.1)
earliest_member ns n None h =
    ⊎_elim (λ t. let r = at_member ns n n t in absurd (h r.0 r.1 r.2)) (λ f. sym f) (cases_Bool (member n ns))

-- ---- one number more
pub member_push : (m n : ℕ) (ns : List ℕ) → member m (ns ++ n ∷ []) ≡ (eqb m n || member m ns)
member_push m n [] = refl
member_push m n (k ∷ ks) = ap (λ b. eqb m k || b) (member_push m n ks) ∙ swapped (eqb m k) (eqb m n) (member m ks)
  where
    swapped : (a b c : Bool) → (a || (b || c)) ≡ (b || (a || c))
    swapped a b c = grind arith

pub distinct_push : (n : ℕ) (ns : List ℕ) → distinct ns ≡ true → member n ns ≡ false → n ≤ 255 → distinct (ns ++ n ∷ []) ≡ true
distinct_push n [] h out small = and_from _ _ (and_from _ _ (le-leb n 255 small) refl) refl
distinct_push n (m ∷ ms) h out small =
    let p = and_parts (leb m 255 && not (member m ms)) (distinct ms) h in
    let q = and_parts (leb m 255) (not (member m ms)) p.0 in
    let o = or_parts (eqb n m) (member n ms) out in
    let apart : eqb m n ≡ false = grind (arith, nat_tests) in
    and_from _ _
    (and_from _ _ q.0 (not_from_false _ (member_push m n ms ∙ or_from (eqb m n) (member m ms) apart (not-true (member m ms) q.1))))
    (distinct_push n ms p.1 o.1 small)

-- ---- distinct numbers below k are at most k
abbrev Apart : ℕ → List ℕ → Type 0
Apart k [] = Unit {0}
Apart k (n ∷ ns) = (n < k) × (member n ns ≡ false) × Apart k ns

without : ℕ → List ℕ → List ℕ
without x [] = []
without x (n ∷ ns) = cond (eqb n x) (without x ns) (n ∷ without x ns)

not_without : (m x : ℕ) (ns : List ℕ) → member m ns ≡ false → member m (without x ns) ≡ false
unfolding without
not_without m x [] h = refl
not_without m x (n ∷ ns) h =
    let o = or_parts (eqb m n) (member m ns) h in
    let rest = not_without m x ns o.1 in
    ⊎_elim
    (λ e. ap (member m) (cond-true (eqb n x) (without x ns) (n ∷ without x ns) e) ∙ rest)
    (λ f. ap (member m) (cond-false (eqb n x) (without x ns) (n ∷ without x ns) f) ∙ or_from (eqb m n) (member m (without x ns)) o.0 rest)
    (cases_Bool (eqb n x))

apart_without : (k : ℕ) (ns : List ℕ) → Apart (suc k) ns → Apart k (without k ns)
unfolding without
apart_without k [] h = tt
apart_without k (n ∷ ns) h =
    let rest = apart_without k ns h.2 in
    ⊎_elim
    (λ e. subst (Apart k) (sym (cond-true (eqb n k) (without k ns) (n ∷ without k ns) e)) rest)
    (λ f. subst (Apart k) (sym (cond-false (eqb n k) (without k ns) (n ∷ without k ns) f))
    (let lt = h.0 in let ne = eqb-false n k f in grind arith, not_without n k ns h.1, rest))
    (cases_Bool (eqb n k))

none_without : (x : ℕ) (ns : List ℕ) → member x ns ≡ false → length ns ≤ length (without x ns)
unfolding without
none_without x [] h = omega arith
none_without x (n ∷ ns) h =
    let o = or_parts (eqb x n) (member x ns) h in
    let other : eqb n x ≡ false = let ne = o.0 in grind (arith, nat_tests) in
    subst (λ l. suc (length ns) ≤ length l) (sym (cond-false (eqb n x) (without x ns) (n ∷ without x ns) other)) (omega (arith, none_without x ns o.1))

length_without : (k x : ℕ) (ns : List ℕ) → Apart k ns → length ns ≤ suc (length (without x ns))
unfolding without
length_without k x [] h = omega arith
length_without k x (n ∷ ns) h =
    ⊎_elim
    (λ e. subst (λ l. suc (length ns) ≤ suc (length l)) (sym (cond-true (eqb n x) (without x ns) (n ∷ without x ns) e))
    (let r = none_without x ns (subst (λ m. member m ns ≡ false) (eqb-true n x e) h.1) in omega arith))
    (λ f. subst (λ l. suc (length ns) ≤ suc (length l)) (sym (cond-false (eqb n x) (without x ns) (n ∷ without x ns) f))
    (let r = length_without k x ns h.2 in omega arith))
    (cases_Bool (eqb n x))

pub pigeonhole : (k : ℕ) (ns : List ℕ) → Apart k ns → length ns ≤ k
pigeonhole zero [] h = omega arith
pigeonhole zero (n ∷ ns) h = absurd (not-suc-le-zero h.0)
pigeonhole (suc k) ns h = omega (arith, pigeonhole k (without k ns) (apart_without k ns h), length_without (suc k) k ns h)

apart : (ns : List ℕ) → distinct ns ≡ true → Apart 256 ns
apart [] h = tt
apart (n ∷ ns) h =
    let p = and_parts (leb n 255 && not (member n ns)) (distinct ns) h in
    let q = and_parts (leb n 255) (not (member n ns)) p.0 in
    let small = leb-true n 255 q.0 in
    (omega arith, not-true (member n ns) q.1, apart ns p.1)

-- there is room for a number that is not in the list
pub room_left : (n : ℕ) (ns : List ℕ) → distinct ns ≡ true → member n ns ≡ false → n ≤ 255 → length ns < 256
room_left n ns h out small =
    let lt : n < 256 = omega arith in
    let all : length (n ∷ ns) ≤ 256 = pigeonhole 256 (n ∷ ns) (lt, out, apart ns h) in
    omega arith
