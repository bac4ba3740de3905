-- Members of lists, and those that are repeated. Assumes nothing.
use Rattle.std.proofs.Common.{◌≡◌, ℕ, zero, suc, ◌<◌, Bool, true, false, cond, ◌⊎◌, List, [], ◌∷◌, ◌++◌, map, length, get_or, sym, refl, ap, ◌∙◌, subst, inl, inr, ⊎_elim, le_of_suc-le-suc, not-suc-le-zero, arith}
use Rattle.std.proofs.lemmas.Bool.{cond-true, or_cases, or_left, or_right}
use Rattle.chart.specs.Checks.{has, repeated}

abbrev pub In : {A : Type 0} → A → List A → Type 0
In x [] = ⊥
In x (y ∷ ys) = (x ≡ y) ⊎ In x ys

pub in_left : {A : Type 0} (x : A) (xs ys : List A) → In x xs → In x (xs ++ ys)
in_left x [] ys h = absurd h
in_left x (z ∷ zs) ys h = ⊎_elim (λ e. inl e) (λ t. inr (in_left x zs ys t)) h

pub in_right : {A : Type 0} (x : A) (xs ys : List A) → In x ys → In x (xs ++ ys)
in_right x [] ys h = h
in_right x (z ∷ zs) ys h = inr (in_right x zs ys h)

pub in_either : {A : Type 0} (x : A) (xs ys : List A) → In x (xs ++ ys) → In x xs ⊎ In x ys
in_either x [] ys h = inr h
in_either x (z ∷ zs) ys h = ⊎_elim (λ e. inl (inl e)) (λ t. ⊎_elim (λ l. inl (inr l)) (λ r. inr r) (in_either x zs ys t)) h

pub in_map : {A B : Type 0} (f : A → B) (x : A) (xs : List A) → In x xs → In (f x) (map f xs)
in_map f x [] h = absurd h
in_map f x (z ∷ zs) h = ⊎_elim (λ e. inl (ap f e)) (λ t. inr (in_map f x zs t)) h

pub map_in : {A B : Type 0} (f : A → B) (y : B) (xs : List A) → In y (map f xs) → (x : A) × (In x xs) × (y ≡ f x)
map_in f y [] h = absurd h
map_in f y (z ∷ zs) h = ⊎_elim (λ e. (z, inl refl, e)) (λ t. let r = map_in f y zs t in (r.0, inr r.1, r.2)) h

-- a member stands at some index
pub in_at : {A : Type 0} (x : A) (xs : List A) → In x xs → (i : ℕ) × (i < length xs) × ((d : A) → get_or xs i d ≡ x)
in_at x [] h = absurd h
in_at x (z ∷ zs) h =
    ⊎_elim (λ e. (0, omega arith, λ d. sym e)) (λ t. let r = in_at x zs t in (suc r.0, omega (arith, r.1), r.2)) h

pub at_in : {A : Type 0} (xs : List A) (i : ℕ) (d : A) → i < length xs → In (get_or xs i d) xs
at_in [] i d h = absurd (not-suc-le-zero h)
at_in (z ∷ zs) zero d h = inl refl
at_in (z ∷ zs) (suc i) d h = inr (at_in zs i d (le_of_suc-le-suc h))

-- ---- repeated entries
module _ {A : Type 0} (same : A → A → Bool) where
  -- an entry that is the same as one before the list, or as an earlier one of the list
  pub record Found (before xs : List A) (x : A) : Type 0 where
    pub index : ℕ
    pub inside : index < length xs
    pub is : (d : A) → get_or xs index d ≡ x
    pub earlier : (has same x before ≡ true) ⊎ ((i : ℕ) × (i < index) × ((d : A) → same x (get_or xs i d) ≡ true))

  later : (before xs : List A) (y x : A) → Found (y ∷ before) xs x → Found before (y ∷ xs) x
  later before xs y x f = record {
    index = suc f.index;
    inside = omega (arith, f.inside);
    is = f.is;
    earlier =
        ⊎_elim
        (λ h. ⊎_elim (λ e. inr (0, omega arith, λ d. e)) (λ b. inl b) (or_cases (same x y) (has same x before) h))
        (λ i. inr (suc i.0, omega (arith, i.1), i.2))
        f.earlier;
  }

  one : (b : Bool) (x y : A) → In x (cond b (y ∷ []) []) → (b ≡ true) × (x ≡ y)
  one true x y h = ⊎_elim (λ e. (refl, e)) (λ n. absurd n) h
  one false x y h = absurd h

  pub found : (before xs : List A) (x : A) → In x (repeated same before xs) → Found before xs x
  found before [] x h = absurd h
  found before (y ∷ ys) x h =
      ⊎_elim
      (λ here.
      let o = one (has same y before) x y here in
      record { index = 0; inside = omega arith; is = λ d. sym o.1; earlier = inl (ap (λ z. has same z before) o.1 ∙ o.0) })
      (λ there. later before ys y x (found (y ∷ before) ys x there))
      (in_either x (cond (has same y before) (y ∷ []) []) (repeated same (y ∷ before) ys) h)

  only : (b : Bool) (y : A) → b ≡ true → In y (cond b (y ∷ []) [])
  only b y e = subst (λ l. In y l) (sym (cond-true b (y ∷ []) [] e)) (inl refl)

  pub lists_it : (before xs : List A) (x : A) (j : ℕ) → j < length xs → ((d : A) → get_or xs j d ≡ x) → (has same x before ≡ true) ⊎ ((i : ℕ) × (i < j) × ((d : A) → same x (get_or xs i d) ≡ true)) → In x (repeated same before xs)
  lists_it before [] x j inside is earlier = absurd (not-suc-le-zero inside)
  lists_it before (y ∷ ys) x zero inside is earlier =
      in_left x (cond (has same y before) (y ∷ []) []) (repeated same (y ∷ before) ys)
      (⊎_elim
      (λ h. subst (λ z. In z (cond (has same y before) (y ∷ []) [])) (is y) (only (has same y before) y (ap (λ z. has same z before) (is y) ∙ h)))
      (λ i. absurd (not-suc-le-zero i.1))
      earlier)
  lists_it before (y ∷ ys) x (suc j) inside is earlier =
      in_right x (cond (has same y before) (y ∷ []) []) (repeated same (y ∷ before) ys)
      (lists_it (y ∷ before) ys x j (le_of_suc-le-suc inside) is (⊎_elim (λ h. inl (or_right (same x y) (has same x before) h)) (λ i. shifted i.0 i.1 i.2) earlier))
    where
      shifted : (i : ℕ) → i < suc j → ((d : A) → same x (get_or (y ∷ ys) i d) ≡ true) → (has same x (y ∷ before) ≡ true) ⊎ ((i : ℕ) × (i < j) × ((d : A) → same x (get_or ys i d) ≡ true))
      shifted zero lt e = inl (or_left (same x y) (has same x before) (e y))
      shifted (suc i) lt e = inr (i, le_of_suc-le-suc lt, e)
