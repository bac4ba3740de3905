-- The scan of a part meets its first fault. Assumes nothing.
use Rattle.std.proofs.Common.{◌≡◌, ℕ, zero, suc, ◌+◌, ◌*◌, ◌<◌, ◌≤◌, Bool, true, false, cond, ◌||◌, ltb, ◌⊎◌, List, [], ◌∷◌, length, get_or, take, Ok, Err, Result, sym, refl, ap, ◌∙◌, subst, inl, inr, ⊎_elim, le_of_suc-le-suc, not-suc-le-zero, arith}
use Rattle.std.proofs.lemmas.Bool.{cond-true, cond-false, cases_Bool, or_cases, or_parts, or_left, or_right, both_ways, ltb-true, lt-ltb}
use Rattle.std.proofs.lemmas.Bool.Decides.{nat_tests}
use Rattle.faults.specs.Numbers.{file_number, file_place}
use Rattle.faults.specs.declared.FileFault.{FileFault}
use Rattle.faults.specs.declared.FileFault.TheVariants.{TooShort, NoMark, BadPair, TooManyWords, UnlawfulWord, Unbalanced}
use Rattle.words.specs.declared.instruction.Part.{Part}
use Rattle.words.specs.Words.{lawful}
use Rattle.words.specs.Brackets.{opens, closes, spoils, after}
use Rattle.codefile.specs.Parts.{scanned}
use Rattle.codefile.specs.First.{opened, closed, WordAt, WordFault, NoLater}

-- ---- one word more in front
at_head : (at w : ℕ) (ws : List ℕ) (P : List ℕ → ℕ → Type 0) → P [] w → WordAt at (w ∷ ws) at P
at_head at w ws P h = record { index = 0; inside = omega arith; stands = omega arith; is = h }

in_tail : (at w : ℕ) (ws : List ℕ) (place : ℕ) (P Q : List ℕ → ℕ → Type 0) → ((b : List ℕ) (v : ℕ) → Q b v → P (w ∷ b) v) → WordAt (at + 4) ws place Q → WordAt at (w ∷ ws) place P
in_tail at w ws place P Q f a = record { index = suc a.index; inside = omega arith; stands = omega arith; is = f _ _ a.is }

split : (at w : ℕ) (ws : List ℕ) (place : ℕ) (P Q : List ℕ → ℕ → Type 0) → ((b : List ℕ) (v : ℕ) → P (w ∷ b) v → Q b v) → (i : ℕ) → i < length (w ∷ ws) → place ≡ at + 4 * i → P (take i (w ∷ ws)) (get_or (w ∷ ws) i 0) → ((place ≡ at) × P [] w) ⊎ WordAt (at + 4) ws place Q
split at w ws place P Q f zero inside stands is = inl (omega arith, is)
split at w ws place P Q f (suc i) inside stands is = inr (record { index = i; inside = le_of_suc-le-suc inside; stands = omega arith; is = f _ _ is })

-- the word stands first, or among the rest
pub first_or_later : (at w : ℕ) (ws : List ℕ) (place : ℕ) (P Q : List ℕ → ℕ → Type 0) → ((b : List ℕ) (v : ℕ) → P (w ∷ b) v → Q b v) → WordAt at (w ∷ ws) place P → ((place ≡ at) × P [] w) ⊎ WordAt (at + 4) ws place Q
first_or_later at w ws place P Q f a = split at w ws place P Q f a.index a.inside a.stands a.is

unlawful_later : (p : Part) (at w : ℕ) (ws : List ℕ) (place : ℕ) → WordAt at (w ∷ ws) place (λ _ v. lawful p v ≡ false) → ((place ≡ at) × (lawful p w ≡ false)) ⊎ WordAt (at + 4) ws place (λ _ v. lawful p v ≡ false)
unlawful_later p at w ws place = first_or_later at w ws place (λ _ v. lawful p v ≡ false) (λ _ v. lawful p v ≡ false) (λ _ _ bad. bad)

pub none_at : (at place : ℕ) (P : List ℕ → ℕ → Type 0) → WordAt at [] place P → ⊥
none_at at place P a = not-suc-le-zero a.inside

-- ---- brackets, so many being open before the words
abbrev pub MisplacedFrom : ℕ → List ℕ → ℕ → Type 0
MisplacedFrom d before w =
    ((closes w ≡ true) × (d + opened before ≤ closed before)) ⊎ ((opens w ≡ true) × (closed before + 17 ≤ d + opened before))

pub record OpenAfter (d at : ℕ) (ws : List ℕ) (place : ℕ) : Type 0 where
  pub ends : place ≡ at + 4 * length ws
  pub left : closed ws < d + opened ws

-- what a word that spoils nothing leaves open
balance : (d w : ℕ) → spoils d w ≡ false → after d w + cond (closes w) 1 0 ≡ d + cond (opens w) 1 0
balance d w h = grind (arith, nat_tests)

spoils_is : (d w : ℕ) → spoils d w ≡ true → MisplacedFrom d [] w
spoils_is d w h = grind (arith, nat_tests)

is_spoils : (d w : ℕ) → MisplacedFrom d [] w → spoils d w ≡ true
is_spoils d w = ⊎_elim (λ m. let c = m.0 in let z = m.1 in grind (arith, nat_tests)) (λ m. let o = m.0 in let z = m.1 in grind (arith, nat_tests))

-- misplaced before and after the first word
later : (d w : ℕ) → spoils d w ≡ false → (b : List ℕ) (v : ℕ) → MisplacedFrom d (w ∷ b) v → MisplacedFrom (after d w) b v
later d w h b v =
    let e = balance d w h in
    ⊎_elim (λ m. inl (m.0, omega arith)) (λ m. inr (m.0, omega arith))

earlier : (d w : ℕ) → spoils d w ≡ false → (b : List ℕ) (v : ℕ) → MisplacedFrom (after d w) b v → MisplacedFrom d (w ∷ b) v
earlier d w h b v =
    let e = balance d w h in
    ⊎_elim (λ m. inl (m.0, omega arith)) (λ m. inr (m.0, omega arith))

-- ---- the faults of words that begin at a place with so many brackets open
abbrev pub FaultFrom : Part → ℕ → ℕ → List ℕ → FileFault → Type 0
FaultFrom p d at ws =
    WordFault (λ place. WordAt at ws place (λ _ w. lawful p w ≡ false)) (λ place. WordAt at ws place (MisplacedFrom d) ⊎ OpenAfter d at ws place)

-- a bracket owed by the part before is a fault at the place where these words begin
abbrev pub Owed : Bool → ℕ → FileFault → Type 0
Owed owed at f = (owed ≡ true) × (f ≡ Unbalanced at)

abbrev pub Faults : Part → Bool → ℕ → ℕ → List ℕ → FileFault → Type 0
Faults p owed d at ws f = Owed owed at f ⊎ FaultFrom p d at ws f

-- such a fault is an unlawful word, or one of the brackets
pub fault_cases : (U B : ℕ → Type 0) (Q : FileFault → Type 0) → ((place : ℕ) → U place → Q (UnlawfulWord place)) → ((place : ℕ) → B place → Q (Unbalanced place)) → (f : FileFault) → WordFault U B f → Q f
fault_cases U B Q word bracket TooShort h = absurd h
fault_cases U B Q word bracket NoMark h = absurd h
fault_cases U B Q word bracket (BadPair s) h = absurd h
fault_cases U B Q word bracket TooManyWords h = absurd h
fault_cases U B Q word bracket (UnlawfulWord place) h = word place h
fault_cases U B Q word bracket (Unbalanced place) h = bracket place h

-- no fault stands before the words, and none has a number below 18
pub reaches : (p : Part) (d at : ℕ) (ws : List ℕ) (f : FileFault) → FaultFrom p d at ws f → (at ≤ file_place f) × (18 ≤ file_number f)
reaches p d at ws =
    fault_cases _ _ (λ f. (at ≤ file_place f) × (18 ≤ file_number f))
    (λ place a. (omega arith, omega arith))
    (λ place h. (⊎_elim (λ a. omega arith) (λ o. omega arith) h, omega arith))

-- what a scan over such faults answers: the first of them, before the end; or that none is left but one at the end
abbrev pub Scans : (FileFault → Type 0) → ℕ → Result Bool FileFault → Type 0
Scans Fault end (Err f) = Fault f × ((g : FileFault) → Fault g → NoLater f g) × (file_place f < end)
Scans Fault end (Ok left) = ((g : FileFault) → Fault g → (left ≡ true) × (g ≡ Unbalanced end)) × (left ≡ true → Fault (Unbalanced end))

same_faults : (F G : FileFault → Type 0) → ((g : FileFault) → F g → G g) → ((g : FileFault) → G g → F g) → (end : ℕ) (r : Result Bool FileFault) → Scans F end r → Scans G end r
same_faults F G to from end (Err f) s = (to f s.0, λ g h. s.1 g (from g h), s.2)
same_faults F G to from end (Ok left) s = (λ g h. s.0 g (from g h), λ l. to (Unbalanced end) (s.1 l))

no_later : (f g : FileFault) → file_place f ≤ file_place g → (file_place f ≡ file_place g → file_number f ≤ file_number g) → NoLater f g
no_later f g h k = grind arith

-- ---- the scan at the end of the words
end_all : (p : Part) (owed : Bool) (d at : ℕ) (g : FileFault) → Faults p owed d at [] g → ((owed || ltb 0 d) ≡ true) × (g ≡ Unbalanced (at + 4 * 0))
end_all p owed d at g =
    ⊎_elim
    (λ o. (or_left _ _ o.0, o.1 ∙ ap (λ x. Unbalanced x) (omega arith)))
    (fault_cases _ _ (λ f. ((owed || ltb 0 d) ≡ true) × (f ≡ Unbalanced (at + 4 * 0)))
    (λ place a. absurd (none_at at place _ a))
    (λ place. ⊎_elim (λ a. absurd (none_at at place _ a)) (λ o. (or_right _ _ (lt-ltb 0 d (omega arith)), ap (λ x. Unbalanced x) o.ends)))
    g)

end_one : (p : Part) (owed : Bool) (d at : ℕ) → (owed || ltb 0 d) ≡ true → Faults p owed d at [] (Unbalanced (at + 4 * 0))
end_one p owed d at h =
    ⊎_elim (λ o. inl (o, ap (λ x. Unbalanced x) (omega arith)))
    (λ open_one. inr (inr (record { ends = refl; left = omega (arith, ltb-true 0 d open_one) })))
    (or_cases owed (ltb 0 d) h)

-- ---- the scan at a word
at_first : (p : Part) (owed : Bool) (d at w : ℕ) (ws : List ℕ) (g : FileFault) → Faults p owed d at (w ∷ ws) g → (at ≤ file_place g) × (18 ≤ file_number g)
at_first p owed d at w ws g = ⊎_elim (λ o. let q = o.1 in (omega (arith, ap file_place q), omega (arith, ap file_number q))) (reaches p d at (w ∷ ws) g)

-- where the first word is lawful, the faults at its place have the number 19
balanced_first : (p : Part) (owed : Bool) (d at w : ℕ) (ws : List ℕ) → lawful p w ≡ true → (g : FileFault) → Faults p owed d at (w ∷ ws) g → at ≡ file_place g → 19 ≤ file_number g
balanced_first p owed d at w ws good g =
    ⊎_elim
    (λ o e. omega (arith, ap file_number o.1))
    (fault_cases _ _ (λ f. at ≡ file_place f → 19 ≤ file_number f)
    (λ place a e. ⊎_elim (λ head. absurd (both_ways (lawful p w) head.1 good)) (λ tail. absurd (let later-on = tail.stands in omega arith)) (unlawful_later p at w ws place a))
    (λ place h e. omega arith)
    g)

unlawful_scan : (p : Part) (owed : Bool) (d at w : ℕ) (ws : List ℕ) → lawful p w ≡ false → Scans (Faults p owed d at (w ∷ ws)) (at + 4 * length (w ∷ ws)) (Err (UnlawfulWord at))
unlawful_scan p owed d at w ws bad = (
  inr (at_head at w ws (λ _ v. lawful p v ≡ false) bad),
  λ g h. let r = at_first p owed d at w ws g h in no_later (UnlawfulWord at) g r.0 (λ _. r.1),
  omega arith,
)

unbalanced_scan : (p : Part) (owed : Bool) (d at w : ℕ) (ws : List ℕ) → lawful p w ≡ true → (owed || spoils d w) ≡ true → Scans (Faults p owed d at (w ∷ ws)) (at + 4 * length (w ∷ ws)) (Err (Unbalanced at))
unbalanced_scan p owed d at w ws good bad = (
  ⊎_elim (λ o. inl (o, refl)) (λ s. inr (inl (at_head at w ws (MisplacedFrom d) (spoils_is d w s)))) (or_cases owed (spoils d w) bad),
  λ g h. no_later (Unbalanced at) g (at_first p owed d at w ws g h).0 (balanced_first p owed d at w ws good g h),
  omega arith,
)

-- a first word with no fault leaves those of the rest
rest_has : (p : Part) (d at w : ℕ) (ws : List ℕ) → lawful p w ≡ true → spoils d w ≡ false → (g : FileFault) → FaultFrom p d at (w ∷ ws) g → FaultFrom p (after d w) (at + 4) ws g
rest_has p d at w ws good fine =
    fault_cases _ _ (FaultFrom p (after d w) (at + 4) ws)
    (λ place a. ⊎_elim (λ head. absurd (both_ways (lawful p w) head.1 good)) (λ tail. tail) (unlawful_later p at w ws place a))
    (λ place. ⊎_elim
    (λ a. ⊎_elim (λ head. absurd (both_ways (spoils d w) fine (is_spoils d w head.1))) (λ tail. inl tail)
    (first_or_later at w ws place (MisplacedFrom d) (MisplacedFrom (after d w)) (later d w fine) a))
    (λ o. inr (record { ends = omega arith; left = omega (arith, o.left, balance d w fine) })))

has_rest : (p : Part) (d at w : ℕ) (ws : List ℕ) → spoils d w ≡ false → (g : FileFault) → FaultFrom p (after d w) (at + 4) ws g → FaultFrom p d at (w ∷ ws) g
has_rest p d at w ws fine =
    fault_cases _ _ (FaultFrom p d at (w ∷ ws))
    (λ place a. in_tail at w ws place (λ _ v. lawful p v ≡ false) (λ _ v. lawful p v ≡ false) (λ _ _ bad. bad) a)
    (λ place. ⊎_elim
    (λ a. inl (in_tail at w ws place (MisplacedFrom d) (MisplacedFrom (after d w)) (earlier d w fine) a))
    (λ o. inr (record { ends = omega arith; left = omega (arith, o.left, balance d w fine) })))

not_owed : {A : Type 0} (owed : Bool) → owed ≡ false → owed ≡ true → A
not_owed owed f t = absurd (both_ways owed f t)

-- ---- the scan meets the first fault
pub scans : (p : Part) (owed : Bool) (d at : ℕ) (ws : List ℕ) → Scans (Faults p owed d at ws) (at + 4 * length ws) (scanned p at owed d ws)
scans p owed d at [] = (end_all p owed d at, end_one p owed d at)
scans p owed d at (w ∷ ws) =
    let S = Scans (Faults p owed d at (w ∷ ws)) (at + 4 * length (w ∷ ws)) in
    ⊎_elim
    (λ good. ⊎_elim
    (λ bad. subst S (sym (cond-true (lawful p w) _ _ good ∙ cond-true (owed || spoils d w) _ _ bad)) (unbalanced_scan p owed d at w ws good bad))
    (λ fine.
    let none = or_parts owed (spoils d w) fine in
    let ends : at + 4 + 4 * length ws ≡ at + 4 * length (w ∷ ws) = omega arith in
    let rest = scans p false (after d w) (at + 4) ws in
    let E : ℕ → Type 0 = λ e. Scans (Faults p false (after d w) (at + 4) ws) e (scanned p (at + 4) false (after d w) ws) in
    subst S (sym (cond-true (lawful p w) _ _ good ∙ cond-false (owed || spoils d w) _ _ fine))
    (same_faults (Faults p false (after d w) (at + 4) ws) (Faults p owed d at (w ∷ ws))
    (λ g. ⊎_elim (λ o. not_owed false refl o.0) (λ f. inr (has_rest p d at w ws none.1 g f)))
    (λ g. ⊎_elim (λ o. not_owed owed none.0 o.0) (λ f. inr (rest_has p d at w ws good none.1 g f)))
    (at + 4 * length (w ∷ ws)) (scanned p (at + 4) false (after d w) ws) (subst E ends rest)))
    (cases_Bool (owed || spoils d w)))
    (λ bad. subst S (sym (cond-false (lawful p w) _ _ bad)) (unlawful_scan p owed d at w ws bad))
    (cases_Bool (lawful p w))
