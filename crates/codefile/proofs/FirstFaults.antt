-- The judgement of a file's parts is its first fault. Assumes nothing.
use Rattle.std.proofs.Common.{◌≡◌, ℕ, ◌+◌, ◌*◌, ◌%◌, ◌≤◌, Bool, true, false, cond, ◌⊎◌, List, [], ◌∷◌, length, drop, Ok, Err, Result, sym, refl, ap, ◌∙◌, subst, inl, inr, ⊎_elim, arith}
use Rattle.std.proofs.lemmas.List.{length-drop, length-take-le}
use Rattle.std.proofs.lemmas.Bool.{both_ways}
use Rattle.faults.specs.Numbers.{file_number, file_place}
use Rattle.faults.specs.declared.FileFault.{FileFault}
use Rattle.faults.specs.declared.FileFault.TheVariants.{Unbalanced}
use Rattle.codefile.specs.Parts.{Stretch, chain, scanned, judged}
use Rattle.codefile.specs.File.{Layout, Regular, layout_of, words_of, clear_bytes, enter_bytes, hold_bytes, stretches, checked}
use Rattle.codefile.specs.First.{WordAt, Misplaced, FaultIn, FaultOf, NoLater, First, FirstFault, verdict}
use Rattle.codefile.proofs.Verdicts.{ok_is}
use Rattle.codefile.proofs.WordFaults.{MisplacedFrom, FaultFrom, Owed, Faults, Scans, fault_cases, reaches, scans}

-- ---- one part, no bracket being open before it
abbrev From : Stretch → FileFault → Type 0
From s = FaultFrom s.part 0 s.start s.words

weaken : {start : ℕ} {words : List ℕ} {place : ℕ} (P Q : List ℕ → ℕ → Type 0) → ((b : List ℕ) (w : ℕ) → P b w → Q b w) → WordAt start words place P → WordAt start words place Q
weaken P Q f a = record { index = a.index; inside = a.inside; stands = a.stands; is = f _ _ a.is }

in_part : (s : Stretch) (f : FileFault) → From s f → FaultIn s f
in_part s =
    fault_cases _ _ (FaultIn s)
    (λ place a. a)
    (λ place. ⊎_elim
    (λ a. inl (weaken (MisplacedFrom 0) Misplaced (λ b w. ⊎_elim (λ m. inl (m.0, omega arith)) (λ m. inr (m.0, omega arith))) a))
    (λ o. inr (record { ends = o.ends; left = omega arith })))

from_part : (s : Stretch) (f : FileFault) → FaultIn s f → From s f
from_part s =
    fault_cases _ _ (From s)
    (λ place a. a)
    (λ place. ⊎_elim
    (λ a. inl (weaken Misplaced (MisplacedFrom 0) (λ b w. ⊎_elim (λ m. inl (m.0, omega arith)) (λ m. inr (m.0, omega arith))) a))
    (λ o. inr (record { ends = o.ends; left = omega arith })))

-- ---- the parts lie one behind the other, up to the end of the file
abbrev pub Consecutive : ℕ → ℕ → List Stretch → Type 0
Consecutive at end [] = at ≡ end
Consecutive at end (s ∷ ss) = (s.start ≡ at) × Consecutive (at + 4 * length s.words) end ss

not_before : (at end : ℕ) (ss : List Stretch) → Consecutive at end ss → (f : FileFault) → FaultOf ss f → at ≤ file_place f
not_before at end [] c f h = absurd h
not_before at end (s ∷ ss) c f h =
    ⊎_elim
    (λ here. omega (arith, c.0, (reaches s.part 0 s.start s.words f (from_part s f here)).0))
    (λ later. omega (arith, not_before (at + 4 * length s.words) end ss c.1 f later))
    h

-- the faults from a place on, one being owed there or not
abbrev Rest : Bool → ℕ → List Stretch → FileFault → Type 0
Rest owed at ss f = Owed owed at f ⊎ FaultOf ss f

itself : (f g : FileFault) → g ≡ f → NoLater f g
itself f g e = inr (sym (ap file_place e), omega (arith, ap file_number e))

at_end : (owed : Bool) (end : ℕ) → First (Rest owed end []) (cond owed (Err (Unbalanced end)) (Ok tt))
at_end true end = (inl (refl, refl), λ g. ⊎_elim (λ o. itself (Unbalanced end) g o.1) absurd)
at_end false end = λ g. ⊎_elim (λ o. both_ways false refl o.0) absurd

same_first : (F G : FileFault → Type 0) → ((g : FileFault) → F g → G g) → ((g : FileFault) → G g → F g) → (r : Result (Unit {0}) FileFault) → First F r → First G r
same_first F G to from (Ok u) h = λ g x. h g (from g x)
same_first F G to from (Err f) h = (to f h.0, λ g x. h.1 g (from g x))

-- what a scan of the first part answers goes on with the parts behind it
goes_on : (owed : Bool) (end : ℕ) (s : Stretch) (ss : List Stretch) → Consecutive (s.start + 4 * length s.words) end ss
    → ((left : Bool) → First (Rest left (s.start + 4 * length s.words) ss) (judged left end ss))
    → (r : Result Bool FileFault) → Scans (Faults s.part owed 0 s.start s.words) (s.start + 4 * length s.words) r
    → First (Rest owed s.start (s ∷ ss)) (chain r (λ left. judged left end ss))
goes_on owed end s ss c next (Err f) h = (
  ⊎_elim (λ o. inl o) (λ here. inr (inl (in_part s f here))) h.0,
  λ g. ⊎_elim
      (λ o. h.1 g (inl o))
      (⊎_elim (λ here. h.1 g (inr (from_part s g here))) (λ later. inl (omega (arith, h.2, not_before _ end ss c g later)))),
)
goes_on owed end s ss c next (Ok left) h =
    same_first (Rest left (s.start + 4 * length s.words) ss) (Rest owed s.start (s ∷ ss))
    (λ g. ⊎_elim
    (λ o. subst (Rest owed s.start (s ∷ ss)) (sym o.1) (⊎_elim (λ x. inl x) (λ x. inr (inl (in_part s (Unbalanced (s.start + 4 * length s.words)) x))) (h.1 o.0)))
    (λ later. inr (inr later)))
    (λ g. ⊎_elim (λ o. inl (h.0 g (inl o))) (⊎_elim (λ here. inl (h.0 g (inr (from_part s g here)))) (λ later. inr later)))
    (judged left end ss) (next left)

judges : (owed : Bool) (at end : ℕ) (ss : List Stretch) → Consecutive at end ss → First (Rest owed at ss) (judged owed end ss)
judges owed at end [] c = subst (λ a. First (Rest owed a []) (judged owed end [])) (sym c) (at_end owed end)
judges owed at end (s ∷ ss) c =
    let starts : at ≡ s.start = sym c.0 in
    let C : ℕ → Type 0 = λ a. Consecutive (a + 4 * length s.words) end ss in
    let behind : Consecutive (s.start + 4 * length s.words) end ss = subst C starts c.1 in
    let F : ℕ → Type 0 = λ a. First (Rest owed a (s ∷ ss)) (judged owed end (s ∷ ss)) in
    subst F (sym starts)
    (goes_on owed end s ss behind (λ left. judges left (s.start + 4 * length s.words) end ss behind)
    (scanned s.part s.start owed 0 s.words) (scans s.part owed 0 s.start s.words))

-- ---- the parts of a file with a regular head
four_bytes : (xs : List ℕ) → length xs % 4 ≡ 0 → 4 * length (words_of xs) ≡ length xs
four_bytes [] h = refl
four_bytes (a ∷ []) h = absurd (omega arith)
four_bytes (a ∷ (b ∷ [])) h = absurd (omega arith)
four_bytes (a ∷ (b ∷ (c ∷ []))) h = absurd (omega arith)
four_bytes (a ∷ (b ∷ (c ∷ (d ∷ rest)))) h = let ih = four_bytes rest (omega arith) in omega arith

word_bytes : (xs : List ℕ) (n : ℕ) → length xs ≡ n → n % 4 ≡ 0 → 4 * length (words_of xs) ≡ n
word_bytes xs n e h = four_bytes xs (ap (λ m. m % 4) e ∙ h) ∙ e

consecutive : (bs : List ℕ) (l : Layout) → Regular (length bs) l → Consecutive 44 (length bs) (stretches bs l)
consecutive bs l r =
    let behind = length-drop 44 bs in
    let rest = length-drop l.clear (drop 44 bs) in
    let last = length-drop l.enter (drop l.clear (drop 44 bs)) in
    let clear = word_bytes (clear_bytes bs l) l.clear (length-take-le l.clear (drop 44 bs) (omega arith)) r.clears in
    let enter = word_bytes (enter_bytes bs l) l.enter (length-take-le l.enter (drop l.clear (drop 44 bs)) (omega arith)) r.enters in
    let hold = word_bytes (hold_bytes bs l) l.hold (omega arith) r.holds in
    (refl, (omega arith, (omega arith, omega arith)))

first_fault : (bs : List ℕ) (l : Layout) → Regular (length bs) l → First (FaultOf (stretches bs l)) (checked bs l)
first_fault bs l r =
    same_first (Rest false 44 (stretches bs l)) (FaultOf (stretches bs l))
    (λ g. ⊎_elim (λ o. absurd (both_ways false refl o.0)) (λ f. f))
    (λ g f. inr f)
    (checked bs l) (judges false 44 (length bs) (stretches bs l) (consecutive bs l r))

-- so is every answer to bytes that accepts or refuses as the judgement of the words of a file that has them does
pub answers_first : {A : Type 0} (bs own : List ℕ) (l : Layout) → own ≡ bs → layout_of bs ≡ Ok l → Regular (length own) l → (r : Result A FileFault) → verdict r ≡ checked own l → FirstFault bs r
answers_first bs own l same read regular r e m other =
    let A : Layout → Type 0 = λ k. First (FaultOf (stretches bs k)) (verdict r) in
    let B : List ℕ → Type 0 = λ xs. First (FaultOf (stretches xs l)) (verdict r) in
    subst A (ok_is l m (sym read ∙ other)) (subst B same (subst (First (FaultOf (stretches own l))) (sym e) (first_fault own l regular)))
