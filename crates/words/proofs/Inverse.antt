-- Instructions and lawful words, one to one. Assumes nothing.
use Rattle.std.proofs.Common.{◌≡◌, ℕ, ◌%◌, ◌<◌, true, ◌&&◌, ◌||◌, eqb, ltb, leb, Bool, false, cond, Some, None, sym, refl, ap, ◌∙◌, subst, ⊎_elim, arith, lit<, below_none, below_more}
use Rattle.std.proofs.lemmas.Bool.{and_parts, and_from, or_cases, not-true, not_from_false, eq-eqb, eqb-true, ltb-true, leb-true, lt-ltb, cond-true, cond-false, cases_Bool, false≢true}
use Rattle.std.proofs.lemmas.Bool.Decides.{nat_tests}
use Rattle.std.proofs.lemmas.Option.{cond_some, none-some}
use Rattle.words.specs.declared.instruction.Part.{Part}
use Rattle.words.specs.declared.instruction.Operand.{Operand}
use Rattle.words.specs.declared.instruction.Operand.TheVariants.{Input, Step, Output, Rise, Fall, Always, Cleared, Before}
use Rattle.words.specs.declared.instruction.Target.{Target}
use Rattle.words.specs.declared.instruction.Target.TheVariants as target
use Rattle.words.specs.declared.instruction.Instruction.{Instruction}
use Rattle.words.specs.declared.instruction.Instruction.TheVariants.{Load, LoadNot, And, AndNot, Or, OrNot, AndOpen, OrOpen, Close, Not, Store, Set, Reset, Hold}
use Rattle.words.specs.Words.{packed, operand_area, operand_number, target_area, target_number, operator_in, area_in, number_in, word_of, is_hold, stands, admitted, encoded, operator_of, area_of, number_of, pairs, numbers, lawful, operand_at, target_at, instruction_at, instruction_of, decoded}

-- ---- the fields of a packed word
pub record Fields (o a n : ℕ) : Type 0 where
  pub operator : operator_of (packed o a n) ≡ o
  pub area : area_of (packed o a n) ≡ a
  pub number : number_of (packed o a n) ≡ n
  pub low : packed o a n % 16384 ≡ 0

fields : (o a n : ℕ) → a < 16 → n < 64 → Fields o a n
fields o a n ha hn = record { operator = omega arith; area = omega arith; number = omega arith; low = omega arith }

packs : (w : ℕ) → w % 16384 ≡ 0 → packed (operator_of w) (area_of w) (number_of w) ≡ w
packs w h = omega arith

-- ---- from an instruction to its word and back
operand_back : (x : Operand) → operand_at (operand_area x) (operand_number x) ≡ x
operand_back (Input n) = refl
operand_back (Step n) = refl
operand_back (Output n) = refl
operand_back (Rise n) = refl
operand_back (Fall n) = refl
operand_back Always = refl
operand_back (Cleared n) = refl
operand_back (Before n) = refl

target_back : (t : Target) → target_at (target_area t) (target_number t) ≡ t
target_back (target.Step n) = refl
target_back (target.Output n) = refl

back : (i : Instruction) → instruction_at (operator_in i) (area_in i) (number_in i) ≡ i
back (Load x) = ap (λ y. Load y) (operand_back x)
back (LoadNot x) = ap (λ y. LoadNot y) (operand_back x)
back (And x) = ap (λ y. And y) (operand_back x)
back (AndNot x) = ap (λ y. AndNot y) (operand_back x)
back (Or x) = ap (λ y. Or y) (operand_back x)
back (OrNot x) = ap (λ y. OrNot y) (operand_back x)
back AndOpen = refl
back OrOpen = refl
back Close = refl
back Not = refl
back (Store n) = refl
back (Set (target.Step n)) = refl
back (Set (target.Output n)) = refl
back (Reset t) = ap (λ y. Reset y) (target_back t)
back (Hold n) = refl

-- its area is below 16, and goes with its operator and its number
pub record Goes (p : Part) (i : Instruction) : Type 0 where
  pub few : area_in i < 16
  pub paired : stands p i ≡ true → pairs p (operator_in i) (area_in i) ≡ true
  pub numbered : numbers (area_in i) (number_in i) ≡ true

pub record Readable (x : Operand) : Type 0 where
  pub few : operand_area x < 16
  pub area : (leb 1 (operand_area x) && leb (operand_area x) 8) ≡ true
  pub numbered : numbers (operand_area x) (operand_number x) ≡ true

readable : (x : Operand) → Readable x
readable (Input n) = record { few = lit< tt; area = refl; numbered = refl }
readable (Step n) = record { few = lit< tt; area = refl; numbered = refl }
readable (Output n) = record { few = lit< tt; area = refl; numbered = refl }
readable (Rise n) = record { few = lit< tt; area = refl; numbered = refl }
readable (Fall n) = record { few = lit< tt; area = refl; numbered = refl }
readable Always = record { few = lit< tt; area = refl; numbered = refl }
readable (Cleared n) = record { few = lit< tt; area = refl; numbered = refl }
readable (Before n) = record { few = lit< tt; area = refl; numbered = refl }

goes : (p : Part) (i : Instruction) → Goes p i
goes p (Load x) = let r = readable x in record { few = r.few; paired = λ _. r.area; numbered = r.numbered }
goes p (LoadNot x) = let r = readable x in record { few = r.few; paired = λ _. r.area; numbered = r.numbered }
goes p (And x) = let r = readable x in record { few = r.few; paired = λ _. r.area; numbered = r.numbered }
goes p (AndNot x) = let r = readable x in record { few = r.few; paired = λ _. r.area; numbered = r.numbered }
goes p (Or x) = let r = readable x in record { few = r.few; paired = λ _. r.area; numbered = r.numbered }
goes p (OrNot x) = let r = readable x in record { few = r.few; paired = λ _. r.area; numbered = r.numbered }
goes p AndOpen = record { few = lit< tt; paired = λ _. refl; numbered = refl }
goes p OrOpen = record { few = lit< tt; paired = λ _. refl; numbered = refl }
goes p Close = record { few = lit< tt; paired = λ _. refl; numbered = refl }
goes p Not = record { few = lit< tt; paired = λ _. refl; numbered = refl }
goes p (Store n) = record { few = lit< tt; paired = λ h. and_from _ _ h refl; numbered = refl }
goes p (Set (target.Step n)) = record { few = lit< tt; paired = λ h. cond-false (is_hold p) _ _ (not-true (is_hold p) h); numbered = refl }
goes p (Set (target.Output n)) = record { few = lit< tt; paired = λ h. cond-false (is_hold p) _ _ (not-true (is_hold p) h); numbered = refl }
goes p (Reset (target.Step n)) = record { few = lit< tt; paired = λ h. and_from _ _ h refl; numbered = refl }
goes p (Reset (target.Output n)) = record { few = lit< tt; paired = λ h. and_from _ _ h refl; numbered = refl }
goes p (Hold n) = record { few = lit< tt; paired = λ h. cond-true (is_hold p) _ _ h; numbered = refl }

same : {A : Type 0} (f : ℕ → ℕ → ℕ → A) {o a n x y z : ℕ} → o ≡ x → a ≡ y → n ≡ z → f o a n ≡ f x y z
same f p q r = cc

pub reads_back : (p : Part) (i : Instruction) → admitted p i ≡ true → decoded p (word_of i) ≡ Some i
reads_back p i e =
    let in_part = and_parts (stands p i) (ltb (number_in i) 64) e in
    let g = goes p i in
    let f = fields (operator_in i) (area_in i) (number_in i) g.few (ltb-true _ _ in_part.1) in
    let paired = same (λ o a n. pairs p o a) f.operator f.area f.number ∙ g.paired in_part.0 in
    let numbered = same (λ o a n. numbers a n) f.operator f.area f.number ∙ g.numbered in
    cond-true (lawful p (word_of i)) _ _ (and_from _ _ (eq-eqb _ _ f.low) (and_from _ _ paired numbered))
    ∙ ap (λ j. Some j) (same instruction_at f.operator f.area f.number ∙ back i)

pub decodes_back : (p : Part) (i : Instruction) (w : ℕ) → encoded p i ≡ Some w → decoded p w ≡ Some i
decodes_back p i w e = let was = cond_some (admitted p i) (word_of i) w e in ap (decoded p) (sym was.1) ∙ reads_back p i was.0

-- ---- from a lawful word to its instruction and back
abbrev OperandFits : ℕ → Type 0
OperandFits a = (n : ℕ) → (leb 1 a && leb a 8) ≡ true → numbers a n ≡ true → (operand_area (operand_at a n) ≡ a) × (operand_number (operand_at a n) ≡ n)

operand_fits : (a : ℕ) → a < 9 → OperandFits a
operand_fits =
    let none : (a : ℕ) → a < 1 → OperandFits a = below_more OperandFits 0 (below_none OperandFits) (λ n h k. absurd (false≢true h)) in
    let four : (a : ℕ) → a < 5 → OperandFits a =
    below_more OperandFits 4 (below_more OperandFits 3 (below_more OperandFits 2 (below_more OperandFits 1 none
    (λ n h k. (refl, refl))) (λ n h k. (refl, refl))) (λ n h k. (refl, refl))) (λ n h k. (refl, refl)) in
    below_more OperandFits 8 (below_more OperandFits 7 (below_more OperandFits 6 (below_more OperandFits 5 four
    (λ n h k. (refl, refl))) (λ n h k. (refl, sym (eqb-true n 0 k)))) (λ n h k. (refl, refl))) (λ n h k. (refl, refl))

target_fits : (a n : ℕ) → (eqb a 2 || eqb a 3) ≡ true → (target_area (target_at a n) ≡ a) × (target_number (target_at a n) ≡ n)
target_fits a n h =
    ⊎_elim
    (λ two. let P : ℕ → Type 0 = λ x. (target_area (target_at x n) ≡ x) × (target_number (target_at x n) ≡ n) in subst P (sym (eqb-true a 2 two)) (refl, refl))
    (λ three. let P : ℕ → Type 0 = λ x. (target_area (target_at x n) ≡ x) × (target_number (target_at x n) ≡ n) in subst P (sym (eqb-true a 3 three)) (refl, refl))
    (or_cases _ _ h)

pub record Fits (p : Part) (o a n : ℕ) : Type 0 where
  pub standing : stands p (instruction_at o a n) ≡ true
  pub operator : operator_in (instruction_at o a n) ≡ o
  pub area : area_in (instruction_at o a n) ≡ a
  pub number : number_in (instruction_at o a n) ≡ n

abbrev EachFits : ℕ → Type 0
EachFits o = (p : Part) (a n : ℕ) → pairs p o a ≡ true → numbers a n ≡ true → Fits p o a n

below_nine : (a : ℕ) → (leb 1 a && leb a 8) ≡ true → a < 9
below_nine a h = omega (arith, leb-true a 8 (and_parts _ _ h).1)

no_area : (a n : ℕ) → eqb a 0 ≡ true → numbers a n ≡ true → (0 ≡ a) × (0 ≡ n)
no_area a n h k =
    let zero-area = eqb-true a 0 h in
    let P : ℕ → Type 0 = λ x. numbers x n ≡ true in
    (sym zero-area, sym (eqb-true n 0 (subst P zero-area k)))

fitting : (p : Part) (o a n : ℕ) → stands p (instruction_at o a n) ≡ true → operator_in (instruction_at o a n) ≡ o → (area_in (instruction_at o a n) ≡ a) × (number_in (instruction_at o a n) ≡ n) → Fits p o a n
fitting p o a n s e f = record { standing = s; operator = e; area = f.0; number = f.1 }

set_fits : EachFits 12
set_fits p a n h k =
    let P : ℕ → Type 0 = λ x. Fits p 12 x n in
    ⊎_elim
    (λ hold. subst P (sym (eqb-true a 9 (sym (cond-true (is_hold p) _ _ hold) ∙ h))) (fitting p 12 9 n hold refl (refl, refl)))
    (λ other.
    let free = not_from_false (is_hold p) other in
    ⊎_elim
    (λ two. subst P (sym (eqb-true a 2 two)) (fitting p 12 2 n free refl (refl, refl)))
    (λ three. subst P (sym (eqb-true a 3 three)) (fitting p 12 3 n free refl (refl, refl)))
    (or_cases _ _ (sym (cond-false (is_hold p) _ _ other) ∙ h)))
    (cases_Bool (is_hold p))

each_fits : (o : ℕ) → o < 14 → EachFits o
each_fits =
    let E = EachFits in
    let none : (o : ℕ) → o < 1 → E o = below_more E 0 (below_none E) (λ p a n h k. absurd (false≢true h)) in
    let reads : (o : ℕ) → o < 7 → E o =
    below_more E 6 (below_more E 5 (below_more E 4 (below_more E 3 (below_more E 2 (below_more E 1 none
    (λ p a n h k. fitting p 1 a n refl refl (operand_fits a (below_nine a h) n h k)))
    (λ p a n h k. fitting p 2 a n refl refl (operand_fits a (below_nine a h) n h k)))
    (λ p a n h k. fitting p 3 a n refl refl (operand_fits a (below_nine a h) n h k)))
    (λ p a n h k. fitting p 4 a n refl refl (operand_fits a (below_nine a h) n h k)))
    (λ p a n h k. fitting p 5 a n refl refl (operand_fits a (below_nine a h) n h k)))
    (λ p a n h k. fitting p 6 a n refl refl (operand_fits a (below_nine a h) n h k)) in
    let brackets : (o : ℕ) → o < 11 → E o =
    below_more E 10 (below_more E 9 (below_more E 8 (below_more E 7 reads
    (λ p a n h k. fitting p 7 a n refl refl (no_area a n h k)))
    (λ p a n h k. fitting p 8 a n refl refl (no_area a n h k)))
    (λ p a n h k. fitting p 9 a n refl refl (no_area a n h k)))
    (λ p a n h k. fitting p 10 a n refl refl (no_area a n h k)) in
    below_more E 13 (below_more E 12 (below_more E 11 brackets
    (λ p a n h k. let both = and_parts _ _ h in fitting p 11 a n both.0 refl (sym (eqb-true a 7 both.1), refl)))
    set_fits)
    (λ p a n h k. let both = and_parts _ _ h in fitting p 13 a n both.0 refl (target_fits a n both.1))

below_fourteen : (p : Part) (o a : ℕ) → pairs p o a ≡ true → o < 14
below_fourteen p o a h = grind (arith, nat_tests)

number_below : (w m : ℕ) → m ≡ number_of w → m < 64
number_below w m e = omega arith

pub written_back : (p : Part) (w : ℕ) → lawful p w ≡ true → encoded p (instruction_of w) ≡ Some w
written_back p w h =
    let low = and_parts _ _ h in
    let rest = and_parts _ _ low.1 in
    let f = each_fits (operator_of w) (below_fourteen p (operator_of w) (area_of w) rest.0) p (area_of w) (number_of w) rest.0 rest.1 in
    cond-true (admitted p (instruction_of w)) _ _ (and_from _ _ f.standing (lt-ltb _ _ (number_below w _ f.number)))
    ∙ ap (λ v. Some v) (same packed f.operator f.area f.number ∙ packs w (eqb-true _ _ low.0))

pub encodes_back : (p : Part) (w : ℕ) (i : Instruction) → decoded p w ≡ Some i → encoded p i ≡ Some w
encodes_back p w i e = let was = cond_some (lawful p w) (instruction_of w) i e in ap (encoded p) (sym was.1) ∙ written_back p w was.0

-- a word that is decoded is lawful, and is the instruction's word; one that is not decoded is not lawful
pub decoded_word : (p : Part) (w : ℕ) (i : Instruction) → decoded p w ≡ Some i → (lawful p w ≡ true) × (word_of i ≡ w)
decoded_word p w i e =
    let was = cond_some (lawful p w) (instruction_of w) i e in
    let back = cond_some (admitted p i) (word_of i) w (encodes_back p w i e) in
    (was.0, back.1)

pub not_decoded : (p : Part) (w : ℕ) → decoded p w ≡ None → lawful p w ≡ false
not_decoded p w = none (lawful p w)
  where
    none : (b : Bool) → cond b (Some (instruction_of w)) None ≡ None → b ≡ false
    none true e = absurd (none-some (instruction_of w) (sym e))
    none false e = refl
