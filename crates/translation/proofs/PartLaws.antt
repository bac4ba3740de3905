-- The words of a text's parts are sound, and read back. Assumes nothing.
use Rattle.std.proofs.Common.{◌≡◌, ℕ, ◌+◌, ◌-◌, ◌*◌, ◌<◌, ◌≤◌, Bool, true, false, cond, not, ◌&&◌, ◌||◌, eqb, leb, List, [], ◌∷◌, ◌++◌, map, Some, None, Ok, sym, refl, ap, ◌∙◌, ap₂, arith, lit<}
use Rattle.std.proofs.lemmas.List.{append-nil, map-append}
use Rattle.std.proofs.lemmas.Bool.{and_from, lt-ltb}
use Rattle.std.proofs.lemmas.Bool.Decides.{nat_tests}
use Rattle.words.specs.declared.instruction.Part.{Part}
use Rattle.words.specs.declared.instruction.Part.TheVariants as part
use Rattle.words.specs.declared.instruction.Operand.{Operand}
use Rattle.words.specs.declared.instruction.Operand.TheVariants as operand
use Rattle.words.specs.declared.instruction.Target.{Target}
use Rattle.words.specs.declared.instruction.Target.TheVariants as target
use Rattle.words.specs.declared.instruction.Instruction.{Instruction}
use Rattle.words.specs.declared.instruction.Instruction.TheVariants.{Load, LoadNot, And, AndNot, Or, OrNot, AndOpen, OrOpen, Close, Not, Store, Set, Reset, Hold}
use Rattle.words.specs.Words.{word_of, operand_area, operand_number, target_area, operator_in, area_in, number_in, stands, operator_of, lawful, instruction_of}
use Rattle.words.specs.Brackets.{spoils, after, sound}
use Rattle.words.proofs.Inverse.{reads_back}
use Rattle.text.specs.declared.token.Token.{Token}
use Rattle.text.specs.declared.token.Letter.TheVariants.{I, Q, X}
use Rattle.conditions.specs.declared.tree.Atom.{Atom}
use Rattle.conditions.specs.declared.tree.Atom.TheVariants.{Plain, Rise, Fall, Always}
use Rattle.conditions.specs.Tree.{Cond, Term, Factor, Primary, term, or, factor, and, is, not as negated, atom, bracket, operand_of, enclosed, words, words_term, words_factor, words_primary, SmallAtom, Fits, FitsTerm, FitsFactor, FitsPrimary}
use Rattle.lines.specs.declared.shape.Number.{Number}
use Rattle.lines.specs.declared.shape.Action.TheVariants as action
use Rattle.lines.specs.Grammar.{Numbers, one, more, items, Tree, empty, step, trans, hold, enter, Small, AllSmall, FitsLine}
use Rattle.lines.specs.Text.{read_lines, between}
use Rattle.lines.proofs.WholeText.{texts_sound, each_fits}
use Rattle.lines.specs.Guards.{step_tests, guard_words}
use Rattle.translation.specs.Translation.{each, reset_words, set_words, enter_words, hold_words, clear_part, enter_part, hold_part}
use Rattle.translation.specs.Soundness.{AllFit, Sound, SoundParts}

-- ---- one word: lawful, decoded to its instruction, its operator in its field
operand_area_lem : (x : Operand) → operand_area x < 16
operand_area_lem (operand.Input n) = lit< tt
operand_area_lem (operand.Step n) = lit< tt
operand_area_lem (operand.Output n) = lit< tt
operand_area_lem (operand.Rise n) = lit< tt
operand_area_lem (operand.Fall n) = lit< tt
operand_area_lem operand.Always = lit< tt
operand_area_lem (operand.Cleared n) = lit< tt
operand_area_lem (operand.Before n) = lit< tt

target_area_lem : (t : Target) → target_area t < 16
target_area_lem (target.Step n) = lit< tt
target_area_lem (target.Output n) = lit< tt

area_below : (i : Instruction) → area_in i < 16
area_below (Load x) = operand_area_lem x
area_below (LoadNot x) = operand_area_lem x
area_below (And x) = operand_area_lem x
area_below (AndNot x) = operand_area_lem x
area_below (Or x) = operand_area_lem x
area_below (OrNot x) = operand_area_lem x
area_below AndOpen = lit< tt
area_below OrOpen = lit< tt
area_below Close = lit< tt
area_below Not = lit< tt
area_below (Store n) = lit< tt
area_below (Set t) = target_area_lem t
area_below (Reset t) = target_area_lem t
area_below (Hold n) = lit< tt

record Good (p : Part) (i : Instruction) : Type 0 where
  lawful : lawful p (word_of i) ≡ true
  operator : operator_of (word_of i) ≡ operator_in i
  back : instruction_of (word_of i) ≡ i

-- a decoded word is lawful, and its instruction is this one
decoded_some : (b : Bool) (j i : Instruction) → cond b (Some j) None ≡ Some i → (b ≡ true) × (j ≡ i)
decoded_some true j i e = (refl, cc)
decoded_some false j i e = let z : ◌≡◌ {A = ℕ} 0 1 = cc in absurd (omega arith)

good : (p : Part) (i : Instruction) → stands p i ≡ true → number_in i ≤ 63 → Good p i
good p i s h =
    let a = area_below i in
    let d = decoded_some (lawful p (word_of i)) (instruction_of (word_of i)) i (reads_back p i (and_from _ _ s (lt-ltb (number_in i) 64 (omega arith)))) in
    record { lawful = d.0; operator = omega arith; back = d.1 }

-- ---- brackets by the operator
spoils_at : ℕ → ℕ → Bool
spoils_at d o = cond (eqb o 7 || eqb o 8) (leb 17 d) (cond (eqb o 9) (eqb d 0) false)

after_at : ℕ → ℕ → ℕ
after_at d o = cond (eqb o 7 || eqb o 8) (d + 1) (cond (eqb o 9) (d - 1) d)

-- instructions that may stand at d open brackets, leave as many open, and read back
record Keeps (p : Part) (d : ℕ) (is : List Instruction) : Type 0 where
  passes : (rest : List ℕ) → sound p d (map word_of is ++ rest) ≡ sound p d rest
  back : map instruction_of (map word_of is) ≡ is

sound_word : (p : Part) (d : ℕ) (i : Instruction) (rest : List ℕ) → Good p i → sound p d (word_of i ∷ rest) ≡ (not (spoils_at d (operator_in i)) && sound p (after_at d (operator_in i)) rest)
unfolding spoils_at after_at
sound_word p d i rest g =
    ap (λ b. b && (not (spoils d (word_of i)) && sound p (after d (word_of i)) rest)) g.lawful
    ∙ ap (λ o. not (spoils_at d o) && sound p (after_at d o) rest) g.operator

join-++ : (us vs : List Instruction) (rest : List ℕ) → map word_of (us ++ vs) ++ rest ≡ map word_of us ++ (map word_of vs ++ rest)
join-++ [] vs rest = refl
join-++ (u ∷ us) vs rest = ap (λ zs. word_of u ∷ zs) (join-++ us vs rest)

keeps_none : (p : Part) (d : ℕ) → Keeps p d []
keeps_none p d = record { passes = λ rest. refl; back = refl }

keeps-++ : (p : Part) (d : ℕ) (us vs : List Instruction) → Keeps p d us → Keeps p d vs → Keeps p d (us ++ vs)
keeps-++ p d us vs hu hv =
    record {
      passes = λ rest. ap (sound p d) (join-++ us vs rest) ∙ hu.passes (map word_of vs ++ rest) ∙ hv.passes rest;
      back = ap (map instruction_of) (map-append word_of us vs) ∙ map-append instruction_of (map word_of us) (map word_of vs) ∙ ap₂ (λ x y. x ++ y) hu.back hv.back;
    }

-- one word that is no bracket
keeps_one : (p : Part) (d : ℕ) (i : Instruction) → stands p i ≡ true → number_in i ≤ 63 → spoils_at d (operator_in i) ≡ false → after_at d (operator_in i) ≡ d → Keeps p d (i ∷ [])
keeps_one p d i s h r e =
    let g = good p i s h in
    record {
      passes = λ rest. sound_word p d i rest g ∙ ap₂ (λ b k. not b && sound p k rest) r e;
      back = ap (λ j. j ∷ []) g.back;
    }

keeps_not : (p : Part) (d : ℕ) → Keeps p d (Not ∷ [])
unfolding spoils_at after_at
keeps_not p d = keeps_one p d Not refl (omega arith) refl refl

-- one of the two opening brackets, below 17 open
keeps_bracket : (p : Part) (d : ℕ) (i : Instruction) (ws : List Instruction) → Good p i → spoils_at d (operator_in i) ≡ false → after_at d (operator_in i) ≡ d + 1 → Keeps p (d + 1) ws → Keeps p d (enclosed i ws)
unfolding spoils_at after_at
keeps_bracket p d i ws g r e k =
    let close = good p Close refl (omega arith) in
    record {
      passes = λ rest.
          sound_word p d i (map word_of (ws ++ (Close ∷ [])) ++ rest) g
          ∙ ap₂ (λ b k. not b && sound p k (map word_of (ws ++ (Close ∷ [])) ++ rest)) r e
          ∙ ap (sound p (d + 1)) (join-++ ws (Close ∷ []) rest)
          ∙ k.passes (word_of Close ∷ rest)
          ∙ sound_word p (d + 1) Close rest close
          ∙ ap₂ (λ b k. not b && sound p k rest) (open_one d) (down d);
      back =
          ap₂ (λ j js. j ∷ js) g.back
          (ap (map instruction_of) (map-append word_of ws (Close ∷ [])) ∙ map-append instruction_of (map word_of ws) (word_of Close ∷ []) ∙ ap₂ (λ x y. x ++ y) k.back (ap (λ j. j ∷ []) close.back));
    }
  where
    down : (d : ℕ) → d + 1 - 1 ≡ d
    down d = omega arith

    open_one : (d : ℕ) → eqb (d + 1) 0 ≡ false
    open_one d = grind (arith, nat_tests)

below_17 : (d : ℕ) → d ≤ 16 → leb 17 d ≡ false
below_17 d h = grind (arith, nat_tests)

keeps_and : (p : Part) (d : ℕ) (ws : List Instruction) → d ≤ 16 → Keeps p (d + 1) ws → Keeps p d (enclosed AndOpen ws)
unfolding spoils_at after_at
keeps_and p d ws h k = keeps_bracket p d AndOpen ws (good p AndOpen refl (omega arith)) (below_17 d h) refl k

keeps_or : (p : Part) (d : ℕ) (ws : List Instruction) → d ≤ 16 → Keeps p (d + 1) ws → Keeps p d (enclosed OrOpen ws)
unfolding spoils_at after_at
keeps_or p d ws h k = keeps_bracket p d OrOpen ws (good p OrOpen refl (omega arith)) (below_17 d h) refl k

-- ---- conditions: inside k brackets of the text a condition begins at 1 + 2 * k open ones or fewer, a term one above
-- that, a factor two
atom_small : (a : Atom) → SmallAtom a → operand_number (operand_of a) ≤ 63
atom_small (Plain I n) h = h
atom_small (Plain Q n) h = h
atom_small (Plain X n) h = h
atom_small (Rise n) h = h
atom_small (Fall n) h = h
atom_small Always h = omega arith

mutual
  unfolding spoils_at after_at

  cond_keeps : (p : Part) (c : Cond) (d k : ℕ) → Fits k c → k ≤ 7 → d ≤ 1 + 2 * k → Keeps p d (words c)
  cond_keeps p (term t) d k f m h = term_keeps p t d k f m (omega arith)
  cond_keeps p (or c t) d k f m h =
      keeps-++ p d (words c) (enclosed OrOpen (words_term t)) (cond_keeps p c d k f.0 m h)
      (keeps_or p d (words_term t) (omega arith) (term_keeps p t (d + 1) k f.1 m (omega arith)))

  term_keeps : (p : Part) (t : Term) (d k : ℕ) → FitsTerm k t → k ≤ 7 → d ≤ 2 + 2 * k → Keeps p d (words_term t)
  term_keeps p (factor x) d k f m h = factor_keeps p x d k f m (omega arith)
  term_keeps p (and t x) d k f m h =
      keeps-++ p d (words_term t) (enclosed AndOpen (words_factor x)) (term_keeps p t d k f.0 m h)
      (keeps_and p d (words_factor x) (omega arith) (factor_keeps p x (d + 1) k f.1 m (omega arith)))

  factor_keeps : (p : Part) (x : Factor) (d k : ℕ) → FitsFactor k x → k ≤ 7 → d ≤ 3 + 2 * k → Keeps p d (words_factor x)
  factor_keeps p (is y) d k f m h = primary_keeps p false y d k f m h
  factor_keeps p (negated y) d k f m h = primary_keeps p true y d k f m h

  primary_keeps : (p : Part) (b : Bool) (y : Primary) (d k : ℕ) → FitsPrimary k y → k ≤ 7 → d ≤ 3 + 2 * k → Keeps p d (words_primary b y)
  primary_keeps p false (atom a) d k f m h = keeps_one p d (Load (operand_of a)) refl (atom_small a f) refl refl
  primary_keeps p true (atom a) d k f m h = keeps_one p d (LoadNot (operand_of a)) refl (atom_small a f) refl refl
  primary_keeps p false (bracket c) d k f m h = cond_keeps p c d (k + 1) f.1 f.0 (omega arith)
  primary_keeps p true (bracket c) d k f m h = keeps-++ p d (words c) (Not ∷ []) (cond_keeps p c d (k + 1) f.1 f.0 (omega arith)) (keeps_not p d)

-- ---- the lines
AllOf : List Number → Type 0
AllOf [] = Unit {0}
AllOf (n ∷ ns) = Small n × AllOf ns

all_push : (ns : List Number) (n : Number) → AllOf ns → Small n → AllOf (ns ++ n ∷ [])
unfolding AllOf
all_push [] n a h = (h, tt)
all_push (m ∷ ns) n a h = (a.0, all_push ns n a.1 h)

all_items : (ns : Numbers) → AllSmall ns → AllOf (items ns)
unfolding AllOf
all_items (one n) h = (h, tt)
all_items (more ns n) h = all_push (items ns) n (all_items ns h.0) h.1

-- an instruction for each number
keeps_map : (p : Part) (f : Number → Instruction) → ((n : Number) → Small n → Keeps p 0 (f n ∷ [])) → (ns : List Number) → AllOf ns → Keeps p 0 (map f ns)
unfolding AllOf
keeps_map p f h [] a = keeps_none p 0
keeps_map p f h (n ∷ ns) a = keeps-++ p 0 (f n ∷ []) (map f ns) (h n a.0) (keeps_map p f h ns a.1)

load : (p : Part) (x : Operand) → operand_number x ≤ 63 → Keeps p 0 (Load x ∷ [])
unfolding spoils_at after_at
load p x h = keeps_one p 0 (Load x) refl h refl refl

and_step : (p : Part) (n : Number) → Small n → Keeps p 0 (And (operand.Step n.value) ∷ [])
unfolding spoils_at after_at
and_step p n h = keeps_one p 0 (And (operand.Step n.value)) refl h refl refl

tests_keep : (p : Part) (ns : List Number) → AllOf ns → Keeps p 0 (step_tests ns)
unfolding AllOf
tests_keep p [] a = keeps_none p 0
tests_keep p (n ∷ ns) a =
    keeps-++ p 0 (Load (operand.Step n.value) ∷ []) (map (λ m. And (operand.Step m.value)) ns)
    (load p (operand.Step n.value) a.0) (keeps_map p (λ m. And (operand.Step m.value)) (and_step p) ns a.1)

-- what each kind of line gives stands in its part
guards_keep : (l : Tree) → FitsLine l → Keeps part.Clear 0 (guard_words l)
unfolding spoils_at after_at
guards_keep empty f = keeps_none part.Clear 0
guards_keep (step n b) f = keeps_none part.Clear 0
guards_keep (trans n fs ts c us) f =
    keeps-++ part.Clear 0 (step_tests (items fs)) _ (tests_keep part.Clear (items fs) (all_items fs f.1))
    (keeps-++ part.Clear 0 (enclosed AndOpen (words c)) _
    (keeps_and part.Clear 0 (words c) (omega arith) (cond_keeps part.Clear c 1 0 f.3 (omega arith) (omega arith)))
    (keeps_one part.Clear 0 (Store n.value) refl f.0 refl refl))
guards_keep (hold n q) f = keeps_none part.Clear 0
guards_keep (enter n a q) f = keeps_none part.Clear 0

reset_step : (n : Number) → Small n → Keeps part.Clear 0 (Reset (target.Step n.value) ∷ [])
unfolding spoils_at after_at
reset_step n h = keeps_one part.Clear 0 (Reset (target.Step n.value)) refl h refl refl

resets_keep : (l : Tree) → FitsLine l → Keeps part.Clear 0 (reset_words l)
resets_keep empty f = keeps_none part.Clear 0
resets_keep (step n b) f = keeps_none part.Clear 0
resets_keep (trans n fs ts c us) f =
    keeps-++ part.Clear 0 (Load (operand.Cleared n.value) ∷ []) _ (load part.Clear (operand.Cleared n.value) f.0)
    (keeps_map part.Clear (λ s. Reset (target.Step s.value)) reset_step (items fs) (all_items fs f.1))
resets_keep (hold n q) f = keeps_none part.Clear 0
resets_keep (enter n a q) f = keeps_none part.Clear 0

set_step : (n : Number) → Small n → Keeps part.Clear 0 (Set (target.Step n.value) ∷ [])
unfolding spoils_at after_at
set_step n h = keeps_one part.Clear 0 (Set (target.Step n.value)) refl h refl refl

sets_keep : (l : Tree) → FitsLine l → Keeps part.Clear 0 (set_words l)
sets_keep empty f = keeps_none part.Clear 0
sets_keep (step n b) f = keeps_none part.Clear 0
sets_keep (trans n fs ts c us) f =
    keeps-++ part.Clear 0 (Load (operand.Cleared n.value) ∷ []) _ (load part.Clear (operand.Cleared n.value) f.0)
    (keeps_map part.Clear (λ s. Set (target.Step s.value)) set_step (items ts) (all_items ts f.2))
sets_keep (hold n q) f = keeps_none part.Clear 0
sets_keep (enter n a q) f = keeps_none part.Clear 0

newly : (n : Number) (i : Instruction) → Small n → Keeps part.Enter 0 (i ∷ []) → Keeps part.Enter 0 (Load (operand.Step n.value) ∷ AndNot (operand.Before n.value) ∷ i ∷ [])
unfolding spoils_at after_at
newly n i h k =
    keeps-++ part.Enter 0 (Load (operand.Step n.value) ∷ []) _ (load part.Enter (operand.Step n.value) h)
    (keeps-++ part.Enter 0 (AndNot (operand.Before n.value) ∷ []) _ (keeps_one part.Enter 0 (AndNot (operand.Before n.value)) refl h refl refl) k)

enters_keep : (l : Tree) → FitsLine l → Keeps part.Enter 0 (enter_words l)
unfolding spoils_at after_at
enters_keep empty f = keeps_none part.Enter 0
enters_keep (step n b) f = keeps_none part.Enter 0
enters_keep (trans n fs ts c us) f = keeps_none part.Enter 0
enters_keep (hold n q) f = keeps_none part.Enter 0
enters_keep (enter n action.Set q) f = newly n (Set (target.Output q.value)) f.0 (keeps_one part.Enter 0 (Set (target.Output q.value)) refl f.1 refl refl)
enters_keep (enter n action.Reset q) f = newly n (Reset (target.Output q.value)) f.0 (keeps_one part.Enter 0 (Reset (target.Output q.value)) refl f.1 refl refl)

holds_keep : (l : Tree) → FitsLine l → Keeps part.Hold 0 (hold_words l)
unfolding spoils_at after_at
holds_keep empty f = keeps_none part.Hold 0
holds_keep (step n b) f = keeps_none part.Hold 0
holds_keep (trans n fs ts c us) f = keeps_none part.Hold 0
holds_keep (hold n q) f =
    keeps-++ part.Hold 0 (Load (operand.Step n.value) ∷ []) _ (load part.Hold (operand.Step n.value) f.0)
    (keeps_one part.Hold 0 (Hold q.value) refl f.1 refl refl)
holds_keep (enter n a q) f = keeps_none part.Hold 0

-- ---- the parts
keeps_each : (p : Part) (g : Tree → List Instruction) → ((l : Tree) → FitsLine l → Keeps p 0 (g l)) → (ls : List Tree) → AllFit ls → Keeps p 0 (each g ls)
keeps_each p g h [] f = keeps_none p 0
keeps_each p g h (l ∷ ls) f = keeps-++ p 0 (g l) (each g ls) (h l f.0) (keeps_each p g h ls f.1)

whole : (p : Part) (ws : List Instruction) → Keeps p 0 ws → Sound p ws
whole p ws k = record { words = ap (sound p 0) (sym (append-nil (map word_of ws))) ∙ k.passes []; back = k.back }

pub parts_sound : (ls : List Tree) → AllFit ls → SoundParts ls
parts_sound ls f =
    record {
      clear =
          whole part.Clear (clear_part ls)
          (keeps-++ part.Clear 0 (each guard_words ls) _ (keeps_each part.Clear guard_words guards_keep ls f)
          (keeps-++ part.Clear 0 (each reset_words ls) _ (keeps_each part.Clear reset_words resets_keep ls f) (keeps_each part.Clear set_words sets_keep ls f)));
      enter = whole part.Enter (enter_part ls) (keeps_each part.Enter enter_words enters_keep ls f);
      hold = whole part.Hold (hold_part ls) (keeps_each part.Hold hold_words holds_keep ls f);
    }

-- ---- the lines of a text fit
pub text_sound : (ts : List Token) (e : ℕ) (ls : List Tree) → read_lines ts between e ≡ Ok ls → SoundParts ls
text_sound ts e ls h = parts_sound ls (each_fits AllFit tt (λ l ms f g. (f, g)) (texts_sound ts e ls h))
