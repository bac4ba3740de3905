-- A draft of the lines of a text, one behind the other. Assumes nothing.
use Rattle.std.proofs.Common.{◌≡◌, ℕ, List, [], ◌∷◌, ◌++◌, Ok, Err, Result, sym, refl, ap, ◌∙◌, arith}
use Rattle.std.proofs.lemmas.List.{append-nil, append_assoc}
use Rattle.words.specs.declared.instruction.Instruction.{Instruction}
use Rattle.words.specs.Emitted.{Kept, nothing, pushed, joined}
use Rattle.words.proofs.Emitting.{pushed_joined}
use Rattle.conditions.proofs.Pushing.{pushed_append, pushed_none}
use Rattle.faults.specs.declared.TextFault.{TextFault}
use Rattle.lines.specs.Grammar.{Tree}
use Rattle.lines.specs.Guards.{guard_words}
use Rattle.translation.specs.declared.draft.Draft.{Draft}
use Rattle.translation.specs.Translation.{each, reset_words, set_words, enter_words, hold_words}
use Rattle.translation.specs.Drafts.{Sketch, sketch_of, blank, started, started_all, noted, closed, read_all, Reads, Drafted, Translated}
use Rattle.translation.proofs.Noting.{same_sketch}
use Rattle.translation.proofs.Starting.{started_frame}

each_more : (f : Tree → List Instruction) (ls : List Tree) (l : Tree) → each f (ls ++ l ∷ []) ≡ each f ls ++ f l
each_more f [] l = append-nil (f l)
each_more f (m ∷ ls) l = ap (λ ws. f m ++ ws) (each_more f ls l) ∙ sym (append_assoc (f m) (each f ls) (f l))

started_more : (x : ℕ) (ls : List Tree) (l : Tree) → started_all x (ls ++ l ∷ []) ≡ started (started_all x ls) l
started_more x [] l = refl
started_more x (m ∷ ls) l = started_more (started x m) ls l

pushed_more : (k : Kept) (f : Tree → List Instruction) (ls : List Tree) (l : Tree) → pushed (pushed k (each f ls)) (f l) ≡ pushed k (each f (ls ++ l ∷ []))
pushed_more k f ls l = pushed_append k (each f ls) (f l) ∙ ap (pushed k) (sym (each_more f ls l))

-- the draft with the tests of a line's transition
abbrev pub tested : Sketch → Kept → Sketch
tested d k = record { initial = d.initial; clear = k; resets = d.resets; sets = d.sets; enter = d.enter; hold = d.hold }

read_one : (d : Sketch) (ls : List Tree) (l : Tree) → noted (tested (read_all d ls) (pushed (read_all d ls).clear (guard_words l))) l ≡ read_all d (ls ++ l ∷ [])
read_one d ls l =
    same_sketch (sym (started_more d.initial ls l)) (pushed_more d.clear guard_words ls l) (pushed_more d.resets reset_words ls l) (pushed_more d.sets set_words ls l) (pushed_more d.enter enter_words ls l)
    (pushed_more d.hold hold_words ls l)

pub read_none : (d : Sketch) → d ≡ read_all d []
read_none d =
    same_sketch refl (sym (pushed_none d.clear)) (sym (pushed_none d.resets)) (sym (pushed_none d.sets)) (sym (pushed_none d.enter)) (sym (pushed_none d.hold))

-- a line more: its tests are emitted, and it is noted
pub read_more : (d here after : Sketch) (k : Kept) (ls : List Tree) (l : Tree) → here ≡ read_all d ls → k ≡ pushed here.clear (guard_words l) → after ≡ noted (tested here k) l → after ≡ read_all d (ls ++ l ∷ [])
read_more d here after k ls l p q r =
    r ∙ ap (λ m. noted (tested here m) l) q ∙ ap (λ x. noted (tested x (pushed x.clear (guard_words l))) l) p ∙ read_one d ls l

-- ---- a whole text
joined_parts : (xs ys zs : List Instruction) → joined (joined (pushed nothing xs) (pushed nothing ys)) (pushed nothing zs) ≡ pushed nothing (xs ++ (ys ++ zs))
joined_parts xs ys zs = ap (λ k. joined k (pushed nothing zs)) (pushed_joined xs ys) ∙ pushed_joined (xs ++ ys) zs ∙ ap (pushed nothing) (append_assoc xs ys zs)

drafted : (ls : List Tree) (draft : Draft) → sketch_of draft ≡ closed (read_all blank ls) → Drafted ls draft
drafted ls draft e =
    record {
      initial = ap (λ d. d.initial) e ∙ started_frame ls;
      clear = ap (λ d. d.clear) e ∙ joined_parts (each guard_words ls) (each reset_words ls) (each set_words ls);
      enter = ap (λ d. d.enter) e;
      hold = ap (λ d. d.hold) e;
    }

-- a blank draft takes the lines and is closed
pub translated : (x : Result (List Tree) TextFault) (start d : Sketch) (draft : Draft) → start ≡ blank → Reads x start d (Ok tt) → sketch_of draft ≡ closed d → Translated x draft (Ok tt)
translated (Ok ls) start d draft b r e = (refl, drafted ls draft (e ∙ ap closed (r.1 ∙ ap (λ s. read_all s ls) b)))
translated (Err f) start d draft b r e = r

-- a fault is answered as it was found
pub not_translated : (x : Result (List Tree) TextFault) (d e : Sketch) (draft : Draft) (f : TextFault) (r : Result (Unit {0}) TextFault) → Reads x d e (Err f) → r ≡ Err f → Translated x draft r
not_translated (Ok ls) d e draft f r h p = let z : ◌≡◌ {A = ℕ} 0 1 = cc in absurd (omega arith)
not_translated (Err g) d e draft f r h p = p ∙ h
