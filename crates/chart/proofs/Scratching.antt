-- The words that the passes emit. Assumes nothing.
use Rattle.std.proofs.Common.{◌≡◌, ℕ, List, [], ◌∷◌, ◌++◌, Ok, Err, Result, sym, ap, ◌∙◌, subst, arith}
use Rattle.faults.specs.declared.TextFault.{TextFault}
use Rattle.words.specs.declared.instruction.Instruction.{Instruction}
use Rattle.words.specs.Emitted.{Kept, pushed}
use Rattle.conditions.specs.Readers.{Grown}
use Rattle.conditions.proofs.Pushing.{pushed_append, pushed_none}
use Rattle.lines.specs.Grammar.{Tree}
use Rattle.lines.specs.Guards.{guard_words}
use Rattle.lines.specs.Text.{put}
use Rattle.chart.specs.Scratch.{tests_of, Emits, EmitsTwice}

-- some words, and then some more
grown_more : (k l m : Kept) (ws : List Instruction) → l ≡ pushed k ws → Grown l m → Grown k m
grown_more k l m ws e g = record { more = ws ++ g.more; emitted = g.emitted ∙ ap (λ x. pushed x g.more) e ∙ pushed_append k ws g.more }

-- ---- a pass: what is left emits the rest
pub emits_none : (r : Result (List Tree) TextFault) (k after : Kept) → r ≡ Ok [] → after ≡ k → Emits r k after
emits_none (Ok []) k after e same = same ∙ sym (pushed_none k)
emits_none (Ok (t ∷ ls)) k after e same = let z : ◌≡◌ {A = ℕ} 0 1 = cc in absurd (omega arith)
emits_none (Err f) k after e same = let z : ◌≡◌ {A = ℕ} 0 1 = cc in absurd (omega arith)

emits_put : (t : Tree) (r : Result (List Tree) TextFault) (k l after : Kept) → l ≡ pushed k (guard_words t) → Emits r l after → Emits (put t r) k after
emits_put t (Ok ls) k l after e h = h ∙ ap (λ x. pushed x (tests_of ls)) e ∙ pushed_append k (guard_words t) (tests_of ls)
emits_put t (Err f) k l after e g = grown_more k l after (guard_words t) e g

pub emits_more : (t : Tree) (rest left : Result (List Tree) TextFault) (k l after : Kept) → rest ≡ put t left → l ≡ pushed k (guard_words t) → Emits left l after → Emits rest k after
emits_more t rest left k l after e f h =
    let P : Result (List Tree) TextFault → Type 0 = λ r. Emits r k after in
    subst P (sym e) (emits_put t left k l after f h)

-- ---- both passes
pub emits_both : (r : Result (List Tree) TextFault) (k l after : Kept) → Emits r k l → Emits r l after → EmitsTwice r k after
emits_both (Ok ls) k l after g h = h ∙ ap (λ x. pushed x (tests_of ls)) g ∙ pushed_append k (tests_of ls) (tests_of ls)
emits_both (Err f) k l after g h = grown_more k l after g.more g.emitted h
