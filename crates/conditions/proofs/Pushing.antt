-- Words that are emitted in two parts. Assumes nothing.
use Rattle.std.proofs.Common.{◌≡◌, List, [], ◌∷◌, ◌++◌, refl, sym, ap, ◌∙◌}
use Rattle.words.specs.declared.instruction.Instruction.{Instruction}
use Rattle.words.specs.Emitted.{Kept, push, pushed}
use Rattle.words.specs.Words.{word_of}
use Rattle.conditions.specs.Readers.{Grown}

pub pushed_append : (k : Kept) (xs ys : List Instruction) → pushed (pushed k xs) ys ≡ pushed k (xs ++ ys)
unfolding pushed
pushed_append k [] ys = refl
pushed_append k (x ∷ xs) ys = pushed_append (push k (word_of x)) xs ys

pub pushed_none : (k : Kept) → pushed k [] ≡ k
unfolding pushed
pushed_none k = refl

-- no words stand behind those of before
pub grown_none : (k : Kept) → Grown k k
grown_none k = record { more = []; emitted = sym (pushed_none k) }

-- one word behind others, and then some
pub grown_on : {k l m n : Kept} (is : List Instruction) (i : Instruction) → l ≡ pushed k is → m ≡ pushed l (i ∷ []) → Grown m n → Grown k n
grown_on {k} is i a b c = record { more = (is ++ i ∷ []) ++ c.more; emitted = c.emitted ∙ ap (λ x. pushed x c.more) (b ∙ ap (λ x. pushed x (i ∷ [])) a ∙ pushed_append k is (i ∷ [])) ∙ pushed_append k (is ++ i ∷ []) c.more }
