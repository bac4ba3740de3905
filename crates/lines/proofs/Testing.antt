-- The tests of a list's steps, one token more. Assumes nothing.
use Rattle.std.proofs.Common.{◌≡◌, ℕ, ◌+◌, ◌<◌, Bool, true, false, List, [], ◌∷◌, ◌++◌, length, get_or, take, sym, refl, ap, ◌∙◌, append-nil}
use mathlib.Core.List.{map-append}
use Rattle.std.proofs.lemmas.List.{take_more}
use Rattle.text.specs.declared.token.Token.{Token}
use Rattle.words.specs.Emitted.{Kept, pushed}
use Rattle.conditions.proofs.Pushing.{pushed_append}
use Rattle.lines.specs.declared.shape.Number.{Number}
use Rattle.lines.specs.Parts.{counted, numbers_in}
use Rattle.lines.specs.Guards.{step_test, step_tests}
use Rattle.lines.proofs.Reading.{numbers_append}

abbrev pub none_yet : List Number → Bool
none_yet [] = true
none_yet (n ∷ ns) = false

pub empty_yet : (ns : List Number) (n : Number) → none_yet (ns ++ n ∷ []) ≡ false
empty_yet [] n = refl
empty_yet (m ∷ ns) n = refl

test_more : (ns : List Number) (n : Number) → step_tests (ns ++ n ∷ []) ≡ step_tests ns ++ (step_test (none_yet ns) n ∷ [])
test_more [] n = refl
test_more (m ∷ ns) n = ap (λ l. step_test true m ∷ l) (map-append (λ m. step_test false m) ns (n ∷ []))

numbers_more : (ts : List Token) (i : ℕ) (d : Token) (vs : List Number) → i < length ts → counted (get_or ts i d).place (get_or ts i d).kind ≡ vs → numbers_in (take (i + 1) ts) ≡ numbers_in (take i ts) ++ vs
numbers_more ts i d vs lt h =
    let t = get_or ts i d in
    ap numbers_in (take_more ts i d lt) ∙ numbers_append (take i ts) (t ∷ []) ∙ ap (λ l. numbers_in (take i ts) ++ l) (append-nil (counted t.place t.kind) ∙ h)

-- one token more, of which a number comes
pub test_on : (k here after : Kept) (ts : List Token) (i : ℕ) (d : Token) (n : Number) (first : Bool) → i < length ts → here ≡ pushed k (step_tests (numbers_in (take i ts))) → first ≡ none_yet (numbers_in (take i ts)) → counted (get_or ts i d).place (get_or ts i d).kind ≡ n ∷ [] → after ≡ pushed here (step_test first n ∷ []) → (after ≡ pushed k (step_tests (numbers_in (take (i + 1) ts)))) × (false ≡ none_yet (numbers_in (take (i + 1) ts)))
test_on k here after ts i d n first lt e f h a =
    let ns = numbers_in (take i ts) in
    let m = numbers_more ts i d (n ∷ []) lt h in (
      a ∙ ap (λ z. pushed z (step_test first n ∷ [])) e ∙ pushed_append k (step_tests ns) (step_test first n ∷ []) ∙ ap (λ q. pushed k (step_tests ns ++ (step_test q n ∷ []))) f ∙ ap (λ z. pushed k z) (sym (test_more ns n)) ∙ ap (λ z. pushed k (step_tests z)) (sym m),
      sym (ap none_yet m ∙ empty_yet ns n),
    )

-- one token more, of which none comes
pub test_off : (k here : Kept) (ts : List Token) (i : ℕ) (d : Token) (first : Bool) → i < length ts → here ≡ pushed k (step_tests (numbers_in (take i ts))) → first ≡ none_yet (numbers_in (take i ts)) → counted (get_or ts i d).place (get_or ts i d).kind ≡ [] → (here ≡ pushed k (step_tests (numbers_in (take (i + 1) ts)))) × (first ≡ none_yet (numbers_in (take (i + 1) ts)))
test_off k here ts i d first lt e f h =
    let m = numbers_more ts i d [] lt h ∙ append-nil (numbers_in (take i ts)) in
    (e ∙ ap (λ z. pushed k (step_tests z)) (sym m), f ∙ ap none_yet (sym m))
