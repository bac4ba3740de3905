-- What is emitted one behind the other. Assumes nothing.
use Rattle.std.proofs.Common.{◌≡◌, List, [], ◌∷◌, ◌++◌, map, sym, ap, ◌∙◌}
use Rattle.text.specs.declared.token.Token.{Token}
use Rattle.words.specs.declared.instruction.Target.TheVariants as target
use Rattle.words.specs.declared.instruction.Instruction.{Instruction}
use Rattle.words.specs.Emitted.{Kept, pushed}
use Rattle.lines.specs.declared.shape.Number.{Number}
use Rattle.lines.specs.declared.shape.Action.{Action}
use Rattle.lines.specs.Parts.{counted, numbers_in}
use Rattle.translation.specs.Translation.{switch}
use Rattle.conditions.proofs.Pushing.{pushed_append, pushed_none}

pub pushed_then : (k l : Kept) {m : Kept} (xs ys : List Instruction) → l ≡ pushed k xs → m ≡ pushed l ys → m ≡ pushed k (xs ++ ys)
pushed_then k l xs ys p q = q ∙ ap (λ j. pushed j ys) p ∙ pushed_append k xs ys

-- the switches of the steps among the tokens, behind what is kept
unfoldable pub switching : Action → Kept → List Token → Kept
switching a k ts = pushed k (map (λ s. switch a (target.Step s.value)) (numbers_in ts))

pub switching_none : (a : Action) (k : Kept) → switching a k [] ≡ k
unfolding switching
switching_none a k = pushed_none k

pub switching_skip : (a : Action) (k : Kept) (t : Token) (ts : List Token) → counted t.place t.kind ≡ [] → switching a k (t ∷ ts) ≡ switching a k ts
unfolding switching
switching_skip a k t ts e = ap (λ ns. pushed k (map (λ s. switch a (target.Step s.value)) (ns ++ numbers_in ts))) e

pub switching_more : (a : Action) (k : Kept) (t : Token) (ts : List Token) (n : Number) → counted t.place t.kind ≡ n ∷ [] → switching a k (t ∷ ts) ≡ switching a (pushed k (switch a (target.Step n.value) ∷ [])) ts
unfolding switching
switching_more a k t ts n e =
    ap (λ ns. pushed k (map (λ s. switch a (target.Step s.value)) (ns ++ numbers_in ts))) e
    ∙ sym (pushed_append k (switch a (target.Step n.value) ∷ []) (map (λ s. switch a (target.Step s.value)) (numbers_in ts)))
