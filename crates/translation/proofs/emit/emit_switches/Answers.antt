use Rattle.std.proofs.Common.{◌≡◌, ℕ, ◌+◌, ◌<◌, List, [], ◌∷◌, length, get_or, drop, sym, ap, ◌∙◌}
use Rattle.std.proofs.lemmas.List.{at_drop_more, at_drop_all}
use Rattle.text.specs.declared.token.Token.{Token}
use Rattle.words.specs.declared.instruction.Operand.TheVariants as operand
use Rattle.words.specs.declared.instruction.Target.TheVariants as target
use Rattle.words.specs.declared.instruction.Instruction.{Instruction}
use Rattle.words.specs.declared.instruction.Instruction.TheVariants.{Load}
use Rattle.words.specs.Emitted.{Kept, kept_in, pushed}
use Rattle.lines.specs.declared.shape.Number.{Number}
use Rattle.lines.specs.declared.shape.Action.{Action}
use Rattle.lines.specs.Parts.{counted}
use Rattle.translation.specs.Translation.{switch}
use Rattle.translation.proofs.Emitting.{pushed_then, switching, switching_none, switching_skip, switching_more}
use Rattle.translation.proofs.emit.emit_switches.Goals as goal
use Rattle.translation.proofs.emit.emit_switches.Goals.{in-Some, in_default}

-- a token that is no number
skips : (a : Action) (k l m : Kept) (ts : List Token) (i : ℕ) (t : Token) → i < length ts → counted (get_or ts i t).place (get_or ts i t).kind ≡ [] → l ≡ k → switching a k (drop i ts) ≡ m → switching a l (drop (i + 1) ts) ≡ m
skips a k l m ts i t h e g inv = ap (λ j. switching a j (drop (i + 1) ts)) g ∙ sym (switching_skip a k (get_or ts i t) (drop (i + 1) ts) e) ∙ sym (at_drop_more (switching a k) ts i t h) ∙ inv

-- a token that is a number, whose word is pushed
takes : (a : Action) (k l m : Kept) (ts : List Token) (i : ℕ) (t : Token) (n : Number) (x : Instruction) → i < length ts → counted (get_or ts i t).place (get_or ts i t).kind ≡ n ∷ [] → x ≡ switch a (target.Step n.value) → l ≡ pushed k (x ∷ []) → switching a k (drop i ts) ≡ m → switching a l (drop (i + 1) ts) ≡ m
takes a k l m ts i t n x h e f g inv =
    ap (λ j. switching a j (drop (i + 1) ts)) (g ∙ ap (λ y. pushed k (y ∷ [])) f)
    ∙ sym (switching_more a k (get_or ts i t) (drop (i + 1) ts) n e) ∙ sym (at_drop_more (switching a k) ts i t h) ∙ inv

pub loop-token-preserved : goal.loop-token-preserved
loop-token-preserved c =
    let a = c.args.action in
    let k = kept_in c.loop-token.out in
    let l = kept_in c.match-number_of.out in
    let ts = c.args.steps.now in
    let i = c.loop-token.token-index in
    elim c.match-number_of.branch [
      | in-Some w ↦ takes a k l _ ts i _ w.in-Some.step w.switch.result c.loop-token-test.true w.in-Some.ensures w.switch.ensures (ap kept_in w.out-is ∙ w.push-in-Some.ensures.step) c.loop-token.invariant
      | in_default w ↦ skips a k l _ ts i _ c.loop-token-test.true w.in_default.ensures (ap kept_in w.out-is) c.loop-token.invariant
    ]

pub returns : goal.returns
unfolding switching
returns c =
    let ts = c.args.steps.now in
    let i = c.loop-token.token-index in
    let a = c.args.action in
    sym (switching_none a (kept_in c.loop-token.out)) ∙ sym (at_drop_all (switching a (kept_in c.loop-token.out)) ts i c.loop-token-test.false) ∙ pushed_then _ _ (Load (operand.Cleared c.args.transition) ∷ []) _ (c.push.ensures.step ∙ ap (λ i. pushed (kept_in c.args.out.now) (i ∷ [])) c.load_cleared.ensures) c.loop-token.invariant
