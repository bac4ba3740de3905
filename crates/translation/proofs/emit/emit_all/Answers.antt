use Rattle.std.proofs.Common.{◌+◌, [], ◌∷◌, drop, sym, ap, ◌∙◌}
use Rattle.std.proofs.lemmas.List.{at_drop_more, at_drop_all}
use Rattle.words.specs.Emitted.{kept_in, pushed}
use Rattle.conditions.proofs.Pushing.{pushed_append, pushed_none}
use Rattle.translation.proofs.emit.emit_all.Goals as goal

pub loop-instruction-preserved : goal.loop-instruction-preserved
loop-instruction-preserved c =
    let k = kept_in c.loop-instruction.out in
    let is = c.args.instructions.now in
    let i = c.loop-instruction.instruction-index in
    ap (λ j. pushed j (drop (i + 1) is)) c.push.ensures.step ∙ pushed_append k (_ ∷ []) (drop (i + 1) is)
    ∙ sym (at_drop_more (pushed k) is i _ c.loop-instruction-test.true) ∙ c.loop-instruction.invariant

pub returns : goal.returns
returns c =
    let k = kept_in c.loop-instruction.out in
    sym (pushed_none k) ∙ sym (at_drop_all (pushed k) c.args.instructions.now c.loop-instruction.instruction-index c.loop-instruction-test.false) ∙ c.loop-instruction.invariant
