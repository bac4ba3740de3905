use Rattle.std.proofs.Common.{ltb, sym}
use Rattle.std.proofs.lemmas.Bool.{cond-false, le-ltb}
use Rattle.frames.specs.Bits.{mask}
use Rattle.frames.proofs.BitLaws.{shifted}
use Rattle.frames.proofs.bits.mask.Goals as goal

pub returns-then-number-lt64 : goal.returns-then-number-lt64
returns-then-number-lt64 c = shifted c.args.number c.if-number-lt64.true

pub returns-else-number-lt64 : goal.returns-else-number-lt64
unfolding mask
returns-else-number-lt64 c = sym (cond-false (ltb c.args.number 64) _ _ (le-ltb _ _ c.if-number-lt64.false))
