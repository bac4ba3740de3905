use Rattle.frames.specs.Bits.{bit}
use Rattle.frames.proofs.bits.is_on.Goals as goal

pub returns-then-number-lt64 : goal.returns-then-number-lt64
unfolding bit
returns-then-number-lt64 c = c.is_odd.ensures
