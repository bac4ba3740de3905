use Rattle.std.proofs.Common.{length}
use Rattle.lines.proofs.Reading.{ListSoFar}
use Rattle.lines.proofs.parts.list.Given as goal

abbrev pub invariant-loop-after : goal.invariant-loop-after
invariant-loop-after l = ListSoFar l.until l.input l.rest

abbrev pub decreases-loop-after : goal.decreases-loop-after
decreases-loop-after l = length l.rest.tokens.now
