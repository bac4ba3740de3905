use Rattle.std.proofs.Common.{◌+◌, ◌*◌, length}
use Rattle.words.specs.Emitted.{kept_in}
use Rattle.conditions.proofs.Steps.{SoFar, TermSoFar}
use Rattle.conditions.proofs.condition.+condition_factor_primary_term.Given as goal

abbrev pub decreases-condition : goal.decreases-condition
decreases-condition l = 4 * length l.input.tokens.now + 3

abbrev pub decreases-term : goal.decreases-term
decreases-term l = 4 * length l.input.tokens.now + 2

abbrev pub decreases-factor : goal.decreases-factor
decreases-factor l = 4 * length l.input.tokens.now + 1

abbrev pub decreases-primary : goal.decreases-primary
decreases-primary l = 4 * length l.input.tokens.now

abbrev pub invariant-condition-loop-after : goal.invariant-condition-loop-after
invariant-condition-loop-after l = SoFar l.depth.brackets l.input (kept_in l.fn.out) l.rest (kept_in l.out)

abbrev pub decreases-condition-loop-after : goal.decreases-condition-loop-after
decreases-condition-loop-after l = length l.rest.tokens.now

abbrev pub invariant-term-loop-after : goal.invariant-term-loop-after
invariant-term-loop-after l = TermSoFar l.depth.brackets l.input (kept_in l.fn.out) l.rest (kept_in l.out)

abbrev pub decreases-term-loop-after : goal.decreases-term-loop-after
decreases-term-loop-after l = length l.rest.tokens.now
