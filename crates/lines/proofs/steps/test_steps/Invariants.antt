use Rattle.std.proofs.Common.{◌≡◌, take}
use Rattle.words.specs.Emitted.{kept_in, pushed}
use Rattle.lines.specs.Parts.{numbers_in}
use Rattle.lines.specs.Guards.{step_tests}
use Rattle.lines.proofs.Testing.{none_yet}
use Rattle.lines.proofs.steps.test_steps.Given as goal

abbrev pub invariant-loop-t : goal.invariant-loop-t
invariant-loop-t l = (kept_in l.out ≡ pushed (kept_in l.initial.out) (step_tests (numbers_in (take l.t-index l.list)))) × (l.first ≡ none_yet (numbers_in (take l.t-index l.list)))
