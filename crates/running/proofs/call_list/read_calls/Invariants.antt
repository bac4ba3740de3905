use Rattle.std.proofs.Common.{◌≡◌, ◌++◌, map, length}
use Rattle.plain.specs.Shown.{call_word}
use Rattle.running.specs.CallLists.{lines_of}
use Rattle.running.proofs.call_list.read_calls.Given as goal

abbrev pub invariant-loop-rest : goal.invariant-loop-rest
invariant-loop-rest l = lines_of l.text ≡ map call_word l.calls.items ++ lines_of l.rest

abbrev pub decreases-loop-rest : goal.decreases-loop-rest
decreases-loop-rest l = length l.rest
