use Rattle.verdict.proofs.Settling.{Known}
use Rattle.verdict.proofs.scan.settle.Given as goal

-- the loop has come past s(1) to s(n), and the current state is s(n + 1)
abbrev pub invariant-loop-n : goal.invariant-loop-n
invariant-loop-n l = Known l.program l.inputs l.fn.edges l.state l.n l.current l.states
