use Rattle.std.proofs.Common.{◌≡◌, ◌+◌, ◌*◌, ◌≤◌, ◌++◌, length}
use Rattle.codefile.specs.File.{words_of}
use Rattle.codefile.proofs.load.fill.Given as goal

-- the words that are read, and those of the bytes that are left
abbrev pub invariant-loop-left : goal.invariant-loop-left
invariant-loop-left g l = (l.words ++ words_of l.left ≡ words_of l.bytes) × (length l.left + 4 * length l.words ≤ length l.bytes)

abbrev pub decreases-loop-left : goal.decreases-loop-left
decreases-loop-left g l = length l.left
