use Rattle.std.proofs.Common.{◌≡◌, ◌+◌, ◌-◌, ◌≤◌, length}
use Rattle.codefile.specs.Parts.{scanned}
use Rattle.codefile.specs.File.{words_of}
use Rattle.codefile.proofs.parts.scan.Given as goal

-- a scan of the words that are left, from here on, gives that of all
abbrev pub invariant-loop-left : goal.invariant-loop-left
invariant-loop-left l =
    (length l.left ≤ length l.bytes) ×
    (scanned l.part (l.start + (length l.bytes - length l.left)) l.owed l.depth (words_of l.left) ≡ scanned l.part l.start l.open_before 0 (words_of l.bytes))

abbrev pub decreases-loop-left : goal.decreases-loop-left
decreases-loop-left l = length l.left
