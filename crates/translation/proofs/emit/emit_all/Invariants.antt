use Rattle.std.proofs.Common.{◌≡◌, drop}
use Rattle.words.specs.Emitted.{kept_in, pushed}
use Rattle.translation.proofs.emit.emit_all.Given as goal

-- what is left, behind what is emitted, gives the whole
abbrev pub invariant-loop-instruction : goal.invariant-loop-instruction
invariant-loop-instruction l = pushed (kept_in l.out) (drop l.instruction-index l.instructions) ≡ pushed (kept_in l.initial.out) l.instructions
