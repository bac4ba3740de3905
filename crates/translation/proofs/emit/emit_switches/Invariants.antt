use Rattle.std.proofs.Common.{◌≡◌, drop}
use Rattle.words.specs.Emitted.{kept_in}
use Rattle.translation.proofs.Emitting.{switching}
use Rattle.translation.proofs.emit.emit_switches.Given as goal

-- what is left, behind what is emitted, gives the whole
abbrev pub invariant-loop-token : goal.invariant-loop-token
invariant-loop-token l = switching l.action (kept_in l.out) (drop l.token-index l.steps) ≡ switching l.action (kept_in l.initial.out) l.steps
