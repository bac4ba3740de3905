-- What a controller holds, and what is true of every one. Assumes nothing.
use Rattle.std.specs.Prelude.{ℕ, Option}
use Rattle.codefile.specs.declared.program.Program.{Program}
use Rattle.evolution.specs.declared.state.State.{State}
use Rattle.plain.specs.Behaviours.{by_words}
use Rattle.plain.specs.Charts.{ComesTo}
use Rattle.controller.specs.declared.phase.Phase.{Phase}
use Rattle.controller.specs.declared.phase.Phase.TheVariants.{Idle, Sampled, Worked, Halted}

pub record Parts : Type 0 where
  pub program : Program
  pub state : State
  pub previous : Option ℕ
  pub phase : Phase

-- the outcome that a worked phase keeps is what its frame comes to, from the state and the previous frame
abbrev pub OutcomeHolds : Program → State → Option ℕ → Phase → Type 0
OutcomeHolds p s previous Idle = Unit {0}
OutcomeHolds p s previous (Sampled frame) = Unit {0}
OutcomeHolds p s previous (Worked frame o) = ComesTo (by_words p) s previous frame o
OutcomeHolds p s previous Halted = Unit {0}
