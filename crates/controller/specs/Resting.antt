-- What a delivery leaves. Assumes nothing.
use Rattle.std.specs.Prelude.{◌≡◌, ℕ, true}
use Rattle.evolution.specs.declared.state.State.{State}
use Rattle.plain.specs.Behaviours.{Behaviour}
use Rattle.controller.specs.declared.phase.Phase.{Phase}
use Rattle.controller.specs.declared.phase.Phase.TheVariants.{Idle, Sampled, Worked, Halted}
use Rattle.controller.specs.declared.controller.Controller.{Controller}

-- the outputs are those of a state that is stable under the frame, and the controller rests in it; or it is halted, and they
-- are all off
abbrev pub RestsIn : Behaviour → Phase → State → ℕ → ℕ → Type 0
RestsIn b Idle s frame outputs = ((b.rules frame).stable s ≡ true) × (outputs ≡ b.shows frame s)
RestsIn b (Sampled sampled) s frame outputs = ⊥
RestsIn b (Worked worked o) s frame outputs = ⊥
RestsIn b Halted s frame outputs = outputs ≡ 0

abbrev pub AtRest : Behaviour → Controller → ℕ → ℕ → Type 0
AtRest b c frame outputs = RestsIn b c.phase c.state frame outputs

-- so the controller d is left by the delivery of the scan that was worked in this phase
abbrev pub LeftAtRest : Behaviour → Phase → Controller → ℕ → Type 0
LeftAtRest b Idle d outputs = ⊥
LeftAtRest b (Sampled frame) d outputs = ⊥
LeftAtRest b (Worked frame o) d outputs = AtRest b d frame outputs
LeftAtRest b Halted d outputs = ⊥
