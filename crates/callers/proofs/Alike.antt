-- A controller is what its plain chart is. Assumes nothing.
use Rattle.std.proofs.Common.{◌≡◌, ℕ, refl, ap}
use Rattle.controller.specs.Standing.{stage_of, standing}
use Rattle.controller.specs.declared.phase.Phase.{Phase}
use Rattle.controller.specs.declared.phase.Phase.TheVariants.{Idle, Sampled, Worked, Halted}
use Rattle.controller.specs.declared.controller.Controller.{Controller}

same_phase : (p q : Phase) → stage_of p ≡ stage_of q → p ≡ q
same_phase Idle Idle e = refl
same_phase (Sampled frame) (Sampled other) e = cc
same_phase (Worked frame o) (Worked other r) e = cc
same_phase Halted Halted e = refl
same_phase p q e = cc

-- the program aside
pub same_controller : (c d : Controller) (x y : ℕ) → c.program ≡ d.program → standing c x ≡ standing d y → c ≡ d
same_controller c d x y p h =
    let phase = same_phase c.phase d.phase (ap (λ q. q.stage) h) in
    λ t. record { program = p t; state = (h t).state; previous = (h t).previous; phase = phase t }
