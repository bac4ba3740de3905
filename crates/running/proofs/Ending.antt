-- A controller whose open scan is ended. Assumes nothing.
use Rattle.std.proofs.Common.{◌≡◌, ℕ, refl, ap, ◌∙◌}
use Rattle.plain.specs.Charts.{at}
use Rattle.controller.specs.Standing.{stage_of, standing}
use Rattle.controller.specs.Calls.{open_scan}
use Rattle.controller.specs.Closing.{closed}
use Rattle.controller.specs.declared.phase.Phase.{Phase}
use Rattle.controller.specs.declared.phase.Phase.TheVariants.{Idle, Sampled, Worked, Halted}
use Rattle.controller.specs.declared.scans.OpenScan.{OpenScan}
use Rattle.controller.specs.declared.controller.Controller.{Controller}
use Rattle.running.specs.Endings.{ended_stage, ended}

-- the stage that the end leaves, in each phase
ended_in : (c : Controller) (p : Phase) → c.phase ≡ p → stage_of (closed (open_scan p) c).phase ≡ ended_stage (stage_of p)
ended_in c Idle e = ap stage_of e
ended_in c (Sampled frame) e = refl
ended_in c (Worked frame o) e = refl
ended_in c Halted e = ap stage_of e

same_state : (c : Controller) (p : Phase) (outputs : ℕ) → standing (closed (open_scan p) c) outputs ≡ at (stage_of (closed (open_scan p) c).phase) (standing c outputs)
same_state c Idle outputs = refl
same_state c (Sampled frame) outputs = refl
same_state c (Worked frame o) outputs = refl
same_state c Halted outputs = refl

pub ended_as : (c d : Controller) (scan : OpenScan) (outputs : ℕ) → scan ≡ open_scan c.phase → d ≡ closed scan c → standing d outputs ≡ ended (standing c outputs)
ended_as c d scan outputs e f =
    ap (λ x. standing x outputs) (f ∙ ap (λ s. closed s c) e) ∙ same_state c c.phase outputs ∙ ap (λ s. at s (standing c outputs)) (ended_in c c.phase refl)
