-- What a caller learns of a scan. Assumes nothing.
use Rattle.std.specs.Prelude.{◌≡◌, ℕ}
use Rattle.image.specs.Meaning.{Touch, sampling, delivering}
use Rattle.verdict.specs.declared.outcome.Outcome.{Outcome}
use Rattle.verdict.specs.declared.outcome.Verdict.{Verdict}
use Rattle.plain.specs.Behaviours.{Behaviour}
use Rattle.plain.specs.Charts.{ComesTo, delivered_frame}
use Rattle.controller.specs.declared.phase.Phase.TheVariants.{Worked}
use Rattle.controller.specs.declared.controller.Controller.{Controller}
use Rattle.controller.specs.Calls.{in_phase, landed}
use Rattle.controller.specs.Resting.{AtRest}

-- from the state and the previous frame of a controller, this frame comes to this verdict
abbrev pub FoundBy : Behaviour → Controller → ℕ → Verdict → Type 0
FoundBy b c frame v = (o : Outcome) × (ComesTo b c.state c.previous frame o × (v ≡ o.verdict))

-- and the scan is open: the controller c becomes d
pub record Opened (b : Behaviour) (c : Controller) (frame : ℕ) (v : Verdict) (d : Controller) : Type 0 where
  pub outcome : Outcome
  pub comes : ComesTo b c.state c.previous frame outcome
  pub verdict : v ≡ outcome.verdict
  pub controller : d ≡ in_phase (Worked frame outcome) c

-- and the scan is delivered: the controller c becomes d, and these are the outputs then
pub record Cycled (b : Behaviour) (c : Controller) (frame : ℕ) (v : Verdict) (d : Controller) (outputs : ℕ) : Type 0 where
  pub outcome : Outcome
  pub comes : ComesTo b c.state c.previous frame outcome
  pub verdict : v ≡ outcome.verdict
  pub controller : d ≡ landed outcome.verdict outcome.state frame c
  pub shown : outputs ≡ delivered_frame b frame outcome
  pub rest : AtRest b d frame outputs

-- by its own rule an image is sampled, and then takes these outputs
abbrev pub Answering : {I : Type 0} → (I → Touch → I → Type 0) → ℕ → I → I → Type 0
Answering {I} becomes outputs i j = (k : I) × (becomes i sampling k × becomes k (delivering outputs) j)
