-- A controller, and the plain chart that it stands for. Assumes nothing.
use Rattle.std.specs.Prelude.{◌≡◌, ℕ, None}
use Rattle.codefile.specs.Loads.{code_in, no_code}
use Rattle.plain.specs.Stages.{Stage, idle, sampled, worked, halted}
use Rattle.plain.specs.Charts.{Plain}
use Rattle.controller.specs.declared.phase.Phase.{Phase}
use Rattle.controller.specs.declared.phase.Phase.TheVariants.{Idle, Sampled, Worked, Halted}
use Rattle.controller.specs.declared.controller.Controller.{Controller}

abbrev pub stage_of : Phase → Stage
stage_of Idle = idle
stage_of (Sampled frame) = sampled frame
stage_of (Worked frame o) = worked frame o
stage_of Halted = halted

-- with the outputs at its image
abbrev pub standing : Controller → ℕ → Plain
standing c outputs = record { stage = stage_of c.phase; state = c.state; previous = c.previous; outputs = outputs }

abbrev pub phase_at : Stage → Phase
phase_at idle = Idle
phase_at (sampled frame) = Sampled frame
phase_at (worked frame o) = Worked frame o
phase_at halted = Halted

-- with this program, the controller that stands for a plain chart
abbrev pub placed : Plain → Controller → Controller
placed p c = record { program = c.program; state = p.state; previous = p.previous; phase = phase_at p.stage }

-- idle, with an empty program
pub record Fresh (c : Controller) : Type 0 where
  pub program : code_in c.program ≡ no_code
  pub state : c.state ≡ record { active = 0; stored = 0 }
  pub previous : c.previous ≡ None
  pub phase : c.phase ≡ Idle
