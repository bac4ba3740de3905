-- A campaign of a controller that has just been loaded. Assumes nothing.
use Rattle.std.proofs.Common.{◌≡◌, not, Ok, Err, Result, is_ok, None, OnErr, refl, ap, ◌∙◌}
use Rattle.faults.specs.declared.Fault.{Fault}
use Rattle.plain.specs.Stages.{scan_open}
use Rattle.controller.specs.declared.phase.Phase.{Phase}
use Rattle.controller.specs.declared.phase.Phase.TheVariants.{Idle}
use Rattle.controller.specs.Standing.{stage_of}
use Rattle.controller.specs.Calls.{fault_of}

-- it is accepted
pub record Accepted {A : Type 0} (r : Result A Fault) : Type 1 where
  pub fault : fault_of r ≡ None
  pub refused : (P : Type 0) → OnErr r P

pub accepted : {A : Type 0} (r : Result A Fault) (p : Phase) → is_ok r ≡ not (scan_open (stage_of p)) → p ≡ Idle → Accepted r
accepted (Ok x) p e h = record { fault = refl; refused = λ P. tt }
accepted (Err f) p e h = let z = e ∙ ap (λ p. not (scan_open (stage_of p))) h in cc
