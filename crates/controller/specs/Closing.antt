-- The end of a scan that was left open. Assumes nothing.
use Rattle.std.specs.Prelude.{None, Option}
use Rattle.faults.specs.declared.Fault.{Fault}
use Rattle.plain.specs.declared.calls.Call.TheVariants as call
use Rattle.plain.specs.Stages.{Stage, phase_refusal}
use Rattle.controller.specs.declared.phase.Phase.TheVariants.{Idle}
use Rattle.controller.specs.declared.scans.OpenScan.{OpenScan}
use Rattle.controller.specs.declared.scans.OpenScan.TheVariants.{Nothing, Sampled, Worked}
use Rattle.controller.specs.declared.controller.Controller.{Controller}
use Rattle.controller.specs.Calls.{in_phase}

-- a sampled scan is worked, and then each is abandoned; why the first of these calls is refused, if it is
abbrev pub closing_refusal : OpenScan → Stage → Option Fault
closing_refusal Nothing s = None
closing_refusal (Sampled x) s = phase_refusal call.Work s
closing_refusal (Worked x) s = phase_refusal call.Abandon s

-- the controller then
abbrev pub closed : OpenScan → Controller → Controller
closed Nothing c = c
closed (Sampled x) c = in_phase Idle c
closed (Worked x) c = in_phase Idle c
