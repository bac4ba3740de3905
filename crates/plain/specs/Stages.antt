-- Where a scan stands, and which calls are refused then. Assumes nothing.
use Rattle.std.specs.Prelude.{ℕ, Bool, true, false, not, ◌&&◌, if◌then◌else◌, Some, None, Option}
use Rattle.faults.specs.declared.Fault.{Fault}
use Rattle.faults.specs.declared.Fault.TheVariants.{Controller, Image}
use Rattle.faults.specs.declared.ControllerFault.{ControllerFault}
use Rattle.faults.specs.declared.ControllerFault.TheVariants.{ScanOpen, Halted, WrongPhase}
use Rattle.faults.specs.declared.ImageFault.TheVariants.{NotLive}
use Rattle.verdict.specs.declared.outcome.Outcome.{Outcome}
use Rattle.plain.specs.declared.calls.Call.{Call}
use Rattle.plain.specs.declared.calls.Call.TheVariants.{Sample, Work, Deliver, Abandon, Restart, Advance}

-- no scan is open; a frame is sampled; a frame is worked, and comes to an outcome; no scan is open until a restart
pub data Stage : Type 0 where
  idle : Stage
  sampled : ℕ → Stage
  worked : ℕ → Outcome → Stage
  halted : Stage

abbrev pub is_sampled : Stage → Bool
is_sampled idle = false
is_sampled (sampled frame) = true
is_sampled (worked frame o) = false
is_sampled halted = false

abbrev pub is_worked : Stage → Bool
is_worked idle = false
is_worked (sampled frame) = false
is_worked (worked frame o) = true
is_worked halted = false

abbrev pub is_halted : Stage → Bool
is_halted idle = false
is_halted (sampled frame) = false
is_halted (worked frame o) = false
is_halted halted = true

abbrev pub scan_open : Stage → Bool
scan_open idle = false
scan_open (sampled frame) = true
scan_open (worked frame o) = true
scan_open halted = false

-- 21 while a scan is open, 22 after a halt, 23 where there is no scan to work, or none that is worked
abbrev pub out_of_turn : Call → Stage → Option ControllerFault
out_of_turn Sample s = if scan_open s then Some ScanOpen else (if is_halted s then Some Halted else None)
out_of_turn Work s = if is_sampled s then None else Some WrongPhase
out_of_turn Deliver s = if is_worked s then None else Some WrongPhase
out_of_turn Abandon s = if is_worked s then None else Some WrongPhase
out_of_turn Restart s = if scan_open s then Some ScanOpen else None
out_of_turn Advance s = None

abbrev pub wants_live_image : Call → Bool
wants_live_image Sample = true
wants_live_image Work = false
wants_live_image Deliver = true
wants_live_image Abandon = false
wants_live_image Restart = false
wants_live_image Advance = false

-- 24, of an image that is not live, comes behind 21 to 23
abbrev pub first_of : Option ControllerFault → Bool → Option Fault
first_of (Some f) dead = Some (Controller f)
first_of None dead = if dead then Some (Image NotLive) else None

-- by the phase alone
abbrev pub phase_refusal : Call → Stage → Option Fault
phase_refusal call s = first_of (out_of_turn call s) false

-- why a call is refused, if it is
abbrev pub refusal : Call → Stage → Bool → Option Fault
refusal call s live = first_of (out_of_turn call s) (wants_live_image call && not live)
