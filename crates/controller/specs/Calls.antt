-- What each call answers, and what the controller then is. Assumes nothing.
use Rattle.std.specs.Prelude.{◌≡◌, ℕ, List, if◌then◌else◌, Some, None, Option, Ok, Err, Result, OnOk}
use Rattle.faults.specs.declared.Fault.{Fault}
use Rattle.faults.specs.declared.Fault.TheVariants.{Controller as OfController, File}
use Rattle.faults.specs.declared.FileFault.{FileFault}
use Rattle.faults.specs.declared.ControllerFault.{ControllerFault}
use Rattle.faults.specs.declared.ControllerFault.TheVariants.{ScanOpen}
use Rattle.codefile.specs.File.{code_of}
use Rattle.codefile.specs.Loads.{code_in}
use Rattle.compile.specs.Laws.{ProgramOf}
use Rattle.evolution.specs.declared.state.State.{State}
use Rattle.verdict.specs.declared.outcome.Outcome.{Outcome}
use Rattle.verdict.specs.declared.outcome.Verdict.{Verdict}
use Rattle.plain.specs.declared.calls.Call.{Call}
use Rattle.plain.specs.declared.calls.Call.TheVariants as call
use Rattle.plain.specs.Behaviours.{Behaviour}
use Rattle.plain.specs.Stages.{Stage, scan_open}
use Rattle.plain.specs.Charts.{ComesTo, delivered_frame, begun}
use Rattle.plain.specs.Charts as plain
use Rattle.controller.specs.declared.phase.Phase.{Phase}
use Rattle.controller.specs.declared.phase.Phase.TheVariants.{Idle, Sampled, Worked, Halted}
use Rattle.controller.specs.declared.phase.Request.{Request}
use Rattle.controller.specs.declared.phase.Request.TheVariants as request
use Rattle.controller.specs.declared.phase.Turn.{Turn}
use Rattle.controller.specs.declared.phase.Turn.TheVariants as turn
use Rattle.controller.specs.declared.controller.Controller.{Controller}
use Rattle.controller.specs.Standing.{standing, placed}
use Rattle.controller.specs.declared.scans.Held.{Held}
use Rattle.controller.specs.declared.scans.OpenScan.{OpenScan}
use Rattle.controller.specs.declared.scans.OpenScan.TheVariants as scan

-- ---- refusals
-- why a call was refused, if it was
abbrev pub fault_of : {A : Type 0} → Result A Fault → Option Fault
fault_of (Ok x) = None
fault_of (Err f) = Some f

abbrev pub held_fault : {A T : Type 0} → Result A (Held T) → Option Fault
held_fault (Ok x) = None
held_fault (Err h) = Some h.fault

-- a load is refused by the phase, and then by the file
abbrev pub file_fault : {A : Type 0} → Result A FileFault → Option Fault
file_fault (Ok x) = None
file_fault (Err f) = Some (File f)

abbrev pub load_refusal : Stage → List ℕ → Option Fault
load_refusal s bytes = if scan_open s then Some (OfController ScanOpen) else file_fault (code_of bytes)

abbrev pub turn_fault : {A : Type 0} → Result A ControllerFault → Option ControllerFault
turn_fault (Ok x) = None
turn_fault (Err f) = Some f

-- ---- requests
-- the call that a request is judged as: a load by the phase is judged as a restart
abbrev pub judged_as : Request → Call
judged_as request.Load = call.Restart
judged_as request.Sample = call.Sample
judged_as request.Work = call.Work
judged_as request.Deliver = call.Deliver
judged_as request.Abandon = call.Abandon
judged_as request.Restart = call.Restart

-- a load, an abandonment and a restart lead to idle
abbrev pub LeadsToIdle : Request → Type 0
LeadsToIdle request.Load = Unit {0}
LeadsToIdle request.Sample = ⊥
LeadsToIdle request.Work = ⊥
LeadsToIdle request.Deliver = ⊥
LeadsToIdle request.Abandon = Unit {0}
LeadsToIdle request.Restart = Unit {0}

-- ---- the controller after a call
-- another phase, and all else as it was
abbrev pub in_phase : Phase → Controller → Controller
in_phase phase c = record { program = c.program; state = c.state; previous = c.previous; phase = phase }

-- idle in this state, before any frame
abbrev pub begun_from : State → Controller → Controller
begun_from s c = placed (begun s 0) c

-- the open frame is worked: the phase keeps it, with what it comes to
abbrev pub WorkedAs : Behaviour → Phase → Controller → Verdict → Controller → Type 0
WorkedAs b Idle c v d = ⊥
WorkedAs b (Sampled frame) c v d =
    (o : Outcome) × (ComesTo b c.state c.previous frame o × (v ≡ o.verdict) × (d ≡ in_phase (Worked frame o) c))
WorkedAs b (Worked frame o) c v d = ⊥
WorkedAs b Halted c v d = ⊥

-- the frame that a delivery brings
abbrev pub due : Behaviour → Phase → ℕ
due b Idle = 0
due b (Sampled frame) = 0
due b (Worked frame o) = delivered_frame b frame o
due b Halted = 0

-- what a delivery leaves, by what it leaves of the plain chart
abbrev pub landed : Verdict → State → ℕ → Controller → Controller
landed v s frame c = placed (plain.landed v s frame 0 (standing c 0)) c

abbrev pub delivered : Phase → Controller → Controller
delivered Idle c = c
delivered (Sampled frame) c = c
delivered (Worked frame o) c = landed o.verdict o.state frame c
delivered Halted c = c

-- ---- what a request in turn goes on with
abbrev pub GoesOn : Turn → Request → Controller → Type 0
GoesOn turn.Sample r c = (r ≡ request.Sample) × (c.phase ≡ Idle)
GoesOn (turn.Work frame) r c = (r ≡ request.Work) × (c.phase ≡ Sampled frame)
GoesOn (turn.Deliver frame o next) r c =
    (r ≡ request.Deliver) × (c.phase ≡ Worked frame o) × (next ≡ (landed o.verdict o.state frame c).phase)
GoesOn (turn.Enter next) r c = LeadsToIdle r × (next ≡ Idle)

-- a file is loaded, and the controller restarted
pub record Loaded (bytes : List ℕ) (c : Controller) : Type 0 where
  pub program : code_of bytes ≡ Ok (code_in c.program)
  pub previous : c.previous ≡ None
  pub phase : c.phase ≡ Idle

-- the file of a text is refused with 21 alone; accepted, the controller has the program of the text
pub record LoadsText {A : Type 0} (text : List ℕ) (s : Stage) (r : Result A Fault) (c : Controller) : Type 0 where
  pub refusal : fault_of r ≡ (if scan_open s then Some (OfController ScanOpen) else None)
  pub program : OnOk r (ProgramOf text c.program)

-- ---- the scan that is open
abbrev pub open_scan : Phase → OpenScan
open_scan Idle = scan.Nothing
open_scan (Sampled frame) = scan.Sampled (record { frame = frame })
open_scan (Worked frame o) = scan.Worked (record { frame = frame })
open_scan Halted = scan.Nothing
