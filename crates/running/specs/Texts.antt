-- The chart of a text, and why a text is not run. Assumes nothing.
use Rattle.std.specs.Prelude.{◌≡◌, ◌≢◌, ℕ, List, if◌then◌else◌, Some, None, Option, Ok, Err, Result}
use Rattle.faults.specs.declared.Fault.{Fault}
use Rattle.faults.specs.declared.Fault.TheVariants.{Code, Controller as OfController}
use Rattle.faults.specs.declared.CodeFault.{CodeFault}
use Rattle.faults.specs.declared.CodeFault.TheVariants.{BufferTooShort}
use Rattle.faults.specs.declared.ControllerFault.TheVariants.{ScanOpen}
use Rattle.lines.specs.Grammar.{Tree}
use Rattle.compile.specs.Compiled.{chart_of_text, compiled}
use Rattle.compile.specs.Laws.{ProgramOf}
use Rattle.evolution.specs.Chart.{Chart, chart_of_lines}
use Rattle.plain.specs.Behaviours.{by_chart}
use Rattle.plain.specs.Stages.{Stage, scan_open}
use Rattle.controller.specs.declared.controller.Controller.{Controller}
use Rattle.controller.specs.declared.phase.Phase.TheVariants.{Idle}

-- the text is accepted, and the chart is that of its lines
pub record ChartOf (text : List ℕ) (c : Chart) : Type 0 where
  pub lines : List Tree
  pub passes : chart_of_text text ≡ Ok lines
  pub chart : c ≡ chart_of_lines lines

-- a controller that has the program of the text, and is where that begins
pub record BeginsWith (text : List ℕ) (c : Controller) : Type 0 where
  pub program : ProgramOf text c.program
  pub phase : c.phase ≡ Idle
  pub previous : c.previous ≡ None
  pub state : (a : Chart) → ChartOf text a → c.state ≡ (by_chart a).begins

-- the text's own fault goes before that of an open scan
abbrev pub refusal_of : Result (List ℕ) CodeFault → Stage → Option Fault
refusal_of (Ok file) s = if scan_open s then Some (OfController ScanOpen) else None
refusal_of (Err f) s = Some (Code f)

-- why a text is not loaded by way of a buffer of this length, where the controller is at this stage
abbrev pub text_refusal : List ℕ → ℕ → Stage → Option Fault
text_refusal text room s = refusal_of (compiled text room) s

-- the fault is another than a buffer too short for the code file
abbrev pub NotTooShort : Fault → Type 0
NotTooShort f = (needed : ℕ) → f ≢ Code (BufferTooShort needed)
