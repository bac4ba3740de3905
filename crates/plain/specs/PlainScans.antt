-- Scans of the plain chart, each by sample, work and deliver. Assumes nothing.
use Rattle.std.specs.Prelude.{◌≡◌, ℕ, true, List, [], ◌∷◌, Ok}
use Rattle.lines.specs.Grammar.{Tree}
use Rattle.compile.specs.Compiled.{chart_of_text}
use Rattle.evolution.specs.Chart.{Chart, chart_of_lines}
use Rattle.verdict.specs.declared.outcome.Verdict.{Verdict}
use Rattle.plain.specs.declared.calls.Call.TheVariants.{Sample, Work, Deliver}
use Rattle.plain.specs.declared.calls.Answer.TheVariants.{Done, Found, Delivered}
use Rattle.plain.specs.Behaviours.{by_chart}
use Rattle.plain.specs.Stages.{Stage}
use Rattle.plain.specs.Charts.{Plain, begun, Answers}

-- a scan: its frame, the verdict, the frame that is delivered, and then the active steps and the stage
pub record Scan : Type 0 where
  pub frame : ℕ
  pub verdict : Verdict
  pub outputs : ℕ
  pub active : ℕ
  pub stage : Stage

abbrev pub scan : ℕ → Verdict → ℕ → ℕ → Stage → Scan
scan frame verdict outputs active stage =
    record { frame = frame; verdict = verdict; outputs = outputs; active = active; stage = stage }

-- the plain chart p, over a live image that shows the frame, makes the scan by three calls, and then is q
pub record PlainScan (c : Chart) (p : Plain) (s : Scan) (q : Plain) : Type 0 where
  pub with_frame : Plain
  pub with_verdict : Plain
  pub samples : Answers (by_chart c) Sample true s.frame p Done with_frame
  pub works : Answers (by_chart c) Work true s.frame with_frame (Found s.verdict) with_verdict
  pub delivers : Answers (by_chart c) Deliver true s.frame with_verdict (Delivered s.outputs) q
  pub outputs : q.outputs ≡ s.outputs
  pub active : q.state.active ≡ s.active
  pub stage : q.stage ≡ s.stage

-- the scans one after the other, each from the plain chart as the one before left it
abbrev pub PlainScans : Chart → Plain → List Scan → Type 0
PlainScans c p [] = Unit {0}
PlainScans c p (s ∷ ss) = (q : Plain) × (PlainScan c p s q × PlainScans c q ss)

-- a text passes the checks, and its chart makes the scans from where a plain chart begins, with all outputs off
pub record Runs (text : List ℕ) (scans : List Scan) : Type 0 where
  pub lines : List Tree
  pub passes : chart_of_text text ≡ Ok lines
  pub makes : PlainScans (chart_of_lines lines) (begun (by_chart (chart_of_lines lines)).begins 0) scans
