-- Worked examples: chart texts, and by the definitions alone how they are cut, what they are compiled to, and how their
-- charts run. Assumes nothing.
use Rattle.std.specs.Prelude.{◌≡◌, ℕ, ◌<◌, ◌≤◌, List, [], ◌∷◌, ◌++◌, Ok, Err, codes, Result}
use Rattle.faults.specs.declared.TextFault.TheVariants.{NumberTooLarge}
use Rattle.faults.specs.declared.ChartFault.{ChartFault}
use Rattle.faults.specs.declared.ChartFault.TheVariants.{Text, NoInitialStep}
use Rattle.faults.specs.declared.CodeFault.{CodeFault}
use Rattle.faults.specs.declared.CodeFault.TheVariants.{Chart, BufferTooShort}
use Rattle.codefile.specs.declared.directory.Directory.{Directory}
use Rattle.codefile.specs.File.{directory_of}
use Rattle.codefile.specs.Written.{section_at}
use Rattle.compile.specs.Compiled.{compiled}
use Rattle.verdict.specs.declared.outcome.Verdict.TheVariants.{Stable, Circling}
use Rattle.plain.specs.Lexings.{Lexings}
use Rattle.plain.specs.PlainScans.{scan, Runs}
use Rattle.plain.specs.Stages.{idle, halted}

-- ---- texts
-- lines, one below the other
abbrev pub lined : List (List ℕ) → List ℕ
lined [] = []
lined (l ∷ ls) = l ++ (10 ∷ lined ls)

abbrev pub two_step_chart : List ℕ
two_step_chart =
    lined (
    codes "step 0 initial" ∷ codes "step 1" ∷ codes "trans 0 from 0 to 1 when /I0" ∷ codes "trans 1 from 1 to 0 when I1" ∷
    codes "hold 1 Q0" ∷ codes "enter 1 set Q1" ∷ []
    )

-- one step that is followed by itself
abbrev pub one_step_chart : List ℕ
one_step_chart = lined (codes "step 0 initial" ∷ codes "trans 0 from 0 to 0 when 1" ∷ [])

-- two steps that follow each other whatever the inputs
abbrev pub in_turn_chart : List ℕ
in_turn_chart =
    lined (
    codes "step 0 initial" ∷ codes "step 1" ∷ codes "trans 0 from 0 to 1 when 1" ∷
    codes "trans 1 from 1 to 0 when 1" ∷ []
    )

-- two transitions that a rise clears together, of which the one activates the step that the other deactivates
abbrev pub one_rise_chart : List ℕ
one_rise_chart =
    lined (
    codes "step 0 initial" ∷ codes "step 1 initial" ∷ codes "step 2" ∷ codes "trans 0 from 0 to 1 when /I0" ∷
    codes "trans 1 from 1 to 2 when /I0" ∷ []
    )

-- ---- what they are compiled to
-- the text is refused with the fault, whatever the buffer's length
abbrev pub Refuses : List ℕ → ChartFault → Type 0
Refuses text f = (room : ℕ) → compiled text room ≡ Err (Chart f)

-- the directory of a file that is written
abbrev pub Sections : Result (List ℕ) CodeFault → Directory → Type 0
Sections (Ok file) d = directory_of file ≡ d
Sections (Err f) d = ⊥

-- the text is compiled to a file of this length and with this directory; a buffer that is shorter is refused
pub record Compiles (text : List ℕ) (needed : ℕ) (d : Directory) : Type 0 where
  pub written : (room : ℕ) → needed ≤ room → Sections (compiled text room) d
  pub too_short : (room : ℕ) → room < needed → compiled text room ≡ Err (BufferTooShort needed)

-- ---- the examples
pub record WorkedExamples : Type 0 where
  pub lexings : Lexings
  pub nothing : Refuses [] (NoInitialStep 0)
  pub step_64 : Refuses (codes "step 64") (Text (NumberTooLarge 5))
  pub step_63 : Refuses (codes "step 63") (NoInitialStep 7)
  pub two_steps_compiled :
      Compiles two_step_chart 136
      (record { initial = section_at 36 8; clear = section_at 44 72; enter = section_at 116 12; hold = section_at 128 8 })
  pub two_steps :
      Runs two_step_chart
      (
      scan 0 (Stable 1) 0 1 idle ∷ scan 1 (Stable 1) 3 2 idle ∷ scan 2 (Stable 1) 2 1 idle ∷ scan 3 (Stable 2) 2 1 idle ∷
      []
      )
  pub one_step : Runs one_step_chart (scan 0 (Circling 1 2) 0 1 halted ∷ [])
  pub in_turn : Runs in_turn_chart (scan 0 (Circling 1 3) 0 1 halted ∷ [])
  pub one_rise : Runs one_rise_chart (scan 0 (Stable 1) 0 3 idle ∷ scan 1 (Stable 1) 0 6 idle ∷ [])
