-- What runs: a program by its words, or a chart by its rules. Assumes nothing.
use Rattle.std.specs.Prelude.{ℕ}
use Rattle.codefile.specs.declared.program.Program.{Program}
use Rattle.evolution.specs.declared.state.State.{State}
use Rattle.evolution.specs.Chart.{Chart}
use Rattle.evolution.specs.Rules as chart
use Rattle.evolution.specs.Words as words
use Rattle.verdict.specs.Rules as verdict
use Rattle.verdict.specs.Scans.{Rules}

-- the start state, the evolution under a frame, and the output frame of a state after such a frame
pub record Behaviour : Type 0 where
  pub begins : State
  pub rules : ℕ → Rules
  pub shows : ℕ → State → ℕ

abbrev pub by_words : Program → Behaviour
by_words p = record { begins = words.start p; rules = verdict.by_words p; shows = words.output_frame p }

-- the chart's output frame does not depend on the inputs
abbrev pub by_chart : Chart → Behaviour
by_chart c = record { begins = chart.start c; rules = verdict.by_chart c; shows = λ inputs. chart.output_frame c }
