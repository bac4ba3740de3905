-- Evolution under a frame, by a program's words and by a chart's rules. Assumes nothing.
use Rattle.std.specs.Prelude.{ℕ}
use Rattle.codefile.specs.declared.program.Program.{Program}
use Rattle.evolution.specs.Chart.{Chart}
use Rattle.evolution.specs.Rules as chart
use Rattle.evolution.specs.Words as words
use Rattle.verdict.specs.Scans.{Rules}

abbrev pub by_words : Program → ℕ → Rules
by_words p inputs = record { evolved = words.evolved p inputs; stable = words.stable p inputs }

abbrev pub by_chart : Chart → ℕ → Rules
by_chart c inputs = record { evolved = chart.evolved c inputs; stable = chart.stable c inputs }
