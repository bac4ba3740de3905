-- A program and the chart that it was compiled from. Assumes nothing.
use Rattle.std.specs.Prelude.{◌≡◌, ℕ, List}
use Rattle.codefile.specs.declared.program.Program.{Program}
use Rattle.compile.specs.Laws.{ProgramOf}
use Rattle.evolution.specs.Chart.{Chart, chart_of_lines}

-- the program is that of a text, as the compiler builds it, and the chart is that of the text's lines
pub record CompiledFrom (c : Chart) (p : Program) : Type 0 where
  pub text : List ℕ
  pub made : ProgramOf text p
  pub chart : c ≡ chart_of_lines made.lines
