-- What a compiler holds on its way through a text. Assumes nothing.
use Rattle.std.specs.Prelude.{◌≡◌, ℕ, List, [], length, Ok, Err, Result}
use Rattle.faults.specs.declared.ChartFault.{ChartFault}
use Rattle.faults.specs.declared.CodeFault.{CodeFault}
use Rattle.words.specs.Emitted.{kept_in, nothing}
use Rattle.codefile.specs.Written.{written}
use Rattle.text.specs.Lex.{list_in}
use Rattle.lines.specs.Grammar.{Tree}
use Rattle.chart.specs.Fresh as chart
use Rattle.translation.specs.declared.draft.Draft.{Draft}
use Rattle.translation.specs.Drafts.{Drafted, sketch_of, blank}
use Rattle.compile.specs.declared.compiler.Compiler.{Compiler}
use Rattle.compile.specs.Compiled.{file_in, answer_of, buffer_with, program_of}

-- a compiler that has read nothing yet
pub record Fresh (c : Compiler) : Type 0 where
  pub tokens : list_in c.tokens ≡ []
  pub draft : sketch_of c.draft ≡ blank
  pub checker : chart.Fresh c.checker
  pub scratch : kept_in c.scratch ≡ nothing

-- the lines of a chart are in the draft, or the chart's fault is answered
abbrev pub Charted : Result (List Tree) ChartFault → Draft → Result (Unit {0}) ChartFault → Type 0
Charted (Ok ls) d r = (r ≡ Ok tt) × Drafted ls d
Charted (Err f) d r = r ≡ Err f

-- the file of these lines, of a text that ends at the place e, is in the buffer, or why it is not is answered
pub record Files (ls : List Tree) (e : ℕ) (old new : List ℕ) (r : Result ℕ CodeFault) : Type 0 where
  pub answer : r ≡ answer_of (file_in (written (program_of ls) (length old)) e)
  pub buffer : new ≡ buffer_with (file_in (written (program_of ls) (length old)) e) old
