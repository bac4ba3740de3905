-- What compile reads, in the words of the chart language. Assumes nothing.
use Rattle.std.specs.Prelude.{◌≡◌, ◌≢◌, ℕ, ◌<◌, ◌≤◌, ◌⊎◌, List, length, take, Ok, Err, Result}
use Rattle.faults.specs.Numbers.{text_place}
use Rattle.faults.specs.declared.TextFault.{TextFault}
use Rattle.faults.specs.declared.CodeFault.{CodeFault}
use Rattle.faults.specs.declared.CodeFault.TheVariants.{BufferTooShort}
use Rattle.codefile.specs.declared.program.Program.{Program}
use Rattle.codefile.specs.Format.{longest_file}
use Rattle.codefile.specs.File.{code_of}
use Rattle.codefile.specs.Loads.{code_in}
use Rattle.text.specs.declared.token.Token.{Token}
use Rattle.text.specs.Spelled as cut
use Rattle.lines.specs.Grammar.{Tree}
use Rattle.lines.specs.Laws as lines
use Rattle.lines.specs.Laws.{LinesUpTo, StuckText, Viable}
use Rattle.chart.specs.Checks.{chart_of}
use Rattle.chart.specs.First.{First}
use Rattle.compile.specs.Compiled.{lines_of, chart_of_text, program_of, compiled}

-- the tokens are whole lines, and then the beginning of a line
pub record GoesOn (ts : List Token) : Type 0 where
  pub lines : List Tree
  pub rest : List Token
  pub whole : LinesUpTo ts lines rest
  pub begun : Viable rest

-- the tokens are the lines, and are no others
abbrev pub Only : List Token → List Tree → Type 0
Only ts ls = lines.Spelled ts ls × ((ks : List Tree) → lines.Spelled ts ks → ks ≡ ls)

-- what is read of the tokens, which a fault may have stopped, in a text that ends at the place e: the lines that they are; or
-- the fault that stands first, be it one of a line or the one that stopped the tokens
abbrev pub Reads : List Token → Result (Unit {0}) TextFault → ℕ → Result (List Tree) TextFault → Type 0
Reads ts (Ok _) e (Ok ls) = Only ts ls
Reads ts (Ok _) e (Err f) = StuckText ts e f
Reads ts (Err stop) e (Ok ls) = ⊥
Reads ts (Err stop) e (Err f) =
    ((f ≡ stop) × GoesOn ts) ⊎
    (StuckText ts (text_place stop) f × (text_place f < text_place stop))

-- a text is spelled by tokens, and by no others; these are read
pub record TextRead (text : List ℕ) (r : Result (List Tree) TextFault) : Type 0 where
  pub tokens : List Token
  pub stop : Result (Unit {0}) TextFault
  pub spelled : cut.Spelled text tokens stop
  pub alone : cut.Alone text tokens stop
  pub read : Reads tokens stop (length text) r

-- the law of the text layer, and that of the chart layer
abbrev pub TextLaw : List ℕ → Type 0
TextLaw text = TextRead text (lines_of text)

abbrev pub ChartLaw : List ℕ → Type 0
ChartLaw text = (ls : List Tree) → lines_of text ≡ Ok ls → First ls (length text) (chart_of ls (length text))

-- ---- load after compile
-- the text passes all checks, and the file is accepted and says the program of its lines
pub record FileOf (text file : List ℕ) : Type 0 where
  pub lines : List Tree
  pub passes : chart_of_text text ≡ Ok lines
  pub reads : code_of file ≡ Ok (program_of lines)

-- the first n bytes of the buffer are such a file
abbrev pub LoadsAs : List ℕ → ℕ → List ℕ → Type 0
LoadsAs text n buffer = FileOf text (take n buffer)

-- the text passes all checks, and the program has the initial steps and the words of its chart
pub record ProgramOf (text : List ℕ) (p : Program) : Type 0 where
  pub lines : List Tree
  pub passes : chart_of_text text ≡ Ok lines
  pub code : code_in p ≡ program_of lines

-- a program that was loaded with the chart, or is as it was
abbrev pub Built : List ℕ → Program → Program → Result ℕ CodeFault → Type 0
Built text old new (Ok n) = ProgramOf text new
Built text old new (Err f) = new ≡ old

-- ---- room for the longest file suffices: what is compiled is the same in all such room, and fault 13 does not come
pub record RoomSuffices (text : List ℕ) : Type 0 where
  pub same_file : (room : ℕ) → longest_file ≤ room → compiled text room ≡ compiled text longest_file
  pub never_short : (room : ℕ) → longest_file ≤ room → (n : ℕ) → compiled text room ≢ Err (BufferTooShort n)
