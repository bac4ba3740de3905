-- What compile answers to a text and a buffer, layer by layer. Assumes nothing.
use Rattle.std.specs.Prelude.{ℕ, cond, List, ◌++◌, map, length, drop, Some, None, Ok, Err, Option, Result, nat_lt}
use Rattle.faults.specs.Numbers.{text_place}
use Rattle.faults.specs.declared.TextFault.{TextFault}
use Rattle.faults.specs.declared.ChartFault.{ChartFault}
use Rattle.faults.specs.declared.ChartFault.TheVariants.{Text}
use Rattle.faults.specs.declared.CodeFault.{CodeFault}
use Rattle.faults.specs.declared.CodeFault.TheVariants.{Chart, TooManyWords, BufferTooShort}
use Rattle.words.specs.Words.{word_of}
use Rattle.codefile.specs.declared.write.WriteFault.{WriteFault}
use Rattle.codefile.specs.declared.write.WriteFault.TheVariants as write
use Rattle.codefile.specs.File.{Code}
use Rattle.codefile.specs.Written.{written}
use Rattle.text.specs.declared.token.Token.{Token}
use Rattle.text.specs.Lex.{tokens_of}
use Rattle.lines.specs.Grammar.{Tree}
use Rattle.lines.specs.Text.{read_lines, between}
use Rattle.chart.specs.Checks.{chart_of}
use Rattle.translation.specs.Translation.{clear_part, enter_part, hold_part, initial_frame}

-- ---- text: the fault at the least place, be it one of the tokens or of the lines
-- the lines' fault, where it stands before the place at which no token begins
abbrev pub sooner : Result (List Tree) TextFault → TextFault → TextFault
sooner (Ok ls) stop = stop
sooner (Err f) stop = cond (nat_lt (text_place f) (text_place stop)) f stop

-- the lines of a text that ends at the place e, from all its tokens, or from those before a stop
abbrev pub lines_up_to : List Token → Option TextFault → ℕ → Result (List Tree) TextFault
lines_up_to ts None e = read_lines ts between e
lines_up_to ts (Some stop) e = Err (sooner (read_lines ts between (text_place stop)) stop)

abbrev pub lines_of : List ℕ → Result (List Tree) TextFault
lines_of text = lines_up_to (tokens_of text).tokens (tokens_of text).stop (length text)

-- ---- chart: the lines of a text that passes the checks
abbrev pub passed : List Tree → Result (Unit {0}) ChartFault → Result (List Tree) ChartFault
passed ls (Ok _) = Ok ls
passed ls (Err f) = Err f

abbrev pub chart_in : Result (List Tree) TextFault → ℕ → Result (List Tree) ChartFault
chart_in (Ok ls) e = passed ls (chart_of ls e)
chart_in (Err f) e = Err (Text f)

abbrev pub chart_of_text : List ℕ → Result (List Tree) ChartFault
chart_of_text text = chart_in (lines_of text) (length text)

-- ---- code: the program of the lines, and its file
abbrev pub program_of : List Tree → Code
program_of ls = record {
  initial = initial_frame ls;
  clear = map word_of (clear_part ls);
  enter = map word_of (enter_part ls);
  hold = map word_of (hold_part ls);
}

-- a file that is not written, of a text that ends at the place e
abbrev pub code_fault : ℕ → WriteFault → CodeFault
code_fault e write.TooManyWords = TooManyWords e
code_fault e (write.BufferTooShort n) = BufferTooShort n

abbrev pub file_in : Result (List ℕ) WriteFault → ℕ → Result (List ℕ) CodeFault
file_in (Ok file) e = Ok file
file_in (Err f) e = Err (code_fault e f)

abbrev pub file_of_chart : Result (List Tree) ChartFault → ℕ → ℕ → Result (List ℕ) CodeFault
file_of_chart (Ok ls) e room = file_in (written (program_of ls) room) e
file_of_chart (Err f) e room = Err (Chart f)

-- the file of a text, for a buffer of this length, or the fault
abbrev pub compiled : List ℕ → ℕ → Result (List ℕ) CodeFault
compiled text room = file_of_chart (chart_of_text text) (length text) room

-- ---- the answer and the buffer: the file's length, and the file followed by the buffer's old rest; or the fault, and the
-- buffer as it was
abbrev pub answer_of : Result (List ℕ) CodeFault → Result ℕ CodeFault
answer_of (Ok file) = Ok (length file)
answer_of (Err f) = Err f

abbrev pub buffer_with : Result (List ℕ) CodeFault → List ℕ → List ℕ
buffer_with (Ok file) old = file ++ drop (length file) old
buffer_with (Err f) old = old
