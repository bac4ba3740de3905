-- The lines of a whole text: those between its line ends, an empty last line aside. Assumes nothing.
use Rattle.std.specs.Prelude.{ℕ, List, [], ◌∷◌, Ok, Err, Result}
use Rattle.faults.specs.declared.TextFault.{TextFault}
use Rattle.faults.specs.declared.TextFault.TheVariants.{Unexpected}
use Rattle.text.specs.declared.token.Token.{Token}
use Rattle.text.specs.declared.token.TokenKind.TheVariants.{LineEnd}
use Rattle.lines.specs.Grammar.{Tree}
use Rattle.lines.specs.Scan.{State, Move, start, goes, done, fault, step}

-- no token of the next line is read yet, or the line still wants this
pub data Mode : Type 0 where
  between : Mode
  inside : State → Mode

abbrev pub wanted : Mode → State
wanted between = start
wanted (inside x) = x

-- a line before those that follow
abbrev pub put : Tree → Result (List Tree) TextFault → Result (List Tree) TextFault
put l (Ok ls) = Ok (l ∷ ls)
put l (Err f) = Err f

-- what a move gives: k goes on
abbrev pub onward : Move → (Mode → Result (List Tree) TextFault) → Result (List Tree) TextFault
onward (goes x) k = k (inside x)
onward (done l) k = put l (k between)
onward (fault f) k = Err f

-- where the tokens run out inside a line, at the place e
abbrev pub ended : ℕ → Move → Result (List Tree) TextFault
ended e (goes x) = Err (Unexpected e)
ended e (done l) = Ok (l ∷ [])
ended e (fault f) = Err f

-- along the tokens; where they run out, at the place e, a line that is begun ends
abbrev pub read_lines : List Token → Mode → ℕ → Result (List Tree) TextFault
read_lines [] between e = Ok []
read_lines [] (inside x) e = ended e (step x e LineEnd)
read_lines (t ∷ ts) m e = onward (step (wanted m) t.place t.kind) (λ m. read_lines ts m e)
