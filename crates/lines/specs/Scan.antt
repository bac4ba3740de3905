-- The line that the tokens begin with, or the fault of the first token that fits none. Assumes nothing.
use Rattle.std.specs.Prelude.{ℕ, Bool, true, false, cond, List, [], ◌∷◌, ◌++◌, ◌==◌, nat_le}
use Rattle.text.specs.declared.token.Word.{Word}
use Rattle.text.specs.declared.token.Word.TheVariants.{Step, Initial, Trans, From, To, When, Hold, Enter, Set, Reset}
use Rattle.faults.specs.declared.TextFault.{TextFault}
use Rattle.faults.specs.declared.TextFault.TheVariants.{Unexpected, NumberTooLarge}
use Rattle.text.specs.declared.token.Letter.{Letter}
use Rattle.text.specs.declared.token.Letter.TheVariants.{I, Q, X}
use Rattle.text.specs.declared.token.Token.{Token}
use Rattle.text.specs.declared.token.TokenKind.{TokenKind}
use Rattle.text.specs.declared.token.TokenKind.TheVariants.{Keyword, Digits, Operand, Comma, Dot, Plus, Bang, Open}
use Rattle.text.specs.declared.token.TokenKind.TheVariants.{Close, Slash, Backslash, LineEnd}
use Rattle.conditions.specs.Scan as condition
use Rattle.lines.specs.declared.shape.Number.{Number}
use Rattle.lines.specs.declared.shape.Action.TheVariants as action
use Rattle.lines.specs.Grammar as line
use Rattle.lines.specs.Grammar.{Tree, Numbers, one, more}

-- what a line still wants: its first word, or its end at once; a number; an output; this word; `,`
-- and a number, or this word; `initial` or the end; `set` or `reset`; more of a condition; the end
pub data State : Type 0 where
  start : State
  number : (Number → State) → State
  output : (Number → State) → State
  word : Word → State → State
  listed : Numbers → Word → (Numbers → State) → State
  initial : Number → State
  verb : Number → State
  guard : Number → Numbers → Numbers → List Number → condition.State → State
  end : Tree → State

-- the line continues, this token ends it, or the token is at fault
pub data Move : Type 0 where
  goes : State → Move
  done : Tree → Move
  fault : TextFault → Move

abbrev pub code : Word → ℕ
code Step = 0
code Initial = 1
code Trans = 2
code From = 3
code To = 4
code When = 5
code Hold = 6
code Enter = 7
code Set = 8
code Reset = 9

abbrev pub same : Word → Word → Bool
same v w = code v == code w

abbrev pub stepping : State
stepping = number (λ n. initial n)

abbrev pub transing : State
transing =
    number (λ n. word From (
    number (λ f. listed (one f) To (λ fs.
    number (λ t. listed (one t) When (λ ts. guard n fs ts [] condition.start))))))

abbrev pub holding : State
holding = number (λ n. output (λ q. end (line.hold n q)))

abbrev pub entering : State
entering = number (λ n. verb n)

-- a token that is a word, the line's end, a `,`, or none of these
abbrev pub by_word : (Word → Move) → Move → Move → ℕ → TokenKind → Move
by_word w e c at (Keyword v) = w v
by_word w e c at (Digits n) = fault (Unexpected at)
by_word w e c at (Operand l n) = fault (Unexpected at)
by_word w e c at Comma = c
by_word w e c at Dot = fault (Unexpected at)
by_word w e c at Plus = fault (Unexpected at)
by_word w e c at Bang = fault (Unexpected at)
by_word w e c at Open = fault (Unexpected at)
by_word w e c at Close = fault (Unexpected at)
by_word w e c at Slash = fault (Unexpected at)
by_word w e c at Backslash = fault (Unexpected at)
by_word w e c at LineEnd = e

abbrev pub small : ℕ → ℕ → (Number → State) → Move
small at n k = cond (nat_le n 63) (goes (k (record { value = n; place = at }))) (fault (NumberTooLarge at))

abbrev pub is_output : ℕ → Letter → ℕ → (Number → State) → Move
is_output at I n k = fault (Unexpected at)
is_output at Q n k = small at n k
is_output at X n k = fault (Unexpected at)

abbrev pub by_digits : (ℕ → Move) → (Letter → ℕ → Move) → ℕ → TokenKind → Move
by_digits d o at (Keyword v) = fault (Unexpected at)
by_digits d o at (Digits n) = d n
by_digits d o at (Operand l n) = o l n
by_digits d o at Comma = fault (Unexpected at)
by_digits d o at Dot = fault (Unexpected at)
by_digits d o at Plus = fault (Unexpected at)
by_digits d o at Bang = fault (Unexpected at)
by_digits d o at Open = fault (Unexpected at)
by_digits d o at Close = fault (Unexpected at)
by_digits d o at Slash = fault (Unexpected at)
by_digits d o at Backslash = fault (Unexpected at)
by_digits d o at LineEnd = fault (Unexpected at)

abbrev pub begins : ℕ → Word → Move
begins at Step = goes stepping
begins at Initial = fault (Unexpected at)
begins at Trans = goes transing
begins at From = fault (Unexpected at)
begins at To = fault (Unexpected at)
begins at When = fault (Unexpected at)
begins at Hold = goes holding
begins at Enter = goes entering
begins at Set = fault (Unexpected at)
begins at Reset = fault (Unexpected at)

abbrev pub only : Word → State → ℕ → Word → Move
only w x at v = cond (same w v) (goes x) (fault (Unexpected at))

abbrev pub verbs : Number → ℕ → Word → Move
verbs n at v =
    cond (same Set v) (goes (output (λ q. end (line.enter n action.Set q))))
    (only Reset (output (λ q. end (line.enter n action.Reset q))) at v)

abbrev pub ending : Tree → ℕ → TokenKind → Move
ending l at k = by_word (λ v. fault (Unexpected at)) (done l) (fault (Unexpected at)) at k

-- a number up to 63, with its place
abbrev pub up_to63 : ℕ → ℕ → List Number
up_to63 at n = cond (nat_le n 63) (record { value = n; place = at } ∷ []) []

-- the step that an operand names
abbrev pub step_named : ℕ → Letter → ℕ → List Number
step_named at I n = []
step_named at Q n = []
step_named at X n = up_to63 at n

abbrev pub noted : ℕ → TokenKind → List Number
noted at (Keyword v) = []
noted at (Digits n) = []
noted at (Operand l n) = step_named at l n
noted at Comma = []
noted at Dot = []
noted at Plus = []
noted at Bang = []
noted at Open = []
noted at Close = []
noted at Slash = []
noted at Backslash = []
noted at LineEnd = []

abbrev pub refs : List Token → List Number
refs [] = []
refs (t ∷ ts) = noted t.place t.kind ++ refs ts

abbrev pub guarded : Number → Numbers → Numbers → List Number → condition.Step → ℕ → TokenKind → Move
guarded n fs ts us (condition.goes x) at k = goes (guard n fs ts (us ++ noted at k) x)
guarded n fs ts us (condition.ends c) at k = ending (line.trans n fs ts c us) at k
guarded n fs ts us (condition.fault f) at k = fault f

abbrev pub step : State → ℕ → TokenKind → Move
step start at k = by_word (λ w. begins at w) (done line.empty) (fault (Unexpected at)) at k
step (number next) at k = by_digits (λ n. small at n next) (λ l n. fault (Unexpected at)) at k
step (output next) at k = by_digits (λ n. fault (Unexpected at)) (λ l n. is_output at l n next) at k
step (word w x) at k = by_word (λ v. only w x at v) (fault (Unexpected at)) (fault (Unexpected at)) at k
step (listed ns w next) at k =
    by_word (λ v. only w (next ns) at v) (fault (Unexpected at)) (goes (number (λ n. listed (more ns n) w next))) at k
step (initial n) at k =
    by_word (λ v. only Initial (end (line.step n true)) at v) (done (line.step n false)) (fault (Unexpected at)) at k
step (verb n) at k = by_word (λ v. verbs n at v) (fault (Unexpected at)) (fault (Unexpected at)) at k
step (guard n fs ts us x) at k = guarded n fs ts us (condition.step x at k) at k
step (end l) at k = ending l at k

-- the line and the tokens behind its end, or its fault
pub data Scan : Type 0 where
  reads : Tree → List Token → Scan
  fails : TextFault → Scan

abbrev pub follow : Move → (State → Scan) → List Token → Scan
follow (goes x) k rest = k x
follow (done l) k rest = reads l rest
follow (fault f) k rest = fails f

-- along the tokens from a state; where they run out, at the place e, the line ends
abbrev pub scan : List Token → State → ℕ → Scan
scan [] x e = follow (step x e LineEnd) (λ x. fails (Unexpected e)) []
scan (t ∷ ts) x e = follow (step x t.place t.kind) (λ x. scan ts x e) ts

-- the line that the tokens begin with
abbrev pub line_of : List Token → ℕ → Scan
line_of ts e = scan ts start e
