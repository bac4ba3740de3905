-- What a reader of a line's part answers. Assumes nothing.
use Rattle.std.specs.Prelude.{◌≡◌, ℕ, ◌<◌, Bool, List, [], ◌∷◌, ◌++◌, length}
use Rattle.text.specs.declared.token.Word.{Word}
use Rattle.text.specs.declared.token.Word.TheVariants as keyword
use Rattle.faults.specs.declared.TextFault.{TextFault}
use Rattle.text.specs.declared.token.Token.{Token}
use Rattle.text.specs.declared.token.TokenKind.{TokenKind}
use Rattle.text.specs.declared.token.TokenKind.TheVariants.{Keyword, Digits, Operand, Comma, Dot, Plus, Bang}
use Rattle.text.specs.declared.token.TokenKind.TheVariants.{Open, Close, Slash, Backslash, LineEnd}
use Rattle.words.specs.declared.instruction.Instruction.TheVariants.{AndOpen, Store}
use Rattle.words.specs.Emitted.{Kept, pushed}
use Rattle.conditions.specs.declared.rest.Rest.{Rest}
use Rattle.conditions.specs.Readers.{Behind}
use Rattle.conditions.specs.Read.{kinds}
use Rattle.conditions.specs.Scan as condition
use Rattle.conditions.specs.Tree.{Cond, words, enclosed}
use Rattle.conditions.specs.Tree.{spell as spell_cond}
use Rattle.lines.specs.declared.shape.Number.{Number}
use Rattle.lines.specs.declared.shape.Action.{Action}
use Rattle.lines.specs.declared.shape.Transition.{Transition}
use Rattle.lines.specs.declared.shape.Line.{Line}
use Rattle.lines.specs.declared.shape.Line.TheVariants.{Empty, Step, Trans, Hold, Enter}
use Rattle.lines.specs.Grammar as line
use Rattle.lines.specs.Grammar.{Tree, Numbers, one, items, kind, exactly, digits, spell_numbers, Matches, Small, FitsLine}
use Rattle.lines.specs.Scan.{State, Scan, scan, reads, fails, number, output, word, listed, initial, verb, end}
use Rattle.lines.specs.Scan.{transing, up_to63, refs}
use Rattle.lines.specs.Guards.{guard_words}
use Rattle.lines.specs.Laws.{Begins, Ends}

-- the number that a token of a list is
abbrev pub counted : ℕ → TokenKind → List Number
counted at (Keyword v) = []
counted at (Digits n) = up_to63 at n
counted at (Operand l n) = []
counted at Comma = []
counted at Dot = []
counted at Plus = []
counted at Bang = []
counted at Open = []
counted at Close = []
counted at Slash = []
counted at Backslash = []
counted at LineEnd = []

-- the numbers up to 63 among the tokens, in order
abbrev pub numbers_in : List Token → List Number
numbers_in [] = []
numbers_in (t ∷ ts) = counted t.place t.kind ++ numbers_in ts

-- what the scan makes of what is left, from a state on
abbrev pub going : State → Rest → Scan
going x left = scan left.tokens.now x left.end

-- rest is what is left behind some of the tokens
abbrev pub Leaves : Rest → Rest → Type 0
Leaves from rest = (used : List Token) × (from.tokens.now ≡ used ++ rest.tokens.now)

-- the scan reads on to rest, for every continuation
pub record ReadsNumber (from : Rest) (n : Number) (rest : Rest) : Type 0 where
  pub passes : (k : Number → State) → going (number k) from ≡ going (k n) rest
  pub split : from.tokens.now ≡ digits n ∷ rest.tokens.now
  pub small : Small n
  pub same_end : rest.end ≡ from.end

pub record NoNumber (from : Rest) (f : TextFault) : Type 0 where
  pub fails : (k : Number → State) → going (number k) from ≡ fails f

pub record ReadsOutput (from : Rest) (n : Number) (rest : Rest) : Type 0 where
  pub passes : (k : Number → State) → going (output k) from ≡ going (k n) rest
  pub same_end : rest.end ≡ from.end

pub record NoOutput (from : Rest) (f : TextFault) : Type 0 where
  pub fails : (k : Number → State) → going (output k) from ≡ fails f

pub record ReadsWord (w : Word) (from rest : Rest) : Type 0 where
  pub passes : (x : State) → going (word w x) from ≡ going x rest
  pub behind : Behind (Keyword w) from rest

pub record NoWord (w : Word) (from : Rest) (f : TextFault) : Type 0 where
  pub fails : (x : State) → going (word w x) from ≡ fails f

-- the step of the line is initial, or is not
pub record SaysInitial (from : Rest) (b : Bool) (rest : Rest) : Type 0 where
  pub passes : (n : Number) → going (initial n) from ≡ going (end (line.step n b)) rest
  pub same_end : rest.end ≡ from.end

pub record ReadsVerb (from : Rest) (a : Action) (rest : Rest) : Type 0 where
  pub passes : (n : Number) → going (verb n) from ≡ going (output (λ q. end (line.enter n a q))) rest
  pub same_end : rest.end ≡ from.end

pub record NoVerb (from : Rest) (f : TextFault) : Type 0 where
  pub fails : (n : Number) → going (verb n) from ≡ fails f

pub record ReadsEnd (from rest : Rest) : Type 0 where
  pub passes : (l : Tree) → going (end l) from ≡ reads l rest.tokens.now
  pub ends : Ends from.tokens.now [] rest.tokens.now
  pub same_end : rest.end ≡ from.end

pub record NoEnd (from : Rest) (f : TextFault) : Type 0 where
  pub fails : (l : Tree) → going (end l) from ≡ fails f

-- a list, whose tokens are `part`, and the word that ends it
pub record ReadsList (w : Word) (from : Rest) (part : List Token) (rest : Rest) : Type 0 where
  pub tree : Numbers
  pub word : Token
  pub ends : word.kind ≡ Keyword w
  pub split : from.tokens.now ≡ part ++ word ∷ rest.tokens.now
  pub spelled : Matches part (spell_numbers tree)
  pub numbers : numbers_in part ≡ items tree
  pub passes : (k : Numbers → State) → going (number (λ n. listed (one n) w k)) from ≡ going (k tree) rest
  pub same_end : rest.end ≡ from.end

pub record NoList (w : Word) (from : Rest) (f : TextFault) : Type 0 where
  pub fails : (k : Numbers → State) → going (number (λ n. listed (one n) w k)) from ≡ fails f

-- a condition, whose tokens are `part`; its words in brackets and the store of n stand behind those of before
pub record ReadsGuard (n : ℕ) (from : Rest) (part : List Token) (rest : Rest) (before after : Kept) : Type 0 where
  pub tree : Cond
  pub is : condition.condition_of from.tokens.now from.end ≡ condition.stops tree rest.tokens.now
  pub split : from.tokens.now ≡ part ++ rest.tokens.now
  pub spelled : kinds part ≡ spell_cond tree
  pub emitted : after ≡ pushed before (enclosed AndOpen (words tree) ++ (Store n ∷ []))
  pub same_end : rest.end ≡ from.end

pub record NoGuard (from : Rest) (f : TextFault) : Type 0 where
  pub fails : condition.condition_of from.tokens.now from.end ≡ condition.fails f

-- a line of the code shows the tree
abbrev pub Shows : Line → Tree → Type 0
Shows Empty l = l ≡ line.empty
Shows (Step n b) l = l ≡ line.step n b
Shows (Trans t) l =
    (fs : Numbers) × (ts : Numbers) × (c : Cond) × (l ≡ line.trans t.number fs ts c (refs t.condition.now)) ×
    (numbers_in t.from.now ≡ items fs) × (numbers_in t.to.now ≡ items ts)
Shows (Hold n q) l = l ≡ line.hold n q
Shows (Enter n a q) l = l ≡ line.enter n a q

-- up to the line's end the tokens are: trans NUMBER from FROM to TO when CONDITION. What the transition holds are these FROM,
-- TO and CONDITION, which spell the lists and the condition of the tree
pub record TransitionParts (t : Transition) (l : Tree) (ts rest : List Token) : Type 0 where
  pub froms : Numbers
  pub tos : Numbers
  pub guard : Cond
  pub is : l ≡ line.trans t.number froms tos guard (refs t.condition.now)
  pub opening : List Token
  pub to : Token
  pub when : Token
  pub ends : Ends ts (opening ++ t.from.now ++ to ∷ t.to.now ++ when ∷ t.condition.now) rest
  pub opens : Matches opening (kind (Keyword keyword.Trans) ∷ exactly (digits t.number) ∷ kind (Keyword keyword.From) ∷ [])
  pub from_spelled : Matches t.from.now (spell_numbers froms)
  pub to_is : to.kind ≡ Keyword keyword.To
  pub to_spelled : Matches t.to.now (spell_numbers tos)
  pub when_is : when.kind ≡ Keyword keyword.When
  pub condition_spelled : kinds t.condition.now ≡ spell_cond guard

-- the parts of the tokens that the line holds; none but a transition holds any
abbrev pub LineParts : Line → Tree → List Token → List Token → Type 0
LineParts Empty l ts rest = Unit {0}
LineParts (Step n b) l ts rest = Unit {0}
LineParts (Trans t) l ts rest = TransitionParts t l ts rest
LineParts (Hold n q) l ts rest = Unit {0}
LineParts (Enter n a q) l ts rest = Unit {0}

-- from the state x the scan reads a line, which is shown, and its test's words stand behind those of before; `first` are
-- the line's tokens before
pub record LineFrom (first : List Token) (x : State) (from : Rest) (l : Line) (rest : Rest) (before after : Kept) : Type 0 where
  pub tree : Tree
  pub is : going x from ≡ reads tree rest.tokens.now
  pub shown : Shows l tree
  pub parts : LineParts l tree (first ++ from.tokens.now) rest.tokens.now
  pub emitted : after ≡ pushed before (guard_words tree)
  pub same_end : rest.end ≡ from.end

-- the same of a line that no words test
pub record QuietFrom (x : State) (from : Rest) (l : Line) (rest : Rest) : Type 0 where
  pub tree : Tree
  pub is : going x from ≡ reads tree rest.tokens.now
  pub shown : Shows l tree
  pub quiet : guard_words tree ≡ []
  pub same_end : rest.end ≡ from.end

-- LineFrom of a transition, behind its first word, whatever token that is
abbrev pub TransFrom : Rest → Line → Rest → Kept → Kept → Type 0
TransFrom from l rest before after =
    (w : Token) → w.kind ≡ Keyword keyword.Trans → LineFrom (w ∷ []) transing from l rest before after

pub record NoLineFrom (x : State) (from : Rest) (f : TextFault) : Type 0 where
  pub fails : going x from ≡ fails f

-- the same of a whole line, which the tokens begin with, which fits, and which leaves fewer tokens
pub record ReadsLine (x : State) (from : Rest) (l : Line) (rest : Rest) (before after : Kept) : Type 0 where
  pub tree : Tree
  pub is : going x from ≡ reads tree rest.tokens.now
  pub shown : Shows l tree
  pub parts : LineParts l tree from.tokens.now rest.tokens.now
  pub emitted : after ≡ pushed before (guard_words tree)
  pub begins : Begins tree from.tokens.now rest.tokens.now
  pub fits : FitsLine tree
  pub shorter : 0 < length from.tokens.now → length rest.tokens.now < length from.tokens.now
  pub same_end : rest.end ≡ from.end
