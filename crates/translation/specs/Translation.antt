-- The instructions of a chart's parts, by its lines in the order of the text. Assumes nothing.
use Rattle.std.specs.Prelude.{ℕ, Bool, false, ◌&&◌, ◌==◌, List, [], ◌∷◌, ◌++◌, map}
use Rattle.std.specs.List.{list_any}
use Rattle.words.specs.declared.instruction.Operand.TheVariants as operand
use Rattle.words.specs.declared.instruction.Target.{Target}
use Rattle.words.specs.declared.instruction.Target.TheVariants as target
use Rattle.words.specs.declared.instruction.Instruction.{Instruction}
use Rattle.words.specs.declared.instruction.Instruction.TheVariants.{Load, AndNot, Set, Reset, Hold}
use Rattle.frames.specs.Bits.{pack}
use Rattle.lines.specs.declared.shape.Number.{Number}
use Rattle.lines.specs.declared.shape.Action.{Action}
use Rattle.lines.specs.declared.shape.Action.TheVariants as action
use Rattle.lines.specs.Grammar.{Tree, items, empty, step, trans, hold, enter}
use Rattle.lines.specs.Guards.{guard_words}

-- the instructions of every line
abbrev pub each : (Tree → List Instruction) → List Tree → List Instruction
each f [] = []
each f (l ∷ ls) = f l ++ each f ls

-- sets the target, or resets it
abbrev pub switch : Action → Target → Instruction
switch action.Set t = Set t
switch action.Reset t = Reset t

-- a cleared transition switches the steps
abbrev pub switches : Action → ℕ → List Number → List Instruction
switches a t ns = Load (operand.Cleared t) ∷ map (λ s. switch a (target.Step s.value)) ns

-- a cleared transition resets its preceding steps
abbrev pub reset_words : Tree → List Instruction
reset_words empty = []
reset_words (step n b) = []
reset_words (trans n fs ts c us) = switches action.Reset n.value (items fs)
reset_words (hold n q) = []
reset_words (enter n a q) = []

-- a cleared transition sets its succeeding steps
abbrev pub set_words : Tree → List Instruction
set_words empty = []
set_words (step n b) = []
set_words (trans n fs ts c us) = switches action.Set n.value (items ts)
set_words (hold n q) = []
set_words (enter n a q) = []

-- a step that is active and was not before acts on the output
abbrev pub newly : ℕ → Action → ℕ → List Instruction
newly n a q = Load (operand.Step n) ∷ AndNot (operand.Before n) ∷ switch a (target.Output q) ∷ []

-- the words of an enter line
abbrev pub enter_words : Tree → List Instruction
enter_words empty = []
enter_words (step n b) = []
enter_words (trans n fs ts c us) = []
enter_words (hold n q) = []
enter_words (enter n a q) = newly n.value a q.value

-- a step that is active holds the output
abbrev pub held : ℕ → ℕ → List Instruction
held n q = Load (operand.Step n) ∷ Hold q ∷ []

-- the words of a hold line
abbrev pub hold_words : Tree → List Instruction
hold_words empty = []
hold_words (step n b) = []
hold_words (trans n fs ts c us) = []
hold_words (hold n q) = held n.value q.value
hold_words (enter n a q) = []

-- the tests of all transitions, then all resets, then all sets
abbrev pub clear_part : List Tree → List Instruction
clear_part ls = each guard_words ls ++ (each reset_words ls ++ each set_words ls)

-- the words of the enter lines
abbrev pub enter_part : List Tree → List Instruction
enter_part ls = each enter_words ls

-- the words of the hold lines
abbrev pub hold_part : List Tree → List Instruction
hold_part ls = each hold_words ls

-- whether the line makes step n initial
abbrev pub makes_initial : ℕ → Tree → Bool
makes_initial n empty = false
makes_initial n (step m b) = b && n == m.value
makes_initial n (trans m fs ts c us) = false
makes_initial n (hold m q) = false
makes_initial n (enter m a q) = false

-- the frame whose bit n is on exactly if one of the lines makes step n initial
unfoldable pub initial_frame : List Tree → ℕ
initial_frame ls = pack 64 (λ n. list_any (makes_initial n) ls)
