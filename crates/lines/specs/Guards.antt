-- The words that test a transition: its preceding steps, its condition in brackets, and the store. Assumes nothing.
use Rattle.std.specs.Prelude.{Bool, true, false, List, [], ◌∷◌, ◌++◌, map}
use Rattle.words.specs.declared.instruction.Operand.TheVariants as operand
use Rattle.words.specs.declared.instruction.Instruction.{Instruction}
use Rattle.words.specs.declared.instruction.Instruction.TheVariants.{Load, And, AndOpen, Store}
use Rattle.conditions.specs.Tree.{Cond, words, enclosed}
use Rattle.lines.specs.declared.shape.Number.{Number}
use Rattle.lines.specs.Grammar.{Tree, Numbers, items, empty, step, trans, hold, enter}

-- the first step is loaded, the others are joined by and
abbrev pub step_test : Bool → Number → Instruction
step_test true n = Load (operand.Step n.value)
step_test false n = And (operand.Step n.value)

abbrev pub step_tests : List Number → List Instruction
step_tests [] = []
step_tests (n ∷ ns) = step_test true n ∷ map (λ m. step_test false m) ns

abbrev pub transition_test : Number → Numbers → Cond → List Instruction
transition_test n fs c = step_tests (items fs) ++ (enclosed AndOpen (words c) ++ (Store n.value ∷ []))

abbrev pub guard_words : Tree → List Instruction
guard_words empty = []
guard_words (step n b) = []
guard_words (trans n fs ts c us) = transition_test n fs c
guard_words (hold n q) = []
guard_words (enter n a q) = []
