-- What the checks leave in the list of words that they have for scratch. Assumes nothing.
use Rattle.std.specs.Prelude.{◌≡◌, List, ◌++◌, Ok, Err, Result}
use Rattle.faults.specs.declared.TextFault.{TextFault}
use Rattle.words.specs.declared.instruction.Instruction.{Instruction}
use Rattle.words.specs.Emitted.{Kept, pushed}
use Rattle.conditions.specs.Readers.{Grown}
use Rattle.lines.specs.Grammar.{Tree}
use Rattle.lines.specs.Guards.{guard_words}
use Rattle.chart.specs.Said.{all}

-- the words that test the transitions of these lines
abbrev pub tests_of : List Tree → List Instruction
tests_of ls = all guard_words ls

-- a pass over the lines of a text puts the words of their tests behind those that were there; over a text with a fault, some
-- words
abbrev pub Emits : Result (List Tree) TextFault → Kept → Kept → Type 0
Emits (Ok ls) before after = after ≡ pushed before (tests_of ls)
Emits (Err f) before after = Grown before after

-- two passes
abbrev pub EmitsTwice : Result (List Tree) TextFault → Kept → Kept → Type 0
EmitsTwice (Ok ls) before after = after ≡ pushed before (tests_of ls ++ tests_of ls)
EmitsTwice (Err f) before after = Grown before after
