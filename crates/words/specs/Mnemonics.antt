-- What is printed of a part and of an instruction. Assumes nothing.
use Rattle.std.specs.Prelude.{ℕ, List, ◌++◌, codes, decimal}
use Rattle.words.specs.declared.instruction.Part.{Part}
use Rattle.words.specs.declared.instruction.Part.TheVariants as part
use Rattle.words.specs.declared.instruction.Operand.{Operand}
use Rattle.words.specs.declared.instruction.Operand.TheVariants.{Input, Step, Output, Rise, Fall, Always, Cleared}
use Rattle.words.specs.declared.instruction.Operand.TheVariants.{Before}
use Rattle.words.specs.declared.instruction.Target.{Target}
use Rattle.words.specs.declared.instruction.Target.TheVariants as target
use Rattle.words.specs.declared.instruction.Instruction.{Instruction}
use Rattle.words.specs.declared.instruction.Instruction.TheVariants.{Load, LoadNot, And, AndNot, Or, OrNot, AndOpen}
use Rattle.words.specs.declared.instruction.Instruction.TheVariants.{OrOpen, Close, Not, Store, Set, Reset, Hold}

abbrev pub part_name : Part → List ℕ
part_name part.Clear = codes "clear"
part_name part.Enter = codes "enter"
part_name part.Hold = codes "hold"

abbrev pub operand_text : Operand → List ℕ
operand_text (Input n) = codes "I" ++ decimal n
operand_text (Step n) = codes "X" ++ decimal n
operand_text (Output n) = codes "Q" ++ decimal n
operand_text (Rise n) = codes "rise " ++ decimal n
operand_text (Fall n) = codes "fall " ++ decimal n
operand_text Always = codes "always on"
operand_text (Cleared n) = codes "T" ++ decimal n
operand_text (Before n) = codes "P" ++ decimal n

abbrev pub target_text : Target → List ℕ
target_text (target.Step n) = codes "X" ++ decimal n
target_text (target.Output n) = codes "Q" ++ decimal n

abbrev pub instruction_text : Instruction → List ℕ
instruction_text (Load x) = codes "LD " ++ operand_text x
instruction_text (LoadNot x) = codes "LDN " ++ operand_text x
instruction_text (And x) = codes "AND " ++ operand_text x
instruction_text (AndNot x) = codes "ANDN " ++ operand_text x
instruction_text (Or x) = codes "OR " ++ operand_text x
instruction_text (OrNot x) = codes "ORN " ++ operand_text x
instruction_text AndOpen = codes "AND("
instruction_text OrOpen = codes "OR("
instruction_text Close = codes ")"
instruction_text Not = codes "NOT"
instruction_text (Store n) = codes "ST T" ++ decimal n
instruction_text (Set t) = codes "S " ++ target_text t
instruction_text (Reset t) = codes "R " ++ target_text t
instruction_text (Hold n) = codes "S H" ++ decimal n
