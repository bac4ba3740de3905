-- Instruction words: the operator from bit 24 on, the area in bits 20 to 23, the number in bits 14 to 19. Assumes nothing.
use Rattle.std.specs.Prelude.{ℕ, ◌+◌, ◌*◌, ◌/◌, ◌%◌, Bool, true, false, not, ◌&&◌, ◌||◌, Some, None, Option, ◌==◌}
use Rattle.std.specs.Prelude.{nat_le, nat_lt, if◌then◌else◌}
use Rattle.words.specs.declared.instruction.Part.{Part}
use Rattle.words.specs.declared.instruction.Part.TheVariants as part
use Rattle.words.specs.declared.instruction.Operand.{Operand}
use Rattle.words.specs.declared.instruction.Operand.TheVariants.{Input, Step, Output, Rise, Fall, Always, Cleared}
use Rattle.words.specs.declared.instruction.Operand.TheVariants.{Before}
use Rattle.words.specs.declared.instruction.Target.{Target}
use Rattle.words.specs.declared.instruction.Target.TheVariants as target
use Rattle.words.specs.declared.instruction.Instruction.{Instruction}
use Rattle.words.specs.declared.instruction.Instruction.TheVariants.{Load, LoadNot, And, AndNot, Or, OrNot, AndOpen}
use Rattle.words.specs.declared.instruction.Instruction.TheVariants.{OrOpen, Close, Not, Store, Set, Reset, Hold}

-- ---- the word of an instruction
abbrev pub packed : ℕ → ℕ → ℕ → ℕ
packed operator area number = operator * 16777216 + area * 1048576 + number * 16384

abbrev pub operand_area : Operand → ℕ
operand_area (Input n) = 1
operand_area (Step n) = 2
operand_area (Output n) = 3
operand_area (Rise n) = 4
operand_area (Fall n) = 5
operand_area Always = 6
operand_area (Cleared n) = 7
operand_area (Before n) = 8

abbrev pub operand_number : Operand → ℕ
operand_number (Input n) = n
operand_number (Step n) = n
operand_number (Output n) = n
operand_number (Rise n) = n
operand_number (Fall n) = n
operand_number Always = 0
operand_number (Cleared n) = n
operand_number (Before n) = n

abbrev pub target_area : Target → ℕ
target_area (target.Step n) = 2
target_area (target.Output n) = 3

abbrev pub target_number : Target → ℕ
target_number (target.Step n) = n
target_number (target.Output n) = n

-- the operand that reads what the target sets and resets
abbrev pub read_of : Target → Operand
read_of (target.Step n) = Step n
read_of (target.Output n) = Output n

abbrev pub operator_in : Instruction → ℕ
operator_in (Load x) = 1
operator_in (LoadNot x) = 2
operator_in (And x) = 3
operator_in (AndNot x) = 4
operator_in (Or x) = 5
operator_in (OrNot x) = 6
operator_in AndOpen = 7
operator_in OrOpen = 8
operator_in Close = 9
operator_in Not = 10
operator_in (Store n) = 11
operator_in (Set t) = 12
operator_in (Reset t) = 13
operator_in (Hold n) = 12

abbrev pub area_in : Instruction → ℕ
area_in (Load x) = operand_area x
area_in (LoadNot x) = operand_area x
area_in (And x) = operand_area x
area_in (AndNot x) = operand_area x
area_in (Or x) = operand_area x
area_in (OrNot x) = operand_area x
area_in AndOpen = 0
area_in OrOpen = 0
area_in Close = 0
area_in Not = 0
area_in (Store n) = 7
area_in (Set t) = target_area t
area_in (Reset t) = target_area t
area_in (Hold n) = 9

abbrev pub number_in : Instruction → ℕ
number_in (Load x) = operand_number x
number_in (LoadNot x) = operand_number x
number_in (And x) = operand_number x
number_in (AndNot x) = operand_number x
number_in (Or x) = operand_number x
number_in (OrNot x) = operand_number x
number_in AndOpen = 0
number_in OrOpen = 0
number_in Close = 0
number_in Not = 0
number_in (Store n) = n
number_in (Set t) = target_number t
number_in (Reset t) = target_number t
number_in (Hold n) = n

abbrev pub word_of : Instruction → ℕ
word_of i = packed (operator_in i) (area_in i) (number_in i)

-- ---- where an instruction may stand: a hold part sets held outputs alone, the others set all but these
abbrev pub is_hold : Part → Bool
is_hold part.Clear = false
is_hold part.Enter = false
is_hold part.Hold = true

abbrev pub stands : Part → Instruction → Bool
stands p (Load x) = true
stands p (LoadNot x) = true
stands p (And x) = true
stands p (AndNot x) = true
stands p (Or x) = true
stands p (OrNot x) = true
stands p AndOpen = true
stands p OrOpen = true
stands p Close = true
stands p Not = true
stands p (Store n) = not (is_hold p)
stands p (Set t) = not (is_hold p)
stands p (Reset t) = not (is_hold p)
stands p (Hold n) = is_hold p

-- the part admits it, and its number is at most 63
abbrev pub admitted : Part → Instruction → Bool
admitted p i = stands p i && nat_lt (number_in i) 64

abbrev pub encoded : Part → Instruction → Option ℕ
encoded p i = if admitted p i then Some (word_of i) else None

-- ---- the lawful words of a part, by their fields
abbrev pub operator_of : ℕ → ℕ
operator_of w = w / 16777216

abbrev pub area_of : ℕ → ℕ
area_of w = w / 1048576 % 16

abbrev pub number_of : ℕ → ℕ
number_of w = w / 16384 % 64

-- which operator goes with which area, in which part
abbrev pub pairs : Part → ℕ → ℕ → Bool
pairs p o a =
    if nat_le 1 o && nat_le o 6 then nat_le 1 a && nat_le a 8
    else if nat_le 7 o && nat_le o 10 then a == 0
    else if o == 11 then not (is_hold p) && a == 7
    else if o == 12 then (if is_hold p then a == 9 else a == 2 || a == 3)
    else if o == 13 then not (is_hold p) && (a == 2 || a == 3)
    else false

-- without an area, and in that of the constant, the number is 0
abbrev pub numbers : ℕ → ℕ → Bool
numbers a n = if a == 0 || a == 6 then n == 0 else true

-- the 14 bits below the number are 0
abbrev pub lawful : Part → ℕ → Bool
lawful p w = w % 16384 == 0 && (pairs p (operator_of w) (area_of w) && numbers (area_of w) (number_of w))

-- ---- the instruction of a lawful word
abbrev pub operand_at : ℕ → ℕ → Operand
operand_at a n =
    if a == 1 then Input n
    else if a == 2 then Step n
    else if a == 3 then Output n
    else if a == 4 then Rise n
    else if a == 5 then Fall n
    else if a == 6 then Always
    else if a == 7 then Cleared n
    else Before n

abbrev pub target_at : ℕ → ℕ → Target
target_at a n = if a == 2 then target.Step n else target.Output n

abbrev pub instruction_at : ℕ → ℕ → ℕ → Instruction
instruction_at o a n =
    if o == 1 then Load (operand_at a n)
    else if o == 2 then LoadNot (operand_at a n)
    else if o == 3 then And (operand_at a n)
    else if o == 4 then AndNot (operand_at a n)
    else if o == 5 then Or (operand_at a n)
    else if o == 6 then OrNot (operand_at a n)
    else if o == 7 then AndOpen
    else if o == 8 then OrOpen
    else if o == 9 then Close
    else if o == 10 then Not
    else if o == 11 then Store n
    else if o == 13 then Reset (target_at a n)
    else if a == 9 then Hold n
    else Set (target_at a n)

abbrev pub instruction_of : ℕ → Instruction
instruction_of w = instruction_at (operator_of w) (area_of w) (number_of w)

abbrev pub decoded : Part → ℕ → Option Instruction
decoded p w = if lawful p w then Some (instruction_of w) else None
