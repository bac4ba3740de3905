-- The instruction machine: its memory, what each instruction does, and a run of a part's words. Assumes nothing.
use Rattle.std.specs.Prelude.{ℕ, Bool, true, false, cond, not, ◌&&◌, ◌||◌, List, [], ◌∷◌, map}
use Rattle.frames.specs.Bits.{bit, on, off}
use Rattle.words.specs.declared.instruction.Part.{Part}
use Rattle.words.specs.declared.instruction.Operand.{Operand}
use Rattle.words.specs.declared.instruction.Operand.TheVariants as operand
use Rattle.words.specs.declared.instruction.Target.{Target}
use Rattle.words.specs.declared.instruction.Target.TheVariants as target
use Rattle.words.specs.declared.instruction.Instruction.{Instruction}
use Rattle.words.specs.declared.instruction.Instruction.TheVariants.{Load, LoadNot, And, AndNot, Or, OrNot, AndOpen}
use Rattle.words.specs.declared.instruction.Instruction.TheVariants.{OrOpen, Close, Not, Store, Set, Reset, Hold}
use Rattle.words.specs.Words.{instruction_of}
use Rattle.codefile.specs.declared.program.Program.{Program}
use Rattle.codefile.specs.Loads.{code_in, words_in}
use Rattle.machine.specs.declared.memory.Memory.{Memory}
use Rattle.machine.specs.declared.machine.Bracket.{Bracket}
use Rattle.machine.specs.declared.machine.Bracket.TheVariants as bracket

-- the result, the open brackets, the last one first, and the memory
pub record Machine : Type 0 where
  pub result : Bool
  pub stack : List Bracket
  pub memory : Memory

-- before the first instruction of a part: the result is off, and there is no bracket yet
abbrev pub begin : Memory → Machine
begin m = record { result = false; stack = []; memory = m }

-- ---- memory
-- the operand's bit
abbrev pub value : Operand → Memory → Bool
value (operand.Input n) m = bit n m.inputs
value (operand.Step n) m = bit n m.active
value (operand.Output n) m = bit n m.stored
value (operand.Rise n) m = bit n m.rises
value (operand.Fall n) m = bit n m.falls
value operand.Always m = true
value (operand.Cleared n) m = bit n m.cleared
value (operand.Before n) m = bit n m.before

-- bit n becomes the result, on or off
abbrev pub written : Bool → ℕ → ℕ → ℕ
written r n x = cond r (on x n) (off x n)

-- bit n becomes on if the result is on; otherwise no change
abbrev pub set : Bool → ℕ → ℕ → ℕ
set r n x = cond r (on x n) x

-- bit n becomes off if the result is on; otherwise no change
abbrev pub reset : Bool → ℕ → ℕ → ℕ
reset r n x = cond r (off x n) x

-- the memory with another T, with another H, or with another X and Q; nothing else is ever written
abbrev pub with_cleared : ℕ → Memory → Memory
with_cleared t m = record {
  active = m.active;
  stored = m.stored;
  before = m.before;
  cleared = t;
  held = m.held;
  inputs = m.inputs;
  rises = m.rises;
  falls = m.falls;
}

abbrev pub with_held : ℕ → Memory → Memory
with_held h m = record {
  active = m.active;
  stored = m.stored;
  before = m.before;
  cleared = m.cleared;
  held = h;
  inputs = m.inputs;
  rises = m.rises;
  falls = m.falls;
}

abbrev pub with_state : ℕ → ℕ → Memory → Memory
with_state x q m = record {
  active = x;
  stored = q;
  before = m.before;
  cleared = m.cleared;
  held = m.held;
  inputs = m.inputs;
  rises = m.rises;
  falls = m.falls;
}

-- the target's bit is changed so
abbrev pub altered : (ℕ → ℕ → ℕ) → Target → Memory → Memory
altered change (target.Step n) m = with_state (change n m.active) m.stored m
altered change (target.Output n) m = with_state m.active (change n m.stored) m

-- ---- instructions
-- the same machine with another result, or with another memory
abbrev pub load : Bool → Machine → Machine
load b m = record { result = b; stack = m.stack; memory = m.memory }

abbrev pub write : Memory → Machine → Machine
write n m = record { result = m.result; stack = m.stack; memory = n }

-- the bracket is pushed; the result itself is unchanged
abbrev pub opened : Bracket → Machine → Machine
opened b m = record { result = m.result; stack = b ∷ m.stack; memory = m.memory }

-- a popped bracket, combined with the result by its operator
abbrev pub joined : Bracket → Bool → Bool
joined (bracket.And a) b = a && b
joined (bracket.Or a) b = a || b

-- the last bracket is popped; with none open nothing changes
abbrev pub closed : List Bracket → Bool → Memory → Machine
closed [] r m = record { result = r; stack = []; memory = m }
closed (b ∷ bs) r m = record { result = joined b r; stack = bs; memory = m }

abbrev pub step : Instruction → Machine → Machine
step (Load x) m = load (value x m.memory) m
step (LoadNot x) m = load (not (value x m.memory)) m
step (And x) m = load (m.result && value x m.memory) m
step (AndNot x) m = load (m.result && not (value x m.memory)) m
step (Or x) m = load (m.result || value x m.memory) m
step (OrNot x) m = load (m.result || not (value x m.memory)) m
step AndOpen m = opened (bracket.And m.result) m
step OrOpen m = opened (bracket.Or m.result) m
step Close m = closed m.stack m.result m.memory
step Not m = load (not m.result) m
step (Store n) m = write (with_cleared (written m.result n m.memory.cleared) m.memory) m
step (Set t) m = write (altered (set m.result) t m.memory) m
step (Reset t) m = write (altered (reset m.result) t m.memory) m
step (Hold n) m = write (with_held (set m.result n m.memory.held) m.memory) m

-- one instruction behind the other
abbrev pub run : List Instruction → Machine → Machine
run [] m = m
run (i ∷ is) m = run is (step i m)

-- ---- a part of a program
-- the instructions of its words
abbrev pub instructions : Part → Program → List Instruction
instructions part p = map instruction_of (words_in part (code_in p))

-- the memory after the part has run on this one
unfoldable pub after : Part → Program → Memory → Memory
after part p m = (run (instructions part p) (begin m)).memory
