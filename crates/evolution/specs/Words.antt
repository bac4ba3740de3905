-- How a program runs, by its words. Assumes nothing.
use Rattle.std.specs.Prelude.{ℕ, Bool, if◌then◌else◌, ◌==◌, bit_or, Some, None, Option}
use Rattle.words.specs.declared.instruction.Part.TheVariants.{Clear, Enter, Hold}
use Rattle.codefile.specs.declared.program.Program.{Program}
use Rattle.codefile.specs.Loads.{code_in}
use Rattle.frames.specs.Edges.{no_edges}
use Rattle.frames.specs.declared.edges.Edges.{Edges}
use Rattle.machine.specs.declared.memory.Memory.{Memory}
use Rattle.machine.specs.Machine.{after}
use Rattle.evolution.specs.declared.state.State.{State}

-- a memory of this state, these inputs and edges, with P, T and H empty
abbrev pub showing : ℕ → Edges → State → Memory
showing inputs edges s = record {
  active = s.active;
  stored = s.stored;
  before = 0;
  cleared = 0;
  held = 0;
  inputs = inputs;
  rises = edges.rises;
  falls = edges.falls;
}

-- P := X
abbrev pub prepared : Memory → Memory
prepared m = record {
  active = m.active;
  stored = m.stored;
  before = m.active;
  cleared = m.cleared;
  held = m.held;
  inputs = m.inputs;
  rises = m.rises;
  falls = m.falls;
}

abbrev pub state_in : Memory → State
state_in m = record { active = m.active; stored = m.stored }

-- the memory after P := X, the clear part and the enter part, T having been empty
unfoldable pub ran : Program → ℕ → Edges → State → Memory
ran p inputs edges s = after Enter p (after Clear p (prepared (showing inputs edges s)))

-- the present X and Q; None if T is empty
abbrev pub reached : Memory → Option State
reached m = if m.cleared == 0 then None else Some (state_in m)

-- an evolution that ends with T empty changes nothing: what its words did to X and Q is discarded
abbrev pub kept : State → Option State → State
kept s None = s
kept s (Some t) = t

abbrev pub evolved : Program → ℕ → Edges → State → State
evolved p inputs edges s = kept s (reached (ran p inputs edges s))

-- an evolution with rise and fall empty ends with T empty
abbrev pub stable : Program → ℕ → State → Bool
stable p inputs s = (ran p inputs no_edges s).cleared == 0

-- X is set to the initial steps of the file, and the enter part runs once
abbrev pub start : Program → State
start p = state_in (after Enter p (showing 0 no_edges (record { active = (code_in p).initial; stored = 0 })))

-- the union of Q and H
abbrev pub frame_in : Memory → ℕ
frame_in m = bit_or m.stored m.held

-- that union after one run of the hold part, to which the edges are empty
abbrev pub output_frame : Program → ℕ → State → ℕ
output_frame p inputs s = frame_in (after Hold p (showing inputs no_edges s))
