-- What the machine of the code stands for. Assumes nothing.
use Rattle.std.specs.Prelude.{ℕ, zero, suc, false, List, [], ◌∷◌, slice_index_or}
use Rattle.machine.specs.declared.machine.Bracket.{Bracket}
use Rattle.machine.specs.declared.machine.Bracket.TheVariants.{And}
use Rattle.machine.specs.declared.machine.Machine.{Machine as Kept}
use Rattle.machine.specs.Machine.{Machine}

-- the first so many brackets, the last one first
abbrev pub stacked : ℕ → List Bracket → List Bracket
stacked zero bs = []
stacked (suc n) bs = slice_index_or bs n (And false) ∷ stacked n bs

abbrev pub view : Kept → Machine
view m = record { result = m.result; stack = stacked m.depth m.brackets; memory = m.memory }
