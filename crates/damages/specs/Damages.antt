-- What is damaged in a copy of a file. Assumes nothing.
use Rattle.std.specs.Prelude.{◌≡◌, ℕ, List, take, Some, None, Ok, Err, Option, slice_set}
use Rattle.faults.specs.declared.FileFault.{FileFault}
use Rattle.codefile.specs.declared.program.Program.{Program}
use Rattle.codefile.specs.File.{code_of}
use Rattle.codefile.specs.Loads.{code_in}
use Rattle.damages.specs.declared.damage.Damage.{Damage}
use Rattle.damages.specs.declared.damage.Damage.TheVariants.{Cut, Byte}

-- a byte behind the end is none of the file's
abbrev pub damaged_by : Damage → List ℕ → List ℕ
damaged_by (Cut n) bs = take n bs
damaged_by (Byte place value) bs = slice_set bs place value

-- the fault of a file that was tried, and what the program holds then
abbrev pub Tried : List ℕ → Program → Program → Option FileFault → Type 0
Tried bs old new (Some f) = (code_of bs ≡ Err f) × (new ≡ old)
Tried bs old new None = code_of bs ≡ Ok (code_in new)
