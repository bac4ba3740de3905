-- What a file whose head is accepted says. Assumes nothing.
use Rattle.std.specs.Prelude.{◌≡◌, ℕ, List, length, Ok, Err, Result}
use Rattle.std.specs.Borrow.{Bor}
use Rattle.faults.specs.declared.FileFault.{FileFault}
use Rattle.codefile.specs.declared.parts.Parts.{Parts}
use Rattle.codefile.specs.declared.headed.Headed.{Headed}
use Rattle.codefile.specs.File.{layout_of, clear_bytes, enter_bytes, hold_bytes}

-- the file with its parts' lengths, or the fault of its head
abbrev pub Reads : List ℕ → Result Headed FileFault → Type 0
Reads bs (Ok f) = (f.bytes.now ≡ bs) × (layout_of bs ≡ Ok f.lengths)
Reads bs (Err e) = layout_of bs ≡ Err e

-- these are the bytes of the file's parts
pub record ArePartsOf (f : Headed) (parts : Parts (Bor (List ℕ))) : Type 0 where
  pub clear : parts.clear.now ≡ clear_bytes f.bytes.now f.lengths
  pub enter : parts.enter.now ≡ enter_bytes f.bytes.now f.lengths
  pub hold : parts.hold.now ≡ hold_bytes f.bytes.now f.lengths
  pub clear_len : length parts.clear.now ≡ f.lengths.clear
  pub enter_len : length parts.enter.now ≡ f.lengths.enter
  pub hold_len : length parts.hold.now ≡ f.lengths.hold
