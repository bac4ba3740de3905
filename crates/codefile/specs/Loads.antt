-- What a program holds of a code file, and what a load leaves. Assumes nothing.
use Rattle.std.specs.Prelude.{◌≡◌, ℕ, List, [], Ok, Err, Result}
use Rattle.faults.specs.declared.FileFault.{FileFault}
use Rattle.words.specs.declared.instruction.Part.{Part}
use Rattle.words.specs.declared.instruction.Part.TheVariants as part
use Rattle.codefile.specs.declared.program.Program.{Program}
use Rattle.codefile.specs.File.{Code, code_of}

abbrev pub code_in : Program → Code
code_in p = record {
  initial = p.initial;
  clear = p.clear;
  enter = p.enter;
  hold = p.hold;
}

abbrev pub words_in : Part → Code → List ℕ
words_in part.Clear c = c.clear
words_in part.Enter c = c.enter
words_in part.Hold c = c.hold

abbrev pub no_code : Code
no_code = record { initial = 0; clear = []; enter = []; hold = [] }

-- an accepted load leaves the file's contents; a refused one names the file's first fault and leaves the program as it was
abbrev pub Loads : List ℕ → Program → Program → Result (Unit {0}) FileFault → Type 0
Loads bs old new (Ok _) = code_of bs ≡ Ok (code_in new)
Loads bs old new (Err f) = (code_of bs ≡ Err f) × (new ≡ old)
