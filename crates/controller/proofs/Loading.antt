-- A controller that the file of a text was loaded into. Assumes nothing.
use Rattle.std.proofs.Common.{◌≡◌, ℕ, List, if◌then◌else◌, Some, Ok, Err, Result, OnOk, sym, ap, ◌∙◌}
use Rattle.faults.specs.declared.Fault.{Fault}
use Rattle.faults.specs.declared.Fault.TheVariants.{Controller as OfController}
use Rattle.faults.specs.declared.ControllerFault.TheVariants.{ScanOpen}
use Rattle.codefile.specs.File.{code_of}
use Rattle.codefile.specs.Loads.{code_in}
use Rattle.compile.specs.Compiled.{compiled}
use Rattle.compile.specs.Laws.{FileOf, ProgramOf}
use Rattle.compile.proofs.Filing.{file_of_text}
use Rattle.plain.specs.Stages.{Stage, scan_open}
use Rattle.controller.specs.Calls.{fault_of, file_fault, load_refusal, LoadsText}
use Rattle.controller.specs.declared.controller.Controller.{Controller}

-- it has the program of the text
pub program_of_file : (text file : List ℕ) (c : Controller) → FileOf text file → code_of file ≡ Ok (code_in c.program) → ProgramOf text c.program
program_of_file text file c f l = record {
  lines = f.lines;
  passes = f.passes;
  code = let same = sym l ∙ f.reads in cc;
}

program_if : {A : Type 0} (text file : List ℕ) (c : Controller) (r : Result A Fault) → FileOf text file → OnOk r (code_of file ≡ Ok (code_in c.program)) → OnOk r (ProgramOf text c.program)
program_if text file c (Ok u) f l = program_of_file text file c f l
program_if text file c (Err e) f l = tt

pub loads_text : {A : Type 0} (text file : List ℕ) (room : ℕ) (s : Stage) (c : Controller) (r : Result A Fault) → fault_of r ≡ load_refusal s file → OnOk r (code_of file ≡ Ok (code_in c.program)) → compiled text room ≡ Ok file → LoadsText text s r c
loads_text text file room s c r e l h =
    let f = file_of_text text file room h in
    record {
      refusal = e ∙ ap (λ x. if scan_open s then Some (OfController ScanOpen) else file_fault x) f.reads;
      program = program_if text file c r f l;
    }
