-- A refusal where the longest code file has room. Assumes nothing.
use Rattle.std.proofs.Common.{◌≡◌, ℕ, List, Some, Ok, Err, Result, IfErr, refl, ◌∙◌, arith}
use Rattle.faults.specs.declared.Fault.{Fault}
use Rattle.faults.specs.declared.Fault.TheVariants.{Code}
use Rattle.faults.specs.declared.CodeFault.{CodeFault}
use Rattle.faults.specs.declared.CodeFault.TheVariants.{BufferTooShort}
use Rattle.codefile.specs.Format.{longest_file}
use Rattle.compile.specs.Compiled.{compiled}
use Rattle.compile.proofs.Filing.{never_short}
use Rattle.plain.specs.Stages.{Stage, idle, sampled, worked, halted}
use Rattle.controller.specs.Calls.{fault_of}
use Rattle.running.specs.Texts.{refusal_of, text_refusal, NotTooShort}

by_answer : (f : Fault) (s : Stage) (r : Result (List ℕ) CodeFault) → ((n : ℕ) → r ≡ Err (BufferTooShort n) → ⊥) → Some f ≡ refusal_of r s → NotTooShort f
by_answer f idle (Ok file) h e n k = cc
by_answer f (sampled frame) (Ok file) h e n k = let z = e ∙ refl in cc
by_answer f (worked frame o) (Ok file) h e n k = cc
by_answer f halted (Ok file) h e n k = cc
by_answer f s (Err g) h e n k = h n (let same : Code g ≡ Code (BufferTooShort n) = cc in cc)

pub never_too_short : {A : Type 0} (text : List ℕ) (s : Stage) (r : Result A Fault) → fault_of r ≡ text_refusal text longest_file s → IfErr r NotTooShort
never_too_short text s (Ok x) e = tt
never_too_short text s (Err f) e = by_answer f s (compiled text longest_file) (never_short text longest_file (omega arith)) e
