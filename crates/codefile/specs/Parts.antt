-- The words of the parts, one after another, up to the first fault. Assumes nothing.
use Rattle.std.specs.Prelude.{ℕ, ◌+◌, Bool, false, cond, ◌||◌, List, [], ◌∷◌, Ok, Err, Result, nat_lt}
use Rattle.faults.specs.declared.FileFault.{FileFault}
use Rattle.faults.specs.declared.FileFault.TheVariants.{UnlawfulWord, Unbalanced}
use Rattle.words.specs.declared.instruction.Part.{Part}
use Rattle.words.specs.Words.{lawful}
use Rattle.words.specs.Brackets.{spoils, after}

-- a part as it lies in a file: the place of its first word, and its words
pub record Stretch : Type 0 where
  pub part : Part
  pub start : ℕ
  pub words : List ℕ

abbrev pub chain : {A B : Type 0} → Result A FileFault → (A → Result B FileFault) → Result B FileFault
chain (Ok x) f = f x
chain (Err e) f = Err e

-- The first fault of words that begin at a place with so many brackets open, or whether a bracket is open at their end.
-- `owed` says that one was open at the end of the part before: that is a fault at this very place, where an unlawful
-- word goes first.
abbrev pub scanned : Part → ℕ → Bool → ℕ → List ℕ → Result Bool FileFault
scanned p at owed depth [] = Ok (owed || nat_lt 0 depth)
scanned p at owed depth (w ∷ ws) =
    cond (lawful p w)
    (cond (owed || spoils depth w) (Err (Unbalanced at)) (scanned p (at + 4) false (after depth w) ws))
    (Err (UnlawfulWord at))

-- the first fault of the parts of a file that ends at a place
abbrev pub judged : Bool → ℕ → List Stretch → Result (Unit {0}) FileFault
judged owed end [] = cond owed (Err (Unbalanced end)) (Ok tt)
judged owed end (s ∷ ss) = chain (scanned s.part s.start owed 0 s.words) (λ left. judged left end ss)
