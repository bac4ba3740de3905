-- Accepted and refused answers, apart. Assumes nothing.
use Rattle.std.proofs.Common.{◌≡◌, Ok, Err, Result}
use Rattle.faults.specs.declared.FileFault.{FileFault}

pub refused_not : {A : Type 0} (e : FileFault) (x : A) → ◌≡◌ {A = Result A FileFault} (Err e) (Ok x) → ⊥
refused_not e x h = cc

pub ok_is : {A : Type 0} (x y : A) → ◌≡◌ {A = Result A FileFault} (Ok x) (Ok y) → x ≡ y
ok_is x y e = cc
