-- What a head that is accepted says of the parts' lengths. Assumes nothing.
use Rattle.std.proofs.Common.{◌≡◌, ℕ, false, None, arith}
use Rattle.std.proofs.lemmas.Bool.Decides.{nat_tests}
use Rattle.std.proofs.lemmas.Bool.{ltb-false}
use Rattle.codefile.specs.declared.directory.Directory.{Directory}
use Rattle.codefile.specs.File.{Layout, broken_pair, too_many, Regular}

abbrev pub lengths : Directory → Layout
lengths d = record { clear = d.clear.length; enter = d.enter.length; hold = d.hold.length }

pub regular_lengths : (d : Directory) (size : ℕ) → broken_pair d size ≡ None → too_many d ≡ false → Regular size (lengths d)
regular_lengths d size h few =
    record {
      whole = grind (arith, nat_tests);
      clears = grind (arith, nat_tests);
      enters = grind (arith, nat_tests);
      holds = grind (arith, nat_tests);
      few = ltb-false 4096 _ few;
    }
