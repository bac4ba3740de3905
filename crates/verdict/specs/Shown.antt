-- What is printed of a verdict. Assumes nothing.
use Rattle.std.specs.Prelude.{ℕ, List, ◌++◌, codes, decimal}
use Rattle.verdict.specs.declared.outcome.Verdict.{Verdict}
use Rattle.verdict.specs.declared.outcome.Verdict.TheVariants.{Stable, Circling, Overlong}

abbrev pub verdict_text : Verdict → List ℕ
verdict_text (Stable m) = codes "stable " ++ decimal m
verdict_text (Circling j k) = codes "circling " ++ (decimal j ++ (codes " " ++ decimal k))
verdict_text Overlong = codes "overlong"
