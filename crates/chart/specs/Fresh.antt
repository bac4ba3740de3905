-- A checker before its first text. Assumes nothing.
use Rattle.chart.specs.declared.checker.Checker.{Checker}
use Rattle.chart.specs.Sets.{Empty}
use Rattle.chart.specs.Seen.{Unused}

-- it has read nothing: no step is declared, and no line is seen
pub record Fresh (c : Checker) : Type 0 where
  pub declared : Empty c.declared
  pub seen : Unused c.seen
