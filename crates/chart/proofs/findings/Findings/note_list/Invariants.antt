use Rattle.std.proofs.Common.{◌≡◌, List, drop}
use Rattle.lines.specs.declared.shape.Number.{Number}
use Rattle.lines.specs.Parts.{numbers_in}
use Rattle.chart.specs.Checks.{listings, repetitions}
use Rattle.chart.specs.Sets.{Knows}
use Rattle.chart.specs.Findings.{noting}
use Rattle.chart.proofs.findings.Findings.note_list.Given as goal

abbrev pub invariant-loop-t : goal.invariant-loop-t
invariant-loop-t l =
    (before : List Number) × Knows l.listed before ×
    (noting l.self (listings before (numbers_in (drop l.t-index l.list))) ≡ noting l.initial.self (repetitions (numbers_in l.list)))
