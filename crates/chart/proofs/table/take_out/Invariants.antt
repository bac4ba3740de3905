use Rattle.std.proofs.Common.{◌≡◌, ℕ, false, drop, length, if◌then◌else◌}
use Rattle.chart.specs.Numbers.{member}
use Rattle.chart.specs.Sets.{marked}
use Rattle.chart.proofs.table.take_out.Given as goal

-- what is left to take out gives what is to be left of the table
abbrev pub invariant-loop-step : goal.invariant-loop-step
invariant-loop-step l =
    (length l.rows ≡ 256) ×
    ((s q : ℕ) → (if member s (drop l.step-index l.steps) then false else marked l.rows s q) ≡ (if member s l.steps then false else marked l.initial.rows s q))
