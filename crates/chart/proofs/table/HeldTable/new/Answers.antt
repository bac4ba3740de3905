use Rattle.std.proofs.Common.{sym, ◌∙◌}
use Rattle.std.proofs.lemmas.Bool.{false≢true}
use Rattle.chart.proofs.EmptySets.{made_empty}
use Rattle.chart.proofs.table.HeldTable.new.Goals as goal

pub invariant_of-result-clause-listed : goal.invariant_of-result-clause-listed
invariant_of-result-clause-listed c = λ s h. absurd (false≢true (sym (c.new-noted.ensures s) ∙ h))

pub invariant_of-result-clause-others : goal.invariant_of-result-clause-others
invariant_of-result-clause-others c = λ s q h. made_empty 256 c.new.result c.in_ok-rows.rows.items (c.in_ok-rows.ensures.items_if_clones_equal (λ y e. e)) c.new.ensures s q

pub returns-clause-marks : goal.returns-clause-marks
returns-clause-marks c = made_empty 256 c.new.result c.in_ok-rows.rows.items (c.in_ok-rows.ensures.items_if_clones_equal (λ y e. e)) c.new.ensures
