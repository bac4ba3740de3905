use Rattle.std.proofs.Common.{ap, ◌∙◌}
use Rattle.chart.specs.Numbers.{member}
use Rattle.chart.proofs.NumberSets.{earliest_member}
use Rattle.chart.proofs.set.NumberSet.has.Goals as goal

pub returns : goal.returns
returns c = c.is_some.ensures ∙ (earliest_member c.as_slice.result.now c.args.n c.earliest.result c.earliest.ensures ∙ ap (member c.args.n) c.as_slice.ensures)
