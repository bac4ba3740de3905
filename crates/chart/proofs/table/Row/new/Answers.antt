use Rattle.chart.proofs.EmptySets.{no_mark}
use Rattle.chart.proofs.table.Row.new.Goals as goal

pub returns : goal.returns
returns c = λ q. no_mark 256 q
