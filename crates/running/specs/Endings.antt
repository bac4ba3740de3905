-- The end of a campaign after which no scan is open. Assumes nothing.
use Rattle.plain.specs.Stages.{Stage, idle, sampled, worked, halted}
use Rattle.plain.specs.Charts.{Plain, at}

abbrev pub ended_stage : Stage → Stage
ended_stage idle = idle
ended_stage (sampled frame) = idle
ended_stage (worked frame o) = idle
ended_stage halted = halted

-- the plain chart, its open scan abandoned if there is one
abbrev pub ended : Plain → Plain
ended p = at (ended_stage p.stage) p
