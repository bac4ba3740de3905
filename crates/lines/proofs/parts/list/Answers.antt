use Rattle.std.proofs.lemmas.Result.{err_from_is_err_and}
use Rattle.lines.proofs.Reading.{list_started, list_more, list_ended, list_wordless}
use Rattle.lines.proofs.parts.list.Goals as goal

pub loop-after-init : goal.loop-after-init
loop-after-init c = list_started c.in_ok-rest.ensures

pub loop-after-preserved : goal.loop-after-preserved
loop-after-preserved c = list_more c.loop-after.invariant c.in-Some.ensures c.in_ok-left.ensures

pub used-part-requires : goal.used-part-requires
used-part-requires c = (c.loop-after.invariant.part, c.loop-after.invariant.split)

pub returns-in_err-word : goal.returns-in_err-word
returns-in_err-word c =
    let p = err_from_is_err_and c.from_residual-in_err-word.result c.from_residual-in_err-word.ensures.1 in
    rw (p.1, p.2) (list_wordless c.loop-after.invariant c.in_default.ensures c.in_err-word.ensures)

pub returns : goal.returns
returns c = list_ended c.loop-after.invariant c.in_default.ensures c.used-part.ensures c.in_ok-word.ensures
