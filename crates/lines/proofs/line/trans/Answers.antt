use Rattle.std.proofs.Common.{[], ◌∙◌}
use Rattle.std.proofs.lemmas.Result.{err_from_is_err_and}
use Rattle.conditions.specs.Scan as condition
use Rattle.lines.proofs.Reading.{up_to_from, up_to_to, up_to_when, guard_fails, guard_passes, second, trans_reads, grown_behind}
use Rattle.lines.proofs.line.trans.Goals as goal

pub returns-in_err-from-clause-reads : goal.returns-in_err-from-clause-reads
returns-in_err-from-clause-reads c =
    let p = err_from_is_err_and c.from_residual-in_err-from.result c.from_residual-in_err-from.ensures.1 in
    rw (p.1, p.2) (record { fails = up_to_from c.in_ok-number.ensures c.in_ok-first.ensures ∙ c.in_err-from.ensures.fails (λ fs. second c.in_ok-number.number fs) })

pub returns-in_err-to-clause-reads : goal.returns-in_err-to-clause-reads
returns-in_err-to-clause-reads c =
    let p = err_from_is_err_and c.from_residual-in_err-to.result c.from_residual-in_err-to.ensures.1 in
    rw (p.1, p.2) (record { fails = up_to_to c.in_ok-number.ensures c.in_ok-first.ensures c.in_ok-from.ensures ∙ c.in_err-to.ensures.fails _ })

pub returns-in_err-condition-clause-reads : goal.returns-in_err-condition-clause-reads
returns-in_err-condition-clause-reads c =
    let p = err_from_is_err_and c.from_residual-in_err-condition.result c.from_residual-in_err-condition.ensures.1 in
    let third = c.in_ok-to.third in
    rw (p.1, p.2) (record { fails = up_to_when c.in_ok-number.ensures c.in_ok-first.ensures c.in_ok-from.ensures c.in_ok-to.ensures ∙ guard_fails c.in_ok-number.number c.in_ok-from.ensures.tree c.in_ok-to.ensures.tree [] condition.start third.end third.tokens.now _ c.in_err-condition.ensures.reads.fails })

pub returns-in_err-left-clause-reads : goal.returns-in_err-left-clause-reads
returns-in_err-left-clause-reads c =
    let p = err_from_is_err_and c.from_residual-in_err-left.result c.from_residual-in_err-left.ensures.1 in
    rw (p.1, p.2) (record { fails = up_to_when c.in_ok-number.ensures c.in_ok-first.ensures c.in_ok-from.ensures c.in_ok-to.ensures ∙ guard_passes c.in_ok-number.number c.in_ok-from.ensures.tree c.in_ok-to.ensures.tree c.in_ok-condition.ensures.reads ∙ c.in_err-left.ensures.fails _ })

pub returns-clause-reads : goal.returns-clause-reads
returns-clause-reads c = λ w i. trans_reads _ w c.args.input c.in_ok-number.behind_number c.in_ok-first.first c.in_ok-from.second c.in_ok-to.third c.in_ok-condition.rest c.in_ok-left.left _ _ _ i c.in_ok-number.ensures c.in_ok-first.ensures c.in_ok-from.ensures c.in_ok-to.ensures c.test_steps.ensures c.in_ok-condition.ensures.reads c.in_ok-left.ensures

pub returns-in_err-left-clause-leaves : goal.returns-in_err-left-clause-leaves
returns-in_err-left-clause-leaves c =
    let p = err_from_is_err_and c.from_residual-in_err-left.result c.from_residual-in_err-left.ensures.1 in
    rw (p.1) (grown_behind _ c.test_steps.ensures (record { more = _; emitted = c.in_ok-condition.ensures.reads.emitted }))
