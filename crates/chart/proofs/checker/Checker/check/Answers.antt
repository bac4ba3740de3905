use Rattle.std.proofs.Common.{Ok, Err, refl}
use Rattle.faults.specs.declared.ChartFault.TheVariants.{NoInitialStep}
use Rattle.chart.specs.Said.{steps_of, all}
use Rattle.chart.proofs.LinePasses.{answered, never_fails}
use Rattle.chart.proofs.Scratching.{emits_both}
use Rattle.chart.proofs.checker.Checker.check.Goals as goal

pub returns-in_err-fault : goal.returns-in_err-fault
returns-in_err-fault c =
    let d = c.in_ok-initial.ensures.declared in
    absurd (never_fails _ _ _ _ d (c.in_err-fault.ensures.first (all steps_of d.lines) d.steps))

pub returns-in-Some : goal.returns-in-Some
returns-in-Some c =
    let d = c.in_ok-initial.ensures.declared in
    let p = answered _ _ _ c.args.text.end _ d (c.in_ok-fault.ensures.first (all steps_of d.lines) d.steps) (Err c.in-Some.fault) (rw c.in-Some.is refl) in
    record { checked = p.0; first_fault = p.1; scratch = emits_both _ _ _ _ c.in_ok-initial.ensures.emits c.in_ok-fault.ensures.emits }

pub returns-in-None : goal.returns-in-None
returns-in-None c =
    let d = c.in_ok-initial.ensures.declared in
    let p = answered _ _ _ c.args.text.end _ d (c.in_ok-fault.ensures.first (all steps_of d.lines) d.steps) (Ok tt) (rw (c.in-None.is, c.if-initial.true) refl) in
    record { checked = p.0; first_fault = p.1; scratch = emits_both _ _ _ _ c.in_ok-initial.ensures.emits c.in_ok-fault.ensures.emits }

pub returns-in-None-2 : goal.returns-in-None-2
returns-in-None-2 c =
    let d = c.in_ok-initial.ensures.declared in
    let p = answered _ _ _ c.args.text.end _ d (c.in_ok-fault.ensures.first (all steps_of d.lines) d.steps) (Err (NoInitialStep c.args.text.end)) (rw (c.in-None.is, c.if-initial.false) refl) in
    record { checked = p.0; first_fault = p.1; scratch = emits_both _ _ _ _ c.in_ok-initial.ensures.emits c.in_ok-fault.ensures.emits }
