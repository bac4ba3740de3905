use Rattle.std.proofs.Common.{◌+◌, [], ◌∷◌, drop, sym, ap, ◌∙◌}
use Rattle.lines.specs.Parts.{numbers_in}
use Rattle.chart.specs.Checks.{listings}
use Rattle.chart.specs.Findings.{noting}
use Rattle.chart.proofs.Noting.{numbers_next, listed_next}
use Rattle.chart.proofs.findings.Findings.note_list.Goals as goal
use Rattle.chart.proofs.findings.Findings.note_list.Goals.{in-Some, in_default}

pub loop-t-preserved : goal.loop-t-preserved
loop-t-preserved c =
    let ts = c.args.list.now in
    let i = c.loop-t.t-index in
    let before = c.loop-t.invariant.0 in
    let knows = c.loop-t.invariant.1 in
    elim c.match-number_of.branch [
      | in-Some w ↦
          let n = w.in-Some.n in (
            n ∷ before,
            rw w.listed-is (w.note_listing.ensures.counts before knows),
            listed_next before n c.loop-t.self c.match-number_of.self _ (numbers_in (drop i ts)) (numbers_in (drop (i + 1) ts))
                (numbers_next ts i _ (n ∷ []) c.loop-t-test.true w.in-Some.ensures) (w.self-is ∙ w.note_listing.ensures.faults before knows) c.loop-t.invariant.2,
          )
      | in_default w ↦
          let same = numbers_next ts i _ [] c.loop-t-test.true w.in_default.ensures in (
            before,
            rw w.listed-is knows,
            rw w.self-is (ap (λ l. noting c.loop-t.self (listings before l)) (sym same) ∙ c.loop-t.invariant.2),
          )
    ]
