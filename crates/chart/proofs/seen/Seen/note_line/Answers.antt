use Rattle.std.proofs.Common.{◌&&◌, ◌||◌, ◌==◌, [], ◌∷◌, ◌++◌, ap, ◌∙◌, subst}
use Rattle.lines.specs.Parts.{Shows}
use Rattle.chart.specs.Said.{holdings_of, holding, all}
use Rattle.chart.specs.Checks.{noted, holdings}
use Rattle.chart.proofs.Noting.{holding_noted, uses_known}
use Rattle.chart.proofs.seen.Seen.note_line.Goals as goal

pub returns-in-Trans : goal.returns-in-Trans
returns-in-Trans c = λ tree before shown mem. c.note_transition.ensures tree before (subst (λ l. Shows l tree) c.in-Trans.is shown) mem

pub returns-in-Hold : goal.returns-in-Hold
returns-in-Hold c = λ tree before shown mem.
    let f = c.args.findings.now in
    let n = c.in-Hold.step in
    let q = c.in-Hold.output in
    let hs = all holdings_of before in
    let is = holding_noted hs n q c.mark.result f c.note_use.new.self c.note_if-in-Hold.new.self (c.mark.ensures.was_marked ∙ mem.held (holding n q)) c.note_use.ensures c.note_if-in-Hold.ensures in
    rw (subst (λ l. Shows l tree) c.in-Hold.is shown) (record {
      declared = ap (λ g. g.declared) is;
      faults = λ ns knows. ap (λ g. g.first) is ∙ ap (λ us. noted f.first (us ++ holdings hs (holding n q ∷ []))) (uses_known f.declared.now ns knows (n ∷ []));
      remembers = record { steps = mem.steps; transitions = mem.transitions; held = λ h. c.mark.ensures.marks h.step h.output ∙ ap (λ b. (h.step == n.value && h.output == q.value) || b) (mem.held h) };
    })
