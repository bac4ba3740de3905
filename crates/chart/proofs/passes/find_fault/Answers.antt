use Rattle.std.proofs.Common.{◌∷◌, ap, ◌∙◌}
use Rattle.lines.specs.Text.{read_lines, between}
use Rattle.lines.specs.Next.{lines_left}
use Rattle.chart.proofs.LinePasses.{fault_more}
use Rattle.chart.proofs.Scratching.{emits_none, emits_more}
use Rattle.chart.proofs.passes.find_fault.Goals as goal

pub loop-line-preserved : goal.loop-line-preserved
loop-line-preserved c =
    let inv = c.loop-line.invariant in
    let read = rw c.in-Some.is at c.in_ok-line.ensures in
    let before = inv.0 in
    let line = c.note_line.ensures read.tree before read.shown inv.1 in (
      read.tree ∷ before,
      line.remembers,
      ap (λ d. d.now) line.declared ∙ inv.2,
      λ ns knows.
          fault_more ns before read.tree c.loop-line.findings.first c.note_line.new.findings.first (lines_left c.loop-line.rest) (lines_left c.in-Some.after) _ read.first
          (line.faults ns (rw inv.2 knows)) (inv.3 ns knows),
      λ after h. inv.4 after (emits_more read.tree (lines_left c.loop-line.rest) (lines_left c.in-Some.after) _ _ after read.first read.emitted h),
    )

pub returns-clause-emits : goal.returns-clause-emits
returns-clause-emits c =
    let none = rw c.in_default.is at c.in_ok-line.ensures in
    let read = ap (λ ts. read_lines ts between c.loop-line.rest.end) none.0 in
    c.loop-line.invariant.4 _ (emits_none (lines_left c.loop-line.rest) _ _ read none.1)
