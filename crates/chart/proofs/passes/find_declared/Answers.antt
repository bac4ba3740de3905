use Rattle.std.proofs.Common.{◌||◌, [], ◌∷◌, ◌++◌, sym, ap, ◌∙◌}
use Rattle.lines.specs.Text.{read_lines, between}
use Rattle.lines.specs.Next.{lines_left}
use Rattle.lines.proofs.WholeText.{left_less}
use Rattle.chart.specs.Said.{is_initial}
use Rattle.chart.proofs.LinePasses.{initial_push}
use Rattle.chart.proofs.Scratching.{emits_none, emits_more}
use Rattle.chart.proofs.passes.find_declared.Goals as goal

pub loop-line-preserved : goal.loop-line-preserved
loop-line-preserved c =
    let inv = c.loop-line.invariant in
    let line = rw c.in-Some.is at c.in_ok-line.ensures in
    let ls = inv.0 in
    let d = c.declare-any_initial.ensures line.tree ls line.shown inv.3 in (
      ls ++ line.tree ∷ [],
      left_less c.args.text c.loop-line.rest c.in-Some.after ls line.tree inv.1 line.first,
      ap (λ b. c.loop-line.any_initial || b) d.0 ∙ (ap (λ b. b || is_initial line.tree) inv.2 ∙ sym (initial_push ls line.tree)),
      d.1,
      λ after h. inv.4 after (emits_more line.tree (lines_left c.loop-line.rest) (lines_left c.in-Some.after) _ _ after line.first line.emitted h),
    )

pub returns-clause-emits : goal.returns-clause-emits
returns-clause-emits c =
    let none = rw c.in_default.is at c.in_ok-line.ensures in
    let read = ap (λ ts. read_lines ts between c.loop-line.rest.end) none.0 in
    c.loop-line.invariant.4 _ (emits_none (lines_left c.loop-line.rest) _ _ read none.1)
