use Rattle.std.proofs.Common.{◌<◌, length, sym, ap, ◌∙◌, rules}
use Rattle.std.proofs.lemmas.Result.{err_from_is_err_and}
use Rattle.lines.specs.Text.{read_lines, between, put}
use Rattle.lines.proofs.WholeText.{first_line, first_fails}
use Rattle.lines.proofs.line.next_line.Goals as goal

pub returns-in_err-line : goal.returns-in_err-line
returns-in_err-line c =
    let p = err_from_is_err_and c.from_residual.result c.from_residual.ensures.1 in
    let some : 0 < length c.args.input.tokens.now = search rules in
    rw (p.1, p.2) (first_fails _ _ _ some c.in_err-line.ensures.reads, c.in_err-line.ensures.refused, c.in_err-line.ensures.leaves)

pub returns : goal.returns
returns c =
    let some : 0 < length c.args.input.tokens.now = search rules in
    let line = c.in_ok-line.ensures.reads in
    let rest = c.in_ok-line.rest in
    record {
      tree = line.tree;
      begins = line.begins;
      first = first_line _ _ _ _ some line.is ∙ ap (λ e. put line.tree (read_lines rest.tokens.now between e)) (sym line.same_end);
      shown = line.shown;
      parts = line.parts;
      emitted = line.emitted;
      shorter = line.shorter some;
      same_end = line.same_end;
    }
