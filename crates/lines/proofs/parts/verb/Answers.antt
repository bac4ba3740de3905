use Rattle.std.proofs.Common.{◌∙◌}
use Rattle.std.proofs.lemmas.Result.{err_from_is_err_and}
use Rattle.lines.proofs.Reading.{not_set}
use Rattle.lines.proofs.parts.verb.Goals as goal

pub returns-in_err-word-in-None : goal.returns-in_err-word-in-None
returns-in_err-word-in-None c =
    let p = err_from_is_err_and c.from_residual.result c.from_residual.ensures.1 in
    rw (p.1, p.2) (record { fails = λ n. not_set c.args.input n c.in-None.ensures ∙ c.in_err-word-in-None.ensures.fails _ })
