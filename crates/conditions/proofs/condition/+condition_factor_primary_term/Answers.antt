use Rattle.std.proofs.Common.{[], ◌∷◌, sym, ap, ◌∙◌}
use Rattle.words.specs.Emitted.{kept_in, pushed}
use Rattle.std.proofs.lemmas.Result.{MatchResult-weaker}
use Rattle.conditions.proofs.Steps.{bang_read, bang_none, plain_read_factor, plain_none, atom_read, bracket_read, negating}
use Rattle.conditions.proofs.Pushing.{pushed_none}
use Rattle.conditions.proofs.condition.+condition_factor_primary_term.Goals as goal
use Rattle.conditions.proofs.condition.+condition_factor_primary_term.Goals.{primary-then-negated, primary-else-negated}

pub factor-returns-in-Some-clause-reads : goal.factor-returns-in-Some-clause-reads
factor-returns-in-Some-clause-reads t c = MatchResult-weaker c.primary.result c.primary.ensures.reads (λ x r. bang_read c.in-Some.ensures r) (λ f r. bang_none c.in-Some.ensures r)

pub factor-returns-in-None-clause-reads : goal.factor-returns-in-None-clause-reads
factor-returns-in-None-clause-reads t c = MatchResult-weaker c.primary-in-None.result c.primary-in-None.ensures.reads (λ x r. plain_read_factor c.in-None.ensures r) (λ f r. plain_none c.in-None.ensures r)

pub primary-returns-in_default-clause-reads : goal.primary-returns-in_default-clause-reads
primary-returns-in_default-clause-reads t c = atom_read c.in_ok-atom.ensures (c.push.ensures.step ∙ ap (λ i. pushed (kept_in c.args.out.now) (i ∷ [])) c.loading.ensures)

pub primary-returns-clause-reads : goal.primary-returns-clause-reads
primary-returns-clause-reads t c =
    bracket_read c.in-Some.ensures (c.in_ok-within.ensures, c.in_ok-within.within.few) c.in_ok-inner.ensures.reads c.in-Some-behind.ensures
    (elim c.if-negated.branch [
      | primary-then-negated w ↦ ap kept_in w.out-is ∙ w.push-then-negated.ensures.step ∙ ap (λ b. pushed (kept_in c.condition.new.out) (negating b)) (sym w.if-negated.true)
      | primary-else-negated w ↦ ap kept_in w.out-is ∙ sym (pushed_none _) ∙ ap (λ b. pushed (kept_in c.condition.new.out) (negating b)) (sym w.if-negated.false)
    ])
