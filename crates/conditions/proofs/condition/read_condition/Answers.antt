use Rattle.std.proofs.Common.{sym, ◌∙◌}
use Rattle.std.proofs.lemmas.Result.{MatchResult-weaker}
use Rattle.conditions.specs.Scan.{none, join}
use Rattle.conditions.proofs.Complete.{stopped, only, nowhere}
use Rattle.conditions.proofs.Viable.{sound, refused}
use Rattle.conditions.proofs.condition.read_condition.Goals as goal

pub returns-clause-reads : goal.returns-clause-reads
returns-clause-reads c =
    MatchResult-weaker c.condition.result c.condition.ensures.reads
    (λ x r.
    let is = r.passes none (sym c.outside.ensures) ∙ stopped _ _ _ _ r.undotted r.unadded in
    record { tree = join r.others r.last; is = is; begins = sound _ _ _ _ is; emitted = r.emitted; same_end = r.later.same_end })
    (λ f r. r.fails none (sym c.outside.ensures))

pub returns-clause-only_tree : goal.returns-clause-only_tree
returns-clause-only_tree c = MatchResult-weaker c.condition.result c.condition.ensures.reads (λ x r. only _ _) (λ f r. nowhere _ _ f (r.fails none (sym c.outside.ensures)))

pub returns-clause-refused : goal.returns-clause-refused
returns-clause-refused c = MatchResult-weaker c.condition.result c.condition.ensures.reads (λ x r. tt) (λ f r. refused _ _ f (r.fails none (sym c.outside.ensures)))
