use Rattle.std.proofs.Common.{refl, rules}
use Rattle.text.specs.declared.token.Word.TheVariants.{Step, Hold, Enter}
use Rattle.lines.proofs.Reading.{none_left, begun_line, transition_line, ended_at_once}
use Rattle.lines.proofs.line.read.Goals as goal

pub returns-then-is_empty-clause-reads : goal.returns-then-is_empty-clause-reads
returns-then-is_empty-clause-reads c = none_left c.args.input _ (search rules)

pub returns-in-LineEnd-clause-reads : goal.returns-in-LineEnd-clause-reads
returns-in-LineEnd-clause-reads c = ended_at_once c.in_ok-first.first _ c.in-LineEnd.is c.in_ok-first.ensures

pub returns-in-Keyword-Step-clause-reads : goal.returns-in-Keyword-Step-clause-reads
returns-in-Keyword-Step-clause-reads c = begun_line Step c.in_ok-first.first _ _ (search rules) c.in_ok-first.ensures (λ at. refl) c.step.ensures

pub returns-in-Keyword-Trans-clause-reads : goal.returns-in-Keyword-Trans-clause-reads
returns-in-Keyword-Trans-clause-reads c = transition_line _ _ c.in_ok-first.first _ (search rules) c.in_ok-first.ensures c.trans.ensures.reads

pub returns-in-Keyword-Hold-clause-reads : goal.returns-in-Keyword-Hold-clause-reads
returns-in-Keyword-Hold-clause-reads c = begun_line Hold c.in_ok-first.first _ _ (search rules) c.in_ok-first.ensures (λ at. refl) c.hold.ensures

pub returns-in-Keyword-Enter-clause-reads : goal.returns-in-Keyword-Enter-clause-reads
returns-in-Keyword-Enter-clause-reads c = begun_line Enter c.in_ok-first.first _ _ (search rules) c.in_ok-first.ensures (λ at. refl) c.enter.ensures
