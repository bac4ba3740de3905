use Rattle.std.proofs.Common.{ap, ◌∙◌, rules, tests}
use Rattle.std.proofs.lemmas.Iterator.{YieldsList-from_take}
use Rattle.std.proofs.lemmas.Iterator.Adapters.{YieldsList-from_rev_slice}
use Rattle.std.proofs.lemmas.Iterator.Search.{YieldsList-from_take_while}
use Rattle.std.proofs.lemmas.Iterator.Consumers.{count_from_yields_List}
use Rattle.telling.proofs.Lines.{goes_on, before_count}
use Rattle.telling.proofs.excerpt.start_of.Goals as goal

pub returns : goal.returns
returns c =
    let taken = c.take_while.ensures.source in
    let rest = ap (λ x. x.iter.iter.rest.now) taken ∙ ap (λ x. x.iter.rest.now) c.take-before.ensures.source ∙ ap (λ x. x.rest.now) c.rev.ensures.source ∙ c.iter.ensures.rest in
    let near = YieldsList-from_take {s = c.take_while.result.iter} 100 (YieldsList-from_rev_slice _ rest) (ap (λ x. x.n) taken ∙ c.take-before.ensures.count) in
    let counted = count_from_yields_List c.take_while.result _ c.count.ensures.ran
    (YieldsList-from_take_while _ goes_on near c.take_while.ensures.closure c.take_while.ensures.done (λ x b q k. search (rules, tests))) in
    before_count c.args.text.now c.args.place _ c.requires counted
