use Rattle.std.proofs.Common.{◌+◌, arith, ap, ◌∙◌, rules, tests}
use Rattle.std.proofs.lemmas.Iterator.{YieldsList-from_slice, YieldsList-from_take}
use Rattle.std.proofs.lemmas.Iterator.Search.{YieldsList-from_take_while}
use Rattle.std.proofs.lemmas.Iterator.Consumers.{count_from_yields_List}
use Rattle.telling.proofs.Lines.{goes_on, from_count, from_within}
use Rattle.telling.proofs.excerpt.end_of.Goals as goal

pub returns : goal.returns
returns c =
    let taken = c.take_while.ensures.source in
    let rest = ap (λ x. x.iter.rest.now) taken ∙ ap (λ x. x.rest.now) c.take-behind.ensures.source ∙ c.iter.ensures.rest in
    let near = YieldsList-from_take {s = c.take_while.result.iter} 100 (YieldsList-from_slice _ rest) (ap (λ x. x.n) taken ∙ c.take-behind.ensures.count) in
    let counted = count_from_yields_List c.take_while.result _ c.count.ensures.ran
    (YieldsList-from_take_while _ goes_on near c.take_while.ensures.closure c.take_while.ensures.done (λ x b q k. search (rules, tests))) in
    let shown = ap (λ n. c.args.place + n) (from_count c.args.text.now c.args.place _ counted) in
    record {
      shown = shown;
      within = omega (arith, shown, from_within c.args.text.now c.args.place c.requires);
    }
