use Rattle.std.proofs.Common.{ℕ, ◌+◌, ◌^◌, ◌<◌, ◌≤◌, List, length, take, length-append, ap, ◌∙◌, rules, tests, arith, Bor}
use Rattle.std.proofs.lemmas.Fn.{serves_by}
use Rattle.std.proofs.lemmas.Iterator.{YieldsList-from_slice, YieldsList-from_take}
use Rattle.std.proofs.lemmas.Iterator.Adapters.{at_most_from_yields_List}
use Rattle.std.proofs.lemmas.Iterator.Consumers.{fold_from_yields_List}
use Rattle.std.proofs.lemmas.List.{length-take}
use Rattle.telling.specs.declared.position.Position.{Position}
use Rattle.telling.proofs.Positions.{behind, fold-behind}
use Rattle.telling.proofs.position.position_at.Goals as goal

-- After n bytes the line and the column are n + 1 at most, and no text is long enough for them to overflow.
pub fold-requires-clause-callable : goal.fold-requires-clause-callable
fold-requires-clause-callable c =
    let rest = ap (λ x. x.rest.now) c.take.ensures.source ∙ c.iter.ensures.rest in
    let near = YieldsList-from_take {s = c.take.result} c.args.place (YieldsList-from_slice c.args.text.now rest) c.take.ensures.count in
    let most = at_most_from_yields_List {n = length c.args.text.now} near (omega (arith, length-take c.args.place c.args.text.now)) in
    serves_by _ (λ (xs : List (Bor ℕ)) (q : Unit {0} × Position). (q.1.line ≤ length xs + 1) × (q.1.column ≤ length xs + 1))
    (λ xs q x v j r. search (rules, length-append))
    _ _ c.take.result _ (omega arith, omega arith)
    (λ xs t q x u y s j.
    let m = most.runs xs t y in
    let k : q.1.line + 1 < 2 ^ 64 = omega arith in
    let l : q.1.column + 1 < 2 ^ 64 = omega arith in
    search rules)

pub returns : goal.returns
returns c =
    let rest = ap (λ x. x.rest.now) c.take.ensures.source ∙ c.iter.ensures.rest in
    let near = YieldsList-from_take {s = c.take.result} c.args.place (YieldsList-from_slice c.args.text.now rest) c.take.ensures.count in
    fold_from_yields_List _ behind _ _ c.fold.ensures.ran near (λ p x q f k. search (rules, tests))
    ∙ fold-behind (take c.args.place c.args.text.now)
