use Rattle.std.proofs.Common.{◌+◌, ◌≤◌, length, take, drop, None, sym, ap, ◌∙◌, rules, tests, arith}
use Rattle.std.proofs.lemmas.Iterator.{YieldsList-from_slice}
use Rattle.std.proofs.lemmas.Iterator.Search.{position_from_yields_List}
use Rattle.std.proofs.lemmas.List.{take_all, drop_all, take_rest}
use Rattle.running.specs.CallLists.{is_line_end}
use Rattle.running.proofs.Cutting.{line_end, place_of}
use Rattle.running.proofs.call_list.cut_line.Goals as goal

pub returns-in-Some-clause-line : goal.returns-in-Some-clause-line
returns-in-Some-clause-line c =
    let near = YieldsList-from_slice c.args.text.now c.iter.ensures.rest in
    ap (λ n. take n c.args.text.now) (place_of c.args.text.now _ (position_from_yields_List is_line_end _ _ _ c.in-Some.ensures.ran near (λ x b q k. search (rules, tests))))

pub returns-in-Some-clause-behind : goal.returns-in-Some-clause-behind
returns-in-Some-clause-behind c =
    let near = YieldsList-from_slice c.args.text.now c.iter.ensures.rest in
    take_rest c.args.text.now (c.in-Some.end + 1)
    ∙ ap (λ n. drop (n + 1) c.args.text.now) (place_of c.args.text.now _ (position_from_yields_List is_line_end _ _ _ c.in-Some.ensures.ran near (λ x b q k. search (rules, tests))))

pub returns-in-None-clause-line : goal.returns-in-None-clause-line
returns-in-None-clause-line c =
    let near = YieldsList-from_slice c.args.text.now c.iter.ensures.rest in
    sym (take_all _ c.args.text.now (place_of c.args.text.now None (position_from_yields_List is_line_end _ _ None c.in-None.ensures.ran near (λ x b q k. search (rules, tests)))))

pub returns-in-None-clause-behind : goal.returns-in-None-clause-behind
returns-in-None-clause-behind c =
    let near = YieldsList-from_slice c.args.text.now c.iter.ensures.rest in
    let past : length c.args.text.now ≤ line_end c.args.text.now = place_of c.args.text.now None (position_from_yields_List is_line_end _ _ None c.in-None.ensures.ran near (λ x b q k. search (rules, tests))) in
    sym (drop_all _ c.args.text.now (omega arith))
