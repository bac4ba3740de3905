use Rattle.std.proofs.Common.{◌≡◌, ℕ, ◌-◌, ◌≤◌, [], ◌∷◌, ◌++◌, length, map, replicate, string_bytes, ap, ◌∙◌, arith}
use Rattle.std.specs.List.{slice_range}
use Rattle.std.proofs.lemmas.List.{take_all, length-take}
use Rattle.telling.specs.Excerpts.{column_of}
use Rattle.telling.proofs.Excerpts.{excerpt-is}
use Rattle.telling.proofs.excerpt.excerpt.Goals as goal

pub returns : goal.returns
returns c =
    let start = c.start_of-start.result in
    let place = c.min-place.result in
    let line = slice_range c.args.text.now start c.end_of.result in
    let long : length line ≤ c.loop-byte.byte-index = omega (arith, length-take {A = ℕ}) in
    let whole = c.loop-byte.invariant ∙ ap (map column_of) (take_all c.loop-byte.byte-index line long) in
    let above = c.in_ok-push-2.ensures.bytes
    ∙ ap (λ bs. string_bytes c.loop-byte.shown ++ bs) (c.in_ok-push-2.ensures.ascii (omega arith))
    ∙ ap (λ bs. bs ++ 10 ∷ []) whole in
    let blanks : c.loop.counter ≡ place - start = omega arith in
    c.in_ok-push-4.ensures.bytes
    ∙ ap (λ bs. string_bytes c.loop.shown ++ bs) (c.in_ok-push-4.ensures.ascii (omega arith))
    ∙ ap (λ bs. bs ++ 94 ∷ []) c.loop.invariant
    ∙ ap (λ n. string_bytes c.push-2.new.self ++ replicate n 32 ++ 94 ∷ []) blanks
    ∙ ap (λ bs. bs ++ replicate (place - start) 32 ++ 94 ∷ []) above
    ∙ excerpt-is c.args.text.now c.args.place place start c.end_of.result c.min-place.ensures c.start_of-start.ensures
    c.end_of.ensures.shown
