use Rattle.std.proofs.Common.{◌≤◌, sym, refl, ap, ◌∙◌, arith}
use Rattle.chart.specs.Numbers.{member, distinct}
use Rattle.chart.proofs.NumberSets.{member_push, distinct_push, room_left}
use Rattle.chart.proofs.set.NumberSet.add.Goals as goal

pub invariant_of-self : goal.invariant_of-self
invariant_of-self c =
    let set = c.args.self.now in
    let small : c.args.n ≤ 255 = omega (arith, c.ranges.n.fits) in
    let taken = c.push.ensures.taken (room_left c.args.n set.numbers set.apart (sym c.if-has.ensures) small) in
    record { apart = ap distinct taken.1 ∙ distinct_push c.args.n set.numbers set.apart (sym c.if-has.ensures) small }

pub unwrap-requires : goal.unwrap-requires
unwrap-requires c =
    let set = c.args.self.now in
    let taken = c.push.ensures.taken (room_left c.args.n set.numbers set.apart (sym c.if-has.ensures) (omega (arith, c.ranges.n.fits))) in
    rw taken.0 refl

pub returns-clause-numbers : goal.returns-clause-numbers
returns-clause-numbers c =
    let set = c.args.self.now in
    let taken = c.push.ensures.taken (room_left c.args.n set.numbers set.apart (sym c.if-has.ensures) (omega (arith, c.ranges.n.fits))) in
    λ m. ap (member m) taken.1 ∙ member_push m c.args.n set.numbers
