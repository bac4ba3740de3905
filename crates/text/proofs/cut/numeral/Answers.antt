use Rattle.std.proofs.Common.{◌<◌, arith}
use Rattle.std.proofs.lemmas.List.{get_or-take, length-take}
use Rattle.text.specs.Runs.{digits}
use Rattle.text.proofs.RunLaws.{digit_at, one_digit_more}
use Rattle.text.proofs.cut.numeral.Goals as goal

pub overflow_sub-b : goal.overflow_sub-b
overflow_sub-b c =
    let bytes = c.args.bytes.now in
    let i = c.loop-b.b-index in
    let in_run : i < digits bytes = omega (arith, length-take c.digit_run-n.result bytes) in
    omega (arith, digit_at bytes i in_run, get_or-take c.digit_run-n.result bytes i 0 (omega arith))

pub loop-b-preserved : goal.loop-b-preserved
loop-b-preserved c =
    let bytes = c.args.bytes.now in
    let i = c.loop-b.b-index in
    let in_run : i < digits bytes = omega (arith, length-take c.digit_run-n.result bytes) in
    let digit = digit_at bytes i in_run in
    let more = one_digit_more bytes i in_run in
    let same = get_or-take c.digit_run-n.result bytes i 0 (omega arith) in
    record { value = omega arith; none = omega arith; one = omega arith; two = omega arith; three = omega arith }
