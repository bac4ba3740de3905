use Rattle.std.proofs.Common.{length, ap, arith, length-append, length-drop}
use Rattle.text.specs.declared.token.Token.{Token}
use Rattle.text.proofs.Lexing.{one_more}
use Rattle.text.proofs.cut.fill.Goals as goal

-- the token goes to the others, and the loop goes on behind it
pub loop-rest-preserved : goal.loop-rest-preserved
loop-rest-preserved c =
    let rest = c.loop-rest.rest in
    let is = rw c.in-Some.is at c.in_ok-piece.ensures.is in
    let within = rw c.in-Some.is at c.in_ok-piece.ensures.within in
    let pushed = (c.push.ensures.taken (omega (arith, within))).1 in
    let more = one_more c.loop-rest.list rest.bytes.now rest.place c.in-Some.len c.in-Some.kind is within.0 within.1 in
    let skipped = ap length c.skip-in-Some.ensures.bytes in
    record {
      left = cc;
      whole = omega (arith, within, skipped, length-drop c.in-Some.len rest.bytes.now);
      room = omega (arith, within, ap length pushed, length-append {A = Token});
    }
