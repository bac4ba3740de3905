use Rattle.std.proofs.Common.{arith}
use Rattle.text.specs.Lex.{lex}
use Rattle.text.proofs.Places.{laws}
use Rattle.text.proofs.Texts.{cut_short}
use Rattle.text.proofs.tokens.Tokens.cut.Goals as goal

pub returns : goal.returns
returns c =
    let l = laws c.args.text.now c.fill.new.list c.fill.result (lex c.args.text.now 0 0) (cut_short c.args.text.now (omega (arith, c.if-text-gt-LONGEST_TEXT.false))) c.fill.ensures.list c.fill.ensures.stop in
    record { tokens = l.tokens; stop = l.stop; spelled = l.spelled; alone = l.alone; rising = l.rising }
