use Rattle.std.proofs.Common.{◌∙◌, arith}
use Rattle.codefile.proofs.Overwrites.{words_more}
use Rattle.codefile.proofs.write.put_words.Goals as goal

pub loop-i-preserved : goal.loop-i-preserved
loop-i-preserved c =
    let l = c.loop-i in
    words_more c.args.at l.i c.args.words.now l.buffer c.put_number.new.buffer (omega arith) (omega arith) c.put_number.ensures ∙ l.invariant
