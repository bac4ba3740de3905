use Rattle.std.proofs.Common.{refl, arith}
use Rattle.codefile.specs.Written.{bytes32}
use Rattle.codefile.proofs.Overwrites.{puts_more}
use Rattle.codefile.proofs.write.put_pair.Goals as goal

pub returns : goal.returns
returns c =
    puts_more c.args.at _ (bytes32 c.args.pair.offset) (bytes32 c.args.pair.length) c.args.buffer.now _ _ refl (omega arith) c.put_number.ensures c.put_number-2.ensures
