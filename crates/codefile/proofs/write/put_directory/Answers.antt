use Rattle.std.proofs.Common.{◌++◌, refl, arith}
use Rattle.codefile.specs.Written.{pair_bytes}
use Rattle.codefile.proofs.Overwrites.{puts_more}
use Rattle.codefile.proofs.write.put_directory.Goals as goal

pub returns : goal.returns
returns c =
    let old = c.args.buffer.now in
    let a = pair_bytes c.args.d.initial in
    let b = pair_bytes c.args.d.clear in
    let e = pair_bytes c.args.d.enter in
    let h = pair_bytes c.args.d.hold in
    let two = puts_more 4 12 a b old _ _ refl (omega arith) c.put_pair.ensures c.put_pair-2.ensures in
    let three = puts_more 4 20 (a ++ b) e old _ _ refl (omega arith) two c.put_pair-3.ensures in
    puts_more 4 28 ((a ++ b) ++ e) h old _ _ refl (omega arith) three c.put_pair-4.ensures
