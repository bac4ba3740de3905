use Rattle.std.proofs.Common.{◌++◌, refl, ap, ◌∙◌, arith}
use Rattle.codefile.specs.Format.{mark}
use Rattle.codefile.specs.Written.{directory_bytes, bytes64, over}
use Rattle.codefile.proofs.Overwrites.{puts_more, eight_bytes}
use Rattle.codefile.proofs.write.put_head.Goals as goal

pub returns : goal.returns
returns c =
    let old = c.args.buffer.now in
    let pairs = directory_bytes c.args.d in
    let two = puts_more 0 4 mark pairs old _ c.put_directory.new.buffer refl (omega arith) c.put_bytes.ensures c.put_directory.ensures in
    let last = c.put_bytes-2.ensures ∙ ap (λ bs. over 36 bs c.put_directory.new.buffer) (c.to_le_bytes.ensures ∙ eight_bytes c.args.initial) in
    puts_more 0 36 (mark ++ pairs) (bytes64 c.args.initial) old _ _ refl (omega arith) two last
