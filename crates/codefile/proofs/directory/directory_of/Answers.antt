use Rattle.std.proofs.Common.{◌≡◌, length, drop, length-drop, arith, rules}
use Rattle.std.proofs.lemmas.List.{take_all}
use Rattle.codefile.proofs.Directories.{pair_drop, rest_drop, directory_is}
use Rattle.codefile.proofs.directory.directory_of.Goals as goal

pub returns : goal.returns
returns c =
    let bs = c.args.head.now in
    let long : length bs ≡ 36 = search rules in
    let front = take_all 32 (drop 4 bs) (simp length-drop (omega (arith, long))) in
    let one = rest_drop 4 bs _ c.read_pair.result.1.now front c.read_pair.ensures.rest in
    let two = rest_drop 12 bs _ c.read_pair-2.result.1.now one c.read_pair-2.ensures.rest in
    let three = rest_drop 20 bs _ c.read_pair-3.result.1.now two c.read_pair-3.ensures.rest in
    directory_is bs c.read_pair.result.0 c.read_pair-2.result.0 c.read_pair-3.result.0 c.read_pair-4.result.0
    (pair_drop 4 bs _ _ front c.read_pair.ensures.pair)
    (pair_drop 12 bs _ _ one c.read_pair-2.ensures.pair)
    (pair_drop 20 bs _ _ two c.read_pair-3.ensures.pair)
    (pair_drop 28 bs _ _ three c.read_pair-4.ensures.pair)
