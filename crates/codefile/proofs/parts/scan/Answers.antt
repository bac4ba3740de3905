use Rattle.std.proofs.Common.{◌≡◌, ◌+◌, ◌-◌, length, take, drop, sym, ◌∙◌, rules, arith}
use Rattle.codefile.proofs.Scans.{scan_undecoded, scan_owed, scan_spoiled, scan_more}
use Rattle.codefile.proofs.parts.scan.Goals as goal

pub returns-in_default-decode : goal.returns-in_default-decode
returns-in_default-decode c =
    let l = c.loop-left in
    scan_undecoded c.args.part _ l.owed l.depth l.left.now c.in-len4-up.len_at_least c.number-word.result c.number-word.ensures (sym c.decode.ensures.instruction ∙ c.in_default-decode.is) ∙ l.invariant.1

pub returns-in_default-depth_after : goal.returns-in_default-depth_after
returns-in_default-depth_after c =
    let l = c.loop-left in
    let decoded = sym c.decode.ensures.instruction ∙ c.in-Some.is in
    scan_owed c.args.part _ l.owed l.depth l.left.now c.in-len4-up.len_at_least c.number-word.result c.number-word.ensures c.in-Some.instruction decoded c.if-not-owed.false ∙ l.invariant.1

pub returns-in_default-depth_after-2 : goal.returns-in_default-depth_after-2
returns-in_default-depth_after-2 c =
    let l = c.loop-left in
    let decoded = sym c.decode.ensures.instruction ∙ c.in-Some.is in
    let spoiled = sym c.in_default-depth_after.is ∙ c.depth_after.ensures in
    scan_spoiled c.args.part _ l.owed l.depth l.left.now c.in-len4-up.len_at_least c.number-word.result c.number-word.ensures c.in-Some.instruction decoded spoiled ∙ l.invariant.1

pub loop-left-preserved : goal.loop-left-preserved
loop-left-preserved c =
    let l = c.loop-left in
    let left = l.left.now in
    let decoded = sym c.decode.ensures.instruction ∙ c.in-Some.is in
    let next = sym c.in-Some-depth_after.is ∙ c.depth_after.ensures in
    let behind : length (take (length left - 4) (drop 4 left)) + 4 ≡ length left = search rules in
    let at : c.args.start + (length c.args.bytes.now - length (take (length left - 4) (drop 4 left))) ≡ c.args.start + (length c.args.bytes.now - length left) + 4 = omega (arith, behind, l.invariant.0) in
    let more = scan_more c.args.part _ l.owed l.depth left c.in-len4-up.len_at_least c.number-word.result c.number-word.ensures c.in-Some.instruction decoded c.if-not-owed.true c.in-Some-depth_after.after next in
    (omega (arith, behind, l.invariant.0), rw at (more ∙ l.invariant.1))
