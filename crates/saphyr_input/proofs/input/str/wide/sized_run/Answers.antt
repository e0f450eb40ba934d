use Rattle.std.proofs.Common.{arith}
use Rattle.saphyr_input.proofs.WideChars.{one_passed, one_more, shorter}
use Rattle.saphyr_input.proofs.input.str.wide.sized_run.Goals as goal

pub loop-at-init : goal.loop-at-init
loop-at-init g c =
    rw c.as_bytes-bytes.ensures.value
    (one_passed g.C.CharSet.test c.args.text.now c.args.size c.utf8.text g.met.C.CharSet.without_nul c.requires.first)

pub overflow_add-at : goal.overflow_add-at
overflow_add-at g c =
    let more = one_more g.C.CharSet.test c.as_bytes-bytes.result.now c.loop-at.at c.args.size c.loop-at.count
    c.as_bytes-bytes.ensures.utf8 g.met.C.CharSet.without_nul c.loop-at.invariant
    (c.is_sized.ensures c.if-is_sized.true) in
    omega (arith, more.boundary.0, c.as_bytes-bytes.type_inv)

pub loop-at-smaller : goal.loop-at-smaller
loop-at-smaller g c =
    shorter g.C.CharSet.test c.as_bytes-bytes.result.now c.loop-at.at c.args.size c.loop-at.count
    c.as_bytes-bytes.ensures.utf8 g.met.C.CharSet.without_nul c.loop-at.invariant
    (c.is_sized.ensures c.if-is_sized.true)
    c.loop-at-test.true

pub loop-at-preserved : goal.loop-at-preserved
loop-at-preserved g c =
    one_more g.C.CharSet.test c.as_bytes-bytes.result.now c.loop-at.at c.args.size c.loop-at.count
    c.as_bytes-bytes.ensures.utf8 g.met.C.CharSet.without_nul c.loop-at.invariant
    (c.is_sized.ensures c.if-is_sized.true)
