use Rattle.std.proofs.Common.{arith}
use Rattle.yaml_tree.proofs.LookUps.{finds_none, finds_some, none_further}
use Rattle.yaml_tree.proofs.table.NodeTable.with_anchor.Goals as goal

pub returns-then-has_anchor : goal.returns-then-has_anchor
returns-then-has_anchor c = λ es t.
    let here = c.has_anchor.ensures.here c.if-has_anchor.true es t in
    finds_some es here.0 c.args.id c.in-Some.number (λ zero. omega (arith, c.if-id-eq0.false, zero)) here.1 here.2

pub returns-then-has_anchor-2 : goal.returns-then-has_anchor-2
returns-then-has_anchor-2 c = λ es t.
    let here = c.has_anchor-in-loop-number.ensures.here c.if-has_anchor-2.true es t in
    finds_some es here.0 c.args.id c.loop-number.number (λ zero. omega (arith, c.if-id-eq0.false, zero)) here.1 here.2

pub loop-number-preserved : goal.loop-number-preserved
loop-number-preserved c = none_further c.args.self.now c.args.id c.loop-number.number c.loop-number.invariant
    (λ es own t at has.
    let zero = c.has_anchor-in-loop-number.ensures.not_here c.if-has_anchor-2.false es own t at has in
    omega (arith, c.if-id-eq0.false, zero))

pub returns : goal.returns
returns c = λ es t.
    let long = c.len-number-end.ensures in
    let end = c.loop-number-test.false in
    finds_none c.args.self.now c.args.id c.loop-number.number es (λ zero. omega (arith, c.if-id-eq0.false, zero))
    (omega (arith, long, end)) c.loop-number.invariant t
