use Rattle.std.proofs.Common.{◌-◌, ◌<◌, length, arith, vec_len}
use Rattle.yaml_tree.proofs.Weights.{taken_value, taken_key, last_key, nonzero, heavy, read_twice}
use Rattle.yaml_tree.proofs.node.next_of_pairs.Goals as goal

pub returns-then-not-is_bare : goal.returns-then-not-is_bare
returns-then-not-is_bare c =
    let some : 0 < vec_len c.args.pairs = nonzero _ c.if-is_empty.ensures in
    let below : c.len-last.result - 1 < length c.args.pairs.items = omega (arith, c.args.pairs.ok.0) in
    let same = read_twice c.args.pairs.items _ _ _ below c.index.ensures c.index_mut.ensures.value in
    rw (c.replace-value.ensures.after, c.replace-value.ensures.value)
    (taken_value c.index_mut.result.now _ c.args.pairs _ below c.index_mut.ensures.value
    (heavy _ _ c.if-not-is_bare.ensures.1 same))

pub returns-then-is_empty-2 : goal.returns-then-is_empty-2
returns-then-is_empty-2 c = last_key c.in-Some.key c.in-Some.value c.args.pairs c.pop.new.self c.in-Some.ensures.items

pub returns-else-is_empty-2 : goal.returns-else-is_empty-2
returns-else-is_empty-2 c = taken_key c.in-Some.key c.in-Some.value c.args.pairs c.pop.new.self c.in-Some.ensures.items
