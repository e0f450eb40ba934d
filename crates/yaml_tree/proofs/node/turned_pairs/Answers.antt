use Rattle.std.proofs.Common.{◌<◌, arith, vec_len}
use Rattle.yaml_tree.proofs.Weights.{turned_pair, next_turn, nonzero}
use Rattle.yaml_tree.proofs.node.turned_pairs.Goals as goal

pub returns-then-is_empty : goal.returns-then-is_empty
returns-then-is_empty c = next_turn _ _ _ c.next_part.ensures

pub returns : goal.returns
returns c =
    let some : 0 < vec_len c.args.pairs = nonzero _ c.if-is_empty.ensures in
    rw (c.replace-part.ensures.after, c.replace-part.ensures.value)
    (turned_pair c.args.outer c.index_mut.result.now _ c.args.pairs _
    (omega (arith, c.args.pairs.ok.0)) c.index_mut.ensures.value)
