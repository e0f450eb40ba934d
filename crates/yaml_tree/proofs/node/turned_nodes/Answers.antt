use Rattle.std.proofs.Common.{◌<◌, ◌∙◌, arith, vec_len}
use Rattle.yaml_tree.proofs.Weights.{turned_node, next_turn, nonzero}
use Rattle.yaml_tree.proofs.node.turned_nodes.Goals as goal

pub returns-then-is_empty : goal.returns-then-is_empty
returns-then-is_empty c = next_turn _ _ _ c.next_part.ensures

pub returns : goal.returns
returns c =
    let some : 0 < vec_len c.args.nodes = nonzero _ c.if-is_empty.ensures in
    rw c.replace-part.ensures.after (turned_node c.args.outer c.replace-part.result _ c.args.nodes _
    (omega (arith, c.args.nodes.ok.0)) (c.replace-part.ensures.value ∙ c.index_mut.ensures.value))
