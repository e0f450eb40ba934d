-- How much is left to drop of a tree.
use Rattle.std.specs.Prelude.{ℕ, ◌+◌, ◌*◌, ◌≤◌, sum_by}
use Rattle.yaml_tree.specs.declared.node.Node.{Node, fold-Node}
use Rattle.yaml_tree.specs.declared.node.Node.TheOpen.{Node-F}

-- A value weighs twice, so that a leaf in place of a collection makes its mapping lighter by that collection at least.
abbrev pub pair_weight : ℕ × ℕ → ℕ
pair_weight p = p.0 + 2 * p.1

abbrev pub weight_step : Node-F ℕ → ℕ
weight_step (Node-F.Alias id) = 1
weight_step (Node-F.Scalar text style id tag) = 1
weight_step (Node-F.Seq id tag nodes) = 2 + sum_by (λ weight. weight) nodes.items
weight_step (Node-F.Map id tag pairs) = 2 + sum_by pair_weight pairs.items

unfoldable pub node_weight : Node → ℕ
node_weight = fold-Node ℕ weight_step

-- no node is inside
abbrev pub IsBare : Node → Type 0
IsBare node = node_weight node ≤ 2

-- What each step of a drop makes smaller: the weight of what is left or, where that stays, the weight of the part in
-- hand.
abbrev pub turns : Node → Node → ℕ
turns outer part = let all = node_weight outer + node_weight part in all * (all + 1) + node_weight part
