use Rattle.std.proofs.Common.{sym, ◌∙◌}
use Rattle.std.proofs.lemmas.Option.{IfSome_then}
use Rattle.yaml_standard.specs.Goals.{position}
use Rattle.yaml_standard.proofs.BlockNodes.{block_scalar, flow_leaf, node_left_out}
use Rattle.yaml_standard.proofs.block.behind_node.Goals as goal

pub returns-else-is_start : goal.returns-else-is_start
returns-else-is_start c =
    IfSome_then c.behind_eol.result c.behind_eol.ensures
    (λ x t. node_left_out (position c.args.place) _ _ (sym c.is_start.ensures ∙ c.if-is_start.false) t)

pub returns-in_ok-scalar-in-Block : goal.returns-in_ok-scalar-in-Block
returns-in_ok-scalar-in-Block c =
    IfSome_then c.behind_scalar_in_block.result c.behind_scalar_in_block.ensures
    (λ x t. block_scalar (position c.args.place) _ _ _ _ c.in_ok-indent.ensures c.in_ok-scalar-in-Block.ensures t)

pub returns-in_ok-end-in_default : goal.returns-in_ok-end-in_default
returns-in_ok-end-in_default c =
    IfSome_then c.behind_eol-in_default.result c.behind_eol-in_default.ensures
    (λ x t. flow_leaf (position c.args.place) _ _ _ _ _ c.in_ok-indent.ensures c.in_ok-node-in_default.ensures
    c.in_ok-end-in_default.ensures t)
