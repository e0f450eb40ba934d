use Rattle.yaml_standard.specs.Goals.{position}
use Rattle.yaml_standard.proofs.BlockNodes.{block_collection, flow_collection}
use Rattle.yaml_standard.proofs.block.block_node.Goals as goal

pub returns-then-branch : goal.returns-then-branch
returns-then-branch c = λ x end s eol.
    flow_collection (position c.args.place) _ _ _ x end c.in_ok-indent.ensures c.in_ok-node.ensures
    (c.in_ok-rest-2.ensures x s) eol

pub returns : goal.returns
returns c = λ x end entry others.
    block_collection _ (position c.args.place) _ _ _ _ x end c.in_ok-least.ensures c.in_ok-rest-3.ensures entry others
