use Rattle.yaml_standard.proofs.BlockNodes.{dash_and_node}
use Rattle.yaml_standard.proofs.block.block_entry.Goals as goal

pub returns-in_ok-rest-in-Sequence : goal.returns-in_ok-rest-in-Sequence
returns-in_ok-rest-in-Sequence c = λ end node.
    dash_and_node _ c.args.column _ _ end c.in-Sequence.is c.in_ok-rest-in-Sequence.ensures node
