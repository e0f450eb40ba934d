use Rattle.yaml_standard.proofs.Collections.{collection_node, leaf_node}
use Rattle.yaml_standard.proofs.flow.node.Goals as goal

pub returns-then-is_collection : goal.returns-then-is_collection
returns-then-is_collection c = λ end s. collection_node _ _ _ (c.in_ok-rest.ensures end s)

pub returns : goal.returns
returns c = leaf_node _ _ _ c.in_ok-rest-2.ensures
