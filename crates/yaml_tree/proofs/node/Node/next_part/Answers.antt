use Rattle.yaml_tree.proofs.Weights.{weight_of_nodes, weight_of_pairs}
use Rattle.yaml_tree.proofs.node.Node.next_part.Goals as goal

pub returns-in-Seq : goal.returns-in-Seq
returns-in-Seq c = rw (weight_of_nodes _ _ _ _ c.in-Seq.is) c.next_node.ensures

pub returns-in-Map : goal.returns-in-Map
returns-in-Map c = rw (weight_of_pairs _ _ _ _ c.in-Map.is) c.next_of_pairs.ensures
