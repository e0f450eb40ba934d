use Rattle.yaml_tree.proofs.Weights.{weight_of_nodes, weight_of_pairs, next_turn}
use Rattle.yaml_tree.proofs.node.Node.turned.Goals as goal

pub returns-in-Alias : goal.returns-in-Alias
returns-in-Alias c = next_turn _ _ _ c.next_part.ensures

pub returns-in-Scalar : goal.returns-in-Scalar
returns-in-Scalar c = next_turn _ _ _ c.next_part-in-Scalar.ensures

pub returns-in-Seq : goal.returns-in-Seq
returns-in-Seq c = rw (weight_of_nodes _ _ _ _ c.in-Seq.is) c.turned_nodes.ensures

pub returns-in-Map : goal.returns-in-Map
returns-in-Map c = rw (weight_of_pairs _ _ _ _ c.in-Map.is) c.turned_pairs.ensures
