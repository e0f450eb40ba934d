use Rattle.std.proofs.Common.{◌∙◌, ap}
use Rattle.yaml_tree.specs.Weight.{node_weight}
use Rattle.yaml_tree.proofs.Weights.{weight-Alias, weight-Scalar, bare_nodes, bare_pairs, tests_leaf, tests_length}
use Rattle.yaml_tree.proofs.node.Node.is_bare.Goals as goal

pub returns-in-Alias : goal.returns-in-Alias
returns-in-Alias c = tests_leaf _ (ap node_weight c.in-Alias.is ∙ weight-Alias _)

pub returns-in-Scalar : goal.returns-in-Scalar
returns-in-Scalar c = tests_leaf _ (ap node_weight c.in-Scalar.is ∙ weight-Scalar _ _ _ _)

pub returns-in-Seq : goal.returns-in-Seq
returns-in-Seq c = tests_length _ _ _ c.is_empty.ensures (rw c.in-Seq.is (bare_nodes _ _ _))

pub returns-in-Map : goal.returns-in-Map
returns-in-Map c = tests_length _ _ _ c.is_empty-in-Map.ensures (rw c.in-Map.is (bare_pairs _ _ _))
