use Rattle.yaml_standard.proofs.Leaves.{leaf_of}
use Rattle.yaml_standard.proofs.leaf.behind_leaf.Goals as goal

pub returns : goal.returns
returns c = leaf_of _ _ _ _ _ c.in_ok-rest.ensures
