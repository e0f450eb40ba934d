use Rattle.std.proofs.Common.{refl}
use Rattle.yaml_tree.proofs.Growths.{leaf_grows}
use Rattle.yaml_tree.proofs.Stores.{ok_map}
use Rattle.yaml_tree.proofs.growing.Growth.add_leaf.Goals as goal

pub returns : goal.returns
returns c = ok_map _ c.add.ensures (leaf_grows _ _ _ _ _ _ _ c.in_ok-push_leaf.ensures refl)
