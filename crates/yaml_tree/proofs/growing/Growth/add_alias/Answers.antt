use Rattle.yaml_tree.proofs.Growths.{alias_grows}
use Rattle.yaml_tree.proofs.Stores.{ok_map}
use Rattle.yaml_tree.proofs.growing.Growth.add_alias.Goals as goal

pub returns : goal.returns
returns c =
    ok_map _ c.add_leaf.ensures (alias_grows _ _ _ _ _ _ c.in_ok-narrow.ensures c.size_of-nodes.ensures)
