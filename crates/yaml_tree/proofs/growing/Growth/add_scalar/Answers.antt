use Rattle.std.proofs.Common.{refl}
use Rattle.yaml_tree.proofs.Growths.{scalar_grows}
use Rattle.yaml_tree.proofs.Stores.{ok_map}
use Rattle.yaml_tree.proofs.growing.Growth.add_scalar.Goals as goal

pub returns : goal.returns
returns c = ok_map _ c.add_leaf.ensures (scalar_grows _ _ _ _ _ _ _ _ _ _ _ c.in_ok-text.ensures
    c.in_ok-properties.ensures.stores c.in_ok-properties.ensures.properties refl)
