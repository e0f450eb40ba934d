use Rattle.std.proofs.Common.{refl}
use Rattle.yaml_tree.proofs.Growths.{start_grows}
use Rattle.yaml_tree.proofs.Stores.{ok_map}
use Rattle.yaml_tree.proofs.growing.Growth.begin.Goals as goal

pub returns : goal.returns
returns c = ok_map _ c.begin.ensures (start_grows _ _ _ _ _ _ c.in_ok-push_level.ensures refl)
