use Rattle.std.proofs.Common.{refl}
use Rattle.yaml_tree.proofs.Growths.{end_grows}
use Rattle.yaml_tree.proofs.Stores.{ok_map}
use Rattle.yaml_tree.proofs.growing.Growth.end.Goals as goal

pub returns : goal.returns
returns c = ok_map _ c.leave.ensures (end_grows _ _ _ _ c.in_ok-pop_level.ensures refl)
