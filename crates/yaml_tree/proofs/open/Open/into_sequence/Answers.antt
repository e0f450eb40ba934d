use Rattle.std.proofs.Common.{refl}
use Rattle.yaml_tree.proofs.Unloads.{node_events-Seq}
use Rattle.yaml_tree.proofs.open.Open.into_sequence.Goals as goal

pub returns-in-Sequence : goal.returns-in-Sequence
returns-in-Sequence c = rw c.in-Sequence.is (node_events-Seq _ _ _, refl)
