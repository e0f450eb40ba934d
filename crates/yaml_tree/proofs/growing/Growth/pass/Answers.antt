use Rattle.yaml_tree.proofs.Growths.{pass_grows}
use Rattle.yaml_tree.proofs.Stores.{ok_map}
use Rattle.yaml_tree.proofs.growing.Growth.pass.Goals as goal

pub returns : goal.returns
returns c = ok_map _ c.stay.ensures (pass_grows c.args.self.now)
