use Rattle.std.proofs.Common.{ap}
use Rattle.yaml_tree.specs.Accessing.{is_this_text}
use Rattle.yaml_tree.proofs.accessors.has_text.Goals as goal

pub returns-in-None : goal.returns-in-None
returns-in-None c = ap (is_this_text c.args.text.now) c.in-None.ensures
