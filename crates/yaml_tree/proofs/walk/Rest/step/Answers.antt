use Rattle.std.proofs.Common.{rules}
use Rattle.yaml_tree.proofs.walk.Rest.step.Goals as goal

pub returns-in_ok-last_of-in-Pairs : goal.returns-in_ok-last_of-in-Pairs
returns-in_ok-last_of-in-Pairs c = search rules
