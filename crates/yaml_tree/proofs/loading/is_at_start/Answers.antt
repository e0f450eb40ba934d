use Rattle.std.proofs.Common.{rules}
use Rattle.yaml_tree.proofs.loading.is_at_start.Goals as goal

pub returns-in-Some-Ok-StreamStart-default-clause-begins : goal.returns-in-Some-Ok-StreamStart-default-clause-begins
returns-in-Some-Ok-StreamStart-default-clause-begins g c = search rules
