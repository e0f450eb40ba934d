use Rattle.std.proofs.Common.{rules}
use Rattle.yaml_check.proofs.keys.Level.pass.Goals as goal

pub returns : goal.returns
returns c = search rules
