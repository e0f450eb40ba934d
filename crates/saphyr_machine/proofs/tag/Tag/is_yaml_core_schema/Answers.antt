use Rattle.std.proofs.Common.{rules}
use Rattle.saphyr_machine.proofs.tag.Tag.is_yaml_core_schema.Goals as goal

pub returns : goal.returns
returns c = search rules
