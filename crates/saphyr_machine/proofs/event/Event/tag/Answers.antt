use Rattle.std.proofs.Common.{rules}
use Rattle.saphyr_machine.proofs.event.Event.tag.Goals as goal

pub returns-in_default : goal.returns-in_default
returns-in_default c = search rules
