use Rattle.std.proofs.Common.{rules}
use Rattle.saphyr_machine.proofs.event.Event.anchor_id.Goals as goal

pub returns-in-SequenceStart : goal.returns-in-SequenceStart
returns-in-SequenceStart c = search rules
