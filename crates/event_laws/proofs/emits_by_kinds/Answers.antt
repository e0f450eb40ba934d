use Rattle.event_laws.proofs.ByKinds.{exactly_too, first_too}
use Rattle.event_laws.proofs.emits_by_kinds.Goals as goal

pub returns : goal.returns
returns c = record { exactly = exactly_too; first = first_too }
