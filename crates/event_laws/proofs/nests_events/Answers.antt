use Rattle.event_laws.proofs.Nesting as nesting
use Rattle.event_laws.proofs.nests_events.Goals as goal

pub returns : goal.returns
returns c = record { nests = nesting.nests; starts = nesting.starts }
