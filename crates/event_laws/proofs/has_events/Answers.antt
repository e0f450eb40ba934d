use Rattle.event_laws.proofs.Promises.JsonEvents.{json_has_events}
use Rattle.event_laws.proofs.has_events.Goals as goal

pub returns : goal.returns
returns c = json_has_events
