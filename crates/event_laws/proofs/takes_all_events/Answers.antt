use Rattle.event_laws.proofs.Promises.TakesEvents.{takes}
use Rattle.event_laws.proofs.takes_all_events.Goals as goal

pub returns : goal.returns
returns c = λ text tokens t. takes text tokens t (c.places_taken_tokens.ensures text tokens.pieces t.0 t.1)
