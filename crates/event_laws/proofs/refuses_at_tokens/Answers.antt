use Rattle.saphyr_scanner.specs.TokensTaken.{IsPlaceOf}
use Rattle.event_laws.proofs.Promises.TakesEvents.{ended}
use Rattle.event_laws.proofs.Refusing.{refused_at}
use Rattle.event_laws.proofs.refuses_at_tokens.Goals as goal

pub returns : goal.returns
returns c = λ text tokens keep a e at. refused_at text tokens keep a (ended (IsPlaceOf text) tokens e at)
