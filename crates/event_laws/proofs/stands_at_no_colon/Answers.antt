use Rattle.event_laws.proofs.AtColons.{nothing_there}
use Rattle.event_laws.proofs.stands_at_no_colon.Goals as goal

pub returns : goal.returns
returns c = nothing_there
