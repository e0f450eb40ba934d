use Rattle.event_laws.proofs.ByKinds.{closed_kinds}
use Rattle.event_laws.proofs.closes_tokens.Goals as goal

pub returns : goal.returns
returns c = closed_kinds
