use Rattle.event_laws.proofs.Latest.{all, found}
use Rattle.event_laws.proofs.finds_the_latest_anchor.Goals as goal

pub returns : goal.returns
returns c = record { found = found; each = all }
