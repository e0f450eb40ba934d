use Rattle.event_laws.proofs.Promises.EachForest.{begins_each}
use Rattle.event_laws.proofs.Sound.{begins}
use Rattle.event_laws.proofs.begins_forests.Goals as goal

pub returns : goal.returns
returns c = record { some = begins; each = begins_each }
