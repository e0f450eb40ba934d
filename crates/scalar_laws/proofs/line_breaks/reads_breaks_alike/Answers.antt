use Rattle.scalar_laws.proofs.Breaks.Readers.{begins_alike, reads_alike}
use Rattle.scalar_laws.proofs.line_breaks.reads_breaks_alike.Goals as goal

pub returns : goal.returns
returns c = record { begins = begins_alike; reads = reads_alike }
