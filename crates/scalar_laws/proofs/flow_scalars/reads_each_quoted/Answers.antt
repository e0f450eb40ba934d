use Rattle.scalar_laws.proofs.Quoted.Reads.{quoted_read}
use Rattle.scalar_laws.proofs.flow_scalars.reads_each_quoted.Goals as goal

pub returns : goal.returns
returns c = quoted_read
