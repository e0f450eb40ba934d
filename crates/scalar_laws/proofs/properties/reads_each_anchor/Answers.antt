use Rattle.saphyr_scalar.proofs.Properties.AnchorsRead.{reads_anchor}
use Rattle.scalar_laws.proofs.properties.reads_each_anchor.Goals as goal

pub returns : goal.returns
returns c = reads_anchor
