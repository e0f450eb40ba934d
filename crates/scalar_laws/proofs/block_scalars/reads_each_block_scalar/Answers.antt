use Rattle.scalar_laws.proofs.Block.Complete.{each_read}
use Rattle.scalar_laws.proofs.block_scalars.reads_each_block_scalar.Goals as goal

pub returns : goal.returns
returns c = each_read
