use Rattle.saphyr_scalar.proofs.Block.AsRead.Wholes.{block_text}
use Rattle.saphyr_scalar.proofs.Block.Placed.{block_scalar_counts, block_scalar_placed}
use Rattle.saphyr_scalar.proofs.scalar.law.reads_block_texts.Goals as goal

pub returns : goal.returns
returns c = record { text = block_text; counted = block_scalar_counts; placed = block_scalar_placed }
