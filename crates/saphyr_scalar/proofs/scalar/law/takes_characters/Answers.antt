use Rattle.saphyr_scalar.proofs.Block.Placed.{block_scalar_takes}
use Rattle.saphyr_scalar.proofs.Taking.{plain_takes, quoted_takes}
use Rattle.saphyr_scalar.proofs.TakingMore.{anchor_takes, directive_takes, tag_takes}
use Rattle.saphyr_scalar.proofs.scalar.law.takes_characters.Goals as goal

pub returns : goal.returns
returns c = record {
  plain = plain_takes;
  quoted = quoted_takes;
  block_scalar = block_scalar_takes;
  anchor = anchor_takes;
  tag = tag_takes;
  directive = directive_takes;
}
