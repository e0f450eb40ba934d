use Rattle.saphyr_scalar.proofs.Properties.TagsRead.{reads_tag}
use Rattle.scalar_laws.proofs.properties.reads_each_tag.Goals as goal

pub returns : goal.returns
returns c = reads_tag
