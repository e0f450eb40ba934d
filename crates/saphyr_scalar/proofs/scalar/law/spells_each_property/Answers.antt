use Rattle.saphyr_scalar.proofs.Properties.AnchorsRead.{spells_anchor}
use Rattle.saphyr_scalar.proofs.Properties.TagsSpelled.{spells_tag}
use Rattle.saphyr_scalar.proofs.scalar.law.spells_each_property.Goals as goal

pub returns : goal.returns
returns c = record { anchor = spells_anchor; tag = spells_tag }
