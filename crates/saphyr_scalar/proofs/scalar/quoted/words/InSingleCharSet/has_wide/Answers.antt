use Rattle.saphyr_scalar.proofs.Common.{Single, wide_first}
use Rattle.saphyr_scalar.proofs.WideSets.{wide_is_literal}
use Rattle.saphyr_scalar.proofs.scalar.quoted.words.InSingleCharSet.has_wide.Goals as goal

pub returns : goal.returns
returns c = λ other x first. wide_is_literal Single x (wide_first c.args._byte x c.requires first)
