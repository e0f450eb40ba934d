use Rattle.saphyr_scalar.proofs.Common.{Double, wide_first}
use Rattle.saphyr_scalar.proofs.WideSets.{wide_is_literal}
use Rattle.saphyr_scalar.proofs.scalar.quoted.words.InDoubleCharSet.has_wide.Goals as goal

pub returns : goal.returns
returns c = λ other x first. wide_is_literal Double x (wide_first c.args._byte x c.requires first)
