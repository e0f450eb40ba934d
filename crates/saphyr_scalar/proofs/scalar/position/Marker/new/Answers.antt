use Rattle.std.proofs.Common.{refl}
use Rattle.saphyr_scalar.proofs.scalar.position.Marker.new.Goals as goal

pub returns-clause-index : goal.returns-clause-index
returns-clause-index c = refl

pub returns-clause-col : goal.returns-clause-col
returns-clause-col c = refl
