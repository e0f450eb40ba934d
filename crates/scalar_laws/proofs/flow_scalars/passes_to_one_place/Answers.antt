use Rattle.saphyr_scalar.proofs.Passings.{one_place}
use Rattle.scalar_laws.proofs.flow_scalars.passes_to_one_place.Goals as goal

pub returns : goal.returns
returns c = one_place
