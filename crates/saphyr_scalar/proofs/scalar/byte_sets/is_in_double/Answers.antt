use Rattle.saphyr_scalar.proofs.ByteSets.{double_bit}
use Rattle.saphyr_scalar.proofs.scalar.byte_sets.is_in_double.Goals as goal

pub returns : goal.returns
returns c = double_bit c.args.byte c.ranges.byte.fits
