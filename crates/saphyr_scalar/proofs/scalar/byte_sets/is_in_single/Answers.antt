use Rattle.saphyr_scalar.proofs.ByteSets.{single_bit}
use Rattle.saphyr_scalar.proofs.scalar.byte_sets.is_in_single.Goals as goal

pub returns : goal.returns
returns c = single_bit c.args.byte c.ranges.byte.fits
