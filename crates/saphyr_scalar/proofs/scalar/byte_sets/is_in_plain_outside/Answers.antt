use Rattle.saphyr_scalar.proofs.ByteSets.{outside_bit}
use Rattle.saphyr_scalar.proofs.scalar.byte_sets.is_in_plain_outside.Goals as goal

pub returns : goal.returns
returns c = outside_bit c.args.byte c.ranges.byte.fits
