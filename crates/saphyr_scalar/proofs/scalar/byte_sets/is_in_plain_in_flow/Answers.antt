use Rattle.saphyr_scalar.proofs.ByteSets.{in_flow_bit}
use Rattle.saphyr_scalar.proofs.scalar.byte_sets.is_in_plain_in_flow.Goals as goal

pub returns : goal.returns
returns c = in_flow_bit c.args.byte c.ranges.byte.fits
