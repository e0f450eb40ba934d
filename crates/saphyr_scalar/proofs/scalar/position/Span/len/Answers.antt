use Rattle.std.proofs.Common.{refl}
use Rattle.saphyr_scalar.proofs.scalar.position.Span.len.Goals as goal

pub returns : goal.returns
returns c = refl
