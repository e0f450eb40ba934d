use Rattle.std.proofs.Common.{refl}
use Rattle.saphyr_parser_c.proofs.inner.Inner.with_findings.Goals as goal

pub returns : goal.returns
returns c = (c.in-Ok.found, refl, rw c.in-Ok.ensures.ok c.new.ensures)
