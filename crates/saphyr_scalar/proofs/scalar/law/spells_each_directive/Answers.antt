use Rattle.saphyr_scalar.proofs.Directives.Spelled.{spells_directive}
use Rattle.saphyr_scalar.proofs.scalar.law.spells_each_directive.Goals as goal

pub returns : goal.returns
returns c = spells_directive
