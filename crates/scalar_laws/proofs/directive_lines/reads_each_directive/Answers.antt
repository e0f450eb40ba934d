use Rattle.saphyr_scalar.proofs.Directives.Read.{reads_directive}
use Rattle.scalar_laws.proofs.directive_lines.reads_each_directive.Goals as goal

pub returns : goal.returns
returns c = reads_directive
