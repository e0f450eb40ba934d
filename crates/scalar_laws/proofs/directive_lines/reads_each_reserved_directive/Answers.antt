use Rattle.scalar_laws.proofs.Directives.ReservedRead.{reads_reserved}
use Rattle.scalar_laws.proofs.directive_lines.reads_each_reserved_directive.Goals as goal

pub returns : goal.returns
returns c = reads_reserved
