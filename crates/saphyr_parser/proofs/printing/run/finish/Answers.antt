use Rattle.std.proofs.Common.{rules}
use Rattle.saphyr_parser.proofs.printing.run.finish.Goals as goal

pub returns-in-Ok-flush-2-clause-becomes : goal.returns-in-Ok-flush-2-clause-becomes
returns-in-Ok-flush-2-clause-becomes g c = search rules
