use Rattle.std.proofs.Common.{arith}
use Rattle.saphyr_parser.proofs.Printed.Written.{takes_nothing, takes_rest, takes_whole}
use Rattle.saphyr_parser.proofs.printing.writing.write_all.Goals as goal

pub returns-in-Ok : goal.returns-in-Ok
returns-in-Ok g c = grind (arith, takes_whole)

pub returns-in-Ok-2 : goal.returns-in-Ok-2
returns-in-Ok-2 g c = grind (arith, takes_rest)

pub returns-in-Ok-eq0 : goal.returns-in-Ok-eq0
returns-in-Ok-eq0 g c = grind (arith, takes_nothing)
