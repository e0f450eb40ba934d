use Rattle.std.proofs.Common.{Err, refl}
use Rattle.saphyr_parser.proofs.Printed.Running.{says}
use Rattle.saphyr_parser.proofs.printing.run.run_dump.Goals as goal

pub returns-in-Err : goal.returns-in-Err
returns-in-Err g c =
    let said = rw c.as_bytes.ensures.value at c.complain.ensures in
    record { outcome = Err c.in-Err.fault; answers = refl; prints = c.in-Err.ensures; complains = says _ _ _ _ said }
