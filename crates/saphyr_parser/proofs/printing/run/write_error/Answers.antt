use Rattle.saphyr_parser.proofs.Printed.Complaints.{error_line}
use Rattle.saphyr_parser.proofs.Printed.Written.{loses_first, loses_second, takes_three}
use Rattle.saphyr_parser.proofs.printing.run.write_error.Goals as goal

pub returns-in_err-write_all : goal.returns-in_err-write_all
returns-in_err-write_all g c =
    let info = rw c.as_bytes.ensures.value at c.in_err-write_all.ensures in
    loses_first _ _ _ _ _ _ c.from_residual.ensures.0 info (error_line c.args.error.now)

pub returns-in_err-write_place : goal.returns-in_err-write_place
returns-in_err-write_place g c =
    let info = rw c.as_bytes.ensures.value at c.in_ok-write_all.ensures in
    loses_second _ _ _ _ _ _ _ _ c.from_residual-in_err-write_place.ensures.0 info c.in_err-write_place.ensures
    (error_line c.args.error.now)

pub returns : goal.returns
returns g c =
    let info = rw c.as_bytes.ensures.value at c.in_ok-write_all.ensures in
    takes_three _ _ _ _ _ _ _ _ _ info c.in_ok-write_place.ensures c.write_all-2.ensures (error_line c.args.error.now)
