use Rattle.std.proofs.Common.{refl}
use Rattle.saphyr_parser.proofs.Printed.Written.{loses_first, loses_second, takes_three}
use Rattle.saphyr_parser.proofs.printing.run.write_named.Goals as goal

pub returns-in_err-write_all : goal.returns-in_err-write_all
returns-in_err-write_all g c = loses_first _ _ _ _ _ _ c.from_residual.ensures.0 c.in_err-write_all.ensures refl

pub returns-in_err-write_all-2 : goal.returns-in_err-write_all-2
returns-in_err-write_all-2 g c =
    loses_second _ _ _ _ _ _ _ _ c.from_residual-in_err-write_all-2.ensures.0 c.in_ok-write_all.ensures
    c.in_err-write_all-2.ensures refl

pub returns : goal.returns
returns g c =
    takes_three _ _ _ _ _ _ _ _ _ c.in_ok-write_all.ensures c.in_ok-write_all-2.ensures c.write_all-3.ensures refl
