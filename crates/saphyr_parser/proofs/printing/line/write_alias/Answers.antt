use Rattle.std.proofs.Common.{refl}
use Rattle.saphyr_parser.proofs.Printed.Numbers.{alias_digit}
use Rattle.saphyr_parser.proofs.Printed.Written.{loses_first, loses_second, takes_same, takes_three}
use Rattle.saphyr_parser.proofs.printing.line.write_alias.Goals as goal

pub returns-then-id-lt10 : goal.returns-then-id-lt10
returns-then-id-lt10 g c = takes_same _ _ _ _ _ (alias_digit _ c.if-id-lt10.true) c.write_all.ensures

pub returns-in_err-write_all : goal.returns-in_err-write_all
returns-in_err-write_all g c = loses_first _ _ _ _ _ _ c.from_residual.ensures.0 c.in_err-write_all.ensures refl

pub returns-in_err-write_id : goal.returns-in_err-write_id
returns-in_err-write_id g c =
    loses_second _ _ _ _ _ _ _ _ c.from_residual-in_err-write_id.ensures.0 c.in_ok-write_all.ensures
    c.in_err-write_id.ensures refl

pub returns : goal.returns
returns g c =
    takes_three _ _ _ _ _ _ _ _ _ c.in_ok-write_all.ensures c.in_ok-write_id.ensures c.write_all-3.ensures refl
