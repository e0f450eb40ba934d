use Rattle.saphyr_parser.proofs.Printed.Numbers.{last_digit, lost_digit, one_digit}
use Rattle.saphyr_parser.proofs.Printed.Written.{takes_before_error}
use Rattle.saphyr_parser.proofs.printing.writing.+write_number.Goals as goal

pub returns-then-number-lt10 : goal.returns-then-number-lt10
returns-then-number-lt10 g t c = one_digit _ _ _ _ c.if-number-lt10.true c.write_all.ensures

pub returns-in_err-write_number : goal.returns-in_err-write_number
returns-in_err-write_number g t c =
    takes_before_error _ _ _ _ c.from_residual.ensures.0
    (lost_digit _ _ _ c.if-number-lt10.false c.ranges.number.fits c.in_err-write_number.ensures)

pub returns : goal.returns
returns g t c =
    last_digit _ _ _ _ _ c.if-number-lt10.false c.ranges.number.fits c.in_ok-write_number.ensures c.write_all-2.ensures
