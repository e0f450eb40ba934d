use Rattle.saphyr_parser.proofs.Printed.Numbers.{last_two_digits, lost_two_digits, one_digit, two_digits}
use Rattle.saphyr_parser.proofs.Printed.Written.{takes_before_error}
use Rattle.saphyr_parser.proofs.printing.writing.+write_id.Goals as goal

pub returns-then-id-lt10 : goal.returns-then-id-lt10
returns-then-id-lt10 g t c = one_digit _ _ _ _ c.if-id-lt10.true c.write_all.ensures

pub returns-then-id-lt100 : goal.returns-then-id-lt100
returns-then-id-lt100 g t c =
    two_digits _ _ _ _ c.if-id-lt10.false c.if-id-lt100.true c.ranges.id.fits c.write_all-then-id-lt100.ensures

pub returns-in_err-write_id : goal.returns-in_err-write_id
returns-in_err-write_id g t c =
    takes_before_error _ _ _ _ c.from_residual.ensures.0
    (lost_two_digits _ _ _ c.if-id-lt100.false c.ranges.id.fits c.in_err-write_id.ensures)

pub returns : goal.returns
returns g t c =
    last_two_digits _ _ _ _ _ c.if-id-lt100.false c.ranges.id.fits c.in_ok-write_id.ensures c.write_all-2.ensures
