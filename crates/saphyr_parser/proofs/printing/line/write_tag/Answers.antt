use Rattle.std.proofs.Common.{refl}
use Rattle.saphyr_parser.proofs.Printed.Written.{loses_first, loses_second, loses_third, takes_four}
use Rattle.saphyr_parser.proofs.printing.line.write_tag.Goals as goal

pub returns-in_err-write_all : goal.returns-in_err-write_all
returns-in_err-write_all g c = loses_first _ _ _ _ _ _ c.from_residual.ensures.0 c.in_err-write_all.ensures refl

pub returns-in_err-write_all-2 : goal.returns-in_err-write_all-2
returns-in_err-write_all-2 g c =
    let handle = rw c.as_bytes.ensures.value at c.in_err-write_all-2.ensures in
    loses_second _ _ _ _ _ _ _ _ c.from_residual-in_err-write_all-2.ensures.0 c.in_ok-write_all.ensures handle refl

pub returns-in_err-write_all-3 : goal.returns-in_err-write_all-3
returns-in_err-write_all-3 g c =
    let handle = rw c.as_bytes.ensures.value at c.in_ok-write_all-2.ensures in
    let suffix = rw c.as_bytes-2.ensures.value at c.in_err-write_all-3.ensures in
    loses_third _ _ _ _ _ _ _ _ _ _ c.from_residual-in_err-write_all-3.ensures.0 c.in_ok-write_all.ensures handle suffix
    refl

pub returns : goal.returns
returns g c =
    let handle = rw c.as_bytes.ensures.value at c.in_ok-write_all-2.ensures in
    let suffix = rw c.as_bytes-2.ensures.value at c.in_ok-write_all-3.ensures in
    takes_four _ _ _ _ _ _ _ _ _ _ _ c.in_ok-write_all.ensures handle suffix c.write_all-4.ensures refl
