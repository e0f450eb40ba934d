use Rattle.std.proofs.Common.{refl}
use Rattle.saphyr_parser.proofs.Printed.Written.{loses_first, takes_two}
use Rattle.saphyr_parser.proofs.printing.line.write_scalar.Goals as goal

pub returns-in_err-write_node : goal.returns-in_err-write_node
returns-in_err-write_node g c = loses_first _ _ _ _ _ _ c.from_residual.ensures.0 c.in_err-write_node.ensures refl

pub returns : goal.returns
returns g c =
    let mark = rw c.mark.ensures at c.write_text.ensures in
    let line = rw c.as_bytes.ensures.value at mark in
    takes_two _ _ _ _ _ _ _ c.in_ok-write_node.ensures line refl
