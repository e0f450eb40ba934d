use Rattle.std.proofs.Common.{◌≡◌, ◌++◌, codes, rules}
use Rattle.std.specs.Fmt.{decimal}
use Rattle.saphyr_parser.specs.Printed.{anchor_text}
use Rattle.saphyr_parser.proofs.Printed.Written.{loses_first, takes_two}
use Rattle.saphyr_parser.proofs.printing.line.write_anchor.Goals as goal

pub returns-in_err-write_all : goal.returns-in_err-write_all
returns-in_err-write_all g c =
    let e : anchor_text c.args.id ≡ codes " &" ++ decimal c.args.id = search rules in
    loses_first _ _ _ _ _ _ c.from_residual.ensures.0 c.in_err-write_all.ensures e

pub returns : goal.returns
returns g c =
    let e : anchor_text c.args.id ≡ codes " &" ++ decimal c.args.id = search rules in
    takes_two _ _ _ _ _ _ _ c.in_ok-write_all.ensures c.write_id.ensures e
