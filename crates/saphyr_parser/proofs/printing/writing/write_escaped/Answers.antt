use Rattle.saphyr_parser.proofs.Printed.Escapes.{plain_written, plain_lost, escape_written, escape_lost}
use Rattle.saphyr_parser.proofs.Printed.Written.{takes_before_error, takes_first}
use Rattle.saphyr_parser.proofs.printing.writing.write_escaped.Goals as goal

pub loop-rest-init : goal.loop-rest-init
loop-rest-init g c = takes_first _ _

pub returns-in_err-write_all : goal.returns-in_err-write_all
returns-in_err-write_all g c =
    takes_before_error _ _ _ _ c.from_residual.ensures.0
    (plain_lost _ _ _ c.args.text.now _ _ _ c.split_plain.ensures.text c.split_plain.ensures.plain c.loop-rest.invariant
    c.in_err-write_all.ensures)

pub returns-in_err-write_escape : goal.returns-in_err-write_escape
returns-in_err-write_escape g c =
    let written = plain_written _ _ _ c.args.text.now _ _ _ c.split_plain.ensures.text c.split_plain.ensures.plain
    c.loop-rest.invariant c.in_ok-write_all.ensures in
    takes_before_error _ _ _ _ c.from_residual-in_err-write_escape.ensures.0
    (escape_lost _ _ _ c.args.text.now _ _ _ c.in-Some.ensures.cases.0 written c.in_err-write_escape.ensures)

pub loop-rest-preserved : goal.loop-rest-preserved
loop-rest-preserved g c =
    let written = plain_written _ _ _ c.args.text.now _ _ _ c.split_plain.ensures.text c.split_plain.ensures.plain
    c.loop-rest.invariant c.in_ok-write_all.ensures in
    escape_written _ _ _ c.args.text.now _ _ _ c.in-Some.ensures.cases.0 written c.in_ok-write_escape.ensures
