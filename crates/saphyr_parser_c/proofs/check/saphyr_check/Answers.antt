use Rattle.saphyr_parser_c.proofs.Checks.{checks}
use Rattle.saphyr_parser_c.proofs.Codes.{code_kept}
use Rattle.saphyr_parser_c.proofs.check.saphyr_check.Goals as goal

pub returns-in-Ok : goal.returns-in-Ok
returns-in-Ok c =
    checks c.args.options.now c.args.text.now c.options_of.result c.in-Ok.findings c.passes-passed.result c.keep.result
    c.keep.new.out.value _ c.options_of.ensures c.in-Ok.ensures c.passes-passed.ensures c.keep.ensures
    (code_kept c.keep.result c.code.result c.code.ensures)
