use Rattle.std.proofs.Common.{true, false, ◌∙◌, ap}
use mathlib.Core.Option.{some}
use Rattle.saphyr_parser_c.proofs.Checks.{kept}
use Rattle.saphyr_parser_c.proofs.check.keep.Goals as goal

pub returns-then-passed : goal.returns-then-passed
returns-then-passed c = rw c.if-passed.true (kept c.args.findings true c.in-Ok.inner.value c.put.new.place.value
    (c.put.ensures ∙ c.of_parts.ensures ∙ ap some c.of.ensures) c.in-Ok.ensures)

pub returns-else-passed : goal.returns-else-passed
returns-else-passed c = rw c.if-passed.false (kept c.args.findings false c.in-Ok.inner.value c.put.new.place.value
    (c.put.ensures ∙ c.of_parts.ensures ∙ ap some c.of.ensures) c.in-Ok.ensures)
