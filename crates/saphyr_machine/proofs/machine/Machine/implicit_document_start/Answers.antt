-- Directives and `---` begin with the token that was shown.
use Rattle.std.proofs.Common.{rules}
use Rattle.saphyr_machine.specs.Steps.Documents.{implicit_start, explicit_document}
use Rattle.saphyr_machine.proofs.Passing.{next_put_back}
use Rattle.saphyr_machine.proofs.machine.Machine.implicit_document_start.Goals as goal

pub returns-in-VersionDirective : goal.returns-in-VersionDirective
unfolding implicit_start explicit_document
returns-in-VersionDirective g c more =
    let shown = c.in_ok-pass_marks in
    let back = next_put_back shown.field-0 c.pass_marks.new.self shown.ensures.0 more in
    search (rules, back)
