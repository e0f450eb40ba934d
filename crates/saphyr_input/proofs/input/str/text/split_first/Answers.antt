use Rattle.std.proofs.Common.{ap, ◌∙◌}
use Rattle.std.specs.Str.{chars}
use Rattle.saphyr_input.proofs.Texts.{passed_from}
use Rattle.saphyr_input.proofs.input.str.text.split_first.Goals as goal

pub returns-clause-rest : goal.returns-clause-rest
returns-clause-rest c = ap chars c.as_str.ensures
    ∙ passed_from _ c.chars-rest.result c.next.result c.next.new.self c.utf8.text c.chars-rest.ensures.rest
    c.next.ensures.steps
