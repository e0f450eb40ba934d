use Rattle.std.proofs.Common.{◌∙◌, ℕ, List, ap}
use Rattle.saphyr_machine.specs.Names.{ids_of}
use Rattle.saphyr_machine.specs.Steps.Machine.{with_meaning}
use Rattle.saphyr_machine.proofs.Names.{ids_given}
use Rattle.saphyr_machine.proofs.name_map.put.Goals as goal

pub returns-clause-ok : goal.returns-clause-ok
returns-clause-ok c =
    ids_given c.args.ids.now c.insert.new.self c.in_ok-from_str.field-0 c.args.id c.in_ok-insert.ensures.entries
    ∙ ap (λ (bs : List ℕ). with_meaning bs c.args.id (ids_of c.args.ids.now)) c.in_ok-from_str.ensures.ok
