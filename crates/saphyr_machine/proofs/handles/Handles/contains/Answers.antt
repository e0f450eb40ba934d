use Rattle.std.proofs.Common.{◌∙◌, ap, List, ℕ}
use Rattle.saphyr_machine.specs.Steps.Machine.{is_listed}
use Rattle.saphyr_machine.proofs.Names.{name_listed}
use Rattle.saphyr_machine.proofs.handles.Handles.contains.Goals as goal

pub returns : goal.returns
returns c = c.contains.ensures ∙ name_listed c.self.inside.declared c.args.handle.now
    ∙ ap (λ (names : List (List ℕ)). is_listed c.args.handle.now names) c.self.view_is
