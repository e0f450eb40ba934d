use Rattle.std.proofs.Common.{◌∙◌, ap, ℕ, List}
use Rattle.std.specs.Map.{keys_of}
use Rattle.saphyr_machine.specs.Steps.Machine.{Names, is_listed}
use Rattle.saphyr_machine.proofs.Names.{texts_listed}
use Rattle.saphyr_machine.proofs.prefixes.Prefixes.contains.Goals as goal

pub returns : goal.returns
returns c = c.contains_key.ensures ∙ texts_listed c.self.inside.declared c.args.handle.now
    ∙ ap (λ (prefixes : Names (List ℕ)). is_listed c.args.handle.now (keys_of prefixes)) c.self.view_is
