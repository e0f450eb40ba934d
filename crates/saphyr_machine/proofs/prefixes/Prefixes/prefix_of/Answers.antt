use Rattle.std.proofs.Common.{◌∙◌, ap, List, ℕ, Some}
use Rattle.std.specs.Prelude.{option_map, string_bytes}
use Rattle.saphyr_machine.specs.Steps.Machine.{Names, meaning}
use Rattle.saphyr_machine.proofs.Names.{texts_meaning}
use Rattle.saphyr_machine.proofs.prefixes.Prefixes.prefix_of.Goals as goal

pub returns-in-Some : goal.returns-in-Some
returns-in-Some c =
    ap (λ (x : List ℕ). Some x) c.as_str.ensures.value
    ∙ ap (option_map string_bytes) c.in-Some.ensures.value
    ∙ texts_meaning c.self.inside.declared c.args.handle.now
    ∙ ap (λ (p : Names (List ℕ)). meaning c.args.handle.now p) c.self.view_is

pub returns-in-None : goal.returns-in-None
returns-in-None c =
    ap (option_map string_bytes) c.in-None.ensures.value
    ∙ texts_meaning c.self.inside.declared c.args.handle.now
    ∙ ap (λ (p : Names (List ℕ)). meaning c.args.handle.now p) c.self.view_is
