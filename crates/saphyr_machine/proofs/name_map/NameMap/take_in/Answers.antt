use Rattle.std.proofs.Common.{◌∙◌, ℕ, sym, ap}
use Rattle.saphyr_machine.specs.Steps.Machine.{Names}
use Rattle.saphyr_machine.specs.Names.{ids_of, laid_over, listed_names, shared_ids}
use Rattle.saphyr_machine.proofs.LaidOver.{listed_over}
use Rattle.saphyr_machine.proofs.name_map.NameMap.take_in.Goals as goal

pub returns-clause-same : goal.returns-clause-same
returns-clause-same c =
    let m = c.args.self.now in
    let shared : Names ℕ = shared_ids m.shared in
    listed_over (listed_names c.move_into.new.self) (ids_of c.move_into.new.ids) shared
    ∙ ap (λ (es : Names ℕ). laid_over es shared) c.move_into.ensures.same
    ∙ sym (listed_over (listed_names c.args.names.now) (ids_of m.own) shared)
