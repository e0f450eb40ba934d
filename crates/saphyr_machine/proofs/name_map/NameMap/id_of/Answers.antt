use Rattle.std.proofs.Common.{◌≡◌, ◌∙◌, ℕ, None, sym, ap}
use Rattle.saphyr_machine.specs.Steps.Machine.{Names, meaning}
use Rattle.saphyr_machine.specs.Names.{ids_of, shared_ids}
use Rattle.saphyr_machine.proofs.LaidOver.{found_behind, found_in_front, is_shared, is_unshared}
use Rattle.saphyr_machine.proofs.Names.{ids_meaning}
use Rattle.saphyr_machine.proofs.name_map.NameMap.id_of.Goals as goal

pub returns-in-Some : goal.returns-in-Some
returns-in-Some c =
    let m = c.args.self.now in
    found_in_front c.args.name.now (ids_of m.own) (shared_ids m.shared) c.in-Some.id
    (sym (c.copied.ensures ∙ c.get.ensures.value ∙ ids_meaning m.own c.args.name.now) ∙ c.in-Some.is)

pub returns-in-Some-shared : goal.returns-in-Some-shared
returns-in-Some-shared c =
    let name = c.args.name.now in
    let m = c.args.self.now in
    c.copied-in-Some-shared.ensures ∙ c.get-in-Some-shared.ensures.value ∙ ids_meaning c.deref.result.now name
    ∙ ap (λ (ns : Names ℕ). meaning name ns)
    (sym (is_shared m.shared c.in-Some-shared.shared c.deref.result.now c.in-Some-shared.is c.deref.ensures))
    ∙ found_behind name (ids_of m.own) (shared_ids m.shared)
    (sym (c.copied.ensures ∙ c.get.ensures.value ∙ ids_meaning m.own name) ∙ c.in_default.is)

pub returns-in-None : goal.returns-in-None
returns-in-None c =
    let name = c.args.name.now in
    let m = c.args.self.now in
    let none : None ≡ meaning name (shared_ids m.shared) =
    ap (λ (ns : Names ℕ). meaning name ns) (sym (is_unshared m.shared c.in-None.is)) in
    none ∙ found_behind name (ids_of m.own) (shared_ids m.shared)
    (sym (c.copied.ensures ∙ c.get.ensures.value ∙ ids_meaning m.own name) ∙ c.in_default.is)
