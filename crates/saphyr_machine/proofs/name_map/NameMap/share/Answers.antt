use Rattle.std.proofs.Common.{◌∙◌, ℕ, refl, sym, ap, inl}
use Rattle.std.specs.Arc.{arc_value}
use Rattle.saphyr_machine.specs.Steps.Machine.{Names}
use Rattle.saphyr_machine.specs.Names.{ids_of, laid_over, listed_names, with_listed}
use Rattle.saphyr_machine.proofs.Copies.{same_or_copied}
use Rattle.saphyr_machine.proofs.LaidOver.{is_shared}
use Rattle.saphyr_machine.proofs.ListedNames.{from_err, from_ok}
use Rattle.saphyr_machine.proofs.name_map.NameMap.share.Goals as goal

pub returns-in_err-make_mut-in-Some : goal.returns-in_err-make_mut-in-Some
returns-in_err-make_mut-in-Some c =
    let m = c.begin_shared.new.self in
    let shared = arc_value c.in-Some.shared in
    ap (λ (ns : Names ℕ). with_listed (listed_names c.args.names.now) ns)
    (ap (λ (ns : Names ℕ). laid_over (ids_of m.own) ns)
    (same_or_copied shared (arc_value c.make_mut.follows.lender-at-none)
    (from_err c.make_mut.result c.in_err-make_mut-in-Some.field-0.0 c.in_err-make_mut-in-Some.was
    c.make_mut.follows.holds-at-none)
    ∙ sym (is_shared m.shared c.in-Some.shared shared c.in-Some.is refl))
    ∙ c.begin_shared.ensures)

pub returns-in_ok-make_mut-in-Some : goal.returns-in_ok-make_mut-in-Some
returns-in_ok-make_mut-in-Some c =
    let m = c.begin_shared.new.self in
    let shared = arc_value c.in-Some.shared in
    let to = c.move_all.new.to in
    ap (λ (ns : Names ℕ). with_listed (listed_names c.move_all.new.names) (laid_over (ids_of c.move_all.new.own) ns))
    (same_or_copied to (arc_value (c.make_mut.follows.lender to)) (inl (c.make_mut.follows.holds to
    (from_ok c.make_mut.result c.in_ok-make_mut-in-Some.field-0 c.in_ok-make_mut-in-Some.was))))
    ∙ c.move_all.ensures
    ∙ ap (λ (ns : Names ℕ). with_listed (listed_names c.args.names.now) ns)
    (ap (λ (ns : Names ℕ). laid_over (ids_of m.own) ns)
    (same_or_copied shared c.in_ok-make_mut-in-Some.field-0.now c.in_ok-make_mut-in-Some.ensures.value
    ∙ sym (is_shared m.shared c.in-Some.shared shared c.in-Some.is refl))
    ∙ c.begin_shared.ensures)
