use Rattle.std.proofs.Common.{ℕ, List, sym, subst}
use Rattle.std.specs.Prelude.{map}
use Rattle.std.specs.List.{All}
use Rattle.saphyr_machine.specs.declared.name_list.Name.{Name}
use Rattle.saphyr_machine.specs.ListedNames.{HasName, with_id}
use Rattle.saphyr_machine.proofs.ListedNames.{copied}
use Rattle.saphyr_machine.proofs.name_list.NameList.try_clone.Goals as goal

pub invariant_of-result : goal.invariant_of-result
invariant_of-result c =
    let old = c.args.self.now in
    let bytes = copied old.bytes.items c.in_ok-clone.field-0.items c.in_ok-clone.ensures.cases.0 in
    let names = copied old.names.items c.in_ok-clone-2.field-0.items c.in_ok-clone-2.ensures.cases.0 in
    record {
      have_texts = subst (λ (bs : List ℕ). All (HasName bs) c.in_ok-clone-2.field-0.items) (sym bytes)
          (subst (λ (ns : List Name). All (HasName old.bytes.items) ns) (sym names) old.have_texts);
    }

pub returns : goal.returns
returns c =
    let old = c.args.self.now in
    let bytes = copied old.bytes.items c.in_ok-clone.field-0.items c.in_ok-clone.ensures.cases.0 in
    let names = copied old.names.items c.in_ok-clone-2.field-0.items c.in_ok-clone-2.ensures.cases.0 in
    λ i. map (with_id (bytes i)) (names i)
