use Rattle.std.proofs.Common.{arith, refl, ap, ◌≡◌, ◌∙◌, ◌+◌, ◌*◌, slice_get}
use Rattle.yaml_tree.specs.Tables.{store_of}
use Rattle.yaml_tree.proofs.LookUps.{leads_to, no_item, no_part, of_entry}
use Rattle.yaml_tree.proofs.table.NodeTable.part.Goals as goal

pub returns-in-Index-clause-leads : goal.returns-in-Index-clause-leads
returns-in-Index-clause-leads c = rw c.in-Index.is (of_entry c.args.self.now c.args.number c.in_ok-row.field-0.now _
    c.in_ok-row.ensures (λ own told. leads_to _ c.args.number c.in_ok-row.field-0.now _ own _ _ c.in-Sequence.is
    c.in_row.ensures told))

pub returns-in_default-step : goal.returns-in_default-step
returns-in_default-step c = record {
  leads = of_entry c.args.self.now c.args.number c.in_ok-row.field-0.now _ c.in_ok-row.ensures
      (λ own told. leads_to _ c.args.number c.in_ok-row.field-0.now _ own c.args.step _ c.in-Sequence.is
      (no_item (store_of c.args.self.now) c.in-Sequence.row c.in-Sequence.field-1 c.args.step
      c.in_default-step.not-Index) told);
  no_node = λ _. refl;
}

pub returns-in-Key-clause-leads : goal.returns-in-Key-clause-leads
returns-in-Key-clause-leads c =
    let i = c.in-Key.index in
    let same : 2 * i + 0 ≡ 2 * i = omega arith in
    rw c.in-Key.is (of_entry c.args.self.now c.args.number c.in_ok-row.field-0.now _
    c.in_ok-row.ensures (λ own told. leads_to _ c.args.number c.in_ok-row.field-0.now _ own _ _ c.in-Mapping.is
    (λ ns stand. c.in_pair.ensures ns stand ∙ ap (slice_get ns) same) told))

pub returns-in-Value-clause-leads : goal.returns-in-Value-clause-leads
returns-in-Value-clause-leads c = rw c.in-Value.is (of_entry c.args.self.now c.args.number c.in_ok-row.field-0.now _
    c.in_ok-row.ensures (λ own told. leads_to _ c.args.number c.in_ok-row.field-0.now _ own _ _ c.in-Mapping.is
    c.in_pair-in-Value.ensures told))

pub returns-in-Index-step-clause-leads : goal.returns-in-Index-step-clause-leads
returns-in-Index-step-clause-leads c = rw c.in-Index-step.is (of_entry c.args.self.now c.args.number
    c.in_ok-row.field-0.now _ c.in_ok-row.ensures (λ own told. leads_to _ c.args.number c.in_ok-row.field-0.now _ own _
    _ c.in-Mapping.is refl told))

pub returns-in_default-clause-leads : goal.returns-in_default-clause-leads
returns-in_default-clause-leads c = of_entry c.args.self.now c.args.number c.in_ok-row.field-0.now _ c.in_ok-row.ensures
    (λ own told. leads_to _ c.args.number c.in_ok-row.field-0.now c.in_ok-row.field-0.now.content own c.args.step _ refl
    (no_part (store_of c.args.self.now) c.in_ok-row.field-0.now.content c.args.step c.in_default.not-Sequence
    c.in_default.not-Mapping) told)
