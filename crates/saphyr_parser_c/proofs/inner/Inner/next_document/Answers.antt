use Rattle.std.proofs.Common.{◌∙◌, List, Some, refl, subst, sym}
use Rattle.std_alloc.specs.Box.{with_value}
use Rattle.yaml_tree.specs.declared.table_loading.Grower.{Grower}
use Rattle.yaml_tree.specs.declared.tally.Limits.{Limits}
use Rattle.yaml_tree.specs.GrowerSeen.{HasNoneOpen}
use Rattle.yaml_tree.specs.TableSeen.{HasGrownWithin}
use Rattle.yaml_tree.specs.Tables.{Event, IsTable}
use Rattle.saphyr_parser_c.specs.Growing.{spot_of}
use Rattle.saphyr_parser_c.proofs.NextDocument.{loads_fault, loads_later, loads_none, loads_table, stays_put, text_both}
use Rattle.saphyr_parser_c.proofs.inner.Inner.next_document.Goals as goal

pub returns-in-Ok-true-clause-loads : goal.returns-in-Ok-true-clause-loads
returns-in-Ok-true-clause-loads c =
    loads_table c.args.limits c.args.self.now c.begin.new.self c.take_events.new.self
    c.in_ok-grower.grower c.take_events.new.grower c.in_ok-grower.ensures.begins c.in_ok-grower.ensures.stays
    c.into_table.result
    (λ most es h inside between.
    rw c.in-Ok-true.field-0-test at (c.in-Ok-true.ensures.takes most es
    (subst (HasGrownWithin most es) (sym c.deref_mut.ensures.value) h) inside between))
    (c.in-Ok-true.ensures.stays.trees.1 ∙ c.in_ok-grower.ensures.taken)
    (subst (λ (g : Grower). (limits : Limits) (es : List Event) → HasGrownWithin limits es g → HasNoneOpen g.growth
    → IsTable es c.into_table.result) c.into_inner.ensures c.into_table.ensures)

pub returns-in-Ok-true-clause-text : goal.returns-in-Ok-true-clause-text
returns-in-Ok-true-clause-text c =
    text_both c.args.self.now.source c.begin.new.self.source c.take_events.new.self.source
    c.in_ok-grower.ensures.text c.in-Ok-true.ensures.stays.text

pub returns-in-Ok-false-clause-loads : goal.returns-in-Ok-false-clause-loads
returns-in-Ok-false-clause-loads c =
    loads_none c.args.limits c.args.self.now c.begin.new.self c.take_events.new.self
    c.in_ok-grower.grower c.take_events.new.grower c.in_ok-grower.ensures.begins c.in_ok-grower.ensures.stays
    (λ most es h inside between.
    rw c.in-Ok-false.field-0-test at (c.in-Ok-false.ensures.takes most es
    (subst (HasGrownWithin most es) (sym c.deref_mut.ensures.value) h) inside between))
    (c.in-Ok-false.ensures.stays.trees.1 ∙ c.in_ok-grower.ensures.taken)

pub returns-in-Ok-false-clause-text : goal.returns-in-Ok-false-clause-text
returns-in-Ok-false-clause-text c =
    text_both c.args.self.now.source c.begin.new.self.source c.take_events.new.self.source
    c.in_ok-grower.ensures.text c.in-Ok-false.ensures.stays.text

pub returns-in-Err-Wait-clause-loads : goal.returns-in-Err-Wait-clause-loads
returns-in-Err-Wait-clause-loads c =
    let box = with_value c.in_ok-grower.grower c.take_events.new.grower in
    loads_later c.args.limits c.args.self.now c.begin.new.self c.take_events.new.self
    c.in_ok-grower.grower c.take_events.new.grower c.in_ok-grower.ensures.begins c.in_ok-grower.ensures.stays
    c.in-Err-Wait.status c.in-Err-Wait.place (record c.take_events.new.self { growing = Some box })
    (λ most es h inside between.
    rw c.in-Err-Wait.field-0-is at (c.in-Err-Wait.ensures.takes most es
    (subst (HasGrownWithin most es) (sym c.deref_mut.ensures.value) h) inside between))
    (rw c.in-Err-Wait.field-0-is at c.in-Err-Wait.ensures.waits) (stays_put (spot_of c.take_events.new.self)) box refl
    refl

pub returns-in-Err-Wait-clause-text : goal.returns-in-Err-Wait-clause-text
returns-in-Err-Wait-clause-text c =
    text_both c.args.self.now.source c.begin.new.self.source c.take_events.new.self.source
    c.in_ok-grower.ensures.text c.in-Err-Wait.ensures.stays.text

pub returns-in-Err-Fault-clause-loads : goal.returns-in-Err-Fault-clause-loads
returns-in-Err-Fault-clause-loads c =
    loads_fault c.args.limits c.args.self.now c.begin.new.self c.take_events.new.self
    c.in_ok-grower.grower c.take_events.new.grower c.in_ok-grower.ensures.begins c.in_ok-grower.ensures.stays
    c.in-Err-Fault.fault
    (λ most es h inside between.
    rw c.in-Err-Fault.field-0-is at (c.in-Err-Fault.ensures.takes most es
    (subst (HasGrownWithin most es) (sym c.deref_mut.ensures.value) h) inside between))
    (c.in-Err-Fault.ensures.stays.trees.1 ∙ c.in_ok-grower.ensures.taken)

pub returns-in-Err-Fault-clause-text : goal.returns-in-Err-Fault-clause-text
returns-in-Err-Fault-clause-text c =
    text_both c.args.self.now.source c.begin.new.self.source c.take_events.new.self.source
    c.in_ok-grower.ensures.text c.in-Err-Fault.ensures.stays.text
