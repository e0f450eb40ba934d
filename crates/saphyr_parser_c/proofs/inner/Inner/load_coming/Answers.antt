use Rattle.std.proofs.Common.{◌≡◌, None, Ok, Some, refl, rules, subst, sym}
use Rattle.yaml_tree.specs.Tables.{IsEmptyTable}
use Rattle.saphyr_parser_c.specs.declared.inner.Inner.{Inner}
use Rattle.saphyr_parser_c.specs.Growing.{KeepsText, LoadsRestOf, spot_of}
use Rattle.saphyr_parser_c.proofs.NextDocument.{tells_fault}
use Rattle.saphyr_parser_c.proofs.inner.Inner.load_coming.Goals as goal

pub returns-in-Ok-Some : goal.returns-in-Ok-Some
returns-in-Ok-Some c = λ there empty.
    let is : c.put_table.new.self.table ≡ c.in-Ok-Some.table = search rules in (
      subst (λ (m : Inner). KeepsText c.args.self.now.source m.source) (sym c.put_table.ensures.table)
          c.in-Ok-Some.ensures.text,
      (
        Ok (Some c.in-Ok-Some.table),
        subst (λ (m : Inner). LoadsRestOf c.args.limits (Ok (Some c.in-Ok-Some.table)) c.args.self.now.growing
            (spot_of c.args.self.now) m) (sym c.put_table.ensures.table)
            (rw c.in-Ok-Some.field-0-is at c.in-Ok-Some.ensures.loads),
        (refl, c.put_table.ensures.empty, is),
      ),
    )

pub returns-in-Ok-None : goal.returns-in-Ok-None
returns-in-Ok-None c = λ there empty. (
  c.in-Ok-None.ensures.text,
  (
    Ok None,
    rw c.in-Ok-None.field-0-is at c.in-Ok-None.ensures.loads,
    (refl, c.blank.ensures, subst IsEmptyTable (sym c.in-Ok-None.ensures.table) empty),
  ),
)

pub returns-in-Err-Fault : goal.returns-in-Err-Fault
returns-in-Err-Fault c = λ there empty.
    tells_fault c.in-Err-Fault.fault c.args.limits c.args.self.now c.next_document.new.self c.write_unloaded.new.self
    c.write_unloaded.new.out c.write_unloaded.result c.in-Err-Fault.ensures.text c.in-Err-Fault.ensures.table empty
    c.write_unloaded.ensures.same c.write_unloaded.ensures.writes
    (rw c.in-Err-Fault.field-0-is at c.in-Err-Fault.ensures.loads)
