use Rattle.saphyr_parser.specs.Cursor.{to_come}
use Rattle.yaml_tree.specs.declared.table.NodeTable.{NodeTable}
use Rattle.yaml_tree.proofs.DocumentFound.{leaves_failed}
use Rattle.yaml_tree.proofs.TablesRead.{fails_next, passes_none, passes_table}
use Rattle.yaml_tree.proofs.table_loading.next_table.Goals as goal

pub returns-in-Err-clause-loads : goal.returns-in-Err-clause-loads
returns-in-Err-clause-loads g c = λ between.
    fails_next c.args.limits (to_come c.args.parser.now) (to_come c.take_events.new.parser) c.take_events.new.self
    c.in-Err.fault between (c.in-Err.ensures.takes c.args.limits c.new-grower.ensures)

pub returns-in-Err-clause-leaves : goal.returns-in-Err-clause-leaves
returns-in-Err-clause-leaves g c = λ between.
    leaves_failed NodeTable c.in-Err.fault _ _ between (c.in-Err.ensures.leaves c.args.limits c.new-grower.ensures)

pub returns-in-Ok-true-clause-loads : goal.returns-in-Ok-true-clause-loads
returns-in-Ok-true-clause-loads g c = λ between. (
  between,
  passes_table c.args.limits _ _ c.take_events.new.self
      (rw c.in-Ok-true.field-0-test at (c.in-Ok-true.ensures.takes c.args.limits c.new-grower.ensures)),
)

pub returns-in-Ok-true-clause-leaves : goal.returns-in-Ok-true-clause-leaves
returns-in-Ok-true-clause-leaves g c = λ between.
    rw c.in-Ok-true.field-0-test at (c.in-Ok-true.ensures.leaves c.args.limits c.new-grower.ensures)

pub returns-in-Ok-false-clause-loads : goal.returns-in-Ok-false-clause-loads
returns-in-Ok-false-clause-loads g c = λ between. (
  between,
  passes_none c.args.limits _ _ c.take_events.new.self
      (rw c.in-Ok-false.field-0-test at (c.in-Ok-false.ensures.takes c.args.limits c.new-grower.ensures)),
)

pub returns-in-Ok-false-clause-leaves : goal.returns-in-Ok-false-clause-leaves
returns-in-Ok-false-clause-leaves g c = λ between.
    rw c.in-Ok-false.field-0-test at (c.in-Ok-false.ensures.leaves c.args.limits c.new-grower.ensures)
