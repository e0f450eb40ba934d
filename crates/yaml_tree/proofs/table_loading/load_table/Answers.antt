use Rattle.std.proofs.Common.{Bool, Err}
use Rattle.saphyr_parser.specs.Cursor.{to_come}
use Rattle.yaml_tree.proofs.Leaving.{leaves_looked}
use Rattle.yaml_tree.proofs.TablesRead.{leaves_done, loads_all, loads_behind, loads_none, takes_all}
use Rattle.yaml_tree.proofs.table_loading.load_table.Goals as goal

pub returns-in-Err-clause-loads : goal.returns-in-Err-clause-loads
returns-in-Err-clause-loads g c =
    let mid = to_come c.is_at_start.new.parser in
    let left = to_come c.take_events.new.parser in
    loads_behind c.args.limits (to_come c.args.parser.now) mid left (Err c.in-Err.fault)
    c.if-not-is_at_start.ensures.begins.0 (loads_none c.args.limits mid left c.take_events.new.self c.in-Err.fault
    c.if-not-is_at_start.ensures.begins.1 (c.in-Err.ensures.takes c.args.limits c.new-grower.ensures))

pub returns-in-Err-clause-leaves : goal.returns-in-Err-clause-leaves
returns-in-Err-clause-leaves g c = leaves_looked Bool _ c.in-Err.fault _ _ _ c.if-not-is_at_start.ensures.looks
    c.if-not-is_at_start.ensures.begins.1 (c.in-Err.ensures.leaves c.args.limits c.new-grower.ensures)

pub returns-in-Ok-clause-loads : goal.returns-in-Ok-clause-loads
returns-in-Ok-clause-loads g c =
    let mid = to_come c.is_at_start.new.parser in
    let left = to_come c.take_events.new.parser in
    let grower = c.take_events.new.self in
    let begins = c.if-not-is_at_start.ensures.begins in
    let takes = c.in-Ok.ensures.takes c.args.limits c.new-grower.ensures in
    let all = rw (takes_all c.args.limits c.in-Ok.field-0 mid left grower takes) at takes in
    loads_behind c.args.limits (to_come c.args.parser.now) mid left c.finish.result begins.0
    (loads_all c.args.limits mid left grower c.finish.result begins.1 all
    (c.finish.ensures c.args.limits mid.events all.holds.1))

pub returns-in-Ok-clause-leaves : goal.returns-in-Ok-clause-leaves
returns-in-Ok-clause-leaves g c =
    let mid = to_come c.is_at_start.new.parser in
    let left = to_come c.take_events.new.parser in
    let takes = c.in-Ok.ensures.takes c.args.limits c.new-grower.ensures in
    let none = takes_all c.args.limits c.in-Ok.field-0 mid left c.take_events.new.self takes in
    let all = rw none at takes in
    leaves_done mid.events c.finish.result _ _ _ c.if-not-is_at_start.ensures.looks
    (rw none at (c.in-Ok.ensures.leaves c.args.limits c.new-grower.ensures))
    (c.finish.ensures c.args.limits mid.events all.holds.1)
