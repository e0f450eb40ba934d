use Rattle.std.proofs.Common.{[], ◌∷◌}
use Rattle.saphyr_parser.specs.Events.{StreamStart}
use Rattle.saphyr_parser.specs.Cursor.{to_come}
use Rattle.yaml_tree.proofs.DocumentFound.{leaves_found}
use Rattle.yaml_tree.proofs.TablesRead.{next_behind}
use Rattle.yaml_tree.proofs.table_loading.load_next_table.Goals as goal

pub returns-in-BeforeStream-clause-loads : goal.returns-in-BeforeStream-clause-loads
returns-in-BeforeStream-clause-loads g c =
    let stands = c.in-BeforeStream.ensures.stands in
    next_behind c.args.limits (to_come c.args.parser.now) (to_come c.find_place.new.parser)
    (to_come c.next_table.new.parser) c.next_table.result stands.0
    (c.next_table.ensures.loads stands.1.0)

pub returns-in-BeforeStream-clause-leaves : goal.returns-in-BeforeStream-clause-leaves
returns-in-BeforeStream-clause-leaves g c = leaves_found [] _ _ _ c.next_table.result c.find_place.ensures.looks
    c.in-BeforeStream.ensures.stands (λ on. c.next_table.ensures.leaves on.0)

pub returns-in-Between-clause-loads : goal.returns-in-Between-clause-loads
returns-in-Between-clause-loads g c =
    let stands = c.in-Between.ensures.stands in
    next_behind c.args.limits (to_come c.args.parser.now) (to_come c.find_place.new.parser)
    (to_come c.next_table-in-Between.new.parser) c.next_table-in-Between.result stands.0
    (c.next_table-in-Between.ensures.loads stands.1.0)

pub returns-in-Between-clause-leaves : goal.returns-in-Between-clause-leaves
returns-in-Between-clause-leaves g c = leaves_found (StreamStart ∷ []) _ _ _ c.next_table-in-Between.result
    c.find_place.ensures.looks c.in-Between.ensures.stands (λ on. c.next_table-in-Between.ensures.leaves on.0)
