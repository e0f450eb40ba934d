use Rattle.std.proofs.Common.{Bool, [], Err}
use Rattle.saphyr_parser.specs.Cursor.{to_come}
use Rattle.yaml_tree.specs.KeeperSeen.{AreKept, documents_of}
use Rattle.yaml_tree.proofs.Loads.{loads_all, loads_none, loads_behind, takes_all}
use Rattle.yaml_tree.proofs.Leaving.{leaves_behind, leaves_looked}
use Rattle.yaml_tree.proofs.SpansRead.{gives_spans, leaves_alike}
use Rattle.yaml_tree.proofs.spanned_loading.load_documents_with_spans.Goals as goal

pub returns-in-Err-clause-loads : goal.returns-in-Err-clause-loads
returns-in-Err-clause-loads g c =
    let mid = to_come c.is_at_start.new.parser in
    let left = to_come c.take_events.new.parser in
    let begins = c.if-not-is_at_start.ensures.begins in
    loads_behind c.args.limits (to_come c.args.parser.now) mid left (Err c.in-Err.fault) begins.0
    (loads_none c.args.limits mid left c.in-Err.fault begins.1
    (c.in-Err.ensures.takes c.args.limits [] (c.new-loader.ensures c.new.ensures)))

pub returns-in-Err-clause-leaves : goal.returns-in-Err-clause-leaves
returns-in-Err-clause-leaves g c = leaves_looked Bool _ c.in-Err.fault _ _ _
    c.if-not-is_at_start.ensures.looks c.if-not-is_at_start.ensures.begins.1
    (c.in-Err.ensures.leaves c.args.limits [] (c.new-loader.ensures c.new.ensures))

pub returns-in-Ok-clause-loads : goal.returns-in-Ok-clause-loads
returns-in-Ok-clause-loads g c =
    let mid = to_come c.is_at_start.new.parser in
    let left = to_come c.take_events.new.parser in
    let l = c.take_events.new.self in
    let begins = c.if-not-is_at_start.ensures.begins in
    let takes = c.in-Ok.ensures.takes c.args.limits [] (c.new-loader.ensures c.new.ensures) in
    let none = takes_all AreKept c.args.limits c.in-Ok.field-0 mid left l takes in
    let documents = documents_of c.finish.result in
    loads_behind c.args.limits (to_come c.args.parser.now) mid left documents begins.0
    (loads_all c.args.limits mid left l documents begins.1 (rw none at takes) c.finish.ensures.finishes)

pub returns-in-Ok-clause-spans : goal.returns-in-Ok-clause-spans
returns-in-Ok-clause-spans g c =
    let mid = to_come c.is_at_start.new.parser in
    let left = to_come c.take_events.new.parser in
    let l = c.take_events.new.self in
    let takes = c.in-Ok.ensures.takes c.args.limits [] (c.new-loader.ensures c.new.ensures) in
    let none = takes_all AreKept c.args.limits c.in-Ok.field-0 mid left l takes in
    gives_spans c.finish.result c.args.limits (to_come c.args.parser.now) mid left l
    c.if-not-is_at_start.ensures.begins.0 (rw none at takes)
    c.finish.ensures.finishes c.finish.ensures.spans

pub returns-in-Ok-clause-leaves : goal.returns-in-Ok-clause-leaves
returns-in-Ok-clause-leaves g c =
    let mid = to_come c.is_at_start.new.parser in
    let left = to_come c.take_events.new.parser in
    let none = takes_all AreKept c.args.limits c.in-Ok.field-0 mid left c.take_events.new.self
    (c.in-Ok.ensures.takes c.args.limits [] (c.new-loader.ensures c.new.ensures)) in
    leaves_alike c.finish.result _ _
    (leaves_behind (documents_of c.finish.result) _ _ _ _ c.if-not-is_at_start.ensures.looks
    c.if-not-is_at_start.ensures.begins.1
    (rw none at (c.in-Ok.ensures.leaves c.args.limits [] (c.new-loader.ensures c.new.ensures)))
    c.finish.ensures.finishes)
