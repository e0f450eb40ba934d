use Rattle.std.proofs.Common.{Option, Result, subst, sym}
use Rattle.saphyr_parser.specs.Cursor.{to_come}
use Rattle.yaml_tree.specs.declared.document.Document.{Document}
use Rattle.yaml_tree.specs.declared.fault.TreeFault.{TreeFault}
use Rattle.yaml_tree.specs.DocumentLoading.{LeavesBehindLook, LoadsDocument}
use Rattle.yaml_tree.specs.KeeperSeen.{AreKept}
use Rattle.yaml_tree.proofs.DocumentFound.{loads_last, fails_in_document, leaves_last, leaves_failed}
use Rattle.yaml_tree.proofs.SpannedFound.{pairs}
use Rattle.yaml_tree.proofs.spanned_document.next_document.Goals as goal

pub returns-in-Ok-clause-loads : goal.returns-in-Ok-clause-loads
returns-in-Ok-clause-loads g c = λ limits before h at on.
    let last = c.last_document.ensures in
    let takes = c.in-Ok.ensures.takes limits before h in
    let own = pairs limits before c.in-Ok.field-0 _ _ _ c.last_document.result at on takes last in
    subst (λ (r : Result (Option Document) TreeFault). LoadsDocument limits r (to_come c.args.parser.now)
    (to_come c.take_events.new.parser)) (sym own.same)
    (loads_last AreKept limits before c.in-Ok.field-0 _ _ _ last.0 at on takes last.1)

pub returns-in-Ok-clause-spans : goal.returns-in-Ok-clause-spans
returns-in-Ok-clause-spans g c = λ limits before h at on.
    (pairs limits before c.in-Ok.field-0 _ _ _ c.last_document.result at on (c.in-Ok.ensures.takes limits before h)
    c.last_document.ensures).spans

pub returns-in-Ok-clause-leaves : goal.returns-in-Ok-clause-leaves
returns-in-Ok-clause-leaves g c = λ limits before h at on.
    let last = c.last_document.ensures in
    let takes = c.in-Ok.ensures.takes limits before h in
    let own = pairs limits before c.in-Ok.field-0 _ _ _ c.last_document.result at on takes last in
    subst (λ (r : Result (Option Document) TreeFault). LeavesBehindLook r c.args.parser.now
    c.take_events.new.parser) (sym own.same)
    (leaves_last AreKept limits before c.in-Ok.field-0 _ _ _ last.0 at on takes last.1
    (c.in-Ok.ensures.leaves limits before h))

pub returns-in-Err-clause-loads : goal.returns-in-Err-clause-loads
returns-in-Err-clause-loads g c = λ limits before h at on.
    fails_in_document c.in-Err.fault limits before (to_come c.args.parser.now) (to_come c.take_events.new.parser) on
    (c.in-Err.ensures.takes limits before h)

pub returns-in-Err-clause-leaves : goal.returns-in-Err-clause-leaves
returns-in-Err-clause-leaves g c = λ limits before h at on.
    leaves_failed Document c.in-Err.fault _ _ on.0 (c.in-Err.ensures.leaves limits before h)
