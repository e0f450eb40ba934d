use Rattle.saphyr_parser.specs.Cursor.{to_come}
use Rattle.yaml_tree.specs.declared.document.Document.{Document}
use Rattle.yaml_tree.specs.KeeperSeen.{AreUnkept}
use Rattle.yaml_tree.proofs.DocumentFound.{loads_last, fails_in_document, leaves_last, leaves_failed}
use Rattle.yaml_tree.proofs.document_loading.next_document.Goals as goal

pub returns-in-Ok-clause-loads : goal.returns-in-Ok-clause-loads
returns-in-Ok-clause-loads g c = λ limits before h at on.
    loads_last AreUnkept limits before c.in-Ok.field-0 _ _ _ c.last_document.result at on
    (c.in-Ok.ensures.takes limits before h) c.last_document.ensures

pub returns-in-Ok-clause-leaves : goal.returns-in-Ok-clause-leaves
returns-in-Ok-clause-leaves g c = λ limits before h at on.
    leaves_last AreUnkept limits before c.in-Ok.field-0 _ _ _ c.last_document.result at on
    (c.in-Ok.ensures.takes limits before h) c.last_document.ensures (c.in-Ok.ensures.leaves limits before h)

pub returns-in-Err-clause-loads : goal.returns-in-Err-clause-loads
returns-in-Err-clause-loads g c = λ limits before h at on.
    fails_in_document c.in-Err.fault limits before (to_come c.args.parser.now) (to_come c.take_events.new.parser) on
    (c.in-Err.ensures.takes limits before h)

pub returns-in-Err-clause-leaves : goal.returns-in-Err-clause-leaves
returns-in-Err-clause-leaves g c = λ limits before h at on.
    leaves_failed Document c.in-Err.fault _ _ on.0 (c.in-Err.ensures.leaves limits before h)
