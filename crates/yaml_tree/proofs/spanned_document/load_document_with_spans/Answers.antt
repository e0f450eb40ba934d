use Rattle.std.proofs.Common.{[], ◌∷◌, refl, inl, inr}
use Rattle.saphyr_parser.specs.Events.{StreamStart}
use Rattle.yaml_tree.specs.KeeperSeen.{document_of}
use Rattle.yaml_tree.proofs.DocumentFound.{loads_found, leaves_less, leaves_found}
use Rattle.yaml_tree.proofs.SpannedFound.{spans_found}
use Rattle.yaml_tree.proofs.spanned_document.load_document_with_spans.Goals as goal

pub returns-in-BeforeStream-clause-loads : goal.returns-in-BeforeStream-clause-loads
returns-in-BeforeStream-clause-loads g c = loads_found c.args.limits [] _ _ _ _ c.in-BeforeStream.ensures.stands
    (c.next_document.ensures.loads c.args.limits [] (c.new-in-BeforeStream.ensures c.new.ensures) (inl refl))

pub returns-in-BeforeStream-clause-leaves : goal.returns-in-BeforeStream-clause-leaves
returns-in-BeforeStream-clause-leaves g c = leaves_found [] _ _ _ _ c.find_place.ensures.looks
    c.in-BeforeStream.ensures.stands
    (c.next_document.ensures.leaves c.args.limits [] (c.new-in-BeforeStream.ensures c.new.ensures) (inl refl))

pub returns-in-Between-clause-loads : goal.returns-in-Between-clause-loads
returns-in-Between-clause-loads g c =
    loads_found c.args.limits (StreamStart ∷ []) _ _ _ _ c.in-Between.ensures.stands
    (c.next_document-in-Between.ensures.loads c.args.limits (StreamStart ∷ [])
    (c.in_stream.ensures c.new-in-Between.ensures) (inr refl))

pub returns-in-Between-clause-leaves : goal.returns-in-Between-clause-leaves
returns-in-Between-clause-leaves g c = leaves_found (StreamStart ∷ []) _ _ _ _ c.find_place.ensures.looks
    c.in-Between.ensures.stands
    (c.next_document-in-Between.ensures.leaves c.args.limits (StreamStart ∷ [])
    (c.in_stream.ensures c.new-in-Between.ensures) (inr refl))

pub returns-in-BeforeStream-clause-shrinks : goal.returns-in-BeforeStream-clause-shrinks
returns-in-BeforeStream-clause-shrinks g c = leaves_less c.args.limits (document_of c.next_document.result) _ _
    (loads_found c.args.limits [] _ _ _ _ c.in-BeforeStream.ensures.stands
    (c.next_document.ensures.loads c.args.limits [] (c.new-in-BeforeStream.ensures c.new.ensures) (inl refl)))

pub returns-in-Between-clause-shrinks : goal.returns-in-Between-clause-shrinks
returns-in-Between-clause-shrinks g c = leaves_less c.args.limits (document_of c.next_document-in-Between.result) _ _
    (loads_found c.args.limits (StreamStart ∷ []) _ _ _ _ c.in-Between.ensures.stands
    (c.next_document-in-Between.ensures.loads c.args.limits (StreamStart ∷ [])
    (c.in_stream.ensures c.new-in-Between.ensures) (inr refl)))

pub returns-in-BeforeStream-clause-spans : goal.returns-in-BeforeStream-clause-spans
returns-in-BeforeStream-clause-spans g c = spans_found [] _ _ _ c.next_document.result c.in-BeforeStream.ensures.stands
    (c.next_document.ensures.spans c.args.limits [] (c.new-in-BeforeStream.ensures c.new.ensures) (inl refl))

pub returns-in-Between-clause-spans : goal.returns-in-Between-clause-spans
returns-in-Between-clause-spans g c =
    spans_found (StreamStart ∷ []) _ _ _ c.next_document-in-Between.result c.in-Between.ensures.stands
    (c.next_document-in-Between.ensures.spans c.args.limits (StreamStart ∷ [])
    (c.in_stream.ensures c.new-in-Between.ensures) (inr refl))
