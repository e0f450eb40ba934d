use Rattle.std.proofs.Common.{[], ◌∷◌, refl, inl, inr}
use Rattle.saphyr_parser.specs.Events.{StreamStart}
use Rattle.yaml_tree.proofs.DocumentFound.{loads_found, leaves_less, leaves_found}
use Rattle.yaml_tree.proofs.document_loading.load_document.Goals as goal

pub returns-in-BeforeStream-clause-loads : goal.returns-in-BeforeStream-clause-loads
returns-in-BeforeStream-clause-loads g c = loads_found c.args.limits [] _ _ _ _ c.in-BeforeStream.ensures.stands
    (c.next_document.ensures.loads c.args.limits [] (c.new.ensures tt) (inl refl))

pub returns-in-BeforeStream-clause-leaves : goal.returns-in-BeforeStream-clause-leaves
returns-in-BeforeStream-clause-leaves g c = leaves_found [] _ _ _ _ c.find_place.ensures.looks
    c.in-BeforeStream.ensures.stands
    (c.next_document.ensures.leaves c.args.limits [] (c.new.ensures tt) (inl refl))

pub returns-in-Between-clause-loads : goal.returns-in-Between-clause-loads
returns-in-Between-clause-loads g c =
    loads_found c.args.limits (StreamStart ∷ []) _ _ _ _ c.in-Between.ensures.stands
    (c.next_document-in-Between.ensures.loads c.args.limits (StreamStart ∷ []) (c.in_stream.ensures tt) (inr refl))

pub returns-in-Between-clause-leaves : goal.returns-in-Between-clause-leaves
returns-in-Between-clause-leaves g c = leaves_found (StreamStart ∷ []) _ _ _ _ c.find_place.ensures.looks
    c.in-Between.ensures.stands
    (c.next_document-in-Between.ensures.leaves c.args.limits (StreamStart ∷ []) (c.in_stream.ensures tt) (inr refl))

pub returns-in-BeforeStream-clause-shrinks : goal.returns-in-BeforeStream-clause-shrinks
returns-in-BeforeStream-clause-shrinks g c = leaves_less c.args.limits c.next_document.result _ _
    (loads_found c.args.limits [] _ _ _ _ c.in-BeforeStream.ensures.stands
    (c.next_document.ensures.loads c.args.limits [] (c.new.ensures tt) (inl refl)))

pub returns-in-Between-clause-shrinks : goal.returns-in-Between-clause-shrinks
returns-in-Between-clause-shrinks g c = leaves_less c.args.limits c.next_document-in-Between.result _ _
    (loads_found c.args.limits (StreamStart ∷ []) _ _ _ _ c.in-Between.ensures.stands
    (c.next_document-in-Between.ensures.loads c.args.limits (StreamStart ∷ []) (c.in_stream.ensures tt) (inr refl)))
