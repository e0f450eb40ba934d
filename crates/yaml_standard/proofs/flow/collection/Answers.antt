use Rattle.yaml_standard.proofs.Collections.{bracket_first, collection_opened, one_less}
use Rattle.yaml_standard.proofs.flow.collection.Goals as goal

pub returns : goal.returns
returns c = λ end t.
    collection_opened _ _ _ _ _ _ _ (one_less _ _ c.in_ok-room.ensures.0 c.in_ok-room.ensures.1) c.behind_front.ensures
    (bracket_first _ _ _ _ c.opening.ensures c.in_ok-rest.ensures) t
