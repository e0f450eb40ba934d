-- Parts without aliases, anchors and tags: whatever comes before them, they have events.
use Rattle.event_laws.proofs.Common.{◌≡◌, List, [], ◌∷◌, None, refl, arith, no_properties, anchor_of, anchors, Part, Reference, Leaf, OpenSequence, OpenMapping}

abbrev pub IsBarePart : Part → Type 0
IsBarePart (Reference _) = ⊥
IsBarePart (Leaf p _ _) = p ≡ no_properties
IsBarePart (OpenSequence p) = p ≡ no_properties
IsBarePart (OpenMapping p) = p ≡ no_properties
IsBarePart _ = Unit {0}

abbrev pub AreBare : List Part → Type 0
AreBare [] = Unit {0}
AreBare (p ∷ ps) = IsBarePart p × AreBare ps

no_anchor : (p : Part) → IsBarePart p → anchor_of p ≡ None
no_anchor k h = grind arith

pub bare_anchors : (ps : List Part) → AreBare ps → anchors ps ≡ 0
bare_anchors [] h = refl
bare_anchors (p ∷ ps) h = cc (no_anchor p h.0, bare_anchors ps h.1)
