-- A text of JSON has events, since its forest has no aliases, anchors and tags.
use Rattle.event_laws.proofs.Common.{◌≡◌, ℕ, Bool, List, [], ◌∷◌, ◌++◌, Option, Some, None, option_map, encode_utf8_all, refl, ap, arith, IsMemberName, IsValue, AreElements, AreOtherElements, AreMembers, AreOtherMembers, IsJson, Part, CloseStream, CloseDocument, Reference, Leaf, OpenSequence, CloseSequence, OpenMapping, CloseMapping, node_parts, entry_parts, pair_parts, parts, Happening, Scalar, SequenceStart, MappingStart, anchors, own_id, any_resolution, event_of_part, events_behind, events}
use Rattle.saphyr_scanner.specs.Grammar.Forest.{Plain, DoubleQuoted, Properties, Node, Nodes, NoNode, MoreNodes, Pairs, NoPair, MorePairs, Forest}
use Rattle.saphyr_scanner.specs.Grammar.Forest as forest
use Rattle.event_laws.proofs.BareParts.{IsBarePart, AreBare, bare_anchors}

abbrev Has : Option Happening → Type 0
Has o = (e : Happening) × (o ≡ Some e)

bare_event : (keep : Bool) (front : List Part) (p : Part) → IsBarePart p → Has (event_of_part keep front p)
bare_event keep front (Reference x) h = elim h [ ]
bare_event keep front (Leaf p s v) h = (
  Scalar (encode_utf8_all v) s 0 None,
  ap
      (λ (q : Properties). option_map (Scalar (encode_utf8_all v) s (own_id front q.anchor))
      (any_resolution keep q.tag front)) h,
)
bare_event keep front (OpenSequence p) h = (
  SequenceStart 0 None,
  ap
      (λ (q : Properties). option_map (SequenceStart (own_id front q.anchor)) (any_resolution keep q.tag front)) h,
)
bare_event keep front (OpenMapping p) h = (
  MappingStart 0 None,
  ap
      (λ (q : Properties). option_map (MappingStart (own_id front q.anchor)) (any_resolution keep q.tag front)) h,
)
bare_event keep front _ h = (_, refl)

bare_events : (keep : Bool) (front ps : List Part) → AreBare ps
    → (es : List Happening) × (events_behind keep front ps ≡ Some es)
bare_events keep front [] h = ([], refl)
bare_events keep front (p ∷ ps) h =
    let first : Has (event_of_part keep front p) = bare_event keep front p h.0 in
    let others : (es : List Happening) × (events_behind keep (p ∷ front) ps ≡ Some es) =
    bare_events keep (p ∷ front) ps h.1 in (first.0 ∷ others.0, cc)

joined_are_bare : (ps qs : List Part) → AreBare ps → AreBare qs → AreBare (ps ++ qs)
joined_are_bare [] qs h k = k
joined_are_bare (p ∷ ps) qs h k = (h.0, joined_are_bare ps qs h.1 k)

member_name_is_bare : (n : Node) (t : List ℕ) → IsMemberName n t → AreBare (node_parts n)
member_name_is_bare u0 t h = grind arith

mutual
  value : (n : Node) (t : List ℕ) → IsValue n t → AreBare (node_parts n)
  value (forest.Scalar p Plain v) t h = (h.0, tt)
  value (forest.Scalar p DoubleQuoted v) t h = (h.0, tt)
  value (forest.Seq p ns) t h =
      (h.3, joined_are_bare (entry_parts ns) (CloseSequence ∷ []) (elements ns h.1 h.5) (tt, tt))
  value (forest.Map p ps) t h = (h.3, joined_are_bare (pair_parts ps) (CloseMapping ∷ []) (members ps h.1 h.5) (tt, tt))
  value _ t h = elim h [ ]

  elements : (ns : Nodes) (t : List ℕ) → AreElements ns t → AreBare (entry_parts ns)
  elements NoNode t h = tt
  elements (MoreNodes n ns) t h =
      joined_are_bare (node_parts n) (entry_parts ns) (value n h.0 h.2) (other_elements ns h.1 h.3)

  other_elements : (ns : Nodes) (t : List ℕ) → AreOtherElements ns t → AreBare (entry_parts ns)
  other_elements NoNode t h = tt
  other_elements (MoreNodes n ns) t h =
      joined_are_bare (node_parts n) (entry_parts ns) (value n h.1 h.4) (other_elements ns h.2 h.5)

  members : (ps : Pairs) (t : List ℕ) → AreMembers ps t → AreBare (pair_parts ps)
  members NoPair t h = tt
  members (MorePairs k v ps) t h =
      joined_are_bare (node_parts k) (node_parts v ++ pair_parts ps) (member_name_is_bare k h.0 h.4)
      (joined_are_bare (node_parts v) (pair_parts ps) (value v h.2 h.6) (other_members ps h.3 h.7))

  other_members : (ps : Pairs) (t : List ℕ) → AreOtherMembers ps t → AreBare (pair_parts ps)
  other_members NoPair t h = tt
  other_members (MorePairs k v ps) t h =
      joined_are_bare (node_parts k) (node_parts v ++ pair_parts ps) (member_name_is_bare k h.1 h.6)
      (joined_are_bare (node_parts v) (pair_parts ps) (value v h.3 h.8) (other_members ps h.4 h.9))

json_is_bare : (f : Forest) (text : List ℕ) → IsJson f text → AreBare (parts f)
json_is_bare (d ∷ []) text h = (
  tt,
  (
    tt,
    joined_are_bare (node_parts d.node) (CloseDocument ∷ CloseStream ∷ []) (value d.node h.1.1 h.1.4)
        (tt, (tt, tt)),
  ),
)
json_is_bare [] text h = elim h [ ]
json_is_bare (d ∷ (_ ∷ _)) text h = elim h [ ]

pub json_has_events : (f : Forest) (text : List ℕ) (keep : Bool) → IsJson f text
    → (es : List Happening) × (events f keep ≡ Some es)
json_has_events f text keep h = bare_events keep [] (parts f) (json_is_bare f text h)

pub json_has_no_anchors : (f : Forest) (text : List ℕ) → IsJson f text → anchors (parts f) ≡ 0
json_has_no_anchors f text h = bare_anchors (parts f) (json_is_bare f text h)
