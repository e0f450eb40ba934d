-- The node of an anchor (YAML 1.2.2, 3.2.2.2), by the events of a tree.
use Rattle.std.specs.Prelude.{◌≡◌, ℕ, List, [], ◌∷◌, ◌++◌, Option, Some, None}
use Rattle.std.specs.Borrow.{Bor}
use Rattle.saphyr_parser.specs.Events.{Happening, Scalar, SequenceStart, MappingStart}
use Rattle.yaml_tree.specs.declared.node.Node.{Node}
use Rattle.yaml_tree.specs.Unloading.{node_events}
use Rattle.yaml_tree.specs.Accessing.{some_anchor, anchor_of_node}

-- the id of the anchor that an event has
abbrev pub anchor_in_event : Happening → Option ℕ
anchor_in_event (Scalar text style id tag) = some_anchor id
anchor_in_event (SequenceStart id tag) = some_anchor id
anchor_in_event (MappingStart id tag) = some_anchor id
anchor_in_event _ = None

-- none of these events has this anchor
abbrev pub HaveNoAnchor : ℕ → List Happening → Type 0
HaveNoAnchor id [] = Unit {0}
HaveNoAnchor id (h ∷ hs) = (anchor_in_event h ≡ Some id → ⊥) × HaveNoAnchor id hs

-- The first node with this anchor in a tree, by the order of the events; or there is none.
abbrev pub FindsAnchor : ℕ → Node → Option (Bor Node) → Type 0
FindsAnchor id root None = HaveNoAnchor id (node_events root)
FindsAnchor id root (Some node) =
    (front : List Happening) × (behind : List Happening)
    × (node_events root ≡ front ++ (node_events node.now ++ behind))
    × HaveNoAnchor id front × (anchor_of_node node.now ≡ Some id)
