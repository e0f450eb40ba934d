-- A search for an anchor, event after event.
use Rattle.std.proofs.Common.{◌≡◌, ℕ, List, [], ◌∷◌, ◌++◌, Some, sym, ap, ◌∙◌, append_assoc}
use Rattle.saphyr_parser.specs.Events as events
use Rattle.saphyr_parser.specs.Events.{Happening}
use Rattle.yaml_tree.specs.declared.node.Node.{Node, out-Node, fold_out-Node}
use Rattle.yaml_tree.specs.declared.node.Node.TheOpen.{Node-F}
use Rattle.yaml_tree.specs.declared.node.Node.TheFolds.{map-Node}
use Rattle.yaml_tree.specs.declared.walk.Turn.TheVariants.{Leave}
use Rattle.yaml_tree.specs.Unloading.{node_events, unload_step}
use Rattle.yaml_tree.specs.Accessing.{anchor_in_layer, anchor_of_node}
use Rattle.yaml_tree.specs.Walking.{IsCollectionEnd, BeginsNode, Turns}
use Rattle.yaml_tree.specs.Anchoring.{anchor_in_event, HaveNoAnchor}

-- ## The anchor of the next event

head_anchor : (h start : Happening) (xs ys : List Happening) → h ∷ xs ≡ start ∷ ys
    → anchor_in_event start ≡ anchor_in_event h
head_anchor h start xs ys e = let same : h ≡ start = cc in ap anchor_in_event (sym same)

layer_anchor : (layer : Node-F Node) (behind others : List Happening) (start : Happening)
    → unload_step (map-Node Node (List Happening) node_events layer) ++ behind ≡ start ∷ others
    → anchor_in_event start ≡ anchor_in_layer layer
layer_anchor (Node-F.Alias id) behind others start e = head_anchor _ start _ others e
layer_anchor _ behind others start e = head_anchor _ start _ others e

node_anchor : (node : Node) (behind others : List Happening) (start : Happening)
    → node_events node ++ behind ≡ start ∷ others → anchor_in_event start ≡ anchor_of_node node
node_anchor node behind others start e =
    layer_anchor (out-Node node) behind others start (rw fold_out-Node at e)

end_anchor : (h : Happening) (id : ℕ) → IsCollectionEnd h → anchor_in_event h ≡ Some id → ⊥
end_anchor events.SequenceEnd id end e = cc
end_anchor events.MappingEnd id end e = cc
end_anchor _ id end e = absurd end

-- ## The search

none_more : (id : ℕ) (hs : List Happening) (h : Happening) → HaveNoAnchor id hs → (anchor_in_event h ≡ Some id → ⊥)
    → HaveNoAnchor id (hs ++ h ∷ [])
none_more id [] h none other = (other, tt)
none_more id (x ∷ hs) h none other = (none.0, none_more id hs h none.1 other)

-- what was passed has no such anchor
pub record HasSearched (id : ℕ) (root : Node) (left : List Happening) : Type 0 where
  pub front : List Happening
  pub split : node_events root ≡ front ++ left
  pub none : HaveNoAnchor id front

searches_more : (id : ℕ) (root : Node) (left others : List Happening) (h : Happening) → HasSearched id root left
    → left ≡ h ∷ others → (anchor_in_event h ≡ Some id → ⊥) → HasSearched id root others
searches_more id root left others h s e other = record {
  front = s.front ++ h ∷ [];
  split = s.split ∙ ap (λ (l : List Happening). s.front ++ l) e ∙ sym (append_assoc s.front (h ∷ []) others);
  none = none_more id s.front h s.none other;
}

pub searches_node : (id depth : ℕ) (root node : Node) (left others : List Happening) → HasSearched id root left
    → BeginsNode node depth left others → (anchor_of_node node ≡ Some id → ⊥) → HasSearched id root others
searches_node id depth root node left others s b other = searches_more id root left others b.start s b.next
    (λ e. other (sym (node_anchor node b.behind others b.start (sym b.own ∙ b.next)) ∙ e))

pub searches_end : (id : ℕ) (root : Node) (left others : List Happening) → HasSearched id root left
    → Turns Leave left others → HasSearched id root others
searches_end id root left others s (h, end, e) = searches_more id root left others h s e (end_anchor h id end)
