-- What holds of the events of the parts of nodes, and of how these are expanded, holds of each node.
use Rattle.std.proofs.Common.{◌≡◌, ℕ, ◌+◌, List, [], ◌∷◌, ◌++◌, map, Option, option_map, sym, subst, append_assoc}
use Rattle.std.specs.List.{flat_map}
use Rattle.saphyr_scalar.specs.declared.scalar.style.ScalarStyle.{ScalarStyle}
use Rattle.saphyr_parser.specs.Events.{Happening, ResolvedTag, Alias, Scalar, SequenceStart, SequenceEnd, MappingStart, MappingEnd}
use Rattle.saphyr_parser.specs.Views.Events.{resolved_tag}
use Rattle.yaml_tree.specs.declared.node.Node.{Node}
use Rattle.yaml_tree.specs.declared.node.Node.TheOpen.{Node-F}
use Rattle.yaml_tree.specs.declared.node.Node.TheFolds.{ind-Node, fold-roll-Node, map-Node}
use Rattle.yaml_tree.specs.Unloading.{node_events, both_events, unload_step}
use Rattle.yaml_tree.specs.Expanding.{Sizes, Expanded, ended, followed_by, expanded, expanded_items, expanded_pairs, expand_step}

-- a collection with this anchor, from what is inside
abbrev pub expanded_around : ℕ → (Sizes → Expanded) → Sizes → Expanded
expanded_around id inner sizes = ended id (1 + (inner sizes).nodes) (inner sizes).sizes

-- R holds of no parts, of parts one after the other, of scalars and aliases, and of collections of parts.
pub record Adds (R : List Happening → (Sizes → Expanded) → Type 0) : Type 0 where
  pub nothing : R [] (λ sizes. record { nodes = 0; sizes = sizes })
  pub both : (xs ys : List Happening) (e f : Sizes → Expanded) → R xs e → R ys f
      → R (xs ++ ys) (λ sizes. followed_by (e sizes) f)
  pub alias : (id : ℕ) → R (Alias id ∷ []) (λ sizes. record { nodes = sizes id; sizes = sizes })
  pub scalar : (text : List ℕ) (style : ScalarStyle) (id : ℕ) (tag : Option ResolvedTag)
      → R (Scalar text style id tag ∷ []) (ended id 1)
  pub sequence : (id : ℕ) (tag : Option ResolvedTag) (inner : List Happening) (e : Sizes → Expanded) → R inner e
      → R (SequenceStart id tag ∷ (inner ++ SequenceEnd ∷ [])) (expanded_around id e)
  pub mapping : (id : ℕ) (tag : Option ResolvedTag) (inner : List Happening) (e : Sizes → Expanded) → R inner e
      → R (MappingStart id tag ∷ (inner ++ MappingEnd ∷ [])) (expanded_around id e)

module _ (R : List Happening → (Sizes → Expanded) → Type 0) (a : Adds R) where
  abbrev IsAdded : Node → Type 0
  IsAdded n = R (node_events n) (expanded n)

  -- W is a node with a proof beside it

  in_sequence : {W : Type 0} (node : W → Node) (holds : (w : W) → IsAdded (node w)) (ws : List W)
      → R (flat_map (λ (events : List Happening). events) (map node_events (map node ws)))
      (expanded_items (map expanded (map node ws)))
  in_sequence node holds [] = a.nothing
  in_sequence node holds (w ∷ ws) = a.both _ _ (expanded (node w)) (expanded_items (map expanded (map node ws)))
      (holds w) (in_sequence node holds ws)

  abbrev both_given : (Node × Node) → List Happening × List Happening
  both_given p = (node_events p.0, node_events p.1)

  abbrev both_expanded : (Node × Node) → (Sizes → Expanded) × (Sizes → Expanded)
  both_expanded p = (expanded p.0, expanded p.1)

  in_pair : (key value : Node) (others : List Happening) (rest : Sizes → Expanded) → IsAdded key → IsAdded value
      → R others rest → R ((node_events key ++ node_events value) ++ others)
      (λ sizes. followed_by (expanded key sizes) (λ behind. followed_by (expanded value behind) rest))
  in_pair key value others rest k v r =
      let values : Sizes → Expanded = λ sizes. followed_by (expanded value sizes) rest in
      subst (λ (hs : List Happening). R hs (λ sizes. followed_by (expanded key sizes) values))
      (sym (append_assoc (node_events key) (node_events value) others))
      (a.both _ _ (expanded key) values k (a.both _ _ (expanded value) rest v r))

  in_mapping : {W : Type 0} (node : W → Node) (holds : (w : W) → IsAdded (node w)) (ws : List (W × W))
      → R (flat_map both_events (map both_given (map (λ (p : W × W). (node p.0, node p.1)) ws)))
      (expanded_pairs (map both_expanded (map (λ (p : W × W). (node p.0, node p.1)) ws)))
  in_mapping node holds [] = a.nothing
  in_mapping {W} node holds (w ∷ ws) = in_pair (node w.0) (node w.1) _
      (expanded_pairs (map both_expanded (map (λ (p : W × W). (node p.0, node p.1)) ws)))
      (holds w.0) (holds w.1) (in_mapping node holds ws)

  in_layer : {W : Type 0} (node : W → Node) (holds : (w : W) → IsAdded (node w)) (y : Node-F W)
      → R (unload_step (map-Node Node (List Happening) node_events (map-Node W Node node y)))
      (expand_step (map-Node Node (Sizes → Expanded) expanded (map-Node W Node node y)))
  in_layer node holds (Node-F.Alias id) = a.alias id
  in_layer node holds (Node-F.Scalar text style id tag) = a.scalar _ style id (option_map resolved_tag tag)
  in_layer node holds (Node-F.Seq id tag nodes) = a.sequence id (option_map resolved_tag tag) _
      (expanded_items (map expanded (map node nodes.items))) (in_sequence node holds nodes.items)
  in_layer {W} node holds (Node-F.Map id tag pairs) = a.mapping id (option_map resolved_tag tag) _
      (expanded_pairs (map both_expanded (map (λ (p : W × W). (node p.0, node p.1)) pairs.items)))
      (in_mapping node holds pairs.items)

  unrolled : {hs ks : List Happening} {e f : Sizes → Expanded} → ks ≡ hs → f ≡ e → R hs e → R ks f
  unrolled {hs} {ks} {e} {f} same alike h =
      subst (λ (l : List Happening). R l f) (sym same) (subst (R hs) (sym alike) h)

  pub of_node : (n : Node) → IsAdded n
  of_node = ind-Node IsAdded (λ x y is.
      unrolled (fold-roll-Node (List Happening) unload_step x) (fold-roll-Node (Sizes → Expanded) expand_step x)
      (subst (λ (z : Node-F Node). R (unload_step (map-Node Node (List Happening) node_events z))
      (expand_step (map-Node Node (Sizes → Expanded) expanded z))) is (in_layer (λ e. e.0) (λ e. e.1) y)))
