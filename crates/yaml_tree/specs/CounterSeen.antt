-- A count of expanded nodes, event after event.
use Rattle.std.specs.Prelude.{◌≡◌, ℕ, ◌+◌, min, List, [], ◌∷◌, ◌++◌}
use Rattle.saphyr_parser.specs.Events.{Happening, Alias, Scalar, SequenceStart, SequenceEnd, MappingStart, MappingEnd}
use Rattle.yaml_tree.specs.declared.node.Node.{Node}
use Rattle.yaml_tree.specs.declared.node.Node.TheOpen.{Node-F}
use Rattle.yaml_tree.specs.declared.expanding.Counter.{Counter}
use Rattle.yaml_tree.specs.Expanding.{Sizes, most, no_sizes, with_size, expanded}
use Rattle.yaml_tree.specs.SizesSeen.{size_in}

-- The nodes so far of the innermost collection that is open, itself among them; and for each collection that is open,
-- the innermost first, the id of its anchor and the nodes so far of what is around it.
pub record Count : Type 0 where
  pub nodes : ℕ
  pub sizes : Sizes
  pub levels : List (ℕ × ℕ)

-- a node with this anchor ended, which has so many
abbrev pub with_nodes : ℕ → ℕ → Count → Count
with_nodes id nodes c =
    record { nodes = c.nodes + nodes; sizes = with_size id nodes c.sizes; levels = c.levels }

abbrev pub begun : ℕ → Count → Count
begun id c = record { nodes = 1; sizes = c.sizes; levels = (id, c.nodes) ∷ c.levels }

abbrev pub left_to : List (ℕ × ℕ) → Count → Count
left_to [] c = c
left_to (outer ∷ levels) c =
    with_nodes outer.0 c.nodes (record { nodes = outer.1; sizes = c.sizes; levels = levels })

-- the innermost collection ends
abbrev pub left : Count → Count
left c = left_to c.levels c

abbrev pub entered_layer : Node-F Node → Count → Count
entered_layer (Node-F.Alias id) c = with_nodes 0 (c.sizes id) c
entered_layer (Node-F.Scalar text style id tag) c = with_nodes id 1 c
entered_layer (Node-F.Seq id tag nodes) c = begun id c
entered_layer (Node-F.Map id tag pairs) c = begun id c

-- after an event
abbrev pub counted : Happening → Count → Count
counted (Alias id) c = with_nodes 0 (c.sizes id) c
counted (Scalar text style id tag) c = with_nodes id 1 c
counted (SequenceStart id tag) c = begun id c
counted SequenceEnd c = left c
counted (MappingStart id tag) c = begun id c
counted MappingEnd c = left c
counted _ c = c

abbrev pub counted_all : List Happening → Count → Count
counted_all [] c = c
counted_all (h ∷ hs) c = counted_all hs (counted h c)

-- ## What a counter holds

-- collections that are open, the outermost first
abbrev pub AreOpen : List (ℕ × ℕ) → List (ℕ × ℕ) → Type 0
AreOpen kept [] = kept ≡ []
AreOpen kept (outer ∷ levels) =
    (front : List (ℕ × ℕ)) × (kept ≡ front ++ (outer.0, min most outer.1) ∷ []) × AreOpen front levels

-- the count, with `most` in the place of more
pub record HoldsCount (counter : Counter) (c : Count) : Type 0 where
  pub nodes : counter.nodes ≡ min most c.nodes
  pub sizes : (id : ℕ) → size_in counter.sizes id ≡ min most (c.sizes id)
  pub levels : AreOpen counter.levels.items c.levels

-- what a counter holds becomes the count of the tree after the events that are left
pub record IsCounting (root : Node) (to_come : List Happening) (counter : Counter) : Type 0 where
  pub so_far : Count
  pub holds : HoldsCount counter so_far
  pub whole : (counted_all to_come so_far).nodes ≡ (expanded root no_sizes).nodes
