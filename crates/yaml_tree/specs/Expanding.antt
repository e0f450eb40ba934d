-- Documents whose aliases are expanded: how many nodes there are once each alias is replaced by a copy of the node that
-- it stands for (YAML 1.2.2, 3.2.2.2 and 7.1).
use Rattle.std.specs.Prelude.{ℕ, zero, suc, ◌+◌, ◌-◌, ◌^◌, ◌==◌, min, if◌then◌else◌, List, [], ◌∷◌}
use Rattle.yaml_tree.specs.declared.node.Node.{Node, fold-Node}
use Rattle.yaml_tree.specs.declared.node.Node.TheOpen.{Node-F}
use Rattle.yaml_tree.specs.declared.document.Document.{Document}

-- the largest count that is told, which is `u64::MAX`
abbrev pub most : ℕ
most = 2 ^ 64 - 1

-- how many nodes the node with each anchor has once it is expanded
abbrev pub Sizes : Type 0
Sizes = ℕ → ℕ

-- Before the first node has ended. An alias for a node that has not ended is inside it, so there is no end to the
-- copies.
abbrev pub no_sizes : Sizes
no_sizes id = most

-- After a node with this anchor; 0 is none. An alias "refers to the most recent preceding node having the same
-- anchor".
abbrev pub with_size : ℕ → ℕ → Sizes → Sizes
with_size zero nodes sizes = sizes
with_size (suc id) nodes sizes = λ other. if suc id == other then nodes else sizes other

-- how many nodes there are of a part of a tree, and the sizes after it
pub record Expanded : Type 0 where
  pub nodes : ℕ
  pub sizes : Sizes

-- a node with this anchor ends
abbrev pub ended : ℕ → ℕ → Sizes → Expanded
ended id nodes sizes = record { nodes = nodes; sizes = with_size id nodes sizes }

-- a part, and then the others
abbrev pub followed_by : Expanded → (Sizes → Expanded) → Expanded
followed_by part others =
    let behind = others part.sizes in record { nodes = part.nodes + behind.nodes; sizes = behind.sizes }

abbrev pub expanded_items : List (Sizes → Expanded) → Sizes → Expanded
expanded_items [] sizes = record { nodes = 0; sizes = sizes }
expanded_items (item ∷ items) sizes = followed_by (item sizes) (expanded_items items)

abbrev pub expanded_pairs : List ((Sizes → Expanded) × (Sizes → Expanded)) → Sizes → Expanded
expanded_pairs [] sizes = record { nodes = 0; sizes = sizes }
expanded_pairs (pair ∷ pairs) sizes =
    followed_by (pair.0 sizes) (λ behind. followed_by (pair.1 behind) (expanded_pairs pairs))

-- a node, from what the nodes inside are
abbrev pub expand_step : Node-F (Sizes → Expanded) → Sizes → Expanded
expand_step (Node-F.Alias id) sizes = record { nodes = sizes id; sizes = sizes }
expand_step (Node-F.Scalar text style id tag) sizes = ended id 1 sizes
expand_step (Node-F.Seq id tag nodes) sizes =
    let inner = expanded_items nodes.items sizes in ended id (1 + inner.nodes) inner.sizes
expand_step (Node-F.Map id tag pairs) sizes =
    let inner = expanded_pairs pairs.items sizes in ended id (1 + inner.nodes) inner.sizes

abbrev pub expanded : Node → Sizes → Expanded
expanded = fold-Node (Sizes → Expanded) expand_step

-- how many nodes a document has once it is expanded, or `most` where there are more
abbrev pub nodes_once_expanded : Document → ℕ
nodes_once_expanded document = min most (expanded document.root no_sizes).nodes
