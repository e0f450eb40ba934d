-- A node's events are no marks of documents.
use Rattle.std.proofs.Common.{List, [], ◌∷◌, ◌++◌}
use Rattle.saphyr_parser.specs.Events.{Happening, Nothing, StreamStart, StreamEnd, DocumentStart, DocumentEnd}
use Rattle.yaml_tree.specs.declared.node.Node.{Node}
use Rattle.yaml_tree.specs.Unloading.{node_events}
use Rattle.yaml_tree.proofs.EachNode.{of_node}

-- an event that is one of a node
abbrev pub IsNodeEvent : Happening → Type 0
IsNodeEvent Nothing = ⊥
IsNodeEvent StreamStart = ⊥
IsNodeEvent StreamEnd = ⊥
IsNodeEvent (DocumentStart explicit) = ⊥
IsNodeEvent DocumentEnd = ⊥
IsNodeEvent _ = Unit {0}

abbrev pub AreNodeEvents : List Happening → Type 0
AreNodeEvents [] = Unit {0}
AreNodeEvents (h ∷ hs) = IsNodeEvent h × AreNodeEvents hs

joined : (xs ys : List Happening) → AreNodeEvents xs → AreNodeEvents ys → AreNodeEvents (xs ++ ys)
joined [] ys h k = k
joined (x ∷ xs) ys h k = (h.0, joined xs ys h.1 k)

pub have_node_events : (n : Node) → AreNodeEvents (node_events n)
have_node_events = of_node (λ hs e. AreNodeEvents hs) (record {
  nothing = tt;
  both = λ xs ys e f. joined xs ys;
  alias = λ id. (tt, tt);
  scalar = λ text style id tag. (tt, tt);
  sequence = λ id tag inner e h. (tt, joined inner _ h (tt, tt));
  mapping = λ id tag inner e h. (tt, joined inner _ h (tt, tt));
})
