-- Paths from a node to one inside (YAML 1.2.2, 3.2.1), and the events after the node at the end of a path.
use Rattle.std.specs.Prelude.{◌≡◌, ℕ, suc, List, [], ◌∷◌, ◌++◌, drop, slice_get, Option, Some, None, option_map}
use Rattle.std.specs.Option.{option_and_then, unwrap_or}
use Rattle.std.specs.List.{flat_map}
use Rattle.saphyr_parser.specs.Events.{Happening, SequenceEnd, MappingEnd}
use Rattle.yaml_tree.specs.declared.node.Node.{Node}
use Rattle.yaml_tree.specs.declared.paths.Step.{Step}
use Rattle.yaml_tree.specs.declared.paths.Step.TheVariants.{Index, Key, Value}
use Rattle.yaml_tree.specs.Accessing.{first_pair, items_of_node, pairs_of_node}
use Rattle.yaml_tree.specs.Unloading.{node_events, pair_events}

abbrev pub part_at : {X : Type 0} → ℕ → Option (List X) → Option X
part_at n parts = option_and_then (λ xs. slice_get xs n) parts

-- the item of a sequence, or the key or the value of a mapping's pair, with this index from 0
abbrev pub at_step : Step → Node → Option Node
at_step (Index n) node = part_at n (items_of_node node)
at_step (Key n) node = option_map (λ (pair : Node × Node). pair.0) (part_at n (pairs_of_node node))
at_step (Value n) node = option_map (λ (pair : Node × Node). pair.1) (part_at n (pairs_of_node node))

-- the step to the value in a mapping of the first key that is a scalar with this text
abbrev pub step_at_key : List ℕ → Node → Option Step
step_at_key key node = option_map Value (option_and_then (first_pair key) (pairs_of_node node))

-- the node at the end of these steps, if there is one
abbrev pub follow : List Step → Node → Option Node
follow [] node = Some node
follow (step ∷ steps) node = option_and_then (follow steps) (at_step step node)

-- ## The events after a node

abbrev pub parts_behind : {X : Type 0} → ℕ → Option (List X) → List X
parts_behind n parts = drop (suc n) (unwrap_or parts [])

abbrev pub value_events : Option (Node × Node) → List Happening
value_events (Some pair) = node_events pair.1
value_events None = []

-- those of a collection that come after the part at a step
abbrev pub behind_step : Step → Node → List Happening
behind_step (Index n) node = flat_map node_events (parts_behind n (items_of_node node)) ++ SequenceEnd ∷ []
behind_step (Key n) node = value_events (part_at n (pairs_of_node node))
    ++ (flat_map pair_events (parts_behind n (pairs_of_node node)) ++ MappingEnd ∷ [])
behind_step (Value n) node = flat_map pair_events (parts_behind n (pairs_of_node node)) ++ MappingEnd ∷ []

-- those of a tree that come after the node at the end of a path
abbrev pub behind_path : List Step → Node → List Happening
behind_path [] node = []
behind_path (step ∷ steps) node =
    unwrap_or (option_map (behind_path steps) (at_step step node)) [] ++ behind_step step node

-- The path leads from the root to this node, and to the very one with which the events begin, not to an equal one
-- elsewhere: after its own come those after the path.
pub record LeadsTo (path : List Step) (root node : Node) (events : List Happening) : Type 0 where
  pub there : follow path root ≡ Some node
  pub place : events ≡ node_events node ++ behind_path path root
