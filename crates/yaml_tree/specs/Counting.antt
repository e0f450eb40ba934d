-- How many nodes come, and how many collections are open at once.
use Rattle.std.specs.Prelude.{ℕ, ◌+◌, ◌-◌, ◌≤◌, List, [], ◌∷◌}
use Rattle.saphyr_parser.specs.Events.{Happening, Alias, Scalar, SequenceStart, SequenceEnd, MappingStart, MappingEnd}
use Rattle.yaml_tree.specs.declared.tally.Limits.{Limits}

-- the nodes that came, and the collections that are open
pub record Counts : Type 0 where
  pub nodes : ℕ
  pub depth : ℕ

abbrev pub no_nodes : Counts
no_nodes = record { nodes = 0; depth = 0 }

abbrev pub with_node : Counts → Counts
with_node c = record { nodes = c.nodes + 1; depth = c.depth }

abbrev pub with_collection : Counts → Counts
with_collection c = record { nodes = c.nodes + 1; depth = c.depth + 1 }

abbrev pub with_collection_end : Counts → Counts
with_collection_end c = record { nodes = c.nodes; depth = c.depth - 1 }

-- after an event; an alias is a node too
abbrev pub counts_behind : Happening → Counts → Counts
counts_behind (Alias id) c = with_node c
counts_behind (Scalar text style id tag) c = with_node c
counts_behind (SequenceStart id tag) c = with_collection c
counts_behind SequenceEnd c = with_collection_end c
counts_behind (MappingStart id tag) c = with_collection c
counts_behind MappingEnd c = with_collection_end c
counts_behind _ c = c

abbrev pub counts_behind_all : List Happening → Counts → Counts
counts_behind_all [] c = c
counts_behind_all (h ∷ hs) c = counts_behind_all hs (counts_behind h c)

pub record Fits (limits : Limits) (c : Counts) : Type 0 where
  pub nodes : c.nodes ≤ limits.nodes
  pub depth : c.depth ≤ limits.depth

-- after each of the events the counts are within the limits
abbrev pub StayWithin : Limits → List Happening → Counts → Type 0
StayWithin limits [] c = Unit {0}
StayWithin limits (h ∷ hs) c = Fits limits (counts_behind h c) × StayWithin limits hs (counts_behind h c)
