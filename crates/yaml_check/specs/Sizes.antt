-- How many nodes aliases stand for.
use Rattle.std.specs.Prelude.{ℕ, ◌+◌, ◌-◌, ◌^◌, min, nat_eq, nat_le, List, [], ◌∷◌, length, Option, Some, None, unwrap_or, if◌then◌else◌}
use Rattle.std.specs.Ordering.{nat_cmp}
use Rattle.std.specs.Map.{lookup}
use Rattle.std.specs.BTreeMap.{insert_entry, is_at}
use Rattle.saphyr_parser.specs.Words.Span.{Span}
use Rattle.saphyr_parser.specs.Events.{Happening, Alias, Scalar, SequenceStart, SequenceEnd, MappingStart, MappingEnd}
use Rattle.yaml_check.specs.declared.sizes.Size.{Size}
use Rattle.yaml_check.specs.declared.warning.PlacedWarning.{PlacedWarning}
use Rattle.yaml_check.specs.declared.warning.Warning.TheVariants as warning

-- how many nodes an alias may stand for without a warning
abbrev pub wide : ℕ
wide = 1000000

-- what stands for a number of nodes that has no end, or that is too large to be counted
abbrev pub no_end : ℕ
no_end = 2 ^ 64 - 1

abbrev pub add : ℕ → ℕ → ℕ
add m n = min (m + n) no_end

-- The innermost collection with its anchor and its nodes so far, those that it is in, the innermost first, and the
-- sizes of the nodes with anchors that have ended.
pub record SizesOpen : Type 0 where
  pub here : Size
  pub outer : List Size
  pub known : List (ℕ × ℕ)

-- how many collections are open
abbrev pub open_collections : SizesOpen → ℕ
open_collections s = length s.outer

abbrev pub new_size : ℕ → Size
new_size id = record { anchor = id; nodes = 0 }

abbrev pub no_open_sizes : SizesOpen
no_open_sizes = record { here = new_size 0; outer = []; known = [] }

-- how many nodes the node of an anchor has, if it has ended
abbrev pub ended_size : ℕ → SizesOpen → Option ℕ
ended_size id s = lookup (is_at (nat_cmp id)) s.known

-- how many nodes an alias stands for; one inside its own node has no end
abbrev pub size_at : ℕ → SizesOpen → ℕ
size_at id s = unwrap_or (ended_size id s) no_end

-- so many more nodes are in the innermost collection
abbrev pub more_nodes : ℕ → Size → Size
more_nodes n size = record { anchor = size.anchor; nodes = add size.nodes n }

abbrev pub with_more_nodes : ℕ → SizesOpen → SizesOpen
with_more_nodes n s = record { here = more_nodes n s.here; outer = s.outer; known = s.known }

-- a node with this anchor, 0 for none, and so many nodes ends
abbrev pub with_known : ℕ → ℕ → List (ℕ × ℕ) → List (ℕ × ℕ)
with_known id n known = if nat_eq id 0 then known else insert_entry nat_cmp known id n

abbrev pub with_known_size : ℕ → ℕ → SizesOpen → SizesOpen
with_known_size id n s = record { here = s.here; outer = s.outer; known = insert_entry nat_cmp s.known id n }

abbrev pub with_ended_node : ℕ → ℕ → SizesOpen → SizesOpen
with_ended_node id n s = record { here = more_nodes n s.here; outer = s.outer; known = with_known id n s.known }

abbrev pub sizes_inside : ℕ → SizesOpen → SizesOpen
sizes_inside id s = record { here = new_size id; outer = s.here ∷ s.outer; known = s.known }

abbrev pub sizes_ended_in : List Size → SizesOpen → SizesOpen
sizes_ended_in [] s = s
sizes_ended_in (size ∷ sizes) s =
    with_ended_node s.here.anchor (add s.here.nodes 1) (record { here = size; outer = sizes; known = s.known })

abbrev pub sizes_outside : SizesOpen → SizesOpen
sizes_outside s = sizes_ended_in s.outer s

abbrev pub sizes_behind : Happening → SizesOpen → SizesOpen
sizes_behind (Alias id) s = with_more_nodes (size_at id s) s
sizes_behind (Scalar text style id tag) s = with_ended_node id 1 s
sizes_behind (SequenceStart id tag) s = sizes_inside id s
sizes_behind SequenceEnd s = sizes_outside s
sizes_behind (MappingStart id tag) s = sizes_inside id s
sizes_behind MappingEnd s = sizes_outside s
sizes_behind _ s = s

abbrev pub wide_if : ℕ → Span → Option PlacedWarning
wide_if n span = if nat_le n wide then None else Some (record { span = span; warning = warning.WideAlias wide })

-- what is told of an alias, by the size of its node
abbrev pub size_warning : Option ℕ → Span → Option PlacedWarning
size_warning None span = Some (record { span = span; warning = warning.AliasInItself })
size_warning (Some n) span = wide_if n span

-- what is told of an event
abbrev pub alias_warning : SizesOpen → Happening → Span → Option PlacedWarning
alias_warning s (Alias id) span = size_warning (ended_size id s) span
alias_warning _ _ _ = None
