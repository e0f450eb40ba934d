-- The nodes of a text, and collections in one another.
use Rattle.std.specs.Prelude.{ℕ, zero, suc, Bool, true, false, Option, Some, None, option_and_then, if◌then◌else◌}
use Rattle.saphyr_parser.specs.Words.Span.{Span}
use Rattle.saphyr_parser.specs.Events.{Happening, Alias, Scalar, SequenceStart, MappingStart}
use Rattle.yaml_check.specs.declared.warning.PlacedWarning.{PlacedWarning}
use Rattle.yaml_check.specs.declared.warning.Warning.TheVariants as warning

-- a node begins here; an alias is one
abbrev pub is_node : Happening → Bool
is_node (Alias id) = true
is_node (Scalar text style id tag) = true
is_node (SequenceStart id tag) = true
is_node (MappingStart id tag) = true
is_node _ = false

-- a collection begins here
abbrev pub is_collection : Happening → Bool
is_collection (SequenceStart id tag) = true
is_collection (MappingStart id tag) = true
is_collection _ = false

-- how many more nodes there may be, until there were too many
abbrev pub all_left : ℕ → Option ℕ
all_left most = Some most

abbrev pub one_less : ℕ → Option ℕ
one_less zero = None
one_less (suc n) = Some n

abbrev pub left_behind : Happening → Option ℕ → Option ℕ
left_behind what left = if is_node what then option_and_then one_less left else left

abbrev pub one_too_many : ℕ → Option ℕ → Span → Option PlacedWarning
one_too_many most (Some zero) span = Some (record { span = span; warning = warning.TooManyNodes most })
one_too_many most _ span = None

-- what is told of an event
abbrev pub node_warning : ℕ → Option ℕ → Happening → Span → Option PlacedWarning
node_warning most left what span = if is_node what then one_too_many most left span else None
