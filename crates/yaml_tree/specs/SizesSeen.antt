-- What contracts see of a map of sizes.
use Rattle.std.specs.Prelude.{ℕ, List}
use Rattle.std.specs.Option.{unwrap_or}
use Rattle.std.specs.Ordering.{nat_cmp}
use Rattle.std.specs.BTreeMap.{is_at}
use Rattle.std.specs.Map.{lookup}
use Rattle.yaml_tree.specs.Expanding.{most}

-- the size of the node with this anchor, or the most if none is known
abbrev pub size_in : List (ℕ × ℕ) → ℕ → ℕ
size_in sizes id = unwrap_or (lookup (is_at (nat_cmp id)) sizes) most
