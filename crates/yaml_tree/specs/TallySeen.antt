-- What contracts see of a tally.
use Rattle.std.specs.Prelude.{◌≡◌, ◌<◌, ◌≤◌, Result, Ok, Err}
use Rattle.saphyr_scalar.specs.declared.scalar.position.Marker.{Marker}
use Rattle.yaml_tree.specs.declared.fault.TreeFault.{TreeFault}
use Rattle.yaml_tree.specs.declared.fault.TreeFault.TheVariants as fault
use Rattle.yaml_tree.specs.declared.tally.Limits.{Limits}
use Rattle.yaml_tree.specs.declared.tally.Tally.{Tally}
use Rattle.yaml_tree.specs.Counting.{Counts, Fits}

abbrev pub counts_of : Tally → Counts
counts_of t = record { nodes = t.nodes; depth = t.depth }

-- These counts are past a limit, at this place. The limit on nodes is judged first.
abbrev pub Exceeds : TreeFault → Limits → Counts → Marker → Type 0
Exceeds (fault.TooManyNodes at most) limits c place = (at ≡ place) × (most ≡ limits.nodes) × (limits.nodes < c.nodes)
Exceeds (fault.TooDeep at most) limits c place = (at ≡ place) × (most ≡ limits.depth) × (c.nodes ≤ limits.nodes)
    × (limits.depth < c.depth)
Exceeds _ limits c place = ⊥

-- These counts are the tally's where they are within the limits.
abbrev pub Tallies : Result (Unit {0}) TreeFault → Counts → Marker → Tally → Tally → Type 0
Tallies (Ok u) c place old new = (new.limits ≡ old.limits) × (counts_of new ≡ c) × Fits old.limits c
Tallies (Err f) c place old new = Exceeds f old.limits c place
