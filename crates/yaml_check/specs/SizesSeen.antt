-- What contracts see of the sizes of nodes.
use Rattle.std.specs.Prelude.{reverse}
use Rattle.yaml_check.specs.declared.sizes.Sizes.{Sizes}
use Rattle.yaml_check.specs.Sizes.{SizesOpen}

abbrev pub sizes_of : Sizes → SizesOpen
sizes_of s = record { here = s.here; outer = reverse s.outer.items; known = s.known.entries }
