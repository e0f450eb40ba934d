use Rattle.std.proofs.Common.{◌≡◌, take}
use Rattle.std.specs.List.{flat_map}
use Rattle.yaml_tree.specs.Walking.{step_in}
use Rattle.yaml_tree.proofs.walk.Walk.path.Given as goal

abbrev pub invariant-loop-level : goal.invariant-loop-level
invariant-loop-level l = l.path.items ≡ flat_map step_in (take l.level-index l.self.levels.items)
