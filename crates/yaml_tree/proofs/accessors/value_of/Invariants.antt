use Rattle.std.proofs.Common.{◌≡◌, drop}
use Rattle.yaml_tree.specs.Accessing.{first_value}
use Rattle.yaml_tree.proofs.accessors.value_of.Given as goal

abbrev pub invariant-loop-pair : goal.invariant-loop-pair
invariant-loop-pair l = first_value l.key l.pairs ≡ first_value l.key (drop l.pair-index l.pairs)
