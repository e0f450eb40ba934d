use Rattle.std.proofs.Common.{length}
use Rattle.yaml_tree.specs.declared.node.Node.{Node}
use Rattle.yaml_tree.specs.CounterSeen.{IsCounting}
use Rattle.yaml_tree.specs.Walking.{to_visit}
use Rattle.yaml_tree.proofs.expanding.Counter.count_all.Given as goal

abbrev pub invariant-turns : goal.invariant-turns
invariant-turns l = (root : Node) → IsCounting root (to_visit l.fn.walk) l.fn.self
    → IsCounting root (to_visit l.walk) l.self

abbrev pub decreases-turns : goal.decreases-turns
decreases-turns l = length (to_visit l.walk)
