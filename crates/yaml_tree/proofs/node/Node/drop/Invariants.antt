use Rattle.yaml_tree.specs.Weight.{turns}
use Rattle.yaml_tree.proofs.node.Node.drop.Given as goal

abbrev pub decreases-loop-next : goal.decreases-loop-next
decreases-loop-next l = turns l.outer l.part
