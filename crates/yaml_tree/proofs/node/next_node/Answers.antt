use Rattle.yaml_tree.proofs.Weights.{taken_node, last_node}
use Rattle.yaml_tree.proofs.node.next_node.Goals as goal

pub returns-in-Some : goal.returns-in-Some
returns-in-Some c = last_node c.in-Some.outer c.args.nodes c.pop.new.self c.in-Some.ensures.items

pub returns-in-Some-2 : goal.returns-in-Some-2
returns-in-Some-2 c = taken_node c.in-Some.outer c.args.nodes c.pop.new.self c.in-Some.ensures.items
