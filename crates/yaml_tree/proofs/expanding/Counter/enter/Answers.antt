use Rattle.yaml_tree.proofs.Counts.{enters, alias_layer, scalar_layer}
use Rattle.yaml_tree.proofs.expanding.Counter.enter.Goals as goal

pub returns-in-Alias : goal.returns-in-Alias
returns-in-Alias c = enters c.add.result c.args.self.now c.add.new.self c.args.node.now 0 c.size_of.result
    (alias_layer c.args.self.now c.args.node.now c.in-Alias.id c.size_of.result c.in-Alias.is c.size_of.ensures)
    c.add.ensures

pub returns-in-Scalar : goal.returns-in-Scalar
returns-in-Scalar c = enters c.add-in-Scalar.result c.args.self.now c.add-in-Scalar.new.self c.args.node.now
    c.in-Scalar.id 1 (scalar_layer c.args.self.now c.args.node.now _ _ _ _ c.in-Scalar.is) c.add-in-Scalar.ensures
