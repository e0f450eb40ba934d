use Rattle.yaml_tree.proofs.Access.{tests_anchor}
use Rattle.yaml_tree.proofs.anchors.has_anchor.Goals as goal

pub returns-in-Some : goal.returns-in-Some
returns-in-Some c = tests_anchor _ c.in-Some.own c.args.id c.in-Some.ensures
