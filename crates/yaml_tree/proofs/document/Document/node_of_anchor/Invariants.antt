use Rattle.std.proofs.Common.{length}
use Rattle.yaml_tree.specs.Walking.{to_visit}
use Rattle.yaml_tree.proofs.AnchorSearch.{HasSearched}
use Rattle.yaml_tree.proofs.document.Document.node_of_anchor.Given as goal

abbrev pub invariant-turns : goal.invariant-turns
invariant-turns l = HasSearched l.id l.self.root (to_visit l.walk)

abbrev pub decreases-turns : goal.decreases-turns
decreases-turns l = length (to_visit l.walk)
