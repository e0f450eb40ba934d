use Rattle.yaml_tree.proofs.LookUps.{NoneBefore}
use Rattle.yaml_tree.proofs.table.NodeTable.with_anchor.Given as goal

abbrev pub invariant-loop-number : goal.invariant-loop-number
invariant-loop-number l = NoneBefore l.self l.id l.number
