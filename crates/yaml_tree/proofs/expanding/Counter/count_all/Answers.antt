use Rattle.yaml_tree.proofs.Counts.{counts_all}
use Rattle.yaml_tree.proofs.expanding.Counter.count_all.Goals as goal

pub returns-in-Over : goal.returns-in-Over
returns-in-Over c = λ root h.
    counts_all root _ _ (c.turns.invariant root h) (rw c.in-Over.is at c.in_ok-node.ensures.turns)
