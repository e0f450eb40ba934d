use Rattle.std.proofs.Common.{◌≤◌, length}
use Rattle.yaml_tree.proofs.Walks.{HasPassed}
use Rattle.yaml_tree.proofs.walk.WalkIterator.next.Given as goal

abbrev pub invariant-loop-span : goal.invariant-loop-span
invariant-loop-span l = HasPassed l.fn.self l.self × (length l.self.spans.now ≤ length l.fn.self.spans.now)

abbrev pub decreases-loop-span : goal.decreases-loop-span
decreases-loop-span l = length l.self.spans.now
