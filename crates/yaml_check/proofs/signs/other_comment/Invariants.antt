use Rattle.std.proofs.Common.{◌≤◌, length}
use Rattle.yaml_check.proofs.signs.other_comment.Given as goal

abbrev pub invariant-loop-end : goal.invariant-loop-end
invariant-loop-end l = l.at ≤ length l.text

abbrev pub decreases-loop-end : goal.decreases-loop-end
decreases-loop-end l = l.at
