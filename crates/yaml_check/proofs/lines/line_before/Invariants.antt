use Rattle.std.proofs.Common.{◌≤◌}
use Rattle.yaml_check.proofs.lines.line_before.Given as goal

abbrev pub invariant-loop-end : goal.invariant-loop-end
invariant-loop-end l = l.end ≤ l.fn.end

abbrev pub decreases-loop-end : goal.decreases-loop-end
decreases-loop-end l = l.end
