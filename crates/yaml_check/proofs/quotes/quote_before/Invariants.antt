use Rattle.std.proofs.Common.{◌≤◌}
use Rattle.yaml_check.proofs.quotes.quote_before.Given as goal

abbrev pub invariant-loop-close : goal.invariant-loop-close
invariant-loop-close l = l.close ≤ l.end

abbrev pub decreases-loop-close : goal.decreases-loop-close
decreases-loop-close l = l.close
