use Rattle.std.proofs.Common.{◌≤◌}
use Rattle.yaml_check.proofs.quotes.opening_quote.Given as goal

abbrev pub invariant-loop-at : goal.invariant-loop-at
invariant-loop-at l = l.at ≤ l.close

abbrev pub decreases-loop-at : goal.decreases-loop-at
decreases-loop-at l = l.at
