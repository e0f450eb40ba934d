use Rattle.std.proofs.Common.{◌-◌, ◌<◌, length}
use Rattle.yaml_check.proofs.escapes.bad_escape.Given as goal

abbrev pub invariant-loop-at : goal.invariant-loop-at
invariant-loop-at l = l.quote < l.at

abbrev pub decreases-loop-at : goal.decreases-loop-at
decreases-loop-at l = length l.text - l.at
