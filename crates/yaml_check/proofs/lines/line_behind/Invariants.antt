use Rattle.std.proofs.Common.{◌≤◌, ◌-◌, length}
use Rattle.yaml_check.proofs.lines.line_behind.Given as goal

abbrev pub invariant-loop-end : goal.invariant-loop-end
invariant-loop-end l = record {
  behind : l.place ≤ l.end;
  within : l.end ≤ length l.text;
}

abbrev pub decreases-loop-end : goal.decreases-loop-end
decreases-loop-end l = length l.text - l.end
