use Rattle.std.proofs.Common.{◌<◌, ◌-◌, length}
use Rattle.yaml_check.proofs.columns.next_in.Given as goal

abbrev pub invariant-loop-next : goal.invariant-loop-next
invariant-loop-next l = l.next < length l.text

abbrev pub decreases-loop-next : goal.decreases-loop-next
decreases-loop-next l = length l.text - l.next
