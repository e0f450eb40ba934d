use Rattle.std.proofs.Common.{◌≡◌, length}
use Rattle.saphyr_parser.specs.Cursor.{to_come}
use Rattle.yaml_standard.proofs.refused.last_fault.Given as goal

abbrev pub invariant-loop-fault : goal.invariant-loop-fault
invariant-loop-fault l = (to_come l.parser).fault ≡ (to_come l.fn.parser).fault

abbrev pub decreases-loop-fault : goal.decreases-loop-fault
decreases-loop-fault l = length (to_come l.parser).events
