use Rattle.std.specs.Prelude.{⊤}
use Rattle.saphyr_parser.specs.Cursor.{to_come, count}
use Rattle.example_count.proofs.reading.by_next_event.Given as goal

abbrev pub invariant-loop-item : goal.invariant-loop-item
invariant-loop-item g l = ⊤

abbrev pub decreases-loop-item : goal.decreases-loop-item
decreases-loop-item g l = count (to_come l.parser)
