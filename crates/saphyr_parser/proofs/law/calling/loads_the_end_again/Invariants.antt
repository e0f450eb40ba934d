use Rattle.std.proofs.Common.{◌≡◌, None}
use Rattle.saphyr_machine.specs.Cursor.{count, to_come}
use Rattle.saphyr_parser.proofs.law.calling.loads_the_end_again.Given as goal

abbrev pub invariant-loop-event : goal.invariant-loop-event
invariant-loop-event g l = (l.parser.kept ≡ None) × (l.recv ≡ l.fn.recv)

abbrev pub decreases-loop-event : goal.decreases-loop-event
decreases-loop-event g l = count (to_come l.parser)
