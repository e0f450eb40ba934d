use Rattle.saphyr_machine.specs.Cursor.{count, to_come}
use Rattle.saphyr_machine.specs.Views.Readers.{cursor}
use Rattle.saphyr_machine.proofs.HandedOver.{Going}
use Rattle.saphyr_machine.proofs.reader.EventReader.load_part.Given as goal

abbrev pub invariant-loop-event : goal.invariant-loop-event
invariant-loop-event g l =
    Going g.R.SpannedEventReceiver.receives l.multi (cursor l.fn.self) l.fn.recv l.recv (cursor l.self)

abbrev pub decreases-loop-event : goal.decreases-loop-event
decreases-loop-event g l = count (to_come (cursor l.self))
