use Rattle.saphyr_machine.specs.Cursor.{to_come}
use Rattle.saphyr_machine.proofs.HandedOver.{part_all}
use Rattle.event_laws.proofs.loads_all_events.Goals as goal

pub returns : goal.returns
returns c = λ parser. part_all (to_come parser).events (to_come parser).fault
