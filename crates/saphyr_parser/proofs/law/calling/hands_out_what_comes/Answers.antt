use Rattle.saphyr_machine.proofs.Calls.Handing.{nothing_left, over_splits}
use Rattle.saphyr_parser.proofs.law.calling.hands_out_what_comes.Goals as goal

pub returns : goal.returns
returns c = record { events = over_splits; over = nothing_left }
