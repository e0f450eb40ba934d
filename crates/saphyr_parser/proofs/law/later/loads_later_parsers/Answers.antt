use Rattle.saphyr_parser.proofs.Later as later
use Rattle.saphyr_parser.proofs.law.later.loads_later_parsers.Goals as goal

pub returns : goal.returns
returns g c = later.load_later g.R.SpannedEventReceiver.receives
