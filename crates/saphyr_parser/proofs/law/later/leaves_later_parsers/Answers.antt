use Rattle.saphyr_parser.proofs.Later as later
use Rattle.saphyr_parser.proofs.law.later.leaves_later_parsers.Goals as goal

pub returns-clause-behind : goal.returns-clause-behind
returns-clause-behind c = later.later_behind

pub returns-clause-next : goal.returns-clause-next
returns-clause-next c = later.next_later

pub returns-clause-look : goal.returns-clause-look
returns-clause-look c = later.look_later

pub returns-clause-events : goal.returns-clause-events
returns-clause-events c = later.events_later

pub returns-clause-met : goal.returns-clause-met
returns-clause-met c = later.meets_later

pub returns-clause-dump : goal.returns-clause-dump
returns-clause-dump c = later.dump_later
