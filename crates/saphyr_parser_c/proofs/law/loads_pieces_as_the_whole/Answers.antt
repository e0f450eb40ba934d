use Rattle.saphyr_parser_c.specs.Growing.{once_came, spot_of}
use Rattle.saphyr_parser_c.proofs.AsWhole.{as_whole, none_as_whole, passes_added, passes_ended, passes_shown}
use Rattle.saphyr_parser_c.proofs.NextDocument.{passes_both}
use Rattle.saphyr_parser_c.proofs.law.loads_pieces_as_the_whole.Goals as goal

pub returns-clause-loads : goal.returns-clause-loads
returns-clause-loads c = λ limits es table came all start before after passed ends.
    as_whole limits es table (once_came came all (spot_of start)) (spot_of before) (spot_of after)
    c.hands_out_what_comes.ensures.events passed ends

pub returns-clause-none : goal.returns-clause-none
returns-clause-none c = λ limits es came all start before after passed ends.
    none_as_whole limits es (once_came came all (spot_of start)) (spot_of before) (spot_of after)
    c.hands_out_what_comes.ensures.events c.hands_out_what_comes.ensures.over passed ends

pub returns-clause-takes : goal.returns-clause-takes
returns-clause-takes c = λ es took came all start before after passed then.
    passes_both es took (once_came came all (spot_of start)) (spot_of before) (spot_of after) passed then

pub returns-clause-adds : goal.returns-clause-adds
returns-clause-adds c = λ es came bytes start before after some adds passed.
    passes_added es came bytes start before after some adds passed

pub returns-clause-ends : goal.returns-clause-ends
returns-clause-ends c = λ es came start before after ends passed. passes_ended es came start before after ends passed

pub returns-clause-peeks : goal.returns-clause-peeks
returns-clause-peeks c = λ before after s e shows. passes_shown before after s e shows
