use Rattle.saphyr_machine.specs.Loading.{portion_to_send}
use Rattle.saphyr_parser.proofs.law.later.keeps_spans_over_load.Goals as goal

pub returns-clause-later : goal.returns-clause-later
returns-clause-later g c =
    let did = c.load.ensures in
    c.loads_later_parsers.ensures c.load.result (portion_to_send c.args.multi c.args.parser.now) c.args.parser.now
    c.load.new.self c.args.recv.now c.load.new.recv (λ kept. (did.ended kept).2)
    (λ kept span finished. (did.finished kept span finished).1)
    (λ kept over here. (did.inside kept over here).2) did.between

pub returns-clause-spans : goal.returns-clause-spans
returns-clause-spans g c = λ text keeps. c.keeps_spans_later.ensures text c.args.parser.now c.load.new.self keeps
    (returns-clause-later g c)
