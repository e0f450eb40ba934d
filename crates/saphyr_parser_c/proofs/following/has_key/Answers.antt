use Rattle.saphyr_parser_c.proofs.Followed.{is_key, no_key}
use Rattle.saphyr_parser_c.proofs.following.has_key.Goals as goal

pub returns-in-Some : goal.returns-in-Some
returns-in-Some c = λ es own t at. is_key es own c.args.text.now c.args.whole c.args.index c.in-Some.key c.follow.result
    c.args.table.now c.has_text.result t at c.in-Some.ensures.leads c.follow.ensures (c.has_text.ensures es t)

pub returns-in-None : goal.returns-in-None
returns-in-None c = λ es own t at. no_key es own c.args.text.now c.args.whole c.args.index c.args.table.now t at
    c.in-None.ensures.leads
