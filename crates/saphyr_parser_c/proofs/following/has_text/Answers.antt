use Rattle.saphyr_parser_c.proofs.Followed.{is_text, no_text}
use Rattle.saphyr_parser_c.proofs.following.has_text.Goals as goal

pub returns-in-Some-entry : goal.returns-in-Some-entry
returns-in-Some-entry c = rw c.in-Some.is (λ es t less. is_text es c.args.table.now c.args.text.now c.in-Some.number
    c.in-Some-entry.entry.now c.is_text.result t c.in-Some-entry.ensures c.is_text.ensures)

pub returns-in-None : goal.returns-in-None
returns-in-None c = rw c.in-Some.is (λ es t less. no_text es c.args.table.now c.args.text.now c.in-Some.number _ t less
    c.in-None.ensures)
