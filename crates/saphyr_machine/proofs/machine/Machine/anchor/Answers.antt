-- The token's text is told.
use Rattle.std.proofs.Common.{rules, ap}
use Rattle.saphyr_scanner.specs.Views.Tokens.{text_of}
use Rattle.saphyr_machine.proofs.machine.Machine.anchor.Goals as goal

pub returns-clause-id : goal.returns-clause-id
returns-clause-id g c more t m name is of =
    let known = (rw is at (c.take_text.ensures.text more name)) (ap text_of of) in
    let left = rw is at (c.take_text.ensures.left more) in
    search (rules, known, left)

pub returns-clause-left : goal.returns-clause-left
returns-clause-left g c more t m name is of =
    let known = (rw is at (c.take_text.ensures.text more name)) (ap text_of of) in
    let left = rw is at (c.take_text.ensures.left more) in
    search (rules, known, left)
