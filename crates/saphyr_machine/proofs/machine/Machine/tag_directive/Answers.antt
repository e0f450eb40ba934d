-- The directive has the parts that were taken.
use Rattle.std.proofs.Common.{rules}
use Rattle.saphyr_machine.proofs.Names.{given_names}
use Rattle.saphyr_machine.proofs.machine.Machine.tag_directive.Goals as goal

pub returns-then-has : goal.returns-then-has
returns-then-has g c more t m handle prefix is of =
    let known = rw is at (c.take_parts.ensures.parts more) in
    let left = rw is at (c.take_parts.ensures.left more) in
    search (rules, known, left, of, given_names)

pub returns : goal.returns
returns g c more t m handle prefix is of =
    let known = rw is at (c.take_parts.ensures.parts more) in
    let left = rw is at (c.take_parts.ensures.left more) in
    search (rules, known, left, of, given_names)
