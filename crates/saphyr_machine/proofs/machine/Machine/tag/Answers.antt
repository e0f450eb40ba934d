-- The tag has the parts that were taken.
use Rattle.std.proofs.Common.{rules}
use Rattle.saphyr_machine.specs.Steps.Tags.{resolved_tag_at}
use Rattle.saphyr_machine.proofs.machine.Machine.tag.Goals as goal

pub returns-in_err-write_prefix : goal.returns-in_err-write_prefix
unfolding resolved_tag_at
returns-in_err-write_prefix g c more t m handle suffix is of =
    let known = rw is at (c.take_parts.ensures.parts more) in
    let left = rw is at (c.take_parts.ensures.left more) in
    search (rules, known, left, of)

pub returns : goal.returns
unfolding resolved_tag_at
returns g c more t m handle suffix is of =
    let known = rw is at (c.take_parts.ensures.parts more) in
    let left = rw is at (c.take_parts.ensures.left more) in
    search (rules, known, left, of)
