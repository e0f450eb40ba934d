use Rattle.std.proofs.Common.{◌≡◌, ◌∙◌, ap}
use Rattle.saphyr_machine.specs.Cursor.{event_of, finished_behind}
use Rattle.saphyr_machine.specs.Views.Events.{happening}
use Rattle.saphyr_machine.specs.Events.{Happening, StreamEnd}
use Rattle.saphyr_machine.proofs.Calls.Handing.{keeps, remembers}
use Rattle.saphyr_parser.proofs.law.calling.loads_the_end_again.Goals as goal

pub returns-then-last : goal.returns-then-last
returns-then-last g c =
    let end : happening c.in-Some-Ok.event ≡ StreamEnd = c.ends_the_stream-last.ensures.0 c.if-last.true in
    let leaves = rw c.in-Some-Ok.field-0-is at c.in-Some-Ok.ensures.leaves in
    let kept = keeps (event_of (c.in-Some-Ok.event, c.in-Some-Ok.field-0-0-1)) c.loop-event.parser c.next_event.new.self
    leaves ∙ c.loop-event.invariant.0 in
    let handed = remembers (event_of (c.in-Some-Ok.event, c.in-Some-Ok.field-0-0-1)) c.loop-event.parser
    c.next_event.new.self leaves in
    let finished = handed.1 ∙ ap
    (λ (what : Happening). finished_behind what c.in-Some-Ok.field-0-0-1 c.loop-event.parser.finished) end in (
      c.in-Some-Ok.field-0-0-1,
      rw c.loop-event.invariant.1 at
          (c.load.ensures.finished kept c.in-Some-Ok.field-0-0-1 finished).0,
    )
