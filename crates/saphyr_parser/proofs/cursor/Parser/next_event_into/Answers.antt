use Rattle.std.proofs.Common.{[], subst}
use Rattle.saphyr_machine.specs.Calls.{GivesNext, item_at}
use Rattle.saphyr_machine.specs.Cursor.{EventCursor, HandsOutNext, Remembers, to_come}
use Rattle.saphyr_machine.specs.Views.Readers.{cursor}
use Rattle.saphyr_machine.proofs.Calls.Handing.{gives_hands}
use Rattle.saphyr_parser.proofs.Calls.Soundness.{ends_stream, gives_remembers, sound_gives}
use Rattle.saphyr_parser.proofs.cursor.Parser.next_event_into.Goals as goal

pub invariant_of-self : goal.invariant_of-self
invariant_of-self g c = sound_gives (item_at c.advance.new.next c.advance.new.fault c.advance.result) _ _
    (c.advance.ensures []) c.self.invariant

pub returns-clause-hands : goal.returns-clause-hands
returns-clause-hands g c =
    let given = item_at c.advance.new.next c.advance.new.fault c.advance.result in
    subst (λ (old : EventCursor). HandsOutNext given (to_come old) (to_come (cursor c.advance.new.self)))
    c.self.view_is (gives_hands given _ _ (c.advance.ensures []))

pub returns-clause-over : goal.returns-clause-over
returns-clause-over g c =
    ends_stream _ (sound_gives (item_at c.advance.new.next c.advance.new.fault c.advance.result) _ _
    (c.advance.ensures [])
    c.self.invariant)

pub returns-clause-remembers : goal.returns-clause-remembers
returns-clause-remembers g c =
    let given = item_at c.advance.new.next c.advance.new.fault c.advance.result in
    subst (λ (old : EventCursor). Remembers given old (cursor c.advance.new.self)) c.self.view_is
    (gives_remembers given _ _ (c.advance.ensures []))

pub returns-clause-leaves : goal.returns-clause-leaves
returns-clause-leaves g c =
    let given = item_at c.advance.new.next c.advance.new.fault c.advance.result in
    subst (λ (old : EventCursor). GivesNext given old (cursor c.advance.new.self)) c.self.view_is (c.advance.ensures [])
