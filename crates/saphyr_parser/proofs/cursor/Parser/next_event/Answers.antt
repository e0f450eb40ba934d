use Rattle.std.proofs.Common.{subst}
use Rattle.saphyr_machine.specs.Calls.{GivesNext}
use Rattle.saphyr_machine.specs.Cursor.{EventCursor, HandsOutNext, Remembers, to_come}
use Rattle.saphyr_machine.specs.Views.Readers.{cursor}
use Rattle.saphyr_machine.proofs.Calls.Handing.{gives_hands}
use Rattle.saphyr_parser.proofs.Calls.Soundness.{ends_stream, gives_remembers, sound_gives}
use Rattle.saphyr_parser.proofs.cursor.Parser.next_event.Goals as goal

pub invariant_of-self : goal.invariant_of-self
invariant_of-self g c = sound_gives c.next_event.result _ _ c.next_event.ensures c.self.invariant

pub returns-clause-hands : goal.returns-clause-hands
returns-clause-hands g c =
    subst (λ (old : EventCursor). HandsOutNext c.next_event.result (to_come old)
    (to_come (cursor c.next_event.new.self)))
    c.self.view_is (gives_hands c.next_event.result _ _ c.next_event.ensures)

pub returns-clause-over : goal.returns-clause-over
returns-clause-over g c = ends_stream _ (sound_gives c.next_event.result _ _ c.next_event.ensures c.self.invariant)

pub returns-clause-remembers : goal.returns-clause-remembers
returns-clause-remembers g c =
    subst (λ (old : EventCursor). Remembers c.next_event.result old (cursor c.next_event.new.self)) c.self.view_is
    (gives_remembers c.next_event.result _ _ c.next_event.ensures)

pub returns-clause-leaves : goal.returns-clause-leaves
returns-clause-leaves g c =
    subst (λ (old : EventCursor). GivesNext c.next_event.result old (cursor c.next_event.new.self)) c.self.view_is
    c.next_event.ensures
