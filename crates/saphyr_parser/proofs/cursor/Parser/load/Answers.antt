use Rattle.std.proofs.Common.{◌≡◌, Some, None, false, subst}
use Rattle.saphyr_scalar.specs.declared.scalar.position.Span.{Span}
use Rattle.saphyr_machine.specs.Events.{StreamEnd}
use Rattle.saphyr_machine.specs.Cursor.{EventCursor}
use Rattle.saphyr_machine.specs.Views.Readers.{cursor}
use Rattle.saphyr_machine.specs.Loading.{Loads, SendsOne, portion_to_send}
use Rattle.saphyr_parser.proofs.Calls.Loaded.{sound_loads}
use Rattle.saphyr_parser.proofs.Calls.Soundness.{ends_stream}
use Rattle.saphyr_parser.proofs.cursor.Parser.load.Goals as goal

pub returns-clause-finished : goal.returns-clause-finished
returns-clause-finished g c =
    let P : EventCursor → Type 0 =
    λ (s : EventCursor). s.kept ≡ None → (span : Span) → s.finished ≡ Some span → SendsOne
    g.R.SpannedEventReceiver.receives c.load.result (StreamEnd, span) c.args.recv.now c.load.new.recv
    × (cursor c.load.new.self ≡ s) in
    subst P c.self.view_is c.load.ensures.finished

pub invariant_of-self : goal.invariant_of-self
invariant_of-self g c =
    sound_loads g.R.SpannedEventReceiver.receives _ _ _ c.load.result _ (cursor c.self.inside.reader) c.args.recv.now
    c.load.new.recv (cursor c.load.new.self)
    (λ kept. (c.load.ensures.ended kept).2) (λ free span is. (c.load.ensures.finished free span is).1)
    (λ free none inside. (c.load.ensures.inside free none inside).2) c.load.ensures.between c.self.invariant

pub returns-clause-over : goal.returns-clause-over
returns-clause-over g c = ends_stream (cursor c.load.new.self) (invariant_of-self g c)

pub returns-clause-between : goal.returns-clause-between
returns-clause-between g c =
    let P : EventCursor → Type 0 =
    λ (s : EventCursor). s.kept ≡ None → s.finished ≡ None → s.inside ≡ false → Loads
    g.R.SpannedEventReceiver.receives c.load.result (portion_to_send c.args.multi s) s c.args.recv.now
    c.load.new.recv (cursor c.load.new.self) in
    subst P c.self.view_is c.load.ensures.between
