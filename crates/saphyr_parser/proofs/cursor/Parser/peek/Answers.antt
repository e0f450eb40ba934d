use Rattle.std.proofs.Common.{refl, subst}
use Rattle.saphyr_machine.specs.Cursor.{EventCursor}
use Rattle.saphyr_machine.specs.Calls.{Peeks}
use Rattle.saphyr_machine.specs.Views.Readers.{cursor}
use Rattle.saphyr_parser.proofs.Calls.Soundness.{peeks, sound_looks}
use Rattle.saphyr_parser.proofs.cursor.Parser.peek.Goals as goal

pub invariant_of-self : goal.invariant_of-self
invariant_of-self g c = sound_looks _ _ c.look.ensures c.self.invariant

pub returns : goal.returns
returns g c =
    let peeked = peeks _ (cursor c.look.new.self) c.shown.result c.self.invariant c.look.ensures c.shown.ensures in (
      (
        refl,
        (λ _. tt),
        subst (λ (old : EventCursor). Peeks old c.shown.result (cursor c.look.new.self)) c.self.view_is
            peeked,
      ),
      tt,
    )
