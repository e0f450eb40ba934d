-- A fault is the last. A reader of a text that came stays as it was but for its place.
use Rattle.std.proofs.Common.{[], None, refl}
use Rattle.saphyr_machine.specs.Calls.{item_at}
use Rattle.saphyr_machine.specs.Views.Readers.{cursor}
use Rattle.saphyr_pieces.proofs.Stepping.{fault_is_last, gives_of_given, leaves_none, sound_given}
use Rattle.saphyr_pieces.proofs.pieces.PieceReader.next_event_into.Goals as goal

pub returns-in-Text-clause-ended : goal.returns-in-Text-clause-ended
returns-in-Text-clause-ended c =
    fault_is_last c.next_of_text.result c.next_of_text.new.next c.next_of_text.new.fault c.args.self.now
    c.next_of_text.new.self c.next_of_text.ensures.next c.next_of_text.ensures.sound

pub returns-in-Given-clause-sound : goal.returns-in-Given-clause-sound
returns-in-Given-clause-sound c =
    sound_given _ c.in-Given.is refl
    (leaves_none (item_at c.advance.new.next c.advance.new.fault c.advance.result) (cursor c.args.self.now.reader)
    (cursor c.advance.new.self) c.requires.current (c.advance.ensures []))

pub returns-in-Given-clause-next : goal.returns-in-Given-clause-next
returns-in-Given-clause-next c =
    gives_of_given c.args.self.now (record c.args.self.now { reader = c.advance.new.self; passed = None }) (item_at c.advance.new.next c.advance.new.fault c.advance.result) refl c.requires
    c.in-Given.is c.in-Given.is (c.advance.ensures [])
