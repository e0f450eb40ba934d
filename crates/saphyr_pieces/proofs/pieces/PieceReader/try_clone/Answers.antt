use Rattle.std.proofs.Common.{[], ap, refl}
use Rattle.saphyr_machine.specs.Cursor.{EventCursor}
use Rattle.saphyr_pieces.specs.Passed.{passed_tokens}
use Rattle.saphyr_pieces.proofs.IdleTokens.{idle_of_copy}
use Rattle.saphyr_pieces.proofs.Places.{sound_without_copy}
use Rattle.saphyr_pieces.proofs.pieces.PieceReader.try_clone.Goals as goal

pub returns-clause-sound : goal.returns-clause-sound
returns-clause-sound c =
    let same = c.in_ok-try_clone.ensures.cursor [] in
    sound_without_copy c.args.self.now _ refl (ap (λ (v : EventCursor). v.kept) same) refl
    (ap (λ (v : EventCursor). v.current) same)
    (idle_of_copy (passed_tokens c.args.self.now.passed) _ c.args.self.now.reader _ c.copy_passed.ensures
    c.in_ok-try_clone.ensures.cursor c.requires.idle) c.requires
