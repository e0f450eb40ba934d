use Rattle.std.proofs.Common.{[], ap, refl}
use Rattle.saphyr_machine.specs.Cursor.{EventCursor}
use Rattle.saphyr_pieces.specs.Passed.{passed_tokens}
use Rattle.saphyr_pieces.proofs.IdleTokens.{idle_with_setting}
use Rattle.saphyr_pieces.proofs.Places.{sound_without_copy}
use Rattle.saphyr_pieces.proofs.pieces.PieceReader.keep_tags.Goals as goal

pub returns-clause-sound : goal.returns-clause-sound
returns-clause-sound c =
    let same = c.keep_tags.ensures.cursor [] in
    sound_without_copy c.args.self.now _ c.take.ensures.after (ap (λ (v : EventCursor). v.kept) same) refl
    (ap (λ (v : EventCursor). v.current) same)
    (idle_with_setting (passed_tokens c.args.self.now.passed) c.args.self.now.reader _ c.args.value
    c.keep_tags.ensures.cursor c.requires.idle) c.requires
