use Rattle.saphyr_parser_c.specs.Check.{HandsOutHeld}
use Rattle.saphyr_parser_c.specs.Found.{HandsOutNote}
use Rattle.saphyr_parser_c.proofs.Codes.{put_back}
use Rattle.saphyr_parser_c.proofs.check.saphyr_next_note.Goals as goal

pub returns : goal.returns
returns c = rw c.in-Some.ensures.taken (put_back
    (λ old s new. HandsOutHeld HandsOutNote old s c.next_note-status.new.out new) _ _ _ _ _ _
    c.deref_mut.ensures.value c.put_back.ensures c.code-2.ensures c.next_note-status.ensures)
