-- Memory ran out before more of the text was taken in.
use Rattle.std.proofs.Common.{ap, sym, subst, ◌∙◌}
use Rattle.saphyr_machine.specs.Calls.{GivesNext, item_at}
use Rattle.saphyr_machine.specs.Cursor.{EventCursor}
use Rattle.saphyr_machine.specs.Steps.Documents.{is_over}
use Rattle.saphyr_pieces.specs.Pieces.{Pieces, at, wants_more, wants_more_from}
use Rattle.saphyr_pieces.specs.Views.{pieces_of}
use Rattle.saphyr_pieces.proofs.Stepping.{lacks}
use Rattle.saphyr_pieces.proofs.pieces.PieceReader.go_on.Goals as goal

pub returns-in-Err-clause-next : goal.returns-in-Err-clause-next
returns-in-Err-clause-next c later =
    let same = c.in-Err.ensures.same in
    let new = c.fail.new in
    subst (λ (v : EventCursor). GivesNext (item_at c.args.next.now new.fault c.fail.result) v
    (at (pieces_of new.self) later)) (ap (λ (p : Pieces). at p later) (same ∙ c.has_enough.ensures.same))
    (lacks c.take_in.new.self new.self c.args.next.now new.fault c.fail.result c.take_in.ensures.sound
    (ap wants_more_from c.take_in.ensures.source ∙ ap wants_more c.has_enough.ensures.same ∙ c.requires.wants)
    (ap (λ (p : Pieces). is_over p.reader.machine.state) same ∙ sym c.if-is_over.ensures)
    c.fail.ensures.reader c.fail.ensures.all c.fail.ensures.passed c.fail.ensures.says later)
