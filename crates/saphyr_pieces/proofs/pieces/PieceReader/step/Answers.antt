-- What a step hands out, or that the reader waits.
use Rattle.std.proofs.Common.{◌≡◌, List, ℕ, None, Ok, Some, ap, refl, subst, string_bytes, sym, ◌∙◌, true}
use Rattle.std.specs.Str.{chars}
use Rattle.saphyr_machine.specs.declared.progress.Progress.TheVariants as progress
use Rattle.saphyr_machine.specs.declared.reader.EventReader.{EventReader}
use Rattle.saphyr_machine.specs.Calls.{GivesNext}
use Rattle.saphyr_machine.specs.Views.Readers.{cursor, cursor_in, scanning_of}
use Rattle.saphyr_pieces.specs.declared.owned.OwnedText.{OwnedText}
use Rattle.saphyr_pieces.specs.declared.pieces.PieceReader.{PieceReader}
use Rattle.saphyr_pieces.specs.Pieces.{HandsOutOrWaits, Pieces, wants_more, wants_more_from}
use Rattle.saphyr_pieces.specs.Passed.{passed_tokens}
use Rattle.saphyr_pieces.specs.Views.{IsSoundReader, pieces_of}
use Rattle.saphyr_pieces.proofs.Stepping.{fails_or_waits, gives_of_text, over_passed_none, renewed, sound_behind_event, sound_behind_fault, sound_over}
use Rattle.saphyr_pieces.proofs.pieces.PieceReader.step.Goals as goal
use Rattle.saphyr_pieces.proofs.pieces.PieceReader.step.Goals.{After-advance}

-- the reader with its new copy
sound : (c : After-advance) → IsSoundReader c.renew_copy.new.self
sound c =
    renewed c.args.self.now c.renew_copy.new.self c.renew_copy.ensures.reader c.renew_copy.ensures.source
    c.renew_copy.ensures.passed
    c.requires.wants c.renew_copy.ensures.copied c.requires.sound

wants : (c : After-advance) → wants_more (pieces_of c.renew_copy.new.self) ≡ true
wants c = ap wants_more_from c.renew_copy.ensures.source ∙ c.requires.wants

same : (c : After-advance) → pieces_of c.renew_copy.new.self ≡ pieces_of c.args.self.now
same c = λ i. record {
  source = c.renew_copy.ensures.source i;
  more = chars (string_bytes (c.renew_copy.ensures.more i));
  scanner = scanning_of (c.renew_copy.ensures.reader i);
  reader = cursor (c.renew_copy.ensures.reader i);
  passed = passed_tokens (c.renew_copy.ensures.passed i);
}

pub returns-in-Event-clause-sound : goal.returns-in-Event-clause-sound
returns-in-Event-clause-sound c =
    let there = (goal.at.returns-in-Event-clause-sound c).After-advance in
    sound_behind_event c.renew_copy.new.self _ c.advance.new.self c.advance.new.next (wants there)
    c.in-Event.ensures c.count.ensures.copied c.count.ensures.reader c.count.ensures.source
    (ap passed_tokens c.count.ensures.passed) (sound there)

pub returns-in-Event-clause-next : goal.returns-in-Event-clause-next
returns-in-Event-clause-next c =
    let there = (goal.at.returns-in-Event-clause-next c).After-advance in
    let new = c.count.new.self in
    subst (λ (p : Pieces). HandsOutOrWaits (Some progress.Event) c.advance.new.next c.advance.new.fault p (pieces_of new))
    (same there)
    (gives_of_text c.renew_copy.new.self new (Some (Ok c.advance.new.next)) (ap passed_tokens c.count.ensures.passed)
    (sound there) (wants there) c.count.ensures.source c.count.ensures.more
    (subst (λ (r : EventReader OwnedText). (more : List ℕ)
    → GivesNext (Some (Ok c.advance.new.next)) (cursor_in more c.renew_copy.new.self.reader) (cursor_in more r))
    (sym c.count.ensures.reader) c.in-Event.ensures))

pub returns-in-Over-clause-next : goal.returns-in-Over-clause-next
returns-in-Over-clause-next c =
    let there = (goal.at.returns-in-Over-clause-next c).After-advance in
    let old = c.renew_copy.new.self in
    let new : PieceReader = record old { reader = c.advance.new.self } in
    subst (λ (p : Pieces). HandsOutOrWaits (Some progress.Over) c.advance.new.next c.advance.new.fault p (pieces_of new))
    (same there)
    (gives_of_text old new None (over_passed_none old c.advance.new.self c.in-Over.ensures (sound there)) (sound there)
    (wants there) refl refl c.in-Over.ensures)

pub returns-in-Fault-clause-next : goal.returns-in-Fault-clause-next
returns-in-Fault-clause-next c =
    let there = (goal.at.returns-in-Fault-clause-next c).After-advance in
    let new = c.fault_or_wait.new in
    subst (λ (p : Pieces). HandsOutOrWaits c.fault_or_wait.result c.advance.new.next new.fault p (pieces_of new.self))
    (same there)
    (fails_or_waits c.renew_copy.new.self c.advance.new.self c.advance.new.fault (wants there) c.in-Fault.ensures
    (sound there) c.fault_or_wait.result c.advance.new.next new.fault new.self c.fault_or_wait.ensures)

pub returns-in-Fault-clause-sound : goal.returns-in-Fault-clause-sound
returns-in-Fault-clause-sound c =
    let there = (goal.at.returns-in-Fault-clause-sound c).After-advance in
    sound_behind_fault c.renew_copy.new.self c.advance.new.self c.advance.new.fault (wants there) c.in-Fault.ensures
    (sound there) c.fault_or_wait.result c.fault_or_wait.new.fault c.fault_or_wait.new.self c.fault_or_wait.ensures

pub returns-in-Over-clause-sound : goal.returns-in-Over-clause-sound
returns-in-Over-clause-sound c =
    let there = (goal.at.returns-in-Over-clause-sound c).After-advance in
    sound_over c.renew_copy.new.self c.advance.new.self (wants there) c.in-Over.ensures (sound there)
