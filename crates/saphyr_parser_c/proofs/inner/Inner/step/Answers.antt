-- What is read, or was shown, is handed out.
use Rattle.std.proofs.Common.{◌∙◌, None, Some, ap, subst}
use Rattle.saphyr_parser_c.specs.declared.coming.Coming.{Coming}
use Rattle.saphyr_parser_c.specs.declared.inner.Inner.{Inner}
use Rattle.saphyr_parser_c.specs.Coming.{WritesWaiting}
use Rattle.saphyr_parser_c.specs.Inner.{WritesKept}
use Rattle.saphyr_parser_c.proofs.Handing.{behind_lent, hands_lent, hands_next, hands_none, hands_shown, same_lent}
use Rattle.saphyr_parser_c.proofs.inner.Inner.step.Goals as goal

pub returns-in_default : goal.returns-in_default
returns-in_default c =
    let lent = c.deref_mut.result.now in
    let old = c.in-Pieces.field-0.value in
    let new = c.next_into.new.self in
    let is = c.deref_mut.ensures.value in
    hands_none c.args.self.now c.wait.result c.wait.new.out c.in-Pieces.field-0 _ c.next_into.new.next
    c.next_into.new.fault c.in-Pieces.is c.if-self.false (same_lent lent old new is c.next_into.ensures.same)
    c.waiting_status-status.result c.last_end-place.result c.wait.new.self
    (subst (WritesWaiting c.waiting_status-status.result) c.deref.ensures c.waiting_status-status.ensures)
    (hands_lent None c.next_into.new.next c.next_into.new.fault lent old new is c.in_default.ensures.next)
    (behind_lent None c.next_into.new.next c.next_into.new.fault lent old new is c.in_default.ensures.last)
    c.wait.ensures (c.last_end-place.ensures ∙ ap (λ (m : Coming). m.last_end) c.deref-in_default.ensures)

pub returns-in-Pieces : goal.returns-in-Pieces
returns-in-Pieces c =
    hands_shown c.args.self.now c.write-in-Pieces.new.self c.write-in-Pieces.result c.write-in-Pieces.new.out
    c.in-Pieces.field-0 c.in-Pieces.is c.if-self.true
    (subst (λ (m : Inner). WritesKept m c.write-in-Pieces.result c.write-in-Pieces.new.out c.write-in-Pieces.new.self)
    c.give_up.ensures c.write-in-Pieces.ensures)

pub returns-in-Some : goal.returns-in-Some
returns-in-Some c =
    let lent = c.deref_mut.result.now in
    let old = c.in-Pieces.field-0.value in
    let new = c.next_into.new.self in
    let is = c.deref_mut.ensures.value in
    let p = c.in-Some.progress in
    hands_next c.args.self.now c.write-in-Pieces-2.result c.write-in-Pieces-2.new.out c.in-Pieces.field-0 _
    c.next_into.new.next c.next_into.new.fault c.in-Pieces.is c.if-self.false
    (same_lent lent old new is c.next_into.ensures.same) p c.write-in-Pieces-2.new.self
    (hands_lent (Some p) c.next_into.new.next c.next_into.new.fault lent old new is c.in-Some.ensures.next)
    c.in-Some.ensures.ended
    (behind_lent (Some p) c.next_into.new.next c.next_into.new.fault lent old new is c.in-Some.ensures.last)
    (subst (λ (m : Inner). WritesKept m c.write-in-Pieces-2.result c.write-in-Pieces-2.new.out
    c.write-in-Pieces-2.new.self) c.give_up-in-Pieces-2.ensures c.write-in-Pieces-2.ensures)
