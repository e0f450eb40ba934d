use Rattle.std.proofs.Common.{◌≡◌, ◌∙◌, [], refl, sym, ap, rules, Option, Some, None, option_map, subst}
use Rattle.saphyr_scalar.specs.declared.scalar.position.Span.{Span}
use Rattle.saphyr_machine.specs.declared.event.Event.{Event}
use Rattle.saphyr_machine.specs.Cursor.{event_of, with_event_handed}
use Rattle.saphyr_machine.specs.Views.Readers.{cursor}
use Rattle.saphyr_machine.specs.Views.Machines.{happening}
use Rattle.saphyr_machine.proofs.Calls.Handing.{keeps}
use Rattle.saphyr_machine.proofs.Calls.Looking.{hands_what_was_read}
use Rattle.saphyr_machine.proofs.reader.EventReader.pass.Goals as goal

pub returns : goal.returns
returns g c =
    let next : Some (c.in_ok-event.event, c.in_ok-event.span) ≡ c.look.new.self.current = c.in_ok-event.ensures.value in
    let gone : c.take.new.self ≡ None = search rules in
    let left = subst (λ (o : Option (Event × Span)). cursor c.remember.new.self
    ≡ with_event_handed (happening c.in_ok-event.event) c.in_ok-event.span
    (cursor (record c.look.new.self { current = o }))) gone (c.remember.ensures []) in
    let handed = hands_what_was_read (event_of (c.in_ok-event.event, c.in_ok-event.span)) (cursor c.args.self.now)
    (cursor c.look.new.self) (cursor c.remember.new.self) c.look.ensures (sym (ap (option_map event_of) next))
    left in
    (handed, keeps _ (cursor c.args.self.now) (cursor c.remember.new.self) handed ∙ c.requires)

pub returns-in_err-event : goal.returns-in_err-event
returns-in_err-event g c =
    let gone : c.take.new.self ≡ None = search rules in
    let empty : c.from_residual.result ≡ None = search rules in
    let nothing : None ≡ c.look.new.self.current = c.in_err-event.ensures.value in
    let e = sym nothing in
    rw (empty, gone) (rw e at c.look.ensures, refl)
