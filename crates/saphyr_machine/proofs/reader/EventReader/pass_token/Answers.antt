-- The token that was taken is put back, and the next event stays.
use Rattle.std.proofs.Common.{◌≡◌, [], ◌∷◌, refl, sym, ap, subst, ◌∙◌}
use Rattle.saphyr_scanner.specs.declared.token.TokenKind.{TokenKind}
use Rattle.saphyr_scanner.specs.Views.Scanning.{tokens_in}
use Rattle.saphyr_scanner.specs.Views.Tokens.{parts_view, piece_with}
use Rattle.saphyr_machine.specs.Passed.{MakeNoEvent, piece_of}
use Rattle.saphyr_machine.specs.Steps.Machine.{Machine, put_back}
use Rattle.saphyr_machine.specs.Views.Machines.{machine_in}
use Rattle.saphyr_machine.specs.Views.Readers.{cursor_at}
use Rattle.saphyr_machine.proofs.NoEvents.{shown_alike}
use Rattle.saphyr_machine.proofs.Passing.{next_in, put_back_again, same_piece}
use Rattle.saphyr_machine.proofs.reader.EventReader.pass_token.Goals as goal

pub returns-in-Ok-true : goal.returns-in-Ok-true
returns-in-Ok-true g c = λ more.
    let old = c.args.self.now in
    let shown = c.in-Ok.ensures in
    let next = next_in c.in-Ok.kind c.peek.new.self more shown.0 in
    let piece = piece_with next.0 c.in-Ok.kind next.1 in
    let peeked : machine_in more c.peek.new.self ≡ machine_in more old.machine =
    shown_alike (machine_in more old.machine) (machine_in more c.peek.new.self) next.2 piece (shown.1 more) next.3 in
    let span = rw next.3 at (c.span-span.ensures more) in
    let parts = rw next.3 at (c.in-Ok-take_parts.ensures.parts more) in
    let left = rw next.3 at (c.in-Ok-take_parts.ensures.left more) in
    let token = piece_with c.span-span.result c.in-Ok.kind (parts_view c.in-Ok-take_parts.parts) in
    let same : piece ≡ token = same_piece c.in-Ok.kind next.1 (parts_view c.in-Ok-take_parts.parts) _ _
    (sym span) parts in
    let moved : machine_in more old.machine ≡ put_back token (machine_in more c.makes_no_event.new.self) =
    sym peeked ∙ sym (put_back_again (machine_in more c.peek.new.self) next.2 piece next.3)
    ∙ ap (put_back piece) (sym left)
    ∙ ap (λ p. put_back p (machine_in more c.take_parts.new.self)) same
    ∙ ap (put_back token) (sym (c.in-Ok-true.ensures.same more)) in
    let between = c.if-not-is_between.ensures refl in (
      ap (λ (m : Machine). cursor_at m old) moved,
      record {
        between = (between.0, between.1, ap (λ (m : Machine). m.state) (sym moved) ∙ between.2);
        none = c.in-Ok-true.ensures.none c.in-Ok-true.field-0-test more c.span-span.result
            (parts_view c.in-Ok-take_parts.parts);
      },
    )
