-- The handle and the text of the token come first of the texts.
use Rattle.std.proofs.Common.{drop, subst, sym, take}
use Rattle.std.specs.Prelude.{IsUtf8}
use Rattle.saphyr_scanner.specs.Views.Places.{handle_length, is_apart, near_span}
use Rattle.saphyr_scanner.proofs.QueuedPlaces.{has_parts}
use Rattle.saphyr_scanner.proofs.queue.place.Place.take_parts.Goals as goal

pub text_at-requires-clause-text : goal.text_at-requires-clause-text
text_at-requires-clause-text c =
    let p = c.args.self in
    let s = c.args.texts.now in
    subst (λ e. ∥ IsUtf8 (take e.handle s.bytes) ∥₁) (sym c.extent-extent.ensures)
    (has_parts (is_apart p) (near_span p.start p.length) (handle_length p.front) p.count s c.requires).0.1

pub text_at-requires-2-clause-text : goal.text_at-requires-2-clause-text
text_at-requires-2-clause-text c =
    let p = c.args.self in
    let s = c.args.texts.now in
    subst (λ e. ∥ IsUtf8 (take e.text (drop e.handle s.bytes)) ∥₁) (sym c.extent-extent.ensures)
    (has_parts (is_apart p) (near_span p.start p.length) (handle_length p.front) p.count s c.requires).1.1
