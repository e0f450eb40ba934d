-- The texts of a token that has no room in its place come behind the others.
use Rattle.std.proofs.Common.{ap, subst, ◌∙◌}
use Rattle.std.specs.Prelude.{IfOk}
use Rattle.saphyr_scalar.specs.declared.scalar.position.Span.{Span}
use Rattle.saphyr_scanner.specs.Views.Places.{AddsBehind}
use Rattle.saphyr_scanner.specs.Views.Tokens.{Piece}
use Rattle.saphyr_scanner.proofs.QueuedPlaces.{texts_piece}
use Rattle.saphyr_scanner.proofs.queue.place.Place.of_texts.Goals as goal

pub returns-2-clause-place : goal.returns-2-clause-place
returns-2-clause-place c front text s is h k =
    let span : Span = record { start = c.args.start.now; end = c.args.end.now } in
    let made = c.of_texts.ensures in
    subst (λ (t : Piece). IfOk c.of_extent.result (λ p. AddsBehind t p s c.of_extent.new.texts))
    (texts_piece c.of_texts.result span c.args.kind c.args.handle c.args.count front text
    (made ∙ λ i. record {
      span = record { start = c.new-span.ensures.start i; end = c.new-span.ensures.end i };
      handle = c.args.handle;
      text = c.args.count;
      major = 0;
      minor = 0;
    }) h k)
    (c.of_extent.ensures.place front text s is (ap (λ e. e.handle) made ∙ h.0, h.1) (ap (λ e. e.text) made ∙ k.0, k.1))
