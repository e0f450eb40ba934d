-- No handle comes before the text.
use Rattle.std.proofs.Common.{[], append-nil, refl, sym, ◌∙◌}
use Rattle.std.proofs.lemmas.Str.{IsUtf8-nil}
use Rattle.saphyr_scanner.specs.Views.Texts.{with_last_text}
use Rattle.saphyr_scanner.proofs.queue.place.Place.of_text.Goals as goal

pub returns-clause-place : goal.returns-clause-place
returns-clause-place c text s is h =
    c.of_texts.ensures.place [] text s
    (is ∙ λ i. with_last_text text (record { bytes = sym (append-nil s.bytes) i; extents = s.extents }))
    (refl, ∣ IsUtf8-nil ∣₁) h
