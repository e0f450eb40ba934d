-- Where the tokens of a text are.
use Rattle.std.specs.Prelude.{ℕ, List, [], ◌∷◌}
use Rattle.saphyr_scanner.specs.Views.Tokens.{Piece}
use Rattle.saphyr_scanner.specs.TokensTaken.{IsPlaceOf}

-- each token begins and ends at a place of the text
abbrev pub AreAtPlaces : List ℕ → List Piece → Type 0
AreAtPlaces text [] = Unit {0}
AreAtPlaces text (t ∷ ts) = (IsPlaceOf text t.span.start × IsPlaceOf text t.span.end) × AreAtPlaces text ts
