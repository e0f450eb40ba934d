-- The spans of tokens are in order, within the text.
use Rattle.std.specs.Prelude.{ℕ, ◌≤◌, List, [], ◌∷◌}
use Rattle.saphyr_scanner.specs.Views.Tokens.{Piece}

-- The spans of tokens are one after the other, from the index `low` on, in a text of n characters.
abbrev pub AreInOrder : ℕ → ℕ → List Piece → Type 0
AreInOrder n low [] = low ≤ n
AreInOrder n low (p ∷ ps) =
    (low ≤ p.span.start.index) × (p.span.start.index ≤ p.span.end.index) × AreInOrder n p.span.end.index ps
