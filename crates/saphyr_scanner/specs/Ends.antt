-- How the tokens of a text end.
use Rattle.std.specs.Prelude.{◌≡◌, ◌⊎◌, List, [], ◌∷◌, ◌++◌, Some, None}
use Rattle.saphyr_scalar.specs.declared.scalar.fault.Refusal.{Refusal}
use Rattle.saphyr_scanner.specs.Grammar.Tokens as tokens
use Rattle.saphyr_scanner.specs.Views.Tokens.{Piece, Remaining}

-- none of them is the end of the stream
abbrev pub HasNoEnd : List Piece → Type 0
HasNoEnd [] = Unit {0}
HasNoEnd (t ∷ ts) = ¬ (t.kind ≡ tokens.StreamEnd) × HasNoEnd ts

-- a refusal ends the tokens before the stream does
abbrev pub IsRefused : Remaining → Type 0
IsRefused r = (e : Refusal) × (r.refusal ≡ Some e) × HasNoEnd r.pieces

-- the end of the stream is the last token, and no other is
abbrev pub IsComplete : Remaining → Type 0
IsComplete r = (front : List Piece) × (end : Piece) × HasNoEnd front × (end.kind ≡ tokens.StreamEnd)
    × (r.pieces ≡ front ++ end ∷ []) × (r.refusal ≡ None)

abbrev pub EndsWithStream : Remaining → Type 0
EndsWithStream r = IsRefused r ⊎ IsComplete r
