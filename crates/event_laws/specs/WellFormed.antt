-- What is asked of tokens of which the events are told. A scanner's tokens are such.
use Rattle.std.specs.Prelude.{◌≡◌, ℕ, List, [], ◌∷◌, encode_utf8_all}
use Rattle.saphyr_scanner.specs.Grammar.Forest.{Handle, handle_bytes, Tag}
use Rattle.saphyr_scanner.specs.Grammar.Tokens as tokens
use Rattle.saphyr_scanner.specs.Grammar.Tokens.{Kind, tag_token}
use Rattle.saphyr_scanner.specs.Views.Tokens.{Piece}

-- a text in UTF-8
abbrev pub IsEncoded : List ℕ → Type 0
IsEncoded bytes = (text : List ℕ) × (bytes ≡ encode_utf8_all text)

-- what a token holds is in UTF-8, and a handle is `!`, `!!` or `!word!`
abbrev pub IsWellFormed : Kind → Type 0
IsWellFormed (tokens.Alias name) = IsEncoded name
IsWellFormed (tokens.Anchor name) = IsEncoded name
IsWellFormed (tokens.Tag handle suffix) = (tag : Tag) × (tokens.Tag handle suffix ≡ tag_token tag)
IsWellFormed (tokens.Scalar style value) = IsEncoded value
IsWellFormed (tokens.TagDirective handle prefix) =
    (declared : Handle) × (handle ≡ handle_bytes declared) × IsEncoded prefix
IsWellFormed (tokens.ReservedDirective name) = IsEncoded name
IsWellFormed _ = Unit {0}

-- no token comes after the end of the stream
abbrev pub MayStandBefore : Kind → List Piece → Type 0
MayStandBefore tokens.StreamEnd ts = ts ≡ []
MayStandBefore _ ts = Unit {0}

abbrev pub AreWellFormed : List Piece → Type 0
AreWellFormed [] = Unit {0}
AreWellFormed (t ∷ ts) = IsWellFormed t.kind × MayStandBefore t.kind ts × AreWellFormed ts
