-- What contracts see of tokens, and the tokens that a scanner still has to give.
use Rattle.std.specs.Prelude.{◌≡◌, List, [], ◌∷◌, ℕ, Option, Some, None, string_bytes}
use Rattle.saphyr_scalar.specs.declared.scalar.position.Span.{Span}
use Rattle.saphyr_scalar.specs.declared.scalar.fault.Refusal.{Refusal}
use Rattle.saphyr_scalar.specs.declared.scalar.style.ScalarStyle.{ScalarStyle}
use Rattle.saphyr_scalar.specs.declared.scalar.style.ScalarStyle.TheVariants as style
use Rattle.saphyr_scanner.specs.declared.token.TokenKind.{TokenKind}
use Rattle.saphyr_scanner.specs.declared.token.TokenKind.TheVariants as code
use Rattle.saphyr_scanner.specs.declared.token.TokenParts.{TokenParts}
use Rattle.saphyr_scanner.specs.Grammar.Tokens as tokens
use Rattle.saphyr_scanner.specs.Grammar.Tokens.{Kind}

-- what a token has besides its kind and its place
pub record Parts : Type 0 where
  pub handle : List ℕ
  pub text : List ℕ
  pub major : ℕ
  pub minor : ℕ

abbrev pub texts_alone : List ℕ → List ℕ → Parts
texts_alone handle text = record { handle = handle; text = text; major = 0; minor = 0 }

abbrev pub text_parts : List ℕ → Parts
text_parts text = texts_alone [] text

abbrev pub no_parts : Parts
no_parts = text_parts []

abbrev pub parts_view : TokenParts → Parts
parts_view p = record { handle = string_bytes p.handle; text = string_bytes p.text; major = p.major; minor = p.minor }

-- what a token of a kind is, with its parts
abbrev pub kind_with : TokenKind → Parts → Kind
kind_with code.StreamStart x = tokens.StreamStart
kind_with code.StreamEnd x = tokens.StreamEnd
kind_with code.VersionDirective x = tokens.VersionDirective x.major x.minor
kind_with code.TagDirective x = tokens.TagDirective x.handle x.text
kind_with code.ReservedDirective x = tokens.ReservedDirective x.text
kind_with code.DocumentStart x = tokens.DocumentStart
kind_with code.DocumentEnd x = tokens.DocumentEnd
kind_with code.ByteOrderMark x = tokens.ByteOrderMark
kind_with code.BlockSequenceStart x = tokens.BlockSequenceStart
kind_with code.BlockMappingStart x = tokens.BlockMappingStart
kind_with code.BlockEnd x = tokens.BlockEnd
kind_with code.FlowSequenceStart x = tokens.FlowSequenceStart
kind_with code.FlowSequenceEnd x = tokens.FlowSequenceEnd
kind_with code.FlowMappingStart x = tokens.FlowMappingStart
kind_with code.FlowMappingEnd x = tokens.FlowMappingEnd
kind_with code.BlockEntry x = tokens.BlockEntry
kind_with code.FlowEntry x = tokens.FlowEntry
kind_with code.Key x = tokens.Key
kind_with code.Value x = tokens.Value
kind_with code.Alias x = tokens.Alias x.text
kind_with code.Anchor x = tokens.Anchor x.text
kind_with code.Tag x = tokens.Tag x.handle x.text
kind_with code.Plain x = tokens.Scalar style.Plain x.text
kind_with code.SingleQuoted x = tokens.Scalar style.SingleQuoted x.text
kind_with code.DoubleQuoted x = tokens.Scalar style.DoubleQuoted x.text
kind_with code.Literal x = tokens.Scalar style.Literal x.text
kind_with code.Folded x = tokens.Scalar style.Folded x.text

-- the style of a scalar of a kind
abbrev pub style_of_kind : TokenKind → Option ScalarStyle
style_of_kind code.Plain = Some style.Plain
style_of_kind code.SingleQuoted = Some style.SingleQuoted
style_of_kind code.DoubleQuoted = Some style.DoubleQuoted
style_of_kind code.Literal = Some style.Literal
style_of_kind code.Folded = Some style.Folded
style_of_kind _ = None

-- the kind of a token, without its parts
abbrev pub token_kind : Kind → TokenKind
token_kind tokens.StreamStart = code.StreamStart
token_kind tokens.StreamEnd = code.StreamEnd
token_kind (tokens.VersionDirective major minor) = code.VersionDirective
token_kind (tokens.TagDirective handle prefix) = code.TagDirective
token_kind (tokens.ReservedDirective name) = code.ReservedDirective
token_kind tokens.DocumentStart = code.DocumentStart
token_kind tokens.DocumentEnd = code.DocumentEnd
token_kind tokens.ByteOrderMark = code.ByteOrderMark
token_kind tokens.BlockSequenceStart = code.BlockSequenceStart
token_kind tokens.BlockMappingStart = code.BlockMappingStart
token_kind tokens.BlockEnd = code.BlockEnd
token_kind tokens.FlowSequenceStart = code.FlowSequenceStart
token_kind tokens.FlowSequenceEnd = code.FlowSequenceEnd
token_kind tokens.FlowMappingStart = code.FlowMappingStart
token_kind tokens.FlowMappingEnd = code.FlowMappingEnd
token_kind tokens.BlockEntry = code.BlockEntry
token_kind tokens.FlowEntry = code.FlowEntry
token_kind tokens.Key = code.Key
token_kind tokens.Value = code.Value
token_kind (tokens.Alias name) = code.Alias
token_kind (tokens.Anchor name) = code.Anchor
token_kind (tokens.Tag handle suffix) = code.Tag
token_kind (tokens.Scalar style.Plain text) = code.Plain
token_kind (tokens.Scalar style.SingleQuoted text) = code.SingleQuoted
token_kind (tokens.Scalar style.DoubleQuoted text) = code.DoubleQuoted
token_kind (tokens.Scalar style.Literal text) = code.Literal
token_kind (tokens.Scalar style.Folded text) = code.Folded

-- the text of a token that has one alone
abbrev pub text_of : Kind → Option (List ℕ)
text_of (tokens.Alias name) = Some name
text_of (tokens.Anchor name) = Some name
text_of (tokens.Scalar style text) = Some text
text_of _ = None

-- a token with its span
pub record Piece : Type 0 where
  pub span : Span
  pub kind : Kind

abbrev pub piece_with : Span → TokenKind → Parts → Piece
piece_with span kind x = record { span = span; kind = kind_with kind x }

-- the tokens still to come, and the refusal after them, if one ends them
pub record Remaining : Type 0 where
  pub pieces : List Piece
  pub refusal : Option Refusal

abbrev pub none : Remaining
none = record { pieces = []; refusal = None }

abbrev pub refusal_alone : Refusal → Remaining
refusal_alone e = record { pieces = []; refusal = Some e }

abbrev pub before : Piece → Remaining → Remaining
before t r = record { pieces = t ∷ r.pieces; refusal = r.refusal }

-- A token of this kind comes first, or, without a kind, there is no token.
abbrev pub BeginsWith : Option TokenKind → Remaining → Type 0
BeginsWith (Some kind) r = (span : Span) × (x : Parts) × (left : Remaining) × (r ≡ before (piece_with span kind x) left)
BeginsWith None r = r ≡ none
