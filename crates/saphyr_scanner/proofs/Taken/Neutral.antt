-- Tokens that change nothing of what encloses those after, but for properties that come right before.
use Rattle.saphyr_scanner.proofs.Common.{◌≡◌, ℕ, Bool, true, false, List, IsTrue, arith, Span, Piece}
use Rattle.saphyr_scanner.specs.Grammar.Tokens as tokens
use Rattle.saphyr_scanner.specs.Grammar.Tokens.{Kind}
use Rattle.saphyr_scanner.specs.TokensTaken.{Collections, open_behind}
use Rattle.saphyr_scanner.specs.TokensInPlace.{Enclosure, enclosures_behind, fits}
use Rattle.saphyr_scanner.proofs.Taken.KeysInPlace.{Outside, free, calm}
use Rattle.saphyr_scanner.proofs.Taken.Keys.{KeepsDepth}

-- a token that opens and closes no bracket
abbrev pub KeepsBrackets : Piece → Type 0
KeepsBrackets t = (opened : Collections) → (open_behind t.kind t.span opened).brackets ≡ opened.brackets

-- A token that neither opens nor closes a bracket, a block collection, a single pair or an implicit key, and may be
-- anywhere.
pub record Neutral (t : Piece) : Type 0 where
  pub brackets : KeepsBrackets t
  pub depth : KeepsDepth t
  pub encloses : (e : Enclosure) (outside : Outside)
      → calm (enclosures_behind t.kind t.span (free e outside)) ≡ free e outside
  pub fits : (e : Enclosure) (columns : List ℕ) → IsTrue (fits e columns t.kind t.span)

abbrev pub is_neutral : Kind → Bool
is_neutral tokens.BlockSequenceStart = false
is_neutral tokens.BlockMappingStart = false
is_neutral tokens.BlockEnd = false
is_neutral tokens.FlowSequenceStart = false
is_neutral tokens.FlowSequenceEnd = false
is_neutral tokens.FlowMappingStart = false
is_neutral tokens.FlowMappingEnd = false
is_neutral tokens.FlowEntry = false
is_neutral tokens.Key = false
is_neutral tokens.Value = false
is_neutral _ = true

pub neutral : (kind : Kind) (span : Span) → is_neutral kind ≡ true → Neutral (record { span = span; kind = kind })
neutral u0 span e = grind arith
