-- Events without their spans.
use Rattle.std.specs.Prelude.{ℕ, Bool, List, [], Option, None}
use Rattle.saphyr_scanner.specs.Grammar.Forest.{Style, Plain}

-- a tag with its prefix in place of the handle, both in UTF-8
pub record ResolvedTag : Type 0 where
  pub handle : List ℕ
  pub suffix : List ℕ

-- What an event tells: whether a document is explicit; the id of an anchor, 0 for none; a scalar's text in UTF-8.
-- No text has `Nothing` among its events.
pub data Happening : Type 0 where
  Nothing : Happening
  StreamStart : Happening
  StreamEnd : Happening
  DocumentStart : Bool → Happening
  DocumentEnd : Happening
  Alias : ℕ → Happening
  Scalar : List ℕ → Style → ℕ → Option ResolvedTag → Happening
  SequenceStart : ℕ → Option ResolvedTag → Happening
  SequenceEnd : Happening
  MappingStart : ℕ → Option ResolvedTag → Happening
  MappingEnd : Happening

-- a node that is left out
abbrev pub empty_scalar : Happening
empty_scalar = Scalar [] Plain 0 None
