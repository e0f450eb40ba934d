-- The kinds of tokens, without their spans.
use Rattle.std.specs.Prelude.{ℕ, List, [], codes, encode_utf8_all}
use Rattle.saphyr_scanner.specs.Grammar.Forest as forest

-- Texts are in UTF-8. A tag has a handle, which is empty for `!` and `!<uri>`, and a suffix.
pub data Kind : Type 0 where
  StreamStart : Kind
  StreamEnd : Kind
  VersionDirective : ℕ → ℕ → Kind
  TagDirective : List ℕ → List ℕ → Kind
  ReservedDirective : List ℕ → Kind
  DocumentStart : Kind
  DocumentEnd : Kind
  ByteOrderMark : Kind
  BlockSequenceStart : Kind
  BlockMappingStart : Kind
  BlockEnd : Kind
  FlowSequenceStart : Kind
  FlowSequenceEnd : Kind
  FlowMappingStart : Kind
  FlowMappingEnd : Kind
  BlockEntry : Kind
  FlowEntry : Kind
  Key : Kind
  Value : Kind
  Alias : List ℕ → Kind
  Anchor : List ℕ → Kind
  Tag : List ℕ → List ℕ → Kind
  Scalar : forest.Style → List ℕ → Kind

-- ## The tokens of what a forest's leaves hold

abbrev pub alias_token : List ℕ → Kind
alias_token name = Alias (encode_utf8_all name)

abbrev pub anchor_token : List ℕ → Kind
anchor_token name = Anchor (encode_utf8_all name)

abbrev pub tag_token : forest.Tag → Kind
tag_token forest.NonSpecific = Tag [] (codes "!")
tag_token (forest.Verbatim uri) = Tag [] (encode_utf8_all uri)
tag_token (forest.Shorthand handle suffix) = Tag (forest.handle_bytes handle) (encode_utf8_all suffix)

abbrev pub scalar_token : forest.Style → List ℕ → Kind
scalar_token style value = Scalar style (encode_utf8_all value)

abbrev pub directive_token : forest.Directive → Kind
directive_token (forest.Version major minor) = VersionDirective major minor
directive_token (forest.TagPrefix handle prefix) = TagDirective (forest.handle_bytes handle) (encode_utf8_all prefix)
directive_token (forest.Reserved name) = ReservedDirective (encode_utf8_all name)
