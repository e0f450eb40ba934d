-- That each reader of a token takes characters off the text: so scanning ends.
use Rattle.std.specs.Prelude.{◌≡◌, ◌<◌, ℕ, Bool, List, length, slice_index, Option, Ok}
use Rattle.saphyr_input.specs.Indicators.{exclamation_mark, percent_sign}
use Rattle.saphyr_scalar.specs.declared.values.BlockStyle.{BlockStyle}
use Rattle.saphyr_scalar.specs.declared.values.Quote.{Quote}
use Rattle.saphyr_scalar.specs.declared.scalar.position.Marker.{Marker}
use Rattle.saphyr_scalar.specs.declared.scalar.position.Span.{Span}
use Rattle.saphyr_scalar.specs.Views.Cursor.{Cursor}
use Rattle.saphyr_scalar.specs.Steps.Anchor as anchors
use Rattle.saphyr_scalar.specs.Steps.Block as blocks
use Rattle.saphyr_scalar.specs.Steps.Directive as directives
use Rattle.saphyr_scalar.specs.Spelling.Directive.{ReadDirective}
use Rattle.saphyr_scalar.specs.Steps.Plain as words
use Rattle.saphyr_scalar.specs.Steps.Quoted as quoted
use Rattle.saphyr_scalar.specs.Values.Flow.{mark}
use Rattle.saphyr_scalar.specs.Steps.Tag as tags

-- less of the text is left at t than at s
abbrev pub Less : Cursor → Cursor → Type 0
Less t s = length t.rest < length s.rest

-- what each takes off, from a text that begins with its indicator
pub record Readers : Type 0 where
  pub plain : (in_flow : Bool) (indent : ℕ) (s t : Cursor) (text : List ℕ) (end : Marker) (comment : Option Marker)
      → words.plain in_flow indent s ≡ Ok (text, end, comment, t) → Less t s
  pub quoted_scalar : (quote : Quote) (indent : ℕ) (s t : Cursor) (text : List ℕ) → slice_index s.rest 0 ≡ mark quote
      → quoted.quoted quote indent s ≡ Ok (text, t) → Less t s
  pub block_scalar : (style : BlockStyle) (indent : ℕ) (s t : Cursor) (text : List ℕ) (span : Span) → 0 < length s.rest
      → blocks.block_scalar style indent s ≡ Ok (text, span, t) → Less t s
  pub name : (s t : Cursor) (text : List ℕ) → 0 < length s.rest → anchors.anchor s ≡ Ok (text, t) → Less t s
  pub tag : (in_flow : Bool) (s t : Cursor) (handle suffix : List ℕ) → slice_index s.rest 0 ≡ exclamation_mark
      → tags.tag in_flow s ≡ Ok (handle, suffix, t) → Less t s
  pub directive : (s t : Cursor) (d : ReadDirective) (end : Marker) → slice_index s.rest 0 ≡ percent_sign
      → directives.directive s ≡ Ok (d, end, t) → Less t s
