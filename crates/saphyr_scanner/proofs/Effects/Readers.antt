-- The laws of the readers, as they are called: where each ends what it reads, what that is, and
-- where it refuses, from a text that begins with its indicator.
use Rattle.saphyr_scanner.proofs.Common.{◌≡◌, ℕ, ◌+◌, ◌≤◌, ◌<◌, ◌⊎◌, Bool, true, false, List, ◌∷◌, ◌++◌, length, Ok, Err, exclamation_mark, percent_sign, is_anchor_char, is_z, is_break, is_breakz, is_blank_or_break, SkipTabs, BlockStyle, Quote, Item, mark, Marker, Span, Refusal, IsPassed, IsPlainReading, IsRefusedInside, IsReadDirective, IsLineTail, ReadDirective, HasIndentedLines, ArePlainLines, IsQuotedText, IsAnchorName, IsTagText, EndsTag, Cursor, along, pass_break, separation, mid_line}
use Rattle.std.specs.Prelude.{slice_index, Option, encode_utf8_all}
use Rattle.saphyr_scalar.specs.Values.Folding.{folded}
use Rattle.saphyr_scalar.specs.Reading.BlockText.{IsBlockText}
use Rattle.saphyr_scalar.specs.Reading.Plain.{IsPlainEnd}
use Rattle.saphyr_scalar.specs.Spelling.QuotedMarkers.{HasNoMarker}
use Rattle.saphyr_scalar.specs.Steps.Anchor as anchors
use Rattle.saphyr_scalar.specs.Steps.Block as blocks
use Rattle.saphyr_scalar.specs.Steps.Directive as directives
use Rattle.saphyr_scalar.specs.Steps.Plain as words
use Rattle.saphyr_scalar.specs.Steps.Quoted as quoted
use Rattle.saphyr_scalar.specs.Steps.Tag as tags
pub use Rattle.saphyr_scanner.specs.TakenOff.{Less, Readers}
use Rattle.saphyr_scanner.specs.TokensTaken as taken
use Rattle.saphyr_scanner.proofs.Counted.{Ahead}
use Rattle.saphyr_scanner.proofs.Taken.Later.{top}

-- ## Where it ends

-- what is read from s on ends at a place m before t or at it
pub record ReadsUpTo (s : Cursor) (m : Marker) (t : Cursor) : Type 0 where
  pub ahead : Ahead s t
  pub begins : s.mark.index ≤ m.index
  pub ends : m.index ≤ t.mark.index

-- where a span is that was read from s on
pub record ReadsSpan (s : Cursor) (span : Span) (t : Cursor) : Type 0 where
  pub ahead : Ahead s t
  pub begins : s.mark.index ≤ span.start.index
  pub inside : span.start.index ≤ span.end.index
  pub ends : span.end.index ≤ t.mark.index

-- where each reader ends what it reads, from a text that begins with its indicator
pub record ReaderEnds : Type 0 where
  pub plain : (in_flow : Bool) (indent : ℕ) (s t : Cursor) (text : List ℕ) (end : Marker) (comment : Option Marker)
      → words.plain in_flow indent s ≡ Ok (text, end, comment, t) → ReadsUpTo s end t
  pub quoted_scalar : (quote : Quote) (indent : ℕ) (s t : Cursor) (text : List ℕ) → slice_index s.rest 0 ≡ mark quote
      → quoted.quoted quote indent s ≡ Ok (text, t) → Ahead s t
  pub block_scalar : (style : BlockStyle) (indent : ℕ) (s t : Cursor) (text : List ℕ) (span : Span) → 0 < length s.rest
      → blocks.block_scalar style indent s ≡ Ok (text, span, t) → ReadsSpan s span t
  pub name : (s t : Cursor) (text : List ℕ) → 0 < length s.rest → anchors.anchor s ≡ Ok (text, t) → Ahead s t
  pub tag : (in_flow : Bool) (s t : Cursor) (handle suffix : List ℕ) → slice_index s.rest 0 ≡ exclamation_mark
      → tags.tag in_flow s ≡ Ok (handle, suffix, t) → Ahead s t
  pub directive : (s t : Cursor) (d : ReadDirective) (end : Marker) → slice_index s.rest 0 ≡ percent_sign
      → directives.directive s ≡ Ok (d, end, t) → ReadsUpTo s end t

-- ## What it reads, and where it refuses

-- where a block scalar is, and that it ends after its line or at the end
pub record BlockPlace (s : Cursor) (span : Span) (t : Cursor) : Type 0 where
  pub passes : IsPassed s.mark s.rest t.mark t.rest
  pub end : span.end ≡ t.mark
  pub line : s.mark.line < top → (s.mark.line < t.mark.line) ⊎ (is_z (slice_index t.rest 0) ≡ true)

-- what the laws of the readers say
pub record TextLaws : Type 0 where
  pub plain : (in_flow : Bool) (indent : ℕ) (s t : Cursor) (text : List ℕ) (end : Marker) (comment : Option Marker)
      → words.plain in_flow indent s ≡ Ok (text, end, comment, t)
      → (r : IsPlainReading in_flow s text end t) × ArePlainLines in_flow indent r.piece (r.white ++ t.rest)
      × IsPlainEnd in_flow indent r.white t
  pub quotes : (quote : Quote) (indent : ℕ) (s t : Cursor) (text : List ℕ) → slice_index s.rest 0 ≡ mark quote
      → quoted.quoted quote indent s ≡ Ok (text, t)
      → (items : List Item) × (is : IsQuotedText quote s.rest items t.rest) × (encode_utf8_all (folded items) ≡ text)
      × IsPassed s.mark s.rest t.mark t.rest × HasNoMarker quote is.0 items t.rest is.2
      × HasIndentedLines indent quote is.0 items t.rest is.2
  pub non_space : (in_flow : Bool) (indent : ℕ) (s t : Cursor) (text : List ℕ) (end : Marker) (comment : Option Marker)
      → words.plain in_flow indent s ≡ Ok (text, end, comment, t) → is_blank_or_break (slice_index s.rest 0) ≡ false
  pub block_text : (style : BlockStyle) (indent : ℕ) (s t : Cursor) (text : List ℕ) (span : Span)
      → slice_index s.rest 0 ≡ taken.block_indicator style → blocks.block_scalar style indent s ≡ Ok (text, span, t)
      → IsBlockText style indent s text span.start t
  pub block_place : (style : BlockStyle) (indent : ℕ) (s t : Cursor) (text : List ℕ) (span : Span)
      → slice_index s.rest 0 ≡ taken.block_indicator style → blocks.block_scalar style indent s ≡ Ok (text, span, t)
      → BlockPlace s span t
  pub name : (s t : Cursor) (text : List ℕ) → 0 < length s.rest → anchors.anchor s ≡ Ok (text, t)
      → (indicator : ℕ) × (name : List ℕ) × (s.rest ≡ indicator ∷ (name ++ t.rest)) × IsAnchorName name
      × (is_anchor_char (slice_index t.rest 0) ≡ false) × (t ≡ mid_line (along s.mark (1 + length name)) t.rest)
      × (encode_utf8_all name ≡ text)
  pub tag : (in_flow : Bool) (s u : Cursor) (front back : List ℕ) → slice_index s.rest 0 ≡ exclamation_mark
      → tags.tag in_flow s ≡ Ok (front, back, u)
      → (t : List ℕ) × (handle : List ℕ) × (suffix : List ℕ) × (s.rest ≡ t ++ u.rest) × IsTagText t handle suffix
      × EndsTag in_flow u.rest × (u ≡ mid_line (along s.mark (length t)) u.rest) × (encode_utf8_all handle ≡ front)
      × (encode_utf8_all suffix ≡ back)
  pub directive : (s u : Cursor) (d : ReadDirective) (end : Marker) → slice_index s.rest 0 ≡ percent_sign
      → directives.directive s ≡ Ok (d, end, u)
      → (t : List ℕ) × (tail : List ℕ) × (x : List ℕ) × (s.rest ≡ t ++ (tail ++ x)) × IsReadDirective d t
      × IsLineTail tail × (is_breakz (slice_index x 0) ≡ true) × (end ≡ along s.mark (length t))
      × (u ≡ pass_break (mid_line (along s.mark (length t + length tail)) x))

-- what the laws of the readers say of their refusals
pub record RefusalLaws : Type 0 where
  pub name : (s : Cursor) (e : Refusal) → anchors.anchor s ≡ Err e → e.mark ≡ s.mark
  pub tag : (in_flow : Bool) (s : Cursor) (e : Refusal) → tags.tag in_flow s ≡ Err e → e.mark ≡ s.mark
  pub separation : (tabs : SkipTabs) (s : Cursor) (e : Refusal) → separation tabs s ≡ Err e → IsRefusedInside s e
  pub directive : (s : Cursor) (e : Refusal) → slice_index s.rest 0 ≡ percent_sign → directives.directive s ≡ Err e
      → IsRefusedInside s e
  pub quotes : (quote : Quote) (indent : ℕ) (s : Cursor) (e : Refusal) → slice_index s.rest 0 ≡ mark quote
      → quoted.quoted quote indent s ≡ Err e → IsRefusedInside s e
  pub plain : (in_flow : Bool) (indent : ℕ) (s : Cursor) (e : Refusal) → words.plain in_flow indent s ≡ Err e
      → IsRefusedInside s e
  pub block_scalar : (style : BlockStyle) (indent : ℕ) (s : Cursor) (e : Refusal)
      → is_break (slice_index s.rest 0) ≡ false → 0 < length s.rest → blocks.block_scalar style indent s ≡ Err e
      → IsRefusedInside s e
