-- The laws of the readers say where what they read ends.
use Rattle.std.proofs.Common.{◌≡◌, ℕ, ◌+◌, ◌≤◌, ◌<◌, Bool, true, false, Option, Ok, List, ◌∷◌, ◌++◌, length, ap, arith}
use Rattle.std.specs.Prelude.{slice_index, encode_utf8_all}
use Rattle.std.proofs.lemmas.List.{length-append}
use Rattle.saphyr_input.specs.Indicators.{exclamation_mark, percent_sign}
use Rattle.saphyr_scalar.specs.declared.scalar.position.Marker.{Marker}
use Rattle.saphyr_scalar.specs.declared.scalar.position.Span.{Span}
use Rattle.saphyr_input.specs.Classes.{is_anchor_char, is_breakz}
use Rattle.saphyr_scalar.specs.declared.values.BlockStyle.{BlockStyle}
use Rattle.saphyr_scalar.specs.declared.values.Quote.{Quote}
use Rattle.saphyr_scalar.specs.declared.values.Item.{Item}
use Rattle.saphyr_scalar.specs.Steps.Anchor as anchors
use Rattle.saphyr_scalar.specs.Steps.Block as blocks
use Rattle.saphyr_scalar.specs.Views.Cursor.{Cursor, along, pass_break}
use Rattle.saphyr_scalar.specs.Steps.Directive as directives
use Rattle.saphyr_scalar.specs.Spelling.Directive.{ReadDirective, IsReadDirective, IsLineTail}
use Rattle.saphyr_scalar.specs.Values.Flow.{mark}
use Rattle.saphyr_scalar.specs.Values.Folding.{folded}
use Rattle.saphyr_scalar.specs.Passing.{IsPassed}
use Rattle.saphyr_scalar.specs.Steps.Plain as words
use Rattle.saphyr_scalar.specs.Reading.Plain.{IsPlainReading}
use Rattle.saphyr_scalar.specs.Steps.Quoted as quoted
use Rattle.saphyr_scalar.specs.Steps.Quoted.{mid_line}
use Rattle.saphyr_scalar.specs.Spelling.Quoted.{IsQuotedText}
use Rattle.saphyr_scalar.specs.Steps.Tag as tags
use Rattle.saphyr_scalar.specs.Spelling.Tag.{IsAnchorName, IsTagText, EndsTag}
use Rattle.saphyr_scalar.proofs.Plain.Runs.{passed_index}
use Rattle.saphyr_scanner.proofs.Counted.{Ahead, text_passed, passed_over}
use Rattle.saphyr_scanner.proofs.Effects.Readers.{ReadsUpTo, ReadsSpan, ReaderEnds}

-- ## Plain scalars

plain_counted : (f : Bool) (s t : Cursor) (text : List ℕ) (end : Marker) → IsPlainReading f s text end t
    → ReadsUpTo s end t
plain_counted f s t text end r = grind (arith, passed_index, length-append)

-- ## Names and tags

-- what comes after a text of the line
ahead_behind_text : (s t : Cursor) (text : List ℕ) → s.rest ≡ text ++ t.rest
    → t ≡ mid_line (along s.mark (length text)) t.rest → Ahead s t
ahead_behind_text s t text is e = text_passed s t text is (ap (λ (c : Cursor). c.mark.index) e)

name_counted : (s t : Cursor) (indicator : ℕ) (name : List ℕ) → s.rest ≡ indicator ∷ (name ++ t.rest)
    → t ≡ mid_line (along s.mark (1 + length name)) t.rest → Ahead s t
name_counted s t indicator name is e =
    text_passed s t (indicator ∷ name) is (omega (arith, ap (λ (c : Cursor). c.mark.index) e))

-- ## Directives

directive_counted : (s u : Cursor) (end : Marker) (t tail x : List ℕ) → s.rest ≡ t ++ (tail ++ x)
    → end ≡ along s.mark (length t) → u ≡ pass_break (mid_line (along s.mark (length t + length tail)) x)
    → ReadsUpTo s end u
directive_counted s u end t tail x is ends e = grind (arith, length-append)

-- ## Block scalars

block_counted : (s t : Cursor) (span : Span) → s.mark.index ≤ span.start.index → span.start.index ≤ span.end.index
    → span.end ≡ t.mark → t.mark.index + length t.rest ≡ s.mark.index + length s.rest → ReadsSpan s span t
block_counted s t span a b e c = grind arith

-- ## All readers

-- the laws as they are called
pub reader_ends : ((in_flow : Bool) (indent : ℕ) (s t : Cursor) (text : List ℕ) (end : Marker) (comment : Option Marker)
    → words.plain in_flow indent s ≡ Ok (text, end, comment, t) → IsPlainReading in_flow s text end t)
    → ((quote : Quote) (indent : ℕ) (s t : Cursor) (text : List ℕ) → slice_index s.rest 0 ≡ mark quote
    → quoted.quoted quote indent s ≡ Ok (text, t)
    → (items : List Item) × IsQuotedText quote s.rest items t.rest × (encode_utf8_all (folded items) ≡ text)
    × IsPassed s.mark s.rest t.mark t.rest)
    → ((style : BlockStyle) (indent : ℕ) (s t : Cursor) (text : List ℕ) (span : Span) → 0 < length s.rest
    → blocks.block_scalar style indent s ≡ Ok (text, span, t)
    → (s.mark.index ≤ span.start.index) × (span.start.index ≤ span.end.index) × (span.end ≡ t.mark)
    × (t.mark.index + length t.rest ≡ s.mark.index + length s.rest))
    → ((s t : Cursor) (text : List ℕ) → 0 < length s.rest → anchors.anchor s ≡ Ok (text, t)
    → (indicator : ℕ) × (name : List ℕ) × (s.rest ≡ indicator ∷ (name ++ t.rest)) × IsAnchorName name
    × (is_anchor_char (slice_index t.rest 0) ≡ false) × (t ≡ mid_line (along s.mark (1 + length name)) t.rest)
    × (encode_utf8_all name ≡ text))
    → ((in_flow : Bool) (s u : Cursor) (front back : List ℕ) → slice_index s.rest 0 ≡ exclamation_mark
    → tags.tag in_flow s ≡ Ok (front, back, u)
    → (t : List ℕ) × (handle : List ℕ) × (suffix : List ℕ) × (s.rest ≡ t ++ u.rest) × IsTagText t handle suffix
    × EndsTag in_flow u.rest × (u ≡ mid_line (along s.mark (length t)) u.rest) × (encode_utf8_all handle ≡ front)
    × (encode_utf8_all suffix ≡ back))
    → ((s u : Cursor) (d : ReadDirective) (end : Marker) → slice_index s.rest 0 ≡ percent_sign
    → directives.directive s ≡ Ok (d, end, u)
    → (t : List ℕ) × (tail : List ℕ) × (x : List ℕ) × (s.rest ≡ t ++ (tail ++ x)) × IsReadDirective d t
    × IsLineTail tail × (is_breakz (slice_index x 0) ≡ true) × (end ≡ along s.mark (length t))
    × (u ≡ pass_break (mid_line (along s.mark (length t + length tail)) x)))
    → ReaderEnds
reader_ends plain quotes block name tag directive = record {
  plain = λ f i s t text end comment e. plain_counted f s t text end (plain f i s t text end comment e);
  quoted_scalar = λ quote i s t text first e. passed_over s t (quotes quote i s t text first e).3;
  block_scalar = λ style i s t text span some e. let x =
      block style i s t text span some e in block_counted s t span x.0 x.1 x.2 x.3;
  name = λ s t text some e. let x = name s t text some e in name_counted s t x.0 x.1 x.2 x.5;
  tag = λ f s t handle suffix first e. let x = tag f s t handle suffix first e in ahead_behind_text s t x.0 x.3 x.6;
  directive = λ s t d end first e. let x =
      directive s t d end first e in directive_counted s t end x.0 x.1 x.2 x.3 x.7 x.8;
}
