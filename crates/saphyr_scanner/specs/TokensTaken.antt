-- Which tokens are taken from a text: up to the last token the text is the spellings of the tokens in order, parted by
-- blanks, breaks and comments alone (YAML 1.2.2, chapters 5 to 9). Nothing else is passed over.
-- A place is a cursor, of which what is there and its line and column count here.
use Rattle.std.specs.Prelude.{◌≡◌, ℕ, ◌+◌, ◌-◌, ◌≤◌, ◌<◌, Bool, true, false, not, nat_lt, if◌then◌else◌, ◌&&◌, ◌||◌, ◌==◌, ◌⊎◌, List, [], ◌∷◌, ◌++◌, length, drop, slice_index, Option, Some, None, IsTrue, IsFalse, codes, encode_utf8_all}
use Rattle.saphyr_input.specs.Classes.{is_blank, is_break, is_breakz, is_blank_or_breakz, is_flow, is_yaml_non_break, is_anchor_char, is_one_of, byte_order_mark}
use Rattle.saphyr_input.specs.Places.{is_document_start, is_document_end, is_document_indicator, is_blank_or_break}
use Rattle.saphyr_input.specs.Indicators.{ampersand, asterisk, colon, comma, greater_than, hyphen, left_brace, left_bracket, number_sign, percent_sign, question_mark, right_brace, right_bracket, vertical_bar}
use Rattle.saphyr_scalar.specs.declared.scalar.position.Marker.{Marker}
use Rattle.saphyr_scalar.specs.declared.scalar.position.Span.{Span}
use Rattle.saphyr_scalar.specs.declared.scalar.fault.Refusal.{Refusal}
use Rattle.saphyr_scalar.specs.declared.scalar.style.ScalarStyle.{ScalarStyle}
use Rattle.saphyr_scalar.specs.declared.scalar.style.ScalarStyle.TheVariants as style
use Rattle.saphyr_scalar.specs.declared.values.Item.{Item}
use Rattle.saphyr_scalar.specs.declared.values.Quote.{Quote}
use Rattle.saphyr_scalar.specs.declared.values.Quote.TheVariants.{Single, Double}
use Rattle.saphyr_scalar.specs.declared.values.BlockStyle.{BlockStyle}
use Rattle.saphyr_scalar.specs.declared.values.BlockStyle.TheVariants as block_style
use Rattle.saphyr_scalar.specs.Views.Cursor.{Cursor, start_cursor, along, next_line}
use Rattle.saphyr_scalar.specs.Passing.{IsPassed}
use Rattle.saphyr_scalar.specs.Spelling.LineBreaks.{break_len}
use Rattle.saphyr_scalar.specs.Values.Folding.{folded}
use Rattle.saphyr_scalar.specs.Spelling.LaterLines.{ArePlainLines}
use Rattle.saphyr_scalar.specs.Spelling.IndentedQuotes.{HasIndentedLines}
use Rattle.saphyr_scalar.specs.Spelling.QuotedMarkers.{HasNoMarker}
use Rattle.saphyr_scalar.specs.Spelling.Quoted.{IsQuotedText}
use Rattle.saphyr_scalar.specs.Reading.Plain.{IsPlainReading, IsPlainEnd}
use Rattle.saphyr_scalar.specs.Reading.BlockText.{IsBlockText}
use Rattle.saphyr_scalar.specs.Spelling.Tag.{AreIn, IsAnchorName, IsTagText, EndsTag}
use Rattle.saphyr_scalar.specs.Spelling.Directive.{ReadDirective, version, tag_prefix, reserved, IsReadDirective, IsLineTail}
use Rattle.saphyr_scanner.specs.Grammar.Tokens as tokens
use Rattle.saphyr_scanner.specs.Grammar.Tokens.{Kind}
use Rattle.saphyr_scanner.specs.Views.Tokens.{Piece, Remaining}
use Rattle.saphyr_scanner.specs.TokensInPlace.{has_text, without_innermost, not_enclosed, AreInPlace, AreIndented, OtherFront, AreBare}
pub use Rattle.saphyr_scanner.specs.TokensInPlace.{least_column_in}

-- ## Places (5.4)

-- a byte order mark at the start of a line has no column
abbrev pub past_mark : Marker → Marker
past_mark m = record { index = m.index + 1; line = m.line; col = m.col }

-- From a place to a later one. A byte order mark inside a quoted scalar is a character of its line; at the start of a
-- line elsewhere it has no column.
pub data IsReached : Marker → List ℕ → Marker → List ℕ → Type 0 where
  nothing : (m : Marker) (t : List ℕ) → IsReached m t m t
  character : (m : Marker) (c : ℕ) (t : List ℕ) (n : Marker) (u : List ℕ) → IsFalse (is_break c)
      → IsReached (along m 1) t n u → IsReached m (c ∷ t) n u
  mark : (m : Marker) (t : List ℕ) (n : Marker) (u : List ℕ) → m.col ≡ 0 → IsReached (past_mark m) t n u
      → IsReached m (byte_order_mark ∷ t) n u
  line_break : (m : Marker) (t : List ℕ) (n : Marker) (u : List ℕ) → IsTrue (is_break (slice_index t 0))
      → IsReached (next_line m (break_len t)) (drop (break_len t) t) n u → IsReached m t n u

-- a place, or after the last line, which no break ends, the start of the next
abbrev pub IsPlaceOrEnd : Cursor → Marker → Type 0
IsPlaceOrEnd s m = (m ≡ s.mark) ⊎ ((s.rest ≡ []) × (m ≡ next_line s.mark 0))

-- a place of a text
abbrev pub IsPlaceOf : List ℕ → Marker → Type 0
IsPlaceOf text m = (s : Cursor) × IsReached (start_cursor text).mark text s.mark s.rest × IsPlaceOrEnd s m
    × (m.index ≤ length text)

-- ## What is between tokens (6.6, 6.7)

-- blanks, breaks and comments. A comment is all of the line after its `#`, up to a NUL or a byte order mark. Nothing
-- asks for a blank before it: in `{"":#` LF `}` there is none.
pub data IsPassedOver : Marker → List ℕ → Marker → List ℕ → Type 0 where
  nothing : (m : Marker) (t : List ℕ) → IsPassedOver m t m t
  blank : (m : Marker) (c : ℕ) (t : List ℕ) (n : Marker) (u : List ℕ) → IsTrue (is_blank c)
      → IsPassedOver (along m 1) t n u → IsPassedOver m (c ∷ t) n u
  line_break : (m : Marker) (t : List ℕ) (n : Marker) (u : List ℕ) → IsTrue (is_break (slice_index t 0))
      → IsPassedOver (next_line m (break_len t)) (drop (break_len t) t) n u → IsPassedOver m t n u
  comment : (m : Marker) (words t : List ℕ) (n : Marker) (u : List ℕ) → AreIn is_yaml_non_break words
      → IsFalse (is_yaml_non_break (slice_index t 0)) → IsPassedOver (along m (1 + length words)) t n u
      → IsPassedOver m (number_sign ∷ (words ++ t)) n u

abbrev pub AreApart : Cursor → Cursor → Type 0
AreApart s t = IsPassedOver s.mark s.rest t.mark t.rest

-- from s blanks, and after some a comment, reach up to the place m of its line
abbrev pub LiesOnLine : Cursor → Marker → Type 0
LiesOnLine s m = (tail behind : List ℕ) × IsLineTail tail × (s.rest ≡ tail ++ behind) × (m ≡ along s.mark (length tail))

-- ## Tokens without a text: the stream's ends, starts and ends of block collections, an implicit key's, and a single
-- pair's

abbrev pub HasNoText : Span → Cursor → Cursor → Type 0
HasNoText span s t = (span.end ≡ span.start) × IsPlaceOrEnd s span.start × (t ≡ s)

-- neither a blank, a break nor a comment: the text of the next token that has one
abbrev pub begins_text : ℕ → Bool
begins_text c = not (is_blank_or_break c) && not (c == number_sign)

-- 8.2: the start of a block collection is right of the column of the collection around it, where the text of the next
-- token begins
abbrev pub IsBlockStart : ℕ → Span → Cursor → Cursor → Type 0
IsBlockStart indent span s t = (span.end ≡ span.start) × (span.start ≡ s.mark) × (t ≡ s)
    × IsTrue (begins_text (slice_index s.rest 0)) × (indent ≤ s.mark.col)

-- 8.2.1, 8.2.2: at the column of the innermost open block collection, right of which this column is the first
abbrev pub IsAtColumn : ℕ → Marker → Type 0
IsAtColumn indent m = indent ≡ m.col + 1

-- 7.4, 8.2.2: the start of a key without a `?` is where its text begins, outside flow at the column of its mapping
abbrev pub IsKeyStart : Bool → ℕ → Span → Cursor → Cursor → Type 0
IsKeyStart in_flow indent span s t = (span.end ≡ span.start) × (span.start ≡ s.mark) × (t ≡ s)
    × IsTrue (begins_text (slice_index s.rest 0)) × (in_flow ≡ false → IsAtColumn indent s.mark)

-- 9.1, 9.2: a document marker, a directive or a byte order mark, none of which is content at the start of a line
abbrev pub BeginsNoContent : List ℕ → Type 0
BeginsNoContent text =
    IsTrue (is_document_indicator text) ⊎ (slice_index text 0 ≡ percent_sign) ⊎ (slice_index text 0 ≡ byte_order_mark)

-- where the content of a document ends
abbrev pub IsContentEnd : Cursor → Type 0
IsContentEnd s = (s.rest ≡ []) ⊎ ((s.mark.col ≡ 0) × BeginsNoContent s.rest)

-- 8.2: the end of the innermost block collection is where the text goes on left of its column, or where the content
-- ends. Before it neither a blank, a break nor a comment is left. Nothing asks that it ends there; but of one that goes
-- on `IsAtColumn`, `fits` and `is_indented` say what is at its column or left of it.
abbrev pub IsBlockEnd : ℕ → Span → Cursor → Cursor → Type 0
IsBlockEnd indent span s t =
    HasNoText span s t × IsTrue (begins_text (slice_index s.rest 0))
    × ((s.mark.col + 1 < indent) ⊎ ((0 < indent) × IsContentEnd s))

-- ## Tokens that are their spans: markers, anchors, aliases, tags and directives

-- a text from s to t on one line, which is the span
pub record IsSpan (span : Span) (text : List ℕ) (s t : Cursor) : Type 0 where
  pub is : s.rest ≡ text ++ t.rest
  pub start : span.start ≡ s.mark
  pub end : span.end ≡ t.mark
  pub goes_on : t.mark ≡ along s.mark (length text)

-- 9.1.2, 9.1.4: a document marker, at the start of a line
abbrev pub IsMarker : (List ℕ → Bool) → List ℕ → Span → Cursor → Cursor → Type 0
IsMarker stands text span s t = (s.mark.col ≡ 0) × IsTrue (stands s.rest) × IsSpan span text s t

-- only blanks, and after some a comment, are left of a line, which a break, NUL or the end ends
abbrev pub EndsLine : List ℕ → Type 0
EndsLine rest = (tail behind : List ℕ) × IsLineTail tail × (rest ≡ tail ++ behind)
    × IsTrue (is_breakz (slice_index behind 0))

-- 9.1.2: that of a document's end, which is all of its line but for a comment
abbrev pub IsEndMarker : Span → Cursor → Cursor → Type 0
IsEndMarker span s t = IsMarker is_document_end (codes "...") span s t × EndsLine t.rest

-- 5.2: a byte order mark, at the start of a line
pub record IsMark (span : Span) (s t : Cursor) : Type 0 where
  pub is : s.rest ≡ byte_order_mark ∷ t.rest
  pub at_start : s.mark.col ≡ 0
  pub start : span.start ≡ s.mark
  pub end : span.end ≡ t.mark
  pub goes_on : t.mark ≡ past_mark s.mark

-- 6.9.2, 7.1: `&` or `*` and a name, which no character of names follows
abbrev pub IsNameToken : ℕ → List ℕ → Span → Cursor → Cursor → Type 0
IsNameToken indicator bytes span s t =
    (name : List ℕ) × IsAnchorName name × (bytes ≡ encode_utf8_all name) × IsSpan span (indicator ∷ name) s t
    × IsFalse (is_anchor_char (slice_index t.rest 0))

-- 6.9, 6.9.1: a tag, after which is a blank, a break, NUL, the end, or inside flow a flow indicator. A verbatim
-- tag's uri may be empty.
abbrev pub IsTagToken : Bool → List ℕ → List ℕ → Span → Cursor → Cursor → Type 0
IsTagToken in_flow front back span s t =
    (text handle suffix : List ℕ) × IsTagText text handle suffix × (front ≡ encode_utf8_all handle)
    × (back ≡ encode_utf8_all suffix) × IsSpan span text s t × EndsTag in_flow t.rest

-- 6.8: a directive at the start of a line, on which nothing else is but a comment
abbrev pub IsDirectiveToken : ReadDirective → Span → Cursor → Cursor → Type 0
IsDirectiveToken d span s t =
    (text : List ℕ) × (s.mark.col ≡ 0) × IsReadDirective d text × IsSpan span text s t × EndsLine t.rest

-- ## Indicators (5.3)

-- the indicator c is from s to t
abbrev pub TakesCharacter : ℕ → Cursor → Cursor → Type 0
TakesCharacter c s t = (s.rest ≡ c ∷ t.rest) × (t.mark ≡ along s.mark 1)

-- 7.4: a bracket or a comma, after which the span has only blanks and a comment
abbrev pub IsFlowIndicator : ℕ → Span → Cursor → Cursor → Type 0
IsFlowIndicator c span s t = TakesCharacter c s t × (span.start ≡ s.mark) × LiesOnLine t span.end

-- 8.2.1: `-` at the column of its collection, whose span is empty and comes after the blanks and the comment that
-- follow
abbrev pub IsDash : ℕ → Span → Cursor → Cursor → Type 0
IsDash indent span s t =
    TakesCharacter hyphen s t × IsTrue (is_blank_or_breakz (slice_index t.rest 0)) × LiesOnLine t span.start
    × (span.end ≡ span.start) × IsAtColumn indent s.mark

-- 7.4.2, 8.2.2: `?`, whose span goes on over blanks, breaks and comments. Outside flow it is at the column of its
-- mapping.
abbrev pub IsQuestionMark : Bool → ℕ → Span → Cursor → Cursor → Type 0
IsQuestionMark in_flow indent span s t =
    TakesCharacter question_mark s t × IsTrue (is_blank_or_breakz (slice_index t.rest 0)) × (span.start ≡ s.mark)
    × ((behind : List ℕ) × IsPassedOver t.mark t.rest span.end behind)
    × (in_flow ≡ false → IsAtColumn indent s.mark)

-- what may come after a colon inside flow whatever comes before it: a blank, a break, NUL, the end or a flow
-- indicator
abbrev pub parts_colon : ℕ → Bool
parts_colon c = is_blank_or_breakz c || is_flow c

-- 7.4.2, 8.2.2: `:`, before which the span is, empty. Outside flow a blank, a break, NUL or the end follows. Inside
-- flow it is parted too, but after a text that ends like JSON, which may be on an earlier line.
abbrev pub IsColon : Bool → Bool → Span → Cursor → Cursor → Type 0
IsColon in_flow ends_json span s t =
    TakesCharacter colon s t × (in_flow ≡ false → IsTrue (is_blank_or_breakz (slice_index t.rest 0)))
    × (span.start ≡ s.mark) × (span.end ≡ s.mark)
    × (in_flow ≡ true → (ends_json ≡ true) ⊎ IsTrue (parts_colon (slice_index t.rest 0)))

-- ## Scalars (7.3, 8.1)

-- From quote to quote, after which the span has only blanks and a comment. No later line begins with a document
-- marker, or left of the column of the innermost open block collection.
abbrev pub IsQuotedToken : Quote → ℕ → List ℕ → Span → Cursor → Cursor → Type 0
IsQuotedToken quote indent value span s t =
    (items : List Item) × (is : IsQuotedText quote s.rest items t.rest) × (value ≡ encode_utf8_all (folded items))
    × IsPassed s.mark s.rest t.mark t.rest × (span.start ≡ s.mark) × LiesOnLine t span.end
    × HasNoMarker quote is.0 items t.rest is.2 × HasIndentedLines (indent - 1) quote is.0 items t.rest is.2

-- no indicator with which another token begins inside flow and outside
abbrev pub may_begin_plain : ℕ → Bool
may_begin_plain c = not (is_one_of (codes ",[]{}#&*!'\"%@`") c)

-- Where a token is: whether inside brackets, the first column right of the innermost open block collection, 0 at
-- the root, and whether the text before ends like JSON.
pub record Surroundings : Type 0 where
  pub in_flow : Bool
  pub indent : ℕ
  pub ends_json : Bool

-- The span is the piece that is read. It begins with neither a blank nor a break, with `-`, `?` or `:` only where no
-- blank, break or NUL follows, and with `|` or `>`, which begin a block scalar outside flow, only inside flow. It goes
-- on as far as it can: behind the blanks and breaks after it is what no plain scalar goes on with. Outside flow its
-- later lines are right of the column of the innermost open block collection; inside flow no tab is left of that.
pub record IsPlainToken (in_flow : Bool) (indent : ℕ) (value : List ℕ) (span : Span) (s t : Cursor) : Type 0 where
  pub start : span.start ≡ s.mark
  pub begins : IsTrue (may_begin_plain (slice_index s.rest 0))
  pub is_non_space : IsFalse (is_blank_or_break (slice_index s.rest 0))
  pub no_indicator : IsTrue (is_one_of (codes "-?:") (slice_index s.rest 0))
      → IsFalse (is_blank_or_breakz (slice_index s.rest 1))
  pub no_block_scalar : in_flow ≡ false → IsFalse (is_one_of (codes "|>") (slice_index s.rest 0))
  pub reading : IsPlainReading in_flow s value span.end t
  pub stops : IsPlainEnd in_flow indent reading.white t
  pub lines : ArePlainLines in_flow indent reading.piece (reading.white ++ t.rest)

abbrev pub block_indicator : BlockStyle → ℕ
block_indicator block_style.Literal = vertical_bar
block_indicator block_style.Folded = greater_than

-- The least_column that is given counts from the innermost open block collection, whose content is right of its
-- column.
-- The span begins before the first content, and ends after the lines.
pub record IsBlockScalarToken (style : BlockStyle) (indent : ℕ) (value : List ℕ) (span : Span) (s t : Cursor) : Type
    0 where
  pub begins : slice_index s.rest 0 ≡ block_indicator style
  pub reading : IsBlockText style indent s value span.start t
  pub passes : IsPassed s.mark s.rest t.mark t.rest
  pub end : span.end ≡ t.mark

abbrev pub IsScalarToken : ScalarStyle → Surroundings → List ℕ → Span → Cursor → Cursor → Type 0
IsScalarToken style.Plain at value span s t = IsPlainToken at.in_flow at.indent value span s t
IsScalarToken style.SingleQuoted at value span s t = IsQuotedToken Single at.indent value span s t
IsScalarToken style.DoubleQuoted at value span s t = IsQuotedToken Double at.indent value span s t
IsScalarToken style.Literal at value span s t =
    (at.in_flow ≡ false) × IsBlockScalarToken block_style.Literal at.indent value span s t
IsScalarToken style.Folded at value span s t =
    (at.in_flow ≡ false) × IsBlockScalarToken block_style.Folded at.indent value span s t

-- ## Tokens

-- a token from s to t
abbrev pub IsToken : Surroundings → Kind → Span → Cursor → Cursor → Type 0
IsToken at tokens.StreamStart span s t = (s.mark.index ≡ 0) × HasNoText span s t
IsToken at tokens.StreamEnd span s t = (s.rest ≡ []) × HasNoText span s t
IsToken at (tokens.VersionDirective major minor) span s t = IsDirectiveToken (version major minor) span s t
IsToken at (tokens.TagDirective handle prefix) span s t = IsDirectiveToken (tag_prefix handle prefix) span s t
IsToken at (tokens.ReservedDirective name) span s t = IsDirectiveToken (reserved name) span s t
IsToken at tokens.DocumentStart span s t = IsMarker is_document_start (codes "---") span s t
IsToken at tokens.DocumentEnd span s t = IsEndMarker span s t
IsToken at tokens.ByteOrderMark span s t = IsMark span s t
IsToken at tokens.BlockSequenceStart span s t = IsBlockStart at.indent span s t
IsToken at tokens.BlockMappingStart span s t = IsBlockStart at.indent span s t
IsToken at tokens.BlockEnd span s t = IsBlockEnd at.indent span s t
IsToken at tokens.FlowSequenceStart span s t = IsFlowIndicator left_bracket span s t
IsToken at tokens.FlowSequenceEnd span s t = IsFlowIndicator right_bracket span s t
IsToken at tokens.FlowMappingStart span s t = IsFlowIndicator left_brace span s t ⊎ HasNoText span s t
IsToken at tokens.FlowMappingEnd span s t = IsFlowIndicator right_brace span s t ⊎ HasNoText span s t
IsToken at tokens.BlockEntry span s t = IsDash at.indent span s t
IsToken at tokens.FlowEntry span s t = IsFlowIndicator comma span s t
IsToken at tokens.Key span s t = IsQuestionMark at.in_flow at.indent span s t ⊎ IsKeyStart at.in_flow at.indent span s t
IsToken at tokens.Value span s t = IsColon at.in_flow at.ends_json span s t
IsToken at (tokens.Alias name) span s t = IsNameToken asterisk name span s t
IsToken at (tokens.Anchor name) span s t = IsNameToken ampersand name span s t
IsToken at (tokens.Tag handle suffix) span s t = IsTagToken at.in_flow handle suffix span s t
IsToken at (tokens.Scalar style value) span s t = IsScalarToken style at value span s t

-- What is open where a token is: the columns of the block collections, the innermost first, and how many brackets
-- and braces. And whether the text before ends like JSON: its last token that has a text is a quoted scalar, or the end
-- of a flow collection.
pub record Collections : Type 0 where
  pub columns : List ℕ
  pub brackets : ℕ
  pub ends_json : Bool

abbrev pub no_collections : Collections
no_collections = record { columns = []; brackets = 0; ends_json = false }

abbrev pub with_columns : List ℕ → Collections → Collections
with_columns columns opened =
    record { columns = columns; brackets = opened.brackets; ends_json = opened.ends_json }

abbrev pub with_brackets : ℕ → Collections → Collections
with_brackets n opened = record { columns = opened.columns; brackets = n; ends_json = opened.ends_json }

abbrev pub with_ends_json : Bool → Collections → Collections
with_ends_json ends_json opened =
    record { columns = opened.columns; brackets = opened.brackets; ends_json = ends_json }

abbrev pub is_quoted : ScalarStyle → Bool
is_quoted style.SingleQuoted = true
is_quoted style.DoubleQuoted = true
is_quoted _ = false

-- 7.4.2: A key ends like JSON with a quote or the end of a flow collection. A token without a text changes nothing;
-- those of `-`, of `:` and of a block scalar have a text, though their span may be empty.
abbrev pub ends_json_behind : Kind → Span → Bool → Bool
ends_json_behind (tokens.Scalar style value) span ends_json = is_quoted style
ends_json_behind tokens.FlowSequenceEnd span ends_json = true
ends_json_behind tokens.FlowMappingEnd span ends_json = if has_text span then true else ends_json
ends_json_behind tokens.BlockEntry span ends_json = false
ends_json_behind tokens.Value span ends_json = false
ends_json_behind _ span ends_json = if has_text span then false else ends_json

-- What is open after a token. The start and the end of a single pair have no text, and open and close no bracket.
abbrev pub collections_behind : Kind → Span → Collections → Collections
collections_behind tokens.BlockSequenceStart span opened = with_columns (span.start.col ∷ opened.columns) opened
collections_behind tokens.BlockMappingStart span opened = with_columns (span.start.col ∷ opened.columns) opened
collections_behind tokens.BlockEnd span opened = with_columns (without_innermost opened.columns) opened
collections_behind tokens.FlowSequenceStart span opened = with_brackets (opened.brackets + 1) opened
collections_behind tokens.FlowSequenceEnd span opened = with_brackets (opened.brackets - 1) opened
collections_behind tokens.FlowMappingStart span opened =
    if has_text span then with_brackets (opened.brackets + 1) opened else opened
collections_behind tokens.FlowMappingEnd span opened =
    if has_text span then with_brackets (opened.brackets - 1) opened else opened
collections_behind _ span opened = opened

abbrev pub open_behind : Kind → Span → Collections → Collections
open_behind kind span opened =
    with_ends_json (ends_json_behind kind span opened.ends_json) (collections_behind kind span opened)

abbrev pub surroundings_in : Collections → Surroundings
surroundings_in opened = record {
  in_flow = nat_lt 0 opened.brackets;
  indent = least_column_in opened.columns;
  ends_json = opened.ends_json;
}

-- tokens from one place to another, the first of which is where these collections are open
abbrev pub AreTokens : Collections → List Piece → Cursor → Cursor → Type 0
AreTokens opened [] s u = u ≡ s
AreTokens opened (p ∷ ps) s u =
    (here behind : Cursor) × AreApart s here × IsToken (surroundings_in opened) p.kind p.span here behind
    × AreTokens (open_behind p.kind p.span opened) ps behind u

-- the whole text, or a beginning and a refusal with its place in the text
abbrev pub IsEndOf : List ℕ → Option Refusal → Cursor → Type 0
IsEndOf text None u = u.rest ≡ []
IsEndOf text (Some e) u = IsPlaceOf text e.mark

-- the tokens, and the refusal if one ends them, are taken from the text, and each token may be where it is
abbrev pub AreTakenFrom : List ℕ → Remaining → Type 0
AreTakenFrom text r =
    (end : Cursor) × AreTokens no_collections r.pieces (start_cursor text) end × AreInPlace not_enclosed r.pieces
    × AreIndented not_enclosed r.pieces × AreBare OtherFront r.pieces × IsEndOf text r.refusal end
