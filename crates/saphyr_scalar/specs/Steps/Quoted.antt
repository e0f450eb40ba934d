-- Quoted scalars (YAML 1.2.2, 7.3.1 and 7.3.2), and the escapes of double quoted ones (5.7).
use Rattle.std.specs.Prelude.{ℕ, zero, suc, pred, ◌+◌, ◌*◌, Bool, true, false, ◌||◌, ◌&&◌, ◌==◌, not, nat_lt, List, [], ◌∷◌, ◌++◌, take, drop, length, ◌≤◌, slice_index, Option, Some, None, unwrap_or, Result, Ok, Err, ◌≡◌, if◌then◌else◌, encode_utf8, encode_utf8_all}
use Rattle.std.specs.List.{prefix_len}
use Rattle.saphyr_input.specs.Classes.{is_z, is_break, is_blank, is_blank_or_breakz, is_hex, hex_value, tab}
use Rattle.saphyr_input.specs.Places.{next_2_are, is_document_indicator, TransfersWords}
use Rattle.saphyr_input.specs.Indicators.{apostrophe, backslash}
use Rattle.saphyr_scalar.specs.declared.scalar.position.Marker.{Marker}
use Rattle.saphyr_scalar.specs.declared.scalar.fault.Refusal.{Refusal}
use Rattle.saphyr_scalar.specs.declared.scalar.fault.FaultText.TheVariants as fault
use Rattle.saphyr_scalar.specs.declared.values.Quote.{Quote}
use Rattle.saphyr_scalar.specs.declared.values.Quote.TheVariants.{Single, Double}
use Rattle.saphyr_scalar.specs.Views.Cursor.{Cursor, ◌>>=◌, refuse, refuse_open, is_missing, along, next_line, pass, pass_blanks}
use Rattle.saphyr_scalar.specs.Known.{may_be_open}
use Rattle.saphyr_scalar.specs.Values.Flow as flow
pub use Rattle.saphyr_scalar.specs.Spelling.LineBreaks.{break_len}
pub use Rattle.saphyr_scalar.specs.Spelling.ClosingQuote.{is_closing}
use Rattle.saphyr_scalar.specs.Values.Escapes.{short_escape, digit_count, is_scalar_value}
use Rattle.saphyr_scalar.specs.Values.Folding.{raw_break, line_feeds}

-- a character that stands for itself between the quotes and is no blank
unfoldable pub is_literal : Quote → ℕ → Bool
is_literal quote c = not (is_blank_or_breakz c) && not (flow.is_special quote c)

-- n hexadecimal digits after those that stand for v
unfoldable pub digits : Marker → ℕ → ℕ → Cursor → Result (ℕ × Cursor) Refusal
digits start zero v s = Ok (v, s)
digits start (suc n) v s =
    if is_hex (slice_index s.rest 0) then digits start n (v * 16 + hex_value (slice_index s.rest 0)) (pass 1 s)
    else refuse_open (is_missing 0 s.rest) fault.HexadecimalDigitExpected start

-- the character of a number
unfoldable pub character : Marker → ℕ → Cursor → Result (ℕ × Cursor) Refusal
character start v s = if is_scalar_value v then Ok (v, s) else refuse fault.EscapedCodePoint start

-- the character of the digits after an escape's letter, which asks for so many
unfoldable pub escape_by_number : Marker → Option ℕ → Cursor → Result (ℕ × Cursor) Refusal
escape_by_number start None s = refuse_open (is_missing 1 s.rest) fault.UnknownEscape start
escape_by_number start (Some n) s = digits start n 0 (pass 2 s) >>= λ x. character start x.0 x.1

unfoldable pub escape_of : Marker → Option ℕ → ℕ → Cursor → Result (ℕ × Cursor) Refusal
escape_of start (Some c) letter s = Ok (c, pass 2 s)
escape_of start None letter s = escape_by_number start (digit_count letter) s

-- an escape, from its backslash on: the character that it stands for
unfoldable pub escaped_character : Marker → Cursor → Result (ℕ × Cursor) Refusal
escaped_character start s = escape_of start (short_escape (slice_index s.rest 1)) (slice_index s.rest 1) s

-- the bytes of a text, and what comes after what was taken off, or a fault
abbrev pub TextRead : Type 0
TextRead = Result (List ℕ × Cursor) Refusal

-- a text whose bytes are `front`, before what is read
abbrev pub with_front : List ℕ → TextRead → TextRead
with_front front read = read >>= λ x. Ok (front ++ x.0, x.1)

-- within the line
abbrev pub mid_line : Marker → List ℕ → Cursor
mid_line m cs = record { rest = cs; mark = m; blank_so_far = false }

-- The character of a spelling of several characters, where one is: an escape between double quotes, two single
-- quotes between single ones.
unfoldable pub special : Quote → Marker → Cursor → Result (Option ℕ × Cursor) Refusal
special Single start s =
    if next_2_are s.rest apostrophe apostrophe then Ok (Some apostrophe, pass 2 s) else Ok (None, s)
special Double start s =
    if (slice_index s.rest 0 == backslash) && not (is_break (slice_index s.rest 1)) then
    (escaped_character start s >>= λ e. Ok (Some e.0, e.1))
    else Ok (None, s)

-- the character with which such a spelling begins
abbrev pub special_mark : Quote → ℕ
special_mark Single = apostrophe
special_mark Double = backslash

-- how many hexadecimal digits follow the letter of an escape, 0 where none do
abbrev pub hex_digit_count : ℕ → ℕ
hex_digit_count letter = unwrap_or (digit_count letter) 0

-- how many characters such a spelling has after its first one
abbrev pub special_len : Quote → ℕ → ℕ
special_len Single next = 1
special_len Double next = suc (hex_digit_count next)

-- What is between two words of a scalar: blanks on a line, with their bytes, or a break, escaped or not, and after
-- it so many empty lines.
pub data QuotedGap : Type 0 where
  on_line : (bytes : List ℕ) → QuotedGap
  over_lines : (escaped : Bool) → (empty : ℕ) → QuotedGap

abbrev pub no_gap : QuotedGap
no_gap = on_line []

-- whether a place is left of the column that later lines have to reach
abbrev pub is_left : ℕ → Marker → Bool
is_left indent m = nat_lt m.col indent

-- a blank: no tab is part of a line's indentation (6.1)
unfoldable pub blank_in : ℕ → QuotedGap → Marker → ℕ → Result QuotedGap Refusal
blank_in indent (on_line bytes) m c = Ok (on_line (bytes ++ encode_utf8 c))
blank_in indent (over_lines escaped n) m c =
    if (c == tab) && is_left indent m then refuse fault.TabAsIndentation m else Ok (over_lines escaped n)

-- a break: the blanks before it go, or a line that it ends is empty
abbrev pub break_in : QuotedGap → QuotedGap
break_in (on_line bytes) = over_lines false 0
break_in (over_lines escaped n) = over_lines escaped (suc n)

-- the text of a break and so many empty lines (6.5)
abbrev pub folded_break : Bool → ℕ → List ℕ
folded_break escaped n = if escaped then line_feeds n else raw_break n

-- a word or the closing quote on a later line: no document marker is there, and nothing left of the indentation
unfoldable pub quoted_line : ℕ → Marker → Cursor → Result Cursor Refusal
quoted_line indent start s =
    if (s.mark.col == 0) && is_document_indicator s.rest then
    refuse_open (may_be_open s.rest) fault.DocumentIndicatorInsideQuotes start
    else if is_z (slice_index s.rest 0) then refuse_open (may_be_open s.rest) fault.EndInsideQuotes start
    else if is_left indent s.mark then refuse_open (may_be_open s.rest) fault.QuotedIndentation start
    else Ok s

-- the bytes of a gap before a word or the closing quote
unfoldable pub end_gap : ℕ → Marker → QuotedGap → Cursor → Result (List ℕ) Refusal
end_gap indent start (on_line bytes) s =
    if is_z (slice_index s.rest 0) then refuse_open true fault.EndInsideQuotes start else Ok bytes
end_gap indent start (over_lines escaped n) s =
    quoted_line indent start s >>= λ t. Ok (encode_utf8_all (folded_break escaped n))

-- what an escaped break begins: right before the closing quote nothing, and there the quote may be anywhere
abbrev pub escaped_gap : Quote → ℕ → QuotedGap
escaped_gap quote c = if c == flow.mark quote then no_gap else over_lines true 0

abbrev pub if_some : {X : Type 0} → Option ℕ → (ℕ → X) → X → X
if_some (Some c) f x = f c
if_some None f x = x

-- The text after the quote at `start`: its bytes, and what comes after the closing quote. `gap` comes before it.
-- The next k characters are taken off already, and m is the place after them.
unfoldable pub inner_text : Quote → ℕ → Marker → QuotedGap → ℕ → Marker → List ℕ → TextRead
inner_text quote indent start gap k m [] = refuse_open true fault.EndInsideQuotes start
inner_text quote indent start gap zero m (c ∷ cs) =
    if is_blank c then (blank_in indent gap m c >>= λ g. inner_text quote indent start g zero (along m 1) cs)
    else if is_break c then inner_text quote indent start (break_in gap) (pred (break_len (c ∷ cs)))
    (next_line m (break_len (c ∷ cs))) cs
    else (end_gap indent start gap (mid_line m (c ∷ cs)) >>= λ text. with_front text
    (if is_literal quote c then with_front (encode_utf8 c) (inner_text quote indent start no_gap zero (along m 1) cs)
    else (special quote start (mid_line m (c ∷ cs)) >>= λ x. if_some x.0
    (λ d. with_front (encode_utf8 d)
    (inner_text quote indent start no_gap (special_len quote (slice_index cs 0)) x.1.mark cs))
    (if c == flow.mark quote then Ok ([], mid_line (along m 1) cs)
    else inner_text quote indent start (escaped_gap quote (slice_index (drop (break_len cs) cs) 0)) (break_len cs)
    (next_line (along m 1) (break_len cs)) cs))))
inner_text quote indent start gap (suc k) m (c ∷ cs) = inner_text quote indent start gap k m cs

abbrev pub inner_text_at : Quote → ℕ → Marker → QuotedGap → Cursor → TextRead
inner_text_at quote indent start gap s = inner_text quote indent start gap zero s.mark s.rest

-- A quoted scalar, from its opening quote to its closing one, where `indent` is the column that its later lines have to
-- reach.
unfoldable pub quoted : Quote → ℕ → Cursor → TextRead
quoted quote indent s = inner_text_at quote indent s.mark no_gap (pass 1 s)

-- What calls that read a part of a scalar leave.

-- the longest run of p is put after a text, and counts as blanks do
abbrev pub with_front_run : (ℕ → Bool) → List ℕ → Cursor → List ℕ × Cursor
with_front_run p text s =
    (text ++ encode_utf8_all (take (prefix_len p s.rest) s.rest), pass_blanks (prefix_len p s.rest) s)

-- the longest run of p is put after a text
abbrev pub with_run : (ℕ → Bool) → List ℕ → Cursor → List ℕ × Cursor
with_run p text s = (text ++ encode_utf8_all (take (prefix_len p s.rest) s.rest), pass (prefix_len p s.rest) s)

-- words of the set p, which q joins, were put after a text: all that came first
pub record WordsMoved (p : ℕ → Bool) (q : ℕ → ℕ → Bool) (text grown : List ℕ) (s t : Cursor) : Type 0 where
  pub count : ℕ
  pub words : TransfersWords p q count s.rest t.rest text grown
  pub place : t.mark ≡ along s.mark count
  pub line : t.blank_so_far ≡ false

-- blanks are put after a text, unless they end their line
abbrev pub with_blanks : List ℕ → Cursor → List ℕ × Cursor
with_blanks text s = (
  if is_break (slice_index (drop (prefix_len is_blank s.rest) s.rest) 0) then text else (with_run is_blank text s).0,
  (with_run is_blank text s).1,
)

-- what contracts see of blanks that were moved: the text and the reader
abbrev pub seen_blanks : ℕ → List ℕ → Cursor → List ℕ × Cursor
seen_blanks _ text s = (text, s)

-- a break after a backslash
abbrev pub is_escaped_break : Quote → List ℕ → Bool
is_escaped_break Single xs = false
is_escaped_break Double xs = (slice_index xs 0 == backslash) && is_break (slice_index xs 1)

-- what ends a word
abbrev pub ends_word : Quote → List ℕ → Bool
ends_word quote xs = is_blank_or_breakz (slice_index xs 0) || is_closing quote xs || is_escaped_break quote xs

-- something was read: what was to be read before is what is read now
abbrev pub ReadsFurther : {X : Type 0} → Result X Refusal → (X → TextRead) → TextRead → Type 0
ReadsFurther (Ok x) now before = now x ≡ before
ReadsFurther (Err e) now before = before ≡ Err e

-- Words were put after a text, up to a character that does not stand for itself.
pub record QuotedWordsMoved (quote : Quote) (text grown : List ℕ) (s t : Cursor) : Type 0 where
  pub same : (indent : ℕ) (start : Marker)
      → with_front grown (inner_text_at quote indent start no_gap t)
      ≡ with_front text (inner_text_at quote indent start no_gap s)
  pub stops : is_literal quote (slice_index t.rest 0) ≡ false
  pub shorter : length t.rest ≤ length s.rest
