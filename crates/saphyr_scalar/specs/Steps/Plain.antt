-- Plain scalars (YAML 1.2.2, 7.3.3).
use Rattle.std.specs.Prelude.{◌≡◌, ◌<◌, ◌≤◌, ℕ, zero, suc, pred, ◌-◌, Bool, true, false, ◌||◌, ◌&&◌, ◌==◌, not, nat_lt, List, [], ◌∷◌, ◌++◌, length, take, slice_index, Result, Ok, Option, Some, None, if◌then◌else◌, encode_utf8}
use Rattle.saphyr_input.specs.Classes.{is_z, is_break, is_blank, is_blank_or_breakz, is_flow, is_bom, tab, line_feed, space}
use Rattle.saphyr_input.specs.Places.{can_be_plain, is_document_indicator, is_blank_or_break}
use Rattle.saphyr_input.specs.Indicators.{hyphen, number_sign}
use Rattle.saphyr_scalar.specs.declared.scalar.position.Marker.{Marker}
use Rattle.saphyr_scalar.specs.declared.scalar.fault.Refusal.{Refusal}
use Rattle.saphyr_scalar.specs.declared.scalar.fault.FaultText.TheVariants as fault
use Rattle.saphyr_scalar.specs.declared.scalar.plain.PlainEnd.{PlainEnd}
use Rattle.saphyr_scalar.specs.Views.Cursor.{Cursor, ◌>>=◌, refuse, refuse_open, along, next_line, pass_blanks, pass_break}
pub use Rattle.saphyr_scalar.specs.Spelling.LineBreaks.{ends_line}
use Rattle.saphyr_scalar.specs.Known.{may_be_open}
use Rattle.saphyr_scalar.specs.Steps.Quoted.{mid_line, with_run}

-- a word goes on with the first character
unfoldable pub is_in_word : Bool → List ℕ → Bool
is_in_word in_flow xs = not (is_blank_or_breakz (slice_index xs 0)) && can_be_plain in_flow xs

-- whether a word of the scalar begins: neither a comment nor a document marker does, and in flow no lone `-`
unfoldable pub word_starts : Bool → Cursor → Result (Bool × Cursor) Refusal
word_starts in_flow s =
    if (slice_index s.rest 0 == number_sign) || ((s.mark.col == 0) && is_document_indicator s.rest) then Ok (false, s)
    else if in_flow && (slice_index s.rest 0 == hyphen) && is_flow (slice_index s.rest 1) then refuse
    fault.PlainDashBeforeFlow s.mark
    else Ok (is_in_word in_flow s.rest, s)

-- What comes after a word: what it reads as where another word follows, whether a tab is in the indentation of
-- the line that is reached, and what comes after it.
pub record PlainGap : Type 0 where
  pub text : List ℕ
  pub tabbed : Bool
  pub behind : Cursor

-- what contracts see of a gap: whether a tab is in the indentation, a text, and the reader after the gap
abbrev pub seen_gap : Bool → List ℕ → Cursor → PlainGap
seen_gap tabbed text s = record { text = text; tabbed = tabbed; behind = s }

-- after a line's blanks, where a tab is in its indentation: only a comment may, or nothing
unfoldable pub content_behind_tab : Marker → Bool → Cursor → Result Cursor Refusal
content_behind_tab start tabbed s =
    if tabbed && is_bom (slice_index s.rest 0) then refuse fault.MisplacedByteOrderMark s.mark
    else if tabbed && not ((slice_index s.rest 0 == number_sign) || is_z (slice_index s.rest 0)) then
    refuse fault.TabInsidePlain start
    else Ok s

-- the gap up to what is on the line that is reached
abbrev pub reached_gap : Marker → Bool → List ℕ → Cursor → Result PlainGap Refusal
reached_gap start tabbed feeds s =
    content_behind_tab start tabbed s >>= λ t. Ok (record { text = feeds; tabbed = tabbed; behind = t })

-- on a line, with blanks alone before it
abbrev pub line_front : Marker → List ℕ → Cursor
line_front m cs = record { rest = cs; mark = m; blank_so_far = true }

-- a blank or a break of the lines after a word is passed
unfoldable pub pass_white : ℕ → Bool → List ℕ → Cursor → Bool × List ℕ × Cursor
pass_white indent tabbed feeds s =
    if is_break (slice_index s.rest 0) then (false, feeds ++ line_feed ∷ [], pass_break s)
    else (tabbed || ((slice_index s.rest 0 == tab) && nat_lt s.mark.col indent), feeds, pass_blanks 1 s)

abbrev pub white_onto : ℕ → Bool → List ℕ → Cursor → Result (Bool × List ℕ × Cursor) Refusal
white_onto indent tabbed feeds s = Ok (pass_white indent tabbed feeds s)

-- what contracts see of a blank or a break that is passed
abbrev pub seen_white : Bool → List ℕ → Cursor → Bool × List ℕ × Cursor
seen_white tabbed feeds s = (tabbed, feeds, s)

-- Blanks and breaks from a line's start on: a line feed for each line of them (6.5).
-- `indent` is the first column to the right of the enclosing block collection.
unfoldable pub lines : ℕ → Marker → Bool → List ℕ → Marker → List ℕ → Result PlainGap Refusal
lines indent start tabbed feeds m [] = reached_gap start tabbed feeds (line_front m [])
lines indent start tabbed feeds m (c ∷ cs) =
    if is_blank_or_break c then
    lines indent start (is_blank c && (tabbed || ((c == tab) && nat_lt m.col indent)))
    (if ends_line c cs then feeds ++ line_feed ∷ [] else feeds)
    (if ends_line c cs then next_line m 1 else along m 1) cs
    else reached_gap start tabbed feeds (line_front m (c ∷ cs))

abbrev pub feeds_onto : ℕ → Marker → List ℕ → Cursor → Result PlainGap Refusal
feeds_onto indent start feeds s = lines indent start false feeds s.mark s.rest

-- a break before no empty line reads as a space, and another as its empty lines
abbrev pub folded_gap : PlainGap → PlainGap
folded_gap g = record g { text = if length g.text == 0 then space ∷ [] else g.text }

-- a text before what a gap reads as
abbrev pub gap_onto : List ℕ → Result PlainGap Refusal → Result PlainGap Refusal
gap_onto text read = read >>= λ g. Ok (record g { text = text ++ g.text })

-- a line after a word's line begins
abbrev pub next_lines : ℕ → Marker → Cursor → Result PlainGap Refusal
next_lines indent start s = feeds_onto indent start [] s >>= λ g. Ok (folded_gap g)

-- after the blanks on a word's line
unfoldable pub gap_from : ℕ → Marker → List ℕ → Cursor → Result PlainGap Refusal
gap_from indent start blanks s =
    if is_break (slice_index s.rest 0) then next_lines indent start (pass_break s)
    else Ok (record { text = blanks; tabbed = false; behind = s })

-- after a word
unfoldable pub gap : ℕ → Marker → Cursor → Result PlainGap Refusal
gap indent start s = gap_from indent start (with_run is_blank [] s).0 (with_run is_blank [] s).1

-- whether another word of the scalar begins after a gap: outside flow, none begins left of the indentation
unfoldable pub next_word_starts : Bool → ℕ → Cursor → Result (Bool × Cursor) Refusal
next_word_starts in_flow indent s =
    if s.blank_so_far && not in_flow && nat_lt s.mark.col indent then Ok (false, s) else word_starts in_flow s

-- The comment that keeps a scalar outside flow from going on in the next line: one after a word on its line, or
-- after a tab in the indentation.
unfoldable pub comment_of : Bool → Bool → Cursor → Option Marker
comment_of in_flow tabbed s =
    if not in_flow && (slice_index s.rest 0 == number_sign) && (tabbed || not s.blank_so_far) then Some s.mark else None

-- what is read of a scalar: its text, the place after its last word, a comment that keeps it from going on, and what
-- comes after it
abbrev pub PlainScalarRead : Type 0
PlainScalarRead = Result (List ℕ × Marker × Option Marker × Cursor) Refusal

-- what contracts see of a scalar whose text was put behind another, and of the reader after it
abbrev pub seen_plain_end : PlainEnd → List ℕ → Cursor → List ℕ × Marker × Option Marker × Cursor
seen_plain_end scalar text s = (text, scalar.end, scalar.comment, s)

-- a text before what is read
abbrev pub with_text : List ℕ → PlainScalarRead → PlainScalarRead
with_text text read = read >>= λ x. Ok (text ++ x.0, x.1, x.2, x.3)

-- what is read of a scalar after its last word, which ended at `end`
abbrev pub scalar_end : Bool → Marker → PlainGap → PlainScalarRead
scalar_end in_flow end g = Ok ([], end, comment_of in_flow g.tabbed g.behind, g.behind)

-- how many characters of a text a gap has
abbrev pub gap_len : List ℕ → PlainGap → ℕ
gap_len xs g = length xs - length g.behind.rest

unfoldable mutual
  -- After a word that ended at `end`: so many characters of the gap g are still to be passed.
  pub word_behind_gap : Bool → ℕ → Marker → Marker → PlainGap → ℕ → List ℕ → PlainScalarRead
  word_behind_gap in_flow indent start end g left [] = scalar_end in_flow end g
  word_behind_gap in_flow indent start end g zero (c ∷ cs) = next_word_starts in_flow indent g.behind >>= λ b.
      if b.0 then with_text (g.text ++ encode_utf8 c) (word in_flow indent start (along g.behind.mark 1) cs)
      else scalar_end in_flow end g
  word_behind_gap in_flow indent start end g (suc left) (c ∷ cs) = word_behind_gap in_flow indent start end g left cs

  -- in a word that began before m
  pub word : Bool → ℕ → Marker → Marker → List ℕ → PlainScalarRead
  word in_flow indent start m [] = scalar_end in_flow m (record { text = []; tabbed = false; behind = mid_line m [] })
  word in_flow indent start m (c ∷ cs) =
      if is_in_word in_flow (c ∷ cs) then with_text (encode_utf8 c) (word in_flow indent start (along m 1) cs)
      else gap indent start (mid_line m (c ∷ cs)) >>= λ g.
      if gap_len (c ∷ cs) g == 0 then scalar_end in_flow m g else word_behind_gap in_flow indent start m g
      (pred (gap_len (c ∷ cs) g)) cs

-- What is read of a scalar behind a gap: its text has what the gap reads as at its end, and had so many bytes at the
-- end of the word before.
abbrev pub scalar_behind_gap : Bool → ℕ → Marker → ℕ → Marker → Bool → List ℕ → Cursor → PlainScalarRead
scalar_behind_gap in_flow indent start len end tabbed text s = next_word_starts in_flow indent s >>= λ b.
    if b.0 then with_text text (word in_flow indent start b.1.mark b.1.rest)
    else Ok (take len text, end, comment_of in_flow tabbed b.1, b.1)

-- A plain scalar: its text, the place after its last word, a comment that keeps it from going on, and what is
-- after it. `indent` is the first column to the right of the enclosing block collection.
unfoldable pub plain : Bool → ℕ → Cursor → PlainScalarRead
plain in_flow indent s = word_starts in_flow s >>= λ b.
    if b.0 then word in_flow indent s.mark b.1.mark b.1.rest
    else refuse_open (may_be_open b.1.rest) fault.PlainEnd s.mark

-- What a call that reads words of a scalar leaves: s is before them, inside a word, and t is where a word ends.
pub record PlainWordsMoved (in_flow : Bool) (text grown : List ℕ) (s t : Cursor) : Type 0 where
  pub same : (indent : ℕ) (start : Marker)
      → with_text grown (word in_flow indent start t.mark t.rest)
      ≡ with_text text (word in_flow indent start s.mark s.rest)
  pub on_line : t.blank_so_far ≡ false
  pub stops : is_in_word in_flow t.rest ≡ false
  pub shorter : is_in_word in_flow s.rest ≡ true → length t.rest < length s.rest
  pub within : length t.rest ≤ length s.rest
