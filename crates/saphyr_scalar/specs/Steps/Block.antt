-- Block scalars (YAML 1.2.2, 8.1), from their header on, in the steps in which they are read.
use Rattle.std.specs.Prelude.{ℕ, ◌+◌, ◌-◌, ◌^◌, min, max, Bool, true, false, ◌||◌, ◌&&◌, ◌==◌, not, nat_lt, nat_le, List, [], ◌∷◌, ◌++◌, slice_index, Option, Some, None, is_some, unwrap_or, Result, Ok, if◌then◌else◌, encode_utf8_all, string_bytes}
use Rattle.saphyr_input.specs.Classes.{is_z, is_break, is_breakz, is_blank, is_digit, is_yaml_non_break, line_feed, carriage_return, space, tab}
use Rattle.saphyr_input.specs.Places.{is_document_indicator}
use Rattle.saphyr_input.specs.declared.input.SkipTabs.TheVariants.{Yes}
use Rattle.saphyr_input.specs.Indicators.{hyphen, plus_sign}
use Rattle.saphyr_scalar.specs.declared.values.BlockStyle.{BlockStyle}
use Rattle.saphyr_scalar.specs.declared.values.BlockStyle.TheVariants.{Literal, Folded}
use Rattle.saphyr_scalar.specs.declared.values.Chomping.{Chomping}
use Rattle.saphyr_scalar.specs.declared.values.Chomping.TheVariants.{Strip, Clip, Keep}
use Rattle.saphyr_scalar.specs.declared.scalar.position.Marker.{Marker}
use Rattle.saphyr_scalar.specs.declared.scalar.position.Span.{Span}
use Rattle.saphyr_scalar.specs.declared.scalar.fault.Refusal.{Refusal}
use Rattle.saphyr_scalar.specs.declared.scalar.fault.FaultText.TheVariants as fault
use Rattle.saphyr_scalar.specs.declared.scalar.block.BlockScalar.{BlockScalar}
use Rattle.saphyr_scalar.specs.declared.scalar.block.header.BlockHeader.{BlockHeader}
use Rattle.saphyr_scalar.specs.declared.scalar.block.lines.EmptyLines.{EmptyLines}
use Rattle.saphyr_scalar.specs.declared.scalar.block.breaks.BlockEnd.{BlockEnd}
use Rattle.saphyr_scalar.specs.Views.Cursor.{Cursor, ◌>>=◌, refuse, along, next_line, pass, pass_break, separation}
use Rattle.saphyr_scalar.specs.Values.Folding.{line_feeds, raw_break}

-- 8.1.1.2: the chomping indicator at the front, if there is one, and what comes after it
unfoldable pub chomping : Cursor → Option Chomping × Cursor
chomping s =
    if slice_index s.rest 0 == plus_sign then (Some Keep, pass 1 s)
    else if slice_index s.rest 0 == hyphen then (Some Strip, pass 1 s)
    else (None, s)

-- 8.1.1.1: the indentation indicator at the front, 0 if there is none
unfoldable pub indicator : Marker → Cursor → Result (ℕ × Cursor) Refusal
indicator start s =
    if not (is_digit (slice_index s.rest 0)) then Ok (0, s)
    else if slice_index s.rest 0 == 48 then refuse fault.BlockScalarIndicatorZero start
    else Ok (slice_index s.rest 0 - 48, pass 1 s)

-- the break of a header's line, after which no tab comes
unfoldable pub header_break : Marker → Cursor → Result Cursor Refusal
header_break start s =
    if not (is_breakz (slice_index s.rest 0)) then refuse fault.BlockScalarHeaderEndExpected start
    else if slice_index (pass_break s).rest 0 == tab then refuse fault.BlockScalarTabFirst start
    else Ok (pass_break s)

-- the end of a header's line: white space, a comment and the break
unfoldable pub header_end : Marker → Cursor → Result Cursor Refusal
header_end start s = separation Yes s >>= λ x. header_break start x.1

-- the chomping after an indentation indicator, where none was before it: the last break stays without an indicator
unfoldable pub last_chomping : Option Chomping → Cursor → Chomping × Cursor
last_chomping (Some first) s = (first, s)
last_chomping None s = (unwrap_or (chomping s).0 Clip, (chomping s).1)

-- a header, under a name that crates above may use
abbrev pub BlockHeaderRead : Type 0
BlockHeaderRead = BlockHeader

unfoldable pub header_behind : Marker → ℕ → Chomping × Cursor → Result (BlockHeader × Cursor) Refusal
header_behind start n x = header_end start x.1 >>= λ s. Ok (record { chomping = x.0; indicator = n }, s)

-- 8.1.1: a header, from its `|` or `>` on, with its line
unfoldable pub header : Cursor → Result (BlockHeader × Cursor) Refusal
header s = indicator s.mark (chomping (pass 1 s)).1 >>= λ x. header_behind s.mark x.0
    (last_chomping (chomping (pass 1 s)).0 x.1)

-- the place in the text cs, and whether only blanks come before it on its line
abbrev pub line_cursor : Bool → Marker → List ℕ → Cursor
line_cursor b m cs = record { rest = cs; mark = m; blank_so_far = b }

-- whether a space at a column belongs to the indentation, which may have a limit
abbrev pub is_indentation : Option ℕ → ℕ → ℕ → Bool
is_indentation None col c = c == space
is_indentation (Some limit) col c = (c == space) && nat_lt col limit

-- how many spaces from a column on belong to the indentation, which may have a limit
abbrev pub indentation_left : Option ℕ → ℕ → ℕ
indentation_left None col = 2 ^ 64 - 1
indentation_left (Some limit) col = limit - col

-- a CR before an LF, which is one break with it
abbrev pub is_cr_lf : ℕ → List ℕ → Bool
is_cr_lf c cs = (c == carriage_return) && (slice_index cs 0 == line_feed)

-- between the two characters of a break
abbrev pub inside_break : Marker → Marker
inside_break m = record { index = m.index + 1; line = m.line; col = m.col }

-- how many empty lines there are and the widest of them, under a name that crates above may use
abbrev pub EmptyLinesRead : Type 0
EmptyLinesRead = EmptyLines

-- empty lines, and after them a line's spaces up to a column, where the widest of all is kept
abbrev pub with_column : EmptyLines → ℕ → EmptyLines
with_column lines col = record { count = lines.count; widest = max lines.widest col }

-- one empty line more, with spaces up to a column
abbrev pub with_empty_line : EmptyLines → ℕ → EmptyLines
with_empty_line lines col = record { count = lines.count + 1; widest = max lines.widest col }

-- Empty lines, which have spaces alone, and the indentation after them. Some were met before.
unfoldable pub pass_empty_lines : Option ℕ → EmptyLines → Bool → Marker → List ℕ → EmptyLines × Cursor
pass_empty_lines limit lines b m [] = (with_column lines m.col, line_cursor b m [])
pass_empty_lines limit lines b m (c ∷ cs) =
    if is_indentation limit m.col c then pass_empty_lines limit lines b (along m 1) cs
    else if is_cr_lf c cs then pass_empty_lines limit lines b (inside_break m) cs
    else if is_break c then pass_empty_lines limit (with_empty_line lines m.col) true (next_line m 1) cs
    else (with_column lines m.col, line_cursor b m (c ∷ cs))

abbrev pub pass_empty_lines_at : Option ℕ → EmptyLines → Cursor → EmptyLines × Cursor
pass_empty_lines_at limit lines s = pass_empty_lines limit lines s.blank_so_far s.mark s.rest

-- whether a content line begins at a column: in column 0 no document marker does
unfoldable pub line_starts : ℕ → ℕ → List ℕ → Bool
line_starts indentation col xs =
    (col == indentation) && is_yaml_non_break (slice_index xs 0) && not ((indentation == 0) && is_document_indicator xs)

-- The breaks before a content line, by whether it and the content line above, where there is one, are more indented.
-- (See `break_between` of the readings.)
abbrev pub break_before : BlockStyle → Option Bool → ℕ → Bool → List ℕ
break_before style None lines below = line_feeds lines
break_before Literal (Some above) lines below = line_feeds (lines + 1)
break_before Folded (Some above) lines below = if above || below then line_feeds (lines + 1) else raw_break lines

-- what is read of the lines: the text up to the last content, the breaks after it, and what comes after these
abbrev pub LinesRead : Type 0
LinesRead = List ℕ × BlockEnd × Cursor

abbrev pub lines_behind_text : List ℕ → LinesRead → LinesRead
lines_behind_text text read = (text ++ read.0, read.1, read.2)

abbrev pub lines_ended : Bool → ℕ → Cursor → LinesRead
lines_ended broken lines s = ([], record { broken = broken; empty_lines = lines }, s)

-- The content lines. `between` is in the indentation of a line, after the content line `above`, if there is one,
-- and some empty lines; `line` is inside the content of a line that is more indented or not.
unfoldable mutual
  pub between : BlockStyle → ℕ → Option Bool → ℕ → Bool → Marker → List ℕ → LinesRead
  between style i above lines b m [] = lines_ended (is_some above) lines (line_cursor b m [])
  between style i above lines b m (c ∷ cs) =
      if is_indentation (Some i) m.col c then between style i above lines b (along m 1) cs
      else if is_cr_lf c cs then between style i above lines b (inside_break m) cs
      else if is_break c then between style i above (lines + 1) true (next_line m 1) cs
      else if line_starts i m.col (c ∷ cs) then
      lines_behind_text (break_before style above lines (is_blank c) ++ c ∷ [])
      (line style i (is_blank c) b (along m 1) cs)
      else lines_ended (is_some above) lines (line_cursor b m (c ∷ cs))

  pub line : BlockStyle → ℕ → Bool → Bool → Marker → List ℕ → LinesRead
  line style i more b m [] = lines_ended false 0 (line_cursor b m [])
  line style i more b m (c ∷ cs) =
      if is_yaml_non_break c then lines_behind_text (c ∷ []) (line style i more b (along m 1) cs)
      else if is_cr_lf c cs then line style i more b (inside_break m) cs
      else if is_break c then between style i (Some more) 0 true (next_line m 1) cs
      else lines_ended false 0 (line_cursor b m (c ∷ cs))

abbrev pub between_at : BlockStyle → ℕ → Option Bool → ℕ → Cursor → LinesRead
between_at style i above lines s = between style i above lines s.blank_so_far s.mark s.rest

-- the lines after a text
abbrev pub with_lines : List ℕ → LinesRead → List ℕ × BlockEnd × Cursor
with_lines text read = (text ++ encode_utf8_all read.0, read.1, read.2)

-- the lines after a text, from the first on, after some empty lines
abbrev pub lines_onto : BlockStyle → ℕ → ℕ → List ℕ → Cursor → Result (List ℕ × BlockEnd × Cursor) Refusal
lines_onto style i leading text s = Ok (with_lines text (between_at style i None leading s))

-- what contracts see of the lines after a text and of the reader after them
abbrev pub seen_lines : BlockEnd → List ℕ → Cursor → List ℕ × BlockEnd × Cursor
seen_lines end text s = (text, end, s)

-- 8.1.1.2: what stays of the breaks after the last content. The last line may lack a break and count as if it had one.
abbrev pub tail : Chomping → Bool → BlockEnd → List ℕ
tail Strip unfinished end = []
tail Clip unfinished end = if end.broken || unfinished then line_feeds 1 else []
tail Keep unfinished end =
    (if end.broken then line_feeds 1 else []) ++ (if unfinished then line_feeds 1 else []) ++ line_feeds end.empty_lines

-- The text's end or a NUL is at the indentation of a line or after it, so that it cuts the last line.
unfoldable pub is_unfinished : ℕ → Cursor → Bool
is_unfinished i s = is_z (slice_index s.rest 0) && nat_le (max i 1) s.mark.col

-- the breaks that stay where there is no content: a last line of spaces that no break ends counts alone
unfoldable pub tail_alone : Chomping → ℕ → Cursor → List ℕ
tail_alone Strip lines s = []
tail_alone Clip lines s = []
tail_alone Keep lines s =
    if (lines == 0) && s.blank_so_far && nat_lt 0 s.mark.col then line_feeds 1 else line_feeds lines

-- the indentation that an indicator gives, in columns: it counts from that of the enclosing block collection
unfoldable pub given_indentation : ℕ → ℕ → Option ℕ
given_indentation indent n = if n == 0 then None else Some (min (indent - 1 + n) (2 ^ 64 - 1))

-- what is read of a scalar: its text, its span, and what comes after it
abbrev pub BlockScalarRead : Type 0
BlockScalarRead = Result (List ℕ × Span × Cursor) Refusal

-- what contracts see of a scalar and of the reader after it
abbrev pub seen_block_scalar : BlockScalar → Cursor → List ℕ × Span × Cursor
seen_block_scalar scalar s = (string_bytes scalar.text, scalar.span, s)

unfoldable pub chomped_lines : Chomping → ℕ → Marker → LinesRead → BlockScalarRead
chomped_lines c i start x =
    Ok (encode_utf8_all (x.0 ++ tail c (is_unfinished i x.2) x.1), record { start = start; end = x.2.mark }, x.2)

abbrev pub content_lines : BlockStyle → Chomping → ℕ → ℕ → Cursor → BlockScalarRead
content_lines style c i lines s = chomped_lines c i s.mark (between_at style i None lines s)

-- the content lines, from the first on, after some empty lines
unfoldable pub content : BlockStyle → Chomping → ℕ → ℕ → ℕ → Cursor → BlockScalarRead
content style c indent i lines s =
    if nat_lt s.mark.col i && nat_le indent s.mark.col then refuse fault.BlockScalarLineIndentation s.mark
    else content_lines style c i lines s

-- what comes after the leading empty lines
unfoldable pub behind_leading_lines : BlockStyle → ℕ → Marker → Chomping → Option ℕ → EmptyLines × Cursor
    → BlockScalarRead
behind_leading_lines style indent start c limit x =
    if is_z (slice_index x.1.rest 0) then
    Ok (encode_utf8_all (tail_alone c x.0.count x.1), record { start = start; end = x.1.mark }, x.1)
    else content style c indent (unwrap_or limit (max x.0.widest indent)) x.0.count x.1

-- no empty lines
abbrev pub no_lines : EmptyLines
no_lines = record { count = 0; widest = 0 }

unfoldable pub behind_header : BlockStyle → ℕ → Marker → BlockHeader × Cursor → BlockScalarRead
behind_header style indent start x =
    behind_leading_lines style indent start x.0.chomping (given_indentation indent x.0.indicator)
    (pass_empty_lines_at (given_indentation indent x.0.indicator) no_lines x.1)

-- A block scalar, from its `|` or `>` on: its text, its span, and what comes after it.
-- `indent` is the first column to the right of the enclosing block collection.
unfoldable pub block_scalar : BlockStyle → ℕ → Cursor → BlockScalarRead
block_scalar style indent s = header s >>= behind_header style indent s.mark
