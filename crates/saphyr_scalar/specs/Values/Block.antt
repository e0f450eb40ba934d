-- The reading of block scalars (YAML 1.2.2, 8.1), over the text after the header's line. Its breaks are normalized.
use Rattle.std.specs.Prelude.{ℕ, zero, suc, ◌+◌, Bool, true, false, nat_le, not, ◌&&◌, ◌||◌, ◌==◌, if◌then◌else◌, List, [], ◌∷◌, ◌++◌, map, drop, length, slice_index}
use Rattle.std.specs.List.{list_all}
use Rattle.saphyr_input.specs.Classes.{line_feed, space, is_blank}
use Rattle.saphyr_scalar.specs.Values.Folding.{line_feeds, raw_break}
pub use Rattle.saphyr_scalar.specs.Values.Lines.{ended_lines, last_line}
use Rattle.saphyr_scalar.specs.declared.values.BlockStyle.{BlockStyle}
use Rattle.saphyr_scalar.specs.declared.values.BlockStyle.TheVariants.{Literal, Folded}
use Rattle.saphyr_scalar.specs.declared.values.Chomping.{Chomping}
use Rattle.saphyr_scalar.specs.declared.values.Chomping.TheVariants.{Strip, Clip, Keep}
use Rattle.saphyr_scalar.specs.declared.values.Ending.{Ending}
use Rattle.saphyr_scalar.specs.declared.values.Ending.TheVariants.{AtEnd, AtMark}

-- A line of a block scalar: empty, or content, which is told without its indentation. (A content line has that many
-- spaces before it, or more.)
pub data Line : Type 0 where
  Empty : Line
  Content : List ℕ → Line

-- a line of spaces alone, at most as many as the indentation
abbrev pub is_empty_line : ℕ → List ℕ → Bool
is_empty_line indentation line = nat_le (length line) indentation && list_all (λ c. c == space) line

abbrev pub line_of : ℕ → List ℕ → Line
line_of indentation line = if is_empty_line indentation line then Empty else Content (drop indentation line)

abbrev pub has_content : List Line → Bool
has_content [] = false
has_content (Empty ∷ lines) = has_content lines
has_content (Content text ∷ lines) = true

-- 8.1.3: a content line that begins with white space, after the indentation
abbrev pub is_more_indented : List ℕ → Bool
is_more_indented text = is_blank (slice_index text 0)

-- The break between two content lines that have only empty lines between them. In literal style (8.1.2) each break
-- stays, and in folded style (8.1.3) they are folded unless one of the lines is more indented.
abbrev pub break_between : BlockStyle → List ℕ → ℕ → List ℕ → List ℕ
break_between Literal above empty_lines below = line_feeds (empty_lines + 1)
break_between Folded above empty_lines below =
    if is_more_indented above || is_more_indented below then line_feeds (empty_lines + 1) else raw_break empty_lines

-- what the lines read as after the content line `above` and some empty lines, up to the last content
abbrev pub contents_behind : BlockStyle → List ℕ → ℕ → List Line → List ℕ
contents_behind style above empty_lines [] = []
contents_behind style above empty_lines (Empty ∷ lines) = contents_behind style above (suc empty_lines) lines
contents_behind style above empty_lines (Content below ∷ lines) =
    break_between style above empty_lines below ++ (below ++ contents_behind style below zero lines)

-- what the lines read as up to the last content: a line feed for each empty line before the first, and the contents
abbrev pub contents : BlockStyle → List Line → List ℕ
contents style [] = []
contents style (Empty ∷ lines) = line_feed ∷ contents style lines
contents style (Content first ∷ lines) = first ++ contents_behind style first zero lines

-- how many empty lines end the lines, of which some come before them
abbrev pub empty_at_end : ℕ → List Line → ℕ
empty_at_end before [] = before
empty_at_end before (Empty ∷ lines) = empty_at_end (suc before) lines
empty_at_end before (Content text ∷ lines) = empty_at_end zero lines

-- 8.1.1.2: what stays of the break of the last content line, which may lack one, and of the empty lines after it
abbrev pub chomped : Chomping → Bool → ℕ → List ℕ
chomped Strip broken empty_lines = []
chomped Clip broken empty_lines = if broken then line_feed ∷ [] else []
chomped Keep broken empty_lines = (if broken then line_feed ∷ [] else []) ++ line_feeds empty_lines

-- 8.1.1.2: without content, empty lines stay under Keep alone
abbrev pub chomped_alone : Chomping → ℕ → List ℕ
chomped_alone Strip empty_lines = []
chomped_alone Clip empty_lines = []
chomped_alone Keep empty_lines = line_feeds empty_lines

-- what the lines read as, where the last content line has a break or lacks one
abbrev pub lines_value : BlockStyle → Chomping → Bool → List Line → List ℕ
lines_value style chomping broken lines =
    if has_content lines then contents style lines ++ chomped chomping broken (empty_at_end zero lines)
    else chomped_alone chomping (length lines)

abbrev pub is_at_end : Ending → Bool
is_at_end AtEnd = true
is_at_end AtMark = false

-- Whether the last line, which no break ends, counts. One of spaces, at most as many as the indentation, counts at the
-- end alone, and only where it has a space: after content where it reaches the indentation, and without content where
-- it is alone after the header's line.
abbrev pub is_counted : ℕ → List Line → List ℕ → Ending → Bool
is_counted indentation lines last ending =
    if is_empty_line indentation last then
    is_at_end ending && not (length last == 0)
    && (if has_content lines then length last == indentation else length lines == 0)
    else true

-- whether the last content line is broken: one that is cut by the end counts as broken, and one that is cut by a mark
-- does not
abbrev pub is_broken : ℕ → List ℕ → Ending → Bool
is_broken indentation last ending = is_empty_line indentation last || is_at_end ending

-- the lines of a text that breaks end
abbrev pub lines_of : ℕ → List ℕ → List Line
lines_of indentation text = map (line_of indentation) (ended_lines text)

-- the lines that count: those that breaks end, and the last one where it counts
abbrev pub counted_lines : ℕ → List ℕ → Ending → List Line
counted_lines indentation text ending =
    lines_of indentation text
    ++ (if is_counted indentation (lines_of indentation text) (last_line text) ending then line_of indentation
    (last_line text) ∷ [] else [])

-- the value of a block scalar, from the text after its header's line
abbrev pub block_value : BlockStyle → Chomping → ℕ → List ℕ → Ending → List ℕ
block_value style chomping indentation text ending =
    lines_value style chomping (is_broken indentation (last_line text) ending) (counted_lines indentation text ending)
