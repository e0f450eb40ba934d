-- Which piece of a text is a block scalar, and what it stands for (YAML 1.2.2, 8.1), whatever its breaks are.
use Rattle.std.specs.Prelude.{◌≡◌, ◌≢◌, ℕ, zero, suc, ◌+◌, ◌-◌, ◌^◌, ◌<◌, ◌≤◌, min, max, Bool, true, ◌||◌, ◌==◌, ◌⊎◌, List, [], ◌∷◌, ◌++◌, map, length, slice_index, IsTrue, IsFalse, codes, encode_utf8_all}
use Rattle.saphyr_input.specs.Breaks.{normalized}
use Rattle.saphyr_input.specs.Classes.{is_break, is_yaml_non_break, is_z, line_feed, space, tab}
use Rattle.saphyr_input.specs.Places.{is_document_indicator}
use Rattle.saphyr_scalar.specs.declared.values.BlockStyle.{BlockStyle}
use Rattle.saphyr_scalar.specs.declared.values.Chomping.{Chomping}
use Rattle.saphyr_scalar.specs.declared.values.Chomping.TheVariants.{Strip, Clip, Keep}
use Rattle.saphyr_scalar.specs.declared.scalar.position.Marker.{Marker}
use Rattle.saphyr_scalar.specs.Views.Cursor.{Cursor}
use Rattle.saphyr_scalar.specs.Reading.BlockLines.{ending, HasLines}
use Rattle.saphyr_scalar.specs.Values.Block.{has_content, line_of, block_value}
use Rattle.saphyr_scalar.specs.Spelling.Directive.{IsLineTail}
use Rattle.saphyr_scalar.specs.Values.Lines.{ended_lines, last_line}
use Rattle.saphyr_scalar.specs.Passing.{IsPassed}
use Rattle.saphyr_scalar.specs.Spelling.Tag.{AreIn}

-- ## The header (8.1.1)

-- 8.1.1.1: a digit from 1 to 9, or none, which is told as 0
abbrev pub digit_of : ℕ → List ℕ
digit_of zero = []
digit_of (suc n) = (49 + n) ∷ []

-- 8.1.1.2
abbrev pub chomping_of : Chomping → List ℕ
chomping_of Strip = codes "-"
chomping_of Clip = []
chomping_of Keep = codes "+"

-- both indicators, in either order
abbrev pub AreIndicators : ℕ → Chomping → List ℕ → Type 0
AreIndicators n chomping t =
    (n ≤ 9) × ((t ≡ digit_of n ++ chomping_of chomping) ⊎ (t ≡ chomping_of chomping ++ digit_of n))

-- 5.4: a whole break, before a text
abbrev pub IsBreakBefore : List ℕ → List ℕ → Type 0
IsBreakBefore behind t = (t ≡ codes "\n") ⊎ (t ≡ codes "\r\n") ⊎ ((t ≡ codes "\r") × (slice_index behind 0 ≢ line_feed))

-- what ends a header's line: its break, after which no tab is, or nothing before a NUL or the end
abbrev pub EndsHeader : List ℕ → List ℕ → Type 0
EndsHeader behind t = (IsBreakBefore behind t × (slice_index behind 0 ≢ tab))
    ⊎ ((t ≡ []) × IsTrue (is_z (slice_index behind 0)))

-- a header's line: `|` or `>`, the indicators, blanks and after some a comment, and the line's end
abbrev pub IsHeaderLine : ℕ → Chomping → List ℕ → List ℕ → Type 0
IsHeaderLine n chomping behind t =
    (mark : ℕ) × (indicators : List ℕ) × (tail : List ℕ) × (end : List ℕ) × AreIndicators n chomping indicators
    × IsLineTail tail × EndsHeader behind end
    × (t ≡ mark ∷ (indicators ++ (tail ++ end)))

-- ## The indentation (8.1.1.1)

-- the lines of a text, of which the last one may lack a break
abbrev pub all_lines : List ℕ → List (List ℕ)
all_lines text = ended_lines text ++ last_line text ∷ []

abbrev pub widest : List (List ℕ) → ℕ
widest [] = 0
widest (line ∷ lines) = max (length line) (widest lines)

abbrev pub is_space_or_break : ℕ → Bool
is_space_or_break c = (c == space) || is_break c

-- what begins at a column isn't left of the widest line, unless it is left of the indentation that is asked
abbrev pub AreNotWider : ℕ → ℕ → ℕ → Type 0
AreNotWider indent column i = (i ≤ column) ⊎ (column < indent)

-- Where no digit gives it, the indentation is told by the lines of spaces up to the first other character, with which
-- the content begins: it is that of the widest of them, and at least `indent`, the first column to the right of the
-- enclosing block collection. None is wider than the line of the content, which has none where that character is left
-- of `indent`, or where a NUL or the end is.
abbrev pub IsFound : ℕ → List ℕ → ℕ → Type 0
IsFound indent behind i =
    (leading : List ℕ) × (others : List ℕ) × (behind ≡ leading ++ others) × AreIn is_space_or_break leading
    × IsFalse (is_space_or_break (slice_index others 0)) × (i ≡ max (widest (all_lines (normalized leading))) indent)
    × (IsTrue (is_z (slice_index others 0)) ⊎ AreNotWider indent (length (last_line (normalized leading))) i)

-- A digit counts from the column of that collection, up to the last number of 64 bits.
abbrev pub IsIndentationFrom : ℕ → ℕ → List ℕ → ℕ → Type 0
IsIndentationFrom indent zero behind i = IsFound indent behind i
IsIndentationFrom indent (suc n) behind i = i ≡ min (indent - 1 + suc n) (2 ^ 64 - 1)

-- ## The lines (8.1.2)

-- Inside the lines is no NUL and no byte order mark, and at the start of none a document marker.
abbrev pub AreInside : Bool → List ℕ → List ℕ → Type 0
AreInside starts [] behind = Unit {0}
AreInside starts (c ∷ cs) behind =
    IsTrue (is_break c || is_yaml_non_break c) × (IsTrue starts → IsFalse (is_document_indicator (c ∷ (cs ++ behind))))
    × AreInside (is_break c) cs behind

-- no line of a text is content
abbrev pub HasNoContent : ℕ → List ℕ → Type 0
HasNoContent i text = IsFalse (has_content (map (line_of i) (all_lines text)))

-- no more lines of indentation i: neither a space to the left of it, nor a break, nor content at it
pub record IsBehindLines (i : ℕ) (t : Cursor) : Type 0 where
  pub no_space : slice_index t.rest 0 ≡ space → i ≤ t.mark.col
  pub no_break : IsFalse (is_break (slice_index t.rest 0))
  pub no_content : t.mark.col ≡ i
      → IsFalse (is_yaml_non_break (slice_index t.rest 0)) ⊎ ((i ≡ 0) × IsTrue (is_document_indicator t.rest))
  pub whole_line : i < t.mark.col → IsFalse (is_yaml_non_break (slice_index t.rest 0))

-- ## The scalar

-- From s on there is a block scalar with this text: a header's line, and lines, up to t. Before the place `start`, on
-- the way, is no content: it is that of the header, or comes after its line.
pub record IsBlockText (style : BlockStyle) (indent : ℕ) (s : Cursor) (text : List ℕ) (start : Marker) (t : Cursor) :
    Type 0 where
  pub digit : ℕ
  pub chomping : Chomping
  pub first : List ℕ
  pub lines : List ℕ
  pub is : s.rest ≡ first ++ (lines ++ t.rest)
  pub begins : IsHeaderLine digit chomping (lines ++ t.rest) first
  pub indentation : ℕ
  pub indented : IsIndentationFrom indent digit (lines ++ t.rest) indentation
  pub shaped : HasLines indentation (normalized lines)
  pub inside : AreInside true lines t.rest
  pub ends : IsBehindLines indentation t
  pub value : text ≡ encode_utf8_all (block_value style chomping indentation (normalized lines) (ending t))
  pub before : List ℕ
  pub behind : List ℕ
  pub split : s.rest ≡ before ++ behind
  pub starts : IsPassed s.mark s.rest start behind
  pub goes_on : IsPassed start behind t.mark t.rest
  pub no_content : (before ≡ [])
      ⊎ ((empty : List ℕ) × (before ≡ first ++ empty) × HasNoContent indentation (normalized empty))
