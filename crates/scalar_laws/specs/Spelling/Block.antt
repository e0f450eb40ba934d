-- The spellings of block scalars (YAML 1.2.2, 8.1), in texts whose breaks are line feeds.
-- Each relation is between what is at a place and what comes after it.
use Rattle.std.specs.Prelude.{◌≡◌, ◌≢◌, ℕ, ◌+◌, ◌-◌, ◌^◌, ◌<◌, ◌≤◌, Ok, encode_utf8_all, Bool, true, false, List, [], ◌∷◌, ◌++◌, slice_index, ◌⊎◌}
use Rattle.saphyr_input.specs.Classes.{is_blank, is_yaml_non_break, is_z, carriage_return, line_feed, space, tab}
use Rattle.saphyr_input.specs.Places.{is_document_indicator}
use Rattle.saphyr_input.specs.Indicators.{hyphen, number_sign, plus_sign}
use Rattle.saphyr_scalar.specs.declared.values.Chomping.{Chomping}
use Rattle.saphyr_scalar.specs.declared.values.Chomping.TheVariants.{Strip, Clip, Keep}
use Rattle.saphyr_scalar.specs.declared.values.BlockStyle.{BlockStyle}
use Rattle.saphyr_scalar.specs.Spelling.Tag.{AreIn}
use Rattle.saphyr_scalar.specs.declared.scalar.position.Span.{Span}
use Rattle.saphyr_scalar.specs.Views.Cursor.{Cursor}
use Rattle.saphyr_scalar.specs.Values.Block.{Line, Empty, Content, has_content, lines_value}
use Rattle.saphyr_scalar.specs.Reading.BlockLines.{spaces}
use Rattle.saphyr_scalar.specs.Steps.Block.{block_scalar}

-- 8.1.1.1 [163]: a digit from 1 to 9, or none, which is told as 0
pub data IsIndicator : ℕ → List ℕ → List ℕ → Type 0 where
  no_digit : (x : List ℕ) → IsIndicator 0 x x
  digit : (d : ℕ) (x : List ℕ) → 1 ≤ d → d ≤ 9 → IsIndicator d ((48 + d) ∷ x) x

-- 8.1.1.2 [164]: a chomping indicator, or none
pub data IsChomping : Chomping → List ℕ → List ℕ → Type 0 where
  strip : (x : List ℕ) → IsChomping Strip (hyphen ∷ x) x
  clip : (x : List ℕ) → IsChomping Clip x x
  keep : (x : List ℕ) → IsChomping Keep (plus_sign ∷ x) x

-- 6.6 [77]: blanks, and after some blanks a comment, up to a line feed or to the text's end
pub data IsHeaderEnd : List ℕ → List ℕ → Type 0 where
  no_comment : (blanks x : List ℕ) → AreIn is_blank blanks → IsHeaderEnd (blanks ++ (line_feed ∷ x)) x
  comment : (blank : ℕ) (blanks text x : List ℕ) → AreIn is_blank (blank ∷ blanks) → AreIn is_yaml_non_break text
      → IsHeaderEnd ((blank ∷ blanks) ++ (number_sign ∷ (text ++ (line_feed ∷ x)))) x
  no_comment_at_end : (blanks : List ℕ) → AreIn is_blank blanks → IsHeaderEnd blanks []
  comment_at_end : (blank : ℕ) (blanks text : List ℕ) → AreIn is_blank (blank ∷ blanks) → AreIn is_yaml_non_break text
      → IsHeaderEnd ((blank ∷ blanks) ++ (number_sign ∷ text)) []

-- a line's content: characters that are no breaks, at column 0 none that begin a document marker
pub record IsContent (i : ℕ) (c : ℕ) (cs x : List ℕ) : Type 0 where
  pub all : AreIn is_yaml_non_break (c ∷ cs)
  pub no_marker : i ≡ 0 → is_document_indicator ((c ∷ cs) ++ x) ≡ false

-- 8.1.2, 8.1.3 [171] to [173], [175] to [182]: lines, each empty or content after the indentation i; the last one may
-- lack a break at the text's end. Spaces alone are then an empty line where they reach the indentation, and none left
-- of it.
pub data AreLines (i : ℕ) (x : List ℕ) : List Line → List ℕ → Type 0 where
  no_lines : AreLines i x [] x
  empty : (j : ℕ) (ls : List Line) (t : List ℕ) → j ≤ i → AreLines i x ls t
      → AreLines i x (Empty ∷ ls) (spaces j ++ (line_feed ∷ t))
  content : (c : ℕ) (cs : List ℕ) (ls : List Line) (t : List ℕ) → IsContent i c cs (line_feed ∷ t) → AreLines i x ls t
      → AreLines i x (Content (c ∷ cs) ∷ ls) (spaces i ++ (c ∷ (cs ++ (line_feed ∷ t))))
  last : (c : ℕ) (cs : List ℕ) → IsContent i c cs [] → x ≡ []
      → AreLines i x (Content (c ∷ cs) ∷ []) (spaces i ++ (c ∷ cs))
  last_empty : 1 ≤ i → x ≡ [] → AreLines i x (Empty ∷ []) (spaces i)
  left_of : (j : ℕ) → j < i → x ≡ [] → AreLines i x [] (spaces j)

-- what ends the lines: n spaces, and after them no more of the indentation and no line
pub record IsBehind (i n : ℕ) (x others : List ℕ) : Type 0 where
  pub is : x ≡ spaces n ++ others
  pub within : n ≤ i
  pub finished : is_z (slice_index others 0) ≡ true → n ≡ 0
  pub no_space : n < i → slice_index others 0 ≢ space
  pub no_break : slice_index others 0 ≢ line_feed
  pub no_return : slice_index others 0 ≢ carriage_return
  pub no_content : n ≡ i → (is_yaml_non_break (slice_index others 0) ≡ false)
      ⊎ ((i ≡ 0) × (is_document_indicator others ≡ true))

-- 8.1.1.1, 8.1.2, 8.1.3 [171], [173], [182]: a text with a content line, after empty ones or none; where no indicator
-- gives the indentation, its content begins with no space
pub data IsBody (i : ℕ) (given : Bool) (x : List ℕ) : List Line → List ℕ → Type 0 where
  leading : (j : ℕ) (ls : List Line) (t : List ℕ) → j ≤ i → IsBody i given x ls t
      → IsBody i given x (Empty ∷ ls) (spaces j ++ (line_feed ∷ t))
  first : (c : ℕ) (cs : List ℕ) (ls : List Line) (t : List ℕ) → (given ≡ false → c ≢ space)
      → IsContent i c cs (line_feed ∷ t) → AreLines i x ls t
      → IsBody i given x (Content (c ∷ cs) ∷ ls) (spaces i ++ (c ∷ (cs ++ (line_feed ∷ t))))
  first_and_last : (c : ℕ) (cs : List ℕ) → (given ≡ false → c ≢ space) → IsContent i c cs [] → x ≡ []
      → IsBody i given x (Content (c ∷ cs) ∷ []) (spaces i ++ (c ∷ cs))

-- 8.1.1.2 [166] to [168]: empty lines; at the text's end spaces may come after them, which are no line
pub data AreEmptyLines (i : ℕ) (x : List ℕ) : List Line → List ℕ → Type 0 where
  no_empty_lines : AreEmptyLines i x [] x
  empty_line : (j : ℕ) (ls : List Line) (t : List ℕ) → j ≤ i → AreEmptyLines i x ls t
      → AreEmptyLines i x (Empty ∷ ls) (spaces j ++ (line_feed ∷ t))
  empty_line_and_spaces : (j k : ℕ) → j ≤ i → k ≤ i → x ≡ []
      → AreEmptyLines i x (Empty ∷ []) (spaces j ++ (line_feed ∷ spaces k))

-- 8.1.1.1, 8.1.1.2 [166] to [169]: a text without content: empty lines or none, or at the text's end spaces alone,
-- which are one. A line after it begins left of `indent`, after n spaces, or the indentation is 0, where a document
-- marker is no content.
pub data IsEmptyBody (indent i n : ℕ) (x : List ℕ) : List Line → List ℕ → Type 0 where
  empty_lines : (ls : List Line) (t : List ℕ) → AreEmptyLines i x ls t → (n < indent) ⊎ ((i ≡ 0) ⊎ (x ≡ []))
      → IsEmptyBody indent i n x ls t
  spaces_alone : (j : ℕ) → 1 ≤ j → j ≤ i → x ≡ [] → IsEmptyBody indent i n x (Empty ∷ []) (spaces j)

-- 8.1.1 [162]: a header, with its line; its indicators are in either order
pub data IsHeader (n : ℕ) (chomping : Chomping) (x : List ℕ) : List ℕ → Type 0 where
  digit_first : (mark : ℕ) (a b d : List ℕ) → IsIndicator n a b → IsChomping chomping b d → IsHeaderEnd d x
      → IsHeader n chomping x (mark ∷ a)
  chomping_first : (mark : ℕ) (a b d : List ℕ) → IsChomping chomping a b → IsIndicator n b d → IsHeaderEnd d x
      → IsHeader n chomping x (mark ∷ a)

-- 8.1.1.1 [163]: the indentation i counts from that of the enclosing block collection where a digit gives it. `indent`
-- is the first column to the right of that collection.
pub data IsIndentation (indent i : ℕ) : ℕ → Bool → Type 0 where
  found : indent ≤ i → IsIndentation indent i 0 false
  given : (d : ℕ) → 1 ≤ d → i ≡ indent - 1 + d → i < 2 ^ 64 → IsIndentation indent i d true

-- A scalar comes before what ends it: n spaces, and others after them.
pub record IsBlockScalar (indent i n : ℕ) (chomping : Chomping) (ls : List Line) (t body others : List ℕ) : Type 0 where
  pub digit : ℕ
  pub is_given : Bool
  pub behind : List ℕ
  pub header : IsHeader digit chomping body t
  pub no_tab : slice_index body 0 ≢ tab
  pub indentation : IsIndentation indent i digit is_given
  pub lines : IsBody i is_given behind ls body ⊎ IsEmptyBody indent i n behind ls body
  pub ends : IsBehind i n behind others

-- It was read from s: its lines, and the spaces of what ends them, are taken off. Its span starts after the
-- indentation of the first content line, where it has one, and ends where reading did.
pub record IsTaken (style : BlockStyle) (indent i n : ℕ) (chomping : Chomping) (ls : List Line) (s : Cursor)
    (body others : List ℕ) : Type 0 where
  pub text : List ℕ
  pub span : Span
  pub left : Cursor
  pub front : List ℕ
  pub read : block_scalar style indent s ≡ Ok (text, span, left)
  pub rest : left.rest ≡ others
  pub column : (left.mark.col ≡ n) ⊎ (others ≡ [])
  pub start : has_content ls ≡ true → span.start.col ≡ i
  pub end : span.end ≡ left.mark
  pub taken : body ≡ front ++ others
  pub value : text ≡ encode_utf8_all (lines_value style chomping true ls)
