-- How plain scalars are spelled (YAML 1.2.2, 7.3.3), and what may come after them.
use Rattle.std.specs.Prelude.{◌≡◌, ◌≢◌, ℕ, ◌+◌, ◌<◌, ◌≤◌, Bool, true, false, ◌||◌, ◌&&◌, ◌==◌, not, nat_lt, List, [], ◌∷◌, ◌++◌, length, drop, slice_index, IsTrue, IsFalse, ◌⊎◌, if◌then◌else◌}
use Rattle.std.specs.List.{prefix_len}
use Rattle.saphyr_input.specs.Classes.{is_blank, is_break, is_blank_or_breakz, is_flow, is_bom, is_z, tab}
use Rattle.saphyr_input.specs.Places.{is_blank_or_break, is_document_indicator}
use Rattle.saphyr_input.specs.Indicators.{colon, hyphen, number_sign}
use Rattle.saphyr_scalar.specs.Spelling.Tag.{AreIn}
use Rattle.saphyr_scalar.specs.declared.scalar.position.Marker.{Marker}
use Rattle.saphyr_scalar.specs.Views.Cursor.{Cursor, along, next_line}
use Rattle.saphyr_scalar.specs.Spelling.LineBreaks.{ends_line}
use Rattle.saphyr_scalar.specs.Steps.Plain.{is_in_word}
use Rattle.saphyr_scalar.specs.Reading.Plain.{end_of_text}

-- the characters after the blanks
abbrev pub behind_blanks : List ℕ → List ℕ
behind_blanks xs = drop (prefix_len is_blank xs) xs

-- what comes after the blanks and breaks at a place
abbrev pub past_white : Marker → Bool → List ℕ → Cursor
past_white m blank_so_far [] = record { rest = []; mark = m; blank_so_far = blank_so_far }
past_white m blank_so_far (c ∷ cs) =
    if is_blank_or_break c then past_white (if ends_line c cs then next_line m 1 else along m 1)
    (blank_so_far || is_break c) cs
    else record { rest = c ∷ cs; mark = m; blank_so_far = blank_so_far }

-- Whether a tab is left of the indentation on the line that is reached after the blanks and breaks at the front,
-- from the column on. `tabbed` tells that one comes before them on their line.
abbrev pub reaches_tabbed : ℕ → ℕ → Bool → List ℕ → Bool
reaches_tabbed indent col tabbed [] = tabbed
reaches_tabbed indent col tabbed (c ∷ cs) =
    if is_blank_or_break c then reaches_tabbed indent (if ends_line c cs then 0 else col + 1)
    (is_blank c && (tabbed || ((c == tab) && nat_lt col indent))) cs
    else tabbed

-- the same after a word, of the lines after its own
abbrev pub is_tabbed : ℕ → List ℕ → Bool
is_tabbed indent xs = reaches_tabbed indent 0 false (behind_blanks xs)

-- After a tab in the indentation a comment may be, or the text's end.
abbrev pub stands_behind_tab : List ℕ → Bool
stands_behind_tab xs = (slice_index xs 0 == number_sign) || is_z (slice_index xs 0)

-- no word goes on, a comment or a document marker is, or outside flow content left of the scalar's indentation
abbrev pub StopsPlain : Bool → ℕ → Cursor → Type 0
StopsPlain in_flow indent s =
    (is_in_word in_flow s.rest ≡ false)
    ⊎ ((slice_index s.rest 0 ≡ number_sign)
    ⊎ (((s.mark.col ≡ 0) × IsTrue (is_document_indicator s.rest))
    ⊎ ((in_flow ≡ false) × IsTrue s.blank_so_far × (s.mark.col < indent))))

-- What may come after the last word of a scalar, which ends at `end`: blanks and breaks, and then what ends the
-- scalar. Where a tab is in the indentation of the line of that, it is a comment or the text's end.
pub record EndsPlain (in_flow : Bool) (indent : ℕ) (end : Marker) (xs : List ℕ) : Type 0 where
  pub stops : StopsPlain in_flow indent (past_white end false xs)
  pub apart : slice_index xs 0 ≢ number_sign
  pub tabs : IsFalse (is_tabbed indent xs) ⊎ IsTrue (stands_behind_tab (past_white end false xs).rest)

-- Plain scalars of several words and lines.

-- a character of a word: no blank, break, NUL or byte order mark, and inside flow no flow indicator
abbrev pub is_plain_safe : Bool → ℕ → Bool
is_plain_safe in_flow c = not (is_blank_or_breakz c) && not (is_bom c) && not (in_flow && is_flow c)

-- the characters of a word, of which the last is no colon
abbrev pub ArePlainSafe : Bool → List ℕ → Type 0
ArePlainSafe in_flow [] = Unit {0}
ArePlainSafe in_flow (c ∷ cs) = IsTrue (is_plain_safe in_flow c) × (c ≡ colon → cs ≢ []) × ArePlainSafe in_flow cs

-- a word begins with no `#`, and inside flow it is no lone `-`
pub record IsWordIn (in_flow : Bool) (w : List ℕ) : Type 0 where
  pub some : w ≢ []
  pub safe : ArePlainSafe in_flow w
  pub no_comment : slice_index w 0 ≢ number_sign
  pub no_lone_dash : in_flow ≡ true → w ≢ hyphen ∷ []

-- the same before what comes after the word: a colon comes before a character of a word
abbrev pub AreSafeBefore : Bool → List ℕ → List ℕ → Type 0
AreSafeBefore in_flow [] behind = Unit {0}
AreSafeBefore in_flow (c ∷ cs) behind =
    IsTrue (is_plain_safe in_flow c) × (c ≡ colon → IsTrue (is_plain_safe in_flow (slice_index (cs ++ behind) 0)))
    × AreSafeBefore in_flow cs behind

-- a word before what comes after it: its last character may be a colon, and inside flow it is no `-` before a flow
-- indicator
pub record IsWordBefore (in_flow : Bool) (w behind : List ℕ) : Type 0 where
  pub some : w ≢ []
  pub safe : AreSafeBefore in_flow w behind
  pub no_comment : slice_index w 0 ≢ number_sign
  pub no_lone_dash
      : (in_flow && (slice_index (w ++ behind) 0 == hyphen) && is_flow (slice_index (w ++ behind) 1)) ≡ false

-- whether a line ends in the text
abbrev pub has_line_end : List ℕ → Bool
has_line_end [] = false
has_line_end (c ∷ cs) = is_break c || has_line_end cs

-- Blanks and breaks between two words, from m on. Where a line ends in them outside flow, the next word is right of
-- the scalar's indentation, and no tab is in the indentation of its line.
pub record IsPlainGap (in_flow : Bool) (indent : ℕ) (m : Marker) (gap : List ℕ) : Type 0 where
  pub some : gap ≢ []
  pub white : AreIn is_blank_or_break gap
  pub tabs : IsFalse (is_tabbed indent gap)
  pub indented : (in_flow ≡ true) ⊎ ((has_line_end gap ≡ false) ⊎ (indent ≤ (end_of_text m gap).col))

-- gaps and the words after them
abbrev pub words_text : List (List ℕ × List ℕ) → List ℕ
words_text [] = []
words_text (p ∷ ps) = p.0 ++ (p.1 ++ words_text ps)

-- no document marker begins a line
abbrev pub IsNoMarker : Marker → List ℕ → Type 0
IsNoMarker m xs = m.col ≡ 0 → IsFalse (is_document_indicator xs)

abbrev pub AreFurtherWords : Bool → ℕ → Marker → List (List ℕ × List ℕ) → List ℕ → Type 0
AreFurtherWords in_flow indent m [] behind = Unit {0}
AreFurtherWords in_flow indent m (p ∷ ps) behind =
    IsPlainGap in_flow indent m p.0 × IsWordBefore in_flow p.1 (words_text ps ++ behind)
    × IsNoMarker (end_of_text m p.0) (p.1 ++ (words_text ps ++ behind))
    × AreFurtherWords in_flow indent (along (end_of_text m p.0) (length p.1)) ps behind

-- a plain scalar's text from m on, before what ends it
pub record IsPlainText (in_flow : Bool) (indent : ℕ) (m : Marker) (text behind : List ℕ) : Type 0 where
  pub first : List ℕ
  pub others : List (List ℕ × List ℕ)
  pub is : text ≡ first ++ words_text others
  pub word : IsWordBefore in_flow first (words_text others ++ behind)
  pub marker : IsNoMarker m (text ++ behind)
  pub further : AreFurtherWords in_flow indent (along m (length first)) others behind
  pub ends : EndsPlain in_flow indent (end_of_text m text) behind
