-- How the characters of a line are shown, and how wide.
use Rattle.std.specs.Prelude.{ℕ, ◌+◌, ◌<◌, ◌⊎◌, Bool, false, not, ◌||◌, ◌==◌, ◌≡◌, if◌then◌else◌, List, [], ◌∷◌, length, unwrap_or, encode_utf8, encode_utf8_all, All, sum_by, codes, min}
use Rattle.std.specs.List.{flat_map}
use Rattle.std.specs.Int.{is_in_range}
use Rattle.std.specs.Char.{is_control}
use Rattle.std.specs.Char.Escape.{escape_default}
use Rattle.std.specs.Str.{chars}
use Rattle.ucd_derived.specs.Binary.{is_default_ignorable_code_point}
use Rattle.unicode_width.specs.Width.{char_width}

-- a control character, a separator of lines, or one that Unicode tells programs not to show, as those are that change
-- the direction of text
unfoldable pub is_hidden : ℕ → Bool
is_hidden c = is_control c || is_in_range 0x2028 0x2029 c || is_default_ignorable_code_point c

-- how many columns a character takes: those of its escape, or those that a terminal gives it
unfoldable pub columns_of : ℕ → ℕ
columns_of c = if is_hidden c then length (escape_default c) else unwrap_or (char_width false c) 0

abbrev pub shown_columns : List ℕ → ℕ
shown_columns cs = sum_by columns_of cs

-- Beside these characters no more is shown: there are 200 of them, or with this one they take more than `most` columns.
abbrev pub IsFull : ℕ → List ℕ → ℕ → Type 0
IsFull most cs c = (length cs ≡ 200) ⊎ (most < columns_of c + shown_columns cs)

abbrev pub is_end_of_line : ℕ → Bool
is_end_of_line c = (c == 10) || (c == 13)

abbrev pub StaysOnLine : List ℕ → Type 0
StaysOnLine cs = All (λ c. is_end_of_line c ≡ false) cs

-- whether a line goes on
abbrev pub line_goes_on : List ℕ → Bool
line_goes_on [] = false
line_goes_on (c ∷ cs) = not (is_end_of_line c)

-- the escape of a character, in UTF-8
unfoldable pub escaped : ℕ → List ℕ
escaped c = encode_utf8_all (escape_default c)

-- a character as it is shown, in UTF-8
abbrev pub visible_one : ℕ → List ℕ
visible_one c = if is_hidden c then escaped c else encode_utf8 c

abbrev pub visible : List ℕ → List ℕ
visible cs = flat_map visible_one cs

-- a text as it is shown
abbrev pub shown_text : List ℕ → List ℕ
shown_text text = visible (chars text)

-- what is in place of what is cut off
abbrev pub cut : Bool → List ℕ
cut is_cut = if is_cut then codes "..." else []

-- a place after the end is the end
abbrev pub place_index : List ℕ → ℕ → ℕ
place_index text index = min index (length text)
