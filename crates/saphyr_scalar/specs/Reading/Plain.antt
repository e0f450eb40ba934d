-- What is read as a plain scalar (YAML 1.2.2, 7.3.3): a piece of the text, its reading, and what comes after it.
use Rattle.std.specs.Prelude.{◌≡◌, ◌≢◌, ◌<◌, ◌⊎◌, ℕ, Bool, true, false, ◌||◌, ◌==◌, List, [], ◌∷◌, ◌++◌, slice_index, IsTrue, IsFalse, if◌then◌else◌, encode_utf8_all}
use Rattle.std.specs.List.{list_any}
use Rattle.saphyr_input.specs.Classes.{nul, byte_order_mark, is_break, is_blank_or_breakz, is_bom, is_flow}
use Rattle.saphyr_input.specs.Breaks.{normalized}
use Rattle.saphyr_input.specs.Places.{can_be_plain, is_blank_or_break, is_document_indicator}
use Rattle.saphyr_input.specs.Indicators.{colon, number_sign}
use Rattle.saphyr_scalar.specs.Spelling.Tag.{AreIn}
use Rattle.saphyr_scalar.specs.declared.scalar.position.Marker.{Marker}
use Rattle.saphyr_scalar.specs.Views.Cursor.{Cursor, along, next_line}
use Rattle.saphyr_scalar.specs.Values.Flow.{plain_value}
use Rattle.saphyr_scalar.specs.Spelling.LineBreaks.{ends_line}

-- the place after a text that begins at a place: a line more after each break, and else a column more
abbrev pub end_of_text : Marker → List ℕ → Marker
end_of_text m [] = m
end_of_text m (c ∷ cs) = end_of_text (if ends_line c cs then next_line m 1 else along m 1) cs

-- How a piece of a plain scalar is spelled from the place m on, where `behind` comes after it: no NUL and no byte
-- order mark, no `#` at its start or after a blank or break, no colon before a blank, break, NUL or the end, and no
-- document marker at a line's start.
abbrev pub IsSpelledPlain : Marker → Bool → List ℕ → List ℕ → Type 0
IsSpelledPlain m apart [] behind = Unit {0}
IsSpelledPlain m apart (c ∷ cs) behind =
    (c ≢ nul) × (c ≢ byte_order_mark) × (IsTrue apart → c ≢ number_sign)
    × (c ≡ colon → IsFalse (is_blank_or_breakz (slice_index (cs ++ behind) 0)))
    × (m.col ≡ 0 → IsFalse (is_document_indicator (c ∷ (cs ++ behind))))
    × IsSpelledPlain (if ends_line c (cs ++ behind) then next_line m 1 else along m 1) (is_blank_or_break c) cs behind

-- 7.3.3: inside flow a piece has no flow indicator, and no colon before one. `behind` comes after it.
abbrev pub IsSafeInFlow : List ℕ → List ℕ → Type 0
IsSafeInFlow [] behind = Unit {0}
IsSafeInFlow (c ∷ cs) behind =
    IsFalse (is_flow c) × (c ≡ colon → IsFalse (is_flow (slice_index (cs ++ behind) 0))) × IsSafeInFlow cs behind

-- what may come after a plain scalar: a blank, a break, NUL, a byte order mark, a colon, a flow indicator or the end
abbrev pub ends_piece : ℕ → Bool
ends_piece c = is_blank_or_breakz c || is_bom c || (c == colon) || is_flow c

-- The text is the reading of a piece at the place s that ends at `end`, and t is the place after the blanks and breaks
-- that follow it.
pub record IsPlainReading (in_flow : Bool) (s : Cursor) (text : List ℕ) (end : Marker) (t : Cursor) : Type 0 where
  pub piece : List ℕ
  pub white : List ℕ
  pub is : s.rest ≡ piece ++ (white ++ t.rest)
  pub spelled : IsSpelledPlain s.mark true piece (white ++ t.rest)
  pub safe : in_flow ≡ true → IsSafeInFlow piece (white ++ t.rest)
  pub front : List ℕ
  pub last : ℕ
  pub closes : piece ≡ front ++ last ∷ []
  pub is_non_space : IsFalse (is_blank_or_break last)
  pub follows : IsTrue (ends_piece (slice_index (white ++ t.rest) 0))
  pub value : encode_utf8_all (plain_value (normalized piece)) ≡ text
  pub ends : end_of_text s.mark piece ≡ end
  pub are_white : AreIn is_blank_or_break white
  pub behind : end_of_text end white ≡ t.mark

-- 7.3.3, 8.2: No plain scalar goes on at t, behind the white space after it. There is neither a blank nor a break, but
-- NUL, the end or `#`; a byte order mark, inside flow a flow indicator, or a colon before a blank, a break, NUL or the
-- end, or inside flow before a flow indicator; a document marker at a line's start; or, outside flow and behind a
-- break, a column left of `indent`, the first column right of the innermost open block collection.
abbrev pub IsPlainEnd : Bool → ℕ → List ℕ → Cursor → Type 0
IsPlainEnd in_flow indent white t =
    IsFalse (is_blank_or_break (slice_index t.rest 0))
    × ((slice_index t.rest 0 ≡ nul) ⊎ (slice_index t.rest 0 ≡ number_sign) ⊎ IsFalse (can_be_plain in_flow t.rest)
    ⊎ ((t.mark.col ≡ 0) × IsTrue (is_document_indicator t.rest))
    ⊎ ((in_flow ≡ false) × IsTrue (list_any is_break white) × (t.mark.col < indent)))
