-- Places of characters, by their indexes.
use Rattle.std.specs.Prelude.{ℕ, zero, suc, ◌+◌, ◌-◌, ◌<◌, ◌≤◌, ◌≡◌, ◌==◌, ◌&&◌, ◌||◌, Bool, true, false, not, nat_lt, if◌then◌else◌, List, length, slice_index}
use Rattle.saphyr_parser.specs.Words.Marker.{Marker}
use Rattle.yaml_check.specs.Shown.{is_end_of_line}

abbrev pub is_space_or_tab : ℕ → Bool
is_space_or_tab c = (c == 32) || (c == 9)

-- the character at an index ends a line: CR LF, CR and LF are one break each
abbrev pub breaks_line : List ℕ → ℕ → Bool
breaks_line text at = (slice_index text at == 10) || ((slice_index text at == 13)
    && not (nat_lt (at + 1) (length text) && (slice_index text (at + 1) == 10)))

-- the line of the character at an index, counted from 1
abbrev pub line_number : List ℕ → ℕ → ℕ
line_number text zero = 1
line_number text (suc at) = if breaks_line text at then line_number text at + 1 else line_number text at

-- where the line of the character at an index begins, behind the break before it
abbrev pub line_begin : List ℕ → ℕ → ℕ
line_begin text zero = 0
line_begin text (suc at) = if breaks_line text at then suc at else line_begin text at

-- the place before the character at an index
abbrev pub place_of_index : List ℕ → ℕ → Marker
place_of_index text index = record { index = index; line = line_number text index; col = index - line_begin text index }

-- the text or a line begins at an index
abbrev pub begins_line : List ℕ → ℕ → Bool
begins_line text at = (at == 0) || is_end_of_line (slice_index text (at - 1))

-- a line begins at an index, and no break is from there on up to a place
pub record IsLineStart (text : List ℕ) (at start : ℕ) : Type 0 where
  pub begins : begins_line text start ≡ true
  pub before : start ≤ at
  pub same : (k : ℕ) → start ≤ k → k < at → is_end_of_line (slice_index text k) ≡ false
