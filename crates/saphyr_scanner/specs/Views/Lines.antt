-- What contracts see of lines that are passed before the next token.
use Rattle.std.specs.Prelude.{◌≡◌, ◌-◌, ◌^◌, ◌||◌, ◌==◌, Bool, List, ℕ, slice_index, if◌then◌else◌}
use Rattle.saphyr_input.specs.Classes.{carriage_return, line_feed, tab}
use Rattle.saphyr_input.specs.Indicators.{number_sign}
use Rattle.saphyr_input.specs.Places.{next_2_are}
use Rattle.saphyr_scalar.specs.Views.Cursor.{Cursor, pass_all_blanks, pass_comment, pass_spaces}
use Rattle.saphyr_scanner.specs.Longer.{extended_by}
use Rattle.saphyr_scanner.specs.Steps.Passing.{with_cursor}
use Rattle.saphyr_scanner.specs.Steps.State.{State, with_core}
use Rattle.saphyr_scanner.specs.Views.Ahead.{fetched}

-- the scanner at another place
abbrev pub placed : Cursor → State → State
placed u s = with_core (with_cursor u s.core) s

-- a tab, and the blanks behind it
abbrev pub behind_tab : Cursor → Cursor
behind_tab s = if slice_index s.rest 0 == tab then pass_all_blanks s else s

abbrev pub behind_line_comment : Cursor → Cursor
behind_line_comment s = if slice_index s.rest 0 == number_sign then pass_comment s else s

-- what a line without a token has before its end
abbrev pub behind_line_text : Cursor → Cursor
behind_line_text s = behind_line_comment (behind_tab (pass_spaces (2 ^ 64 - 1) s))

-- LF or CR LF comes next
abbrev pub is_whole_break : List ℕ → Bool
is_whole_break r = (slice_index r 0 == line_feed) || next_2_are r carriage_return line_feed

-- The scanner is at another place, where a key may be or not, and fetches the same token, whatever comes.
pub record PassesOn (s t : State) : Type 0 where
  pub moved : t ≡ with_core (record s.core { cursor = t.core.cursor; key_allowed = t.core.key_allowed }) s
  pub same : (more : List ℕ) → fetched (extended_by more t) ≡ fetched (extended_by more s)
