-- Where a line ends in a text (YAML 1.2.2, 5.4). Spellings and the steps of the reader are told with these words.
use Rattle.std.specs.Prelude.{ℕ, Bool, ◌&&◌, ◌==◌, not, List, slice_index, if◌then◌else◌}
use Rattle.saphyr_input.specs.Classes.{is_break, line_feed, carriage_return}
use Rattle.saphyr_input.specs.Places.{next_2_are}

-- how many characters the break at the front has (5.4)
abbrev pub break_len : List ℕ → ℕ
break_len xs = if next_2_are xs carriage_return line_feed then 2 else 1

-- whether a line ends with the character: CR before LF does not end it
abbrev pub ends_line : ℕ → List ℕ → Bool
ends_line c cs = is_break c && not ((c == carriage_return) && (slice_index cs 0 == line_feed))
