-- What is left of a plain scalar after the line on which a word of it ended.
use Rattle.std.specs.Prelude.{ℕ, ◌-◌, ◌^◌, Bool, ◌&&◌, not, nat_lt, slice_index, if◌then◌else◌}
use Rattle.saphyr_input.specs.Classes.{is_blank, is_break}
use Rattle.saphyr_input.specs.Places.{is_blank_or_break}
use Rattle.saphyr_scalar.specs.declared.scalar.position.Marker.{Marker}
use Rattle.saphyr_scalar.specs.Views.Cursor.{Cursor, ◌>>=◌, pass_break, pass_spaces}
use Rattle.saphyr_scalar.specs.Steps.Plain.{PlainScalarRead, next_lines, next_word_starts, with_text, word, scalar_end}

-- what is read after the line of a word that ended at `end`
abbrev pub scalar_behind_line : Bool → ℕ → Marker → Marker → Cursor → PlainScalarRead
scalar_behind_line in_flow indent start end s =
    next_lines indent start s >>= λ g. next_word_starts in_flow indent g.behind >>= λ b.
    if b.0 then with_text g.text (word in_flow indent start b.1.mark b.1.rest) else scalar_end in_flow end g

-- What is read behind a word that ended at `end`: behind a break and the spaces after it, which were taken off, or
-- right where the word ended.
abbrev pub scalar_behind_word : Bool → Bool → ℕ → Marker → Marker → Cursor → PlainScalarRead
scalar_behind_word breaks in_flow indent start end s =
    if breaks then scalar_behind_line in_flow indent start end s else word in_flow indent start s.mark s.rest

-- outside flow, neither a blank nor a break is left of the indentation
abbrev pub is_left_of_scalar : Bool → ℕ → Cursor → Bool
is_left_of_scalar in_flow indent s =
    not in_flow && nat_lt s.mark.col indent && not (is_blank_or_break (slice_index s.rest 0))

-- behind a break, if one comes first, and the spaces after it
abbrev pub behind_break : Cursor → Cursor
behind_break s = if is_break (slice_index s.rest 0) then pass_spaces (2 ^ 64 - 1) (pass_break s) else s

-- A scalar ends with a word after which neither a blank nor a break comes, or a break and what is left of the
-- indentation.
abbrev pub ends_at_once : Bool → ℕ → Cursor → Bool
ends_at_once in_flow indent s =
    if is_break (slice_index s.rest 0) then is_left_of_scalar in_flow indent (behind_break s)
    else not (is_blank (slice_index s.rest 0))
