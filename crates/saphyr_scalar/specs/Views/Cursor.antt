-- What a reader of characters takes off a text, as functions on the text that remains and the place in it.
use Rattle.std.specs.Prelude.{ℕ, ◌+◌, ◌-◌, ◌^◌, min, Bool, true, false, ◌&&◌, nat_lt, List, drop, slice_index, Result, Ok, Err, if◌then◌else◌}
use Rattle.std.specs.List.{prefix_len}
use Rattle.saphyr_input.specs.Classes.{is_z, is_blank, is_break, is_bom, is_yaml_non_break, carriage_return, line_feed}
use Rattle.saphyr_input.specs.Places.{next_2_are, spaces_within}
use Rattle.saphyr_input.specs.Separation.{separation_len, is_bare_comment, found_blanks}
use Rattle.saphyr_input.specs.declared.input.SkipTabs.{SkipTabs}
use Rattle.saphyr_scalar.specs.declared.scalar.position.Marker.{Marker}
use Rattle.saphyr_scalar.specs.declared.scalar.fault.Refusal.{Refusal}
use Rattle.saphyr_scalar.specs.declared.scalar.fault.FaultText.{FaultText}
use Rattle.saphyr_scalar.specs.declared.scalar.fault.FaultText.TheVariants as fault

-- a step, if the one before it gave something
infixl 10 ◌>>=◌
abbrev pub ◌>>=◌ : {A B E : Type 0} → Result A E → (A → Result B E) → Result B E
(Ok x) >>= f = f x
(Err e) >>= f = Err e

-- the text that remains, the place where it begins, and whether only blanks come before it on its line
pub record Cursor : Type 0 where
  pub rest : List ℕ
  pub mark : Marker
  pub blank_so_far : Bool

-- at the start of a text
abbrev pub start_cursor : List ℕ → Cursor
start_cursor text = record { rest = text; mark = record { index = 0; line = 1; col = 0 }; blank_so_far = true }

-- The text is refused at a place. Where it is open, what comes behind what came may change that.
abbrev pub refuse_open : {X : Type 0} → Bool → FaultText → Marker → Result X Refusal
refuse_open may_change text mark = Err (record { text = text; mark = mark; may_change = may_change })

-- it is refused whatever comes
abbrev pub refuse : {X : Type 0} → FaultText → Marker → Result X Refusal
refuse text mark = refuse_open false text mark

-- the text ends before its character n, or has a NUL there
abbrev pub is_missing : ℕ → List ℕ → Bool
is_missing n rest = is_z (slice_index rest n)

-- n characters further on the line
abbrev pub along : Marker → ℕ → Marker
along m n = record { index = m.index + n; line = m.line; col = m.col + n }

-- The line after a break of n characters. Lines are counted up to the last number that can be.
abbrev pub next_line : Marker → ℕ → Marker
next_line m n = record { index = m.index + n; line = min (m.line + 1) (2 ^ 64 - 1); col = 0 }

-- n characters of the line are passed, of which none but blanks and comments count
abbrev pub pass_blanks : ℕ → Cursor → Cursor
pass_blanks n s = record { rest = drop n s.rest; mark = along s.mark n; blank_so_far = s.blank_so_far }

-- the blanks that come first are passed
abbrev pub pass_all_blanks : Cursor → Cursor
pass_all_blanks s = pass_blanks (prefix_len is_blank s.rest) s

-- spaces are passed, but no more than `most`
abbrev pub pass_spaces : ℕ → Cursor → Cursor
pass_spaces most s = pass_blanks (spaces_within most s.rest) s

-- n characters of the line are passed
abbrev pub pass : ℕ → Cursor → Cursor
pass n s = record { rest = drop n s.rest; mark = along s.mark n; blank_so_far = false }

-- a line begins, after a break of n characters that was taken off
abbrev pub begin_line : ℕ → Cursor → Cursor
begin_line n s = record { rest = s.rest; mark = next_line s.mark n; blank_so_far = true }

-- a break of n characters is passed
abbrev pub pass_line : ℕ → Cursor → Cursor
pass_line n s = record { rest = drop n s.rest; mark = next_line s.mark n; blank_so_far = true }

-- the break at the front is passed, if there is one (YAML 1.2.2, 5.4)
abbrev pub pass_break : Cursor → Cursor
pass_break s =
    if next_2_are s.rest carriage_return line_feed then pass_line 2 s
    else if is_break (slice_index s.rest 0) then pass_line 1 s
    else s

-- a comment is passed
abbrev pub pass_comment : Cursor → Cursor
pass_comment s = pass_blanks (prefix_len is_yaml_non_break s.rest) s

-- a byte order mark is passed, which has no column
abbrev pub pass_byte_order_mark : Cursor → Cursor
pass_byte_order_mark s =
    record {
      rest = drop 1 s.rest;
      mark = record { index = s.mark.index + 1; line = s.mark.line; col = s.mark.col };
      blank_so_far = s.blank_so_far;
    }

-- what comes after white space and a comment: a byte order mark is refused after a line's start
unfoldable pub behind_separation : SkipTabs → List ℕ → Cursor → Result (SkipTabs × Cursor) Refusal
behind_separation tabs text s =
    if nat_lt 0 s.mark.col && is_bom (slice_index s.rest 0) then refuse fault.MisplacedByteOrderMark s.mark
    else if is_bare_comment tabs text then refuse fault.CommentWithoutWhitespace s.mark
    else Ok (found_blanks tabs text, s)

-- white space and a comment are passed, up to the end of the line (YAML 1.2.2, 6.2 and 6.6)
unfoldable pub separation : SkipTabs → Cursor → Result (SkipTabs × Cursor) Refusal
separation tabs s = behind_separation tabs s.rest (pass_blanks (separation_len tabs s.rest) s)
