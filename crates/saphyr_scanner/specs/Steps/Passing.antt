-- What a scanner passes between tokens and after them.
use Rattle.std.specs.Prelude.{ℕ, ◌-◌, Bool, false, ◌||◌, ◌&&◌, ◌==◌, not, nat_lt, nat_le, Option, Some, None, Result, Ok, slice_index, if◌then◌else◌}
use Rattle.saphyr_input.specs.Classes.{is_z}
use Rattle.saphyr_input.specs.Places.{can_be_plain, is_document_indicator}
use Rattle.saphyr_input.specs.declared.input.SkipTabs.{SkipTabs}
use Rattle.saphyr_input.specs.declared.input.SkipTabs.TheVariants as tabs
use Rattle.saphyr_scalar.specs.declared.scalar.position.Marker.{Marker}
use Rattle.saphyr_scalar.specs.declared.scalar.fault.Refusal.{Refusal}
use Rattle.saphyr_scalar.specs.declared.scalar.fault.FaultText.TheVariants as fault
use Rattle.saphyr_scalar.specs.Known.{may_be_open}
use Rattle.saphyr_scalar.specs.Views.Cursor.{Cursor, ◌>>=◌, refuse_open, separation, pass}
use Rattle.saphyr_scanner.specs.Steps.Gap as gap
use Rattle.saphyr_scanner.specs.Steps.Gap.{GapEnd}
use Rattle.saphyr_scanner.specs.Steps.Core.{Core, in_block, least_column}

abbrev pub with_cursor : Cursor → Core → Core
with_cursor s c = record c { cursor = s }

-- n characters are passed, of which none is a blank
abbrev pub pass_on : ℕ → Core → Core
pass_on n c = with_cursor (pass n c.cursor) c

-- blanks and a comment are passed, up to the end of the line
abbrev pub separate : Core → Result (SkipTabs × Core) Refusal
separate c = separation tabs.Yes c.cursor >>= λ x. Ok (x.0, with_cursor x.1 c)

-- A line could go on with a plain scalar that a comment on the line before ended.
unfoldable pub goes_on_behind : Marker → Core → Bool
goes_on_behind comment c =
    in_block c && (c.cursor.mark.line - comment.line == 1)
    && (if c.deeper then nat_lt c.indent c.cursor.mark.col else nat_le c.indent c.cursor.mark.col)
    && not (is_z (slice_index c.cursor.rest 0)) && not ((c.cursor.mark.col == 0) && is_document_indicator c.cursor.rest)
    && can_be_plain false c.cursor.rest

abbrev pub check_comment_of : Option Marker → Core → Result Core Refusal
check_comment_of None c = Ok c
check_comment_of (Some m) c = let d =
    record c { comment = None } in if goes_on_behind m d then
    refuse_open (may_be_open d.cursor.rest) fault.CommentInsideText m else Ok d

unfoldable pub check_comment : Core → Result Core Refusal
check_comment c = check_comment_of c.comment c

-- After a break a key may be, outside flow.
abbrev pub behind_gap : Core → GapEnd → Core
behind_gap c g = record c { cursor = g.cursor; key_allowed = (g.broke && in_block c) || c.key_allowed }

-- what is between two tokens is passed
unfoldable pub pass_gap : Core → Result Core Refusal
pass_gap c = gap.whole_gap (least_column c) c.cursor >>= λ g. check_comment (behind_gap c g)
