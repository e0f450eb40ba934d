-- Documents and the end of the stream (YAML 1.2.2, chapter 9).
use Rattle.std.specs.Prelude.{true, false, ◌||◌, ◌==◌, not, nat_lt, [], ◌∷◌, length, slice_index, None, Result, Ok, if◌then◌else◌}
use Rattle.saphyr_input.specs.Classes.{is_breakz}
use Rattle.saphyr_input.specs.declared.input.SkipTabs.{SkipTabs}
use Rattle.saphyr_scalar.specs.declared.scalar.position.Marker.{Marker}
use Rattle.saphyr_scalar.specs.declared.scalar.fault.Refusal.{Refusal}
use Rattle.saphyr_scalar.specs.declared.scalar.fault.FaultText.TheVariants as fault
use Rattle.saphyr_scalar.specs.Views.Cursor.{◌>>=◌, refuse, refuse_open, next_line, pass_byte_order_mark}
use Rattle.saphyr_scalar.specs.Steps.Directive as directives
use Rattle.saphyr_scalar.specs.Spelling.Directive.{ReadDirective, version, tag_prefix, reserved}
use Rattle.saphyr_scanner.specs.Grammar.Tokens as tokens
use Rattle.saphyr_scanner.specs.Grammar.Tokens.{Kind}
use Rattle.saphyr_scanner.specs.Steps.Core.{Core, StepResult, completed_step, at_mark, from_to, up_to_here, in_block, remove_key}
use Rattle.saphyr_scanner.specs.Steps.Passing.{separate, pass_on, with_cursor}
use Rattle.saphyr_scanner.specs.Steps.State.{State, with_core, with_action, on_core, on_core_with, after_step}
use Rattle.saphyr_scanner.specs.Steps.Unrolling.{unroll}

abbrev pub remove_key_of : State → Result State Refusal
remove_key_of s = on_core (remove_key s.core) s.queue

-- all block collections end, and what may be a key
unfoldable pub end_content : State → Result State Refusal
end_content s = remove_key_of (unroll None s.core.cursor.mark s)

-- The place of the end of the stream: the end of the text, where it ends a line, else the line after it.
abbrev pub end_mark : Marker → Marker
end_mark m = if m.col == 0 then m else next_line m 0

abbrev pub core_at_end : Core → Core
core_at_end c = record c { key_allowed = false; ended = true }

abbrev pub finish : Marker → State → State
finish m s = with_action (at_mark m tokens.StreamEnd) (with_core (core_at_end s.core) s)

unfoldable pub end_at : Marker → State → Result State Refusal
end_at m s = if s.core.required then refuse_open true fault.KeyExpected m else Ok (finish m (unroll None m s))

-- NUL, or the end of the text
unfoldable pub state_behind_end : State → Result State Refusal
state_behind_end s =
    if length s.core.cursor.rest == 0 then end_at (end_mark s.core.cursor.mark) s
    else refuse fault.UnprintableCharacter s.core.cursor.mark

abbrev pub pass_marker : Core → Core
pass_marker c = record (pass_on 3 c) { key_allowed = false }

-- the token of what was passed
abbrev pub put_passed : Marker → Kind → Core → State → State
put_passed m kind c s = with_action (up_to_here m kind c) (with_core c s)

-- `---` or `...`
unfoldable pub state_behind_marker : Kind → State → Result State Refusal
state_behind_marker kind s = end_content s >>= λ t. Ok (put_passed t.core.cursor.mark kind (pass_marker t.core) t)

unfoldable pub end_line : SkipTabs × State → Result State Refusal
end_line x =
    if is_breakz (slice_index x.1.core.cursor.rest 0) then Ok x.1 else refuse fault.ContentAfterDocumentEnd
    x.1.core.cursor.mark

-- `...`, and what comes after it on its line
unfoldable pub state_behind_document_end : State → Result State Refusal
state_behind_document_end s = state_behind_marker tokens.DocumentEnd s >>= λ t. on_core_with
    (separate t.core) t >>= end_line

abbrev pub pass_mark : Core → Core
pass_mark c = record (with_cursor (pass_byte_order_mark c.cursor) c) { key_allowed = true }

-- A byte order mark, which has a place at the start of a line outside flow alone.
unfoldable pub state_behind_byte_order_mark : State → Result State Refusal
state_behind_byte_order_mark s =
    if nat_lt 0 s.core.cursor.mark.col || not (in_block s.core) then refuse fault.MisplacedByteOrderMark
    s.core.cursor.mark
    else (end_content s >>= λ t. Ok (put_passed s.core.cursor.mark tokens.ByteOrderMark (pass_mark t.core) t))

-- ## Directives (6.8)

abbrev pub directive_kind : ReadDirective → Kind
directive_kind (version major minor) = tokens.VersionDirective major minor
directive_kind (tag_prefix handle prefix) = tokens.TagDirective handle prefix
directive_kind (reserved name) = tokens.ReservedDirective name

unfoldable pub read_directive : Core → StepResult
read_directive c =
    directives.directive c.cursor
    >>= λ x. completed_step (from_to c.cursor.mark x.1 (directive_kind x.0) ∷ [])
    (record (with_cursor x.2 c) { key_allowed = false })

-- `%` at the start of a line
unfoldable pub state_behind_directive : State → Result State Refusal
state_behind_directive s = end_content s >>= λ t. after_step (read_directive t.core) t.queue
