-- The next token of a text.
use Rattle.std.specs.Prelude.{ℕ, zero, suc, ◌+◌, Bool, true, false, ◌||◌, ◌&&◌, ◌==◌, not, nat_lt, nat_le, List, [], ◌∷◌, length, slice_index, Option, Some, None, Result, Ok, if◌then◌else◌}
use Rattle.saphyr_input.specs.Classes.{is_z, is_bom, is_flow, is_blank_or_breakz}
use Rattle.saphyr_input.specs.Places.{is_document_start, is_document_end}
use Rattle.saphyr_input.specs.Indicators.{ampersand, apostrophe, asterisk, at_sign, colon, comma, exclamation_mark, grave_accent, greater_than, hyphen, left_brace, left_bracket, percent_sign, question_mark, quotation_mark, right_brace, right_bracket, vertical_bar}
use Rattle.saphyr_scalar.specs.declared.scalar.fault.Refusal.{Refusal}
use Rattle.saphyr_scalar.specs.declared.scalar.fault.FaultText.TheVariants as fault
use Rattle.saphyr_scalar.specs.Known.{may_be_open}
use Rattle.saphyr_scalar.specs.Views.Cursor.{◌>>=◌, refuse, refuse_open}
use Rattle.saphyr_scanner.specs.declared.engine.level.Context.TheVariants as context
use Rattle.saphyr_scanner.specs.Grammar.Tokens as tokens
use Rattle.saphyr_scanner.specs.Views.Tokens.{Piece}
use Rattle.saphyr_scanner.specs.Steps.Queue as queue
use Rattle.saphyr_scanner.specs.Steps.Queue.{next}
use Rattle.saphyr_scanner.specs.Steps.Core.{Core, StepResult, at_mark, in_block, is_too_far, least_column, drop_far_key}
use Rattle.saphyr_scanner.specs.Steps.Level.{Candidate, Level, holds}
use Rattle.saphyr_scanner.specs.Steps.Passing.{pass_gap}
use Rattle.saphyr_scanner.specs.Steps.State.{State, with_core, with_action, on_core, after_step}
use Rattle.saphyr_scanner.specs.Steps.Unrolling.{unroll}
use Rattle.saphyr_scanner.specs.Steps.Document as document
use Rattle.saphyr_scanner.specs.Steps.Flow as flow
use Rattle.saphyr_scanner.specs.Steps.Block as block
use Rattle.saphyr_scanner.specs.Steps.Value as value
use Rattle.saphyr_scanner.specs.Steps.Scalar as scalar
use Rattle.saphyr_scanner.specs.Steps.Property as property
use Rattle.saphyr_scalar.specs.declared.values.BlockStyle.TheVariants as block_style
use Rattle.saphyr_scalar.specs.declared.values.Quote.TheVariants.{Single, Double}

-- ## What begins here

-- a colon that no blank follows is between a key and its value, inside flow
abbrev pub is_value_adjacent : ℕ → Core → Bool
is_value_adjacent second c = not (in_block c) && (is_flow second || (c.cursor.mark.index == c.adjacent))

-- a colon inside flow that no blank follows
unfoldable pub flow_value_steps : ℕ → Core → StepResult
flow_value_steps second c =
    if not (c.cursor.mark.index == c.adjacent) && ((second == left_bracket) || (second == left_brace)) then
    refuse fault.ColonBeforeFlow c.cursor.mark
    else value.value_steps c

-- what the first character begins, with the second at hand, and the number of the place of its token
unfoldable pub step : ℕ → ℕ → ℕ → Core → StepResult
step first second n c =
    if first == left_bracket then flow.opening_steps context.FlowSequence tokens.FlowSequenceStart n c
    else if first == left_brace then flow.opening_steps context.FlowMapping tokens.FlowMappingStart n c
    else if first == right_bracket then flow.sequence_end_steps c
    else if first == right_brace then flow.mapping_end_steps c
    else if first == comma then flow.flow_entry_steps c
    else if (first == hyphen) && is_blank_or_breakz second then block.block_entry_steps c
    else if (first == question_mark) && is_blank_or_breakz second then block.key_steps c
    else if (first == colon) && is_blank_or_breakz second then value.value_steps c
    else if (first == colon) && is_value_adjacent second c then flow_value_steps second c
    else if first == quotation_mark then scalar.quoted_steps Double n c
    else if first == apostrophe then scalar.quoted_steps Single n c
    else if first == asterisk then property.alias_steps n c
    else if first == ampersand then property.anchor_steps n c
    else if first == exclamation_mark then property.tag_steps n c
    else if (first == vertical_bar) && in_block c then scalar.block_scalar_steps block_style.Literal n c
    else if (first == greater_than) && in_block c then scalar.block_scalar_steps block_style.Folded n c
    else if (first == percent_sign) || (first == at_sign) || (first == grave_accent) then
    refuse (fault.UnexpectedCharacter first) c.cursor.mark
    else scalar.plain_steps n c

unfoldable pub state_behind_content : ℕ → ℕ → State → Result State Refusal
state_behind_content first second s = after_step (step first second (next s.queue) s.core) s.queue

-- what begins at the start of a line alone, or anywhere
unfoldable pub fetch_here : State → Result State Refusal
fetch_here s =
    let c = s.core in let t = c.cursor.rest in let at_start = c.cursor.mark.col == 0 in
    if is_z (slice_index t 0) then document.state_behind_end s
    else if is_bom (slice_index t 0) then document.state_behind_byte_order_mark s
    else if at_start && (slice_index t 0 == percent_sign) then document.state_behind_directive s
    else if at_start && is_document_start t then document.state_behind_marker tokens.DocumentStart s
    else if at_start && is_document_end t then document.state_behind_document_end s
    else if nat_lt c.cursor.mark.col (least_column c) then
    refuse_open (may_be_open t) fault.InvalidIndentation c.cursor.mark
    else state_behind_content (slice_index t 0) (slice_index t 1) s

-- to where the next token begins
unfoldable pub arrive : State → Result State Refusal
arrive s = on_core (pass_gap s.core >>= drop_far_key) s.queue >>= λ t. Ok
    (unroll (Some t.core.cursor.mark.col) t.core.cursor.mark t)

abbrev pub begin : State → State
begin s = with_action (at_mark s.core.cursor.mark tokens.StreamStart) (with_core (record s.core { started = true }) s)

-- the next token is put into the queue
unfoldable pub fetch : State → Result State Refusal
fetch s = if s.core.started then (arrive s >>= fetch_here) else Ok (begin s)

-- a text that is longer than the limit is refused once a token has passed it
abbrev pub check_limit : ℕ → State → Result State Refusal
check_limit limit s = if nat_le s.core.cursor.mark.index limit then Ok s else
    refuse_open (may_be_open s.core.cursor.rest) fault.TextTooLong s.core.cursor.mark

unfoldable pub fetch_within : ℕ → State → Result State Refusal
fetch_within limit s = fetch s >>= check_limit limit

-- ## A token at the head of the queue

abbrev pub any_holds : ℕ → List Level → Bool
any_holds place [] = false
any_holds place (l ∷ ls) = holds place l || any_holds place ls

-- the first token of the queue may yet turn out to be a key
abbrev pub is_held : State → Bool
is_held s = holds s.queue.handed s.core.level || any_holds s.queue.handed s.core.outer

abbrev pub has_key : Option Candidate → Bool
has_key None = false
has_key (Some k) = true

-- nothing that is open has a candidate
abbrev pub has_no_candidate : Core → Bool
has_no_candidate c = not (has_key c.level.key) && (length c.outer == 0)

-- the stream's start comes next, at the start of the text, and no token that may be a key is there
abbrev pub is_at_start : Core → Bool
is_at_start c = not c.started && has_no_candidate c && (c.cursor.mark.index == 0)

-- the next token has to be read
abbrev pub needs_token : State → Bool
needs_token s = not s.core.ended && (queue.is_empty s.queue || is_held s)

-- the head of the queue can be handed out as things are, unless all were
abbrev pub is_ready : State → Bool
is_ready s = not (in_block s.core && is_too_far s.core.level.key s.core.cursor.mark) && not (needs_token s)

abbrev pub without_far_key : State → Result State Refusal
without_far_key s = on_core (drop_far_key s.core) s.queue

-- the scanner with one token more, and without a candidate that is too far
abbrev pub state_behind_token : ℕ → State → Result State Refusal
state_behind_token limit s = fetch_within limit s >>= without_far_key

abbrev pub fill_by : (State → Result State Refusal) → State → Result State Refusal
fill_by go s = if needs_token s then go s else Ok s

-- tokens are read, n at most, until the first can be handed out
abbrev pub fill_in : ℕ → ℕ → State → Result State Refusal
fill_in zero limit s = Ok s
fill_in (suc n) limit s = fill_by (λ t. fetch_within limit t >>= without_far_key >>= fill_in n limit) s

-- how many tokens come at most: each has a character, but the stream's start and its end
abbrev pub size : Core → ℕ
size c = length c.cursor.rest + (if c.started then 0 else 1) + (if c.ended then 0 else 1)

-- the queue has a token at its head that can be handed out, unless all were
unfoldable pub fill : ℕ → State → Result State Refusal
fill limit s = without_far_key s >>= λ t. fill_in (suc (size t.core)) limit t

-- the first token is taken off
abbrev pub take_token : State → Option Piece × State
take_token s = let x = queue.take s.queue in (x.0, record { core = s.core; queue = x.1 })
