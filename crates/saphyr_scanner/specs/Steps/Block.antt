-- The indicators of block collections (YAML 1.2.2, 8.2).
use Rattle.std.specs.Prelude.{Bool, true, false, ◌||◌, ◌&&◌, ◌==◌, not, List, [], ◌∷◌, Result, Ok, slice_index, if◌then◌else◌}
use Rattle.saphyr_input.specs.Classes.{is_break, is_flow, is_blank_or_breakz, tab}
use Rattle.saphyr_input.specs.Separation.{found_tabs}
use Rattle.saphyr_input.specs.declared.input.SkipTabs.{SkipTabs}
use Rattle.saphyr_input.specs.Indicators.{hyphen}
use Rattle.saphyr_scalar.specs.declared.scalar.position.Marker.{Marker}
use Rattle.saphyr_scalar.specs.declared.scalar.fault.Refusal.{Refusal}
use Rattle.saphyr_scalar.specs.declared.scalar.fault.FaultText.TheVariants as fault
use Rattle.saphyr_scalar.specs.Known.{may_be_open}
use Rattle.saphyr_scalar.specs.Views.Cursor.{◌>>=◌, refuse, refuse_open, is_missing}
use Rattle.saphyr_scanner.specs.Steps.Gap.{spaces_at}
use Rattle.saphyr_scanner.specs.Grammar.Tokens as tokens
use Rattle.saphyr_scanner.specs.Grammar.Tokens.{Kind}
use Rattle.saphyr_scanner.specs.Steps.Level.{behind_question}
use Rattle.saphyr_scanner.specs.Steps.Core.{Core, Action, StepResult, completed_step, at_mark, up_to_here, in_block, remove_key, with_context, go_deeper, is_further, roll}
use Rattle.saphyr_scanner.specs.Steps.Passing.{separate, pass_on, with_cursor}

-- a `-` is here as an indicator
abbrev pub is_dash_next : Core → Bool
is_dash_next c = (slice_index c.cursor.rest 0 == hyphen) && is_blank_or_breakz (slice_index c.cursor.rest 1)

-- Content on a later line, and flow collections, have to be right of the `-`.
abbrev pub deepen : Core → Core
deepen c = if is_break (slice_index c.cursor.rest 0) || is_flow (slice_index c.cursor.rest 0) then go_deeper c else c

-- a compact sequence has its `-` after spaces alone
abbrev pub refuse_tab : SkipTabs × Core → Result Core Refusal
refuse_tab x = if found_tabs x.0 && is_dash_next x.1 then
    refuse_open (may_be_open x.1.cursor.rest) fault.DashWithoutWhitespace x.1.cursor.mark
    else Ok (deepen x.1)

-- what comes after `-` on its line
unfoldable pub pass_dash : Core → Result Core Refusal
pass_dash c = separate c >>= refuse_tab

-- the start of a collection comes before the token that begins it
abbrev pub behind_start : Bool → Marker → Kind → Action → List Action
behind_start begins m kind a = if begins then at_mark m kind ∷ a ∷ [] else a ∷ []

unfoldable pub next_entry : Core → StepResult
next_entry c =
    pass_dash (roll c.cursor.mark.col (pass_on 1 c)) >>= remove_key >>= λ d. completed_step
    (behind_start (is_further c.cursor.mark.col c) c.cursor.mark tokens.BlockSequenceStart
    (at_mark d.cursor.mark tokens.BlockEntry))
    (record d { key_allowed = true })

-- `-`
unfoldable pub block_entry_steps : Core → StepResult
block_entry_steps c =
    if not (in_block c) then refuse_open (is_missing 1 c.cursor.rest) fault.DashInsideFlow c.cursor.mark
    else if not c.key_allowed then
    refuse_open (is_missing 1 c.cursor.rest) fault.SequenceEntryNotAllowed c.cursor.mark
    else next_entry c

-- Something has to come after `?`, and no tab before its content.
unfoldable pub behind_mark : Bool → Core → Result Core Refusal
behind_mark space c =
    if not space then refuse_open (is_missing 0 c.cursor.rest) fault.WhitespaceExpected c.cursor.mark
    else if slice_index c.cursor.rest 0 == tab then refuse fault.TabNotAllowed c.cursor.mark
    else Ok c

abbrev pub pass_question : Core → Result Core Refusal
pass_question c = let s = spaces_at false (pass_on 1 c).cursor in behind_mark s.space (with_cursor s.cursor c)

unfoldable pub begin_key : Core → Result Core Refusal
begin_key c =
    remove_key (with_context (behind_question c.level.context) (roll c.cursor.mark.col c)) >>= λ d. pass_question
    (record d { key_allowed = in_block d })

-- `?`
unfoldable pub key_steps : Core → StepResult
key_steps c =
    if in_block c && not c.key_allowed then
    refuse_open (is_missing 1 c.cursor.rest) fault.KeyNotAllowed c.cursor.mark
    else (begin_key c >>= λ d. completed_step
    (behind_start (is_further c.cursor.mark.col c) c.cursor.mark tokens.BlockMappingStart
    (up_to_here c.cursor.mark tokens.Key d)) d)
