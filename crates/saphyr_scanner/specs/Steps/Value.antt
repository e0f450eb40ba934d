-- The colon between a key and its value (YAML 1.2.2, 7.4.2 and 8.2.2).
use Rattle.std.specs.Prelude.{ℕ, Bool, false, ◌||◌, ◌&&◌, ◌==◌, not, nat_lt, List, [], ◌∷◌, ◌++◌, Option, Some, None, Result, Ok, slice_index, if◌then◌else◌}
use Rattle.saphyr_input.specs.Classes.{is_alpha, tab}
use Rattle.saphyr_input.specs.declared.input.SkipTabs.{SkipTabs}
use Rattle.saphyr_input.specs.Separation.{has_valid_yaml_ws}
use Rattle.saphyr_input.specs.Indicators.{hyphen}
use Rattle.saphyr_scalar.specs.declared.scalar.position.Marker.{Marker}
use Rattle.saphyr_scalar.specs.declared.scalar.fault.Refusal.{Refusal}
use Rattle.saphyr_scalar.specs.declared.scalar.fault.FaultText.TheVariants as fault
use Rattle.saphyr_scalar.specs.Views.Cursor.{◌>>=◌, refuse, refuse_open, is_missing}
use Rattle.saphyr_scanner.specs.declared.queue.Opening.{Opening}
use Rattle.saphyr_scanner.specs.declared.queue.Opening.TheVariants as opening
use Rattle.saphyr_scanner.specs.Grammar.Tokens as tokens
use Rattle.saphyr_scanner.specs.Steps.Core.{Core, Action, Open, StepResult, completed_step, at_mark, in_block, forget_key, with_context, go_deeper, is_further, roll}
use Rattle.saphyr_scanner.specs.Steps.Level.{Candidate, begins_pair, behind_colon}
use Rattle.saphyr_scanner.specs.Steps.Passing.{separate, pass_on}

-- Outside flow a tab alone does not part a colon from a word.
abbrev pub refuse_lone_tab : SkipTabs × Core → Result Core Refusal
refuse_lone_tab x =
    if in_block x.1 && not (has_valid_yaml_ws x.0)
    && ((slice_index x.1.cursor.rest 0 == hyphen) || is_alpha (slice_index x.1.cursor.rest 0))
    then refuse fault.ColonWithoutWhitespace x.1.cursor.mark
    else Ok x.1

unfoldable pub check_tab : Core → Result Core Refusal
check_tab c = if slice_index c.cursor.rest 0 == tab then (separate c >>= refuse_lone_tab) else Ok c

-- what comes before the key
abbrev pub opening_of : Bool → ℕ → Core → Opening
opening_of begins column c =
    if begins then opening.FlowMappingAndKey
    else if is_further column c then opening.BlockMappingAndKey
    else opening.Key

-- the value of a key that comes before the colon
unfoldable pub value_of_key : Candidate → Bool → Marker → Core → StepResult
value_of_key k begins start c =
    if begins && nat_lt k.mark.line start.line then
    refuse_open (is_missing 0 c.cursor.rest) fault.MisplacedColon start
    else completed_step (Open k.place (opening_of begins k.mark.col c) ∷ at_mark start tokens.Value ∷ [])
    (record (forget_key (go_deeper (roll k.mark.col c))) { key_allowed = false })

-- what a colon without a key begins
unfoldable pub opening_actions : Bool → Marker → Core → List Action
opening_actions begins start c =
    (if begins then at_mark start tokens.FlowMappingStart ∷ [] else [])
    ++ ((if is_further start.col c then at_mark start tokens.BlockMappingStart ∷ [] else [])
    ++ at_mark start tokens.Value ∷ [])

-- the value of a key that is left out, or that `?` began
unfoldable pub value_alone : Bool → Marker → Core → StepResult
value_alone begins start c =
    if in_block c && not c.key_allowed then
    refuse_open (is_missing 0 c.cursor.rest) fault.ValueNotAllowed start
    else completed_step (opening_actions begins start c)
    (record (go_deeper (roll start.col c)) { key_allowed = in_block c })

unfoldable pub behind_key : Option Candidate → Bool → Marker → Core → StepResult
behind_key (Some k) begins start c = value_of_key k begins start c
behind_key None begins start c = value_alone begins start c

-- `:`
unfoldable pub value_steps : Core → StepResult
value_steps c =
    check_tab (pass_on 1 (with_context (behind_colon c.level.context) c))
    >>= λ d. behind_key d.level.key (begins_pair c.level.context) c.cursor.mark d
