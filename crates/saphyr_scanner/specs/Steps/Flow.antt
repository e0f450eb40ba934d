-- The indicators of flow collections (YAML 1.2.2, 7.4).
use Rattle.std.specs.Prelude.{ℕ, Bool, true, false, nat_le, List, [], ◌∷◌, length, None, if◌then◌else◌}
use Rattle.saphyr_scalar.specs.declared.scalar.position.Marker.{Marker}
use Rattle.saphyr_scalar.specs.declared.scalar.fault.FaultText.TheVariants as fault
use Rattle.saphyr_scalar.specs.Views.Cursor.{◌>>=◌, refuse}
use Rattle.saphyr_scanner.specs.declared.engine.level.Context.{Context}
use Rattle.saphyr_scanner.specs.Limits.{most_open}
use Rattle.saphyr_scanner.specs.Grammar.Tokens as tokens
use Rattle.saphyr_scanner.specs.Grammar.Tokens.{Kind}
use Rattle.saphyr_scanner.specs.Steps.Core.{Core, Action, StepResult, completed_step, at_mark, up_to_here, in_block, save_key, remove_key, with_context, go_deeper}
use Rattle.saphyr_scanner.specs.Steps.Level.{Level, at_root, ends_pair, behind_entry}
use Rattle.saphyr_scanner.specs.Steps.Passing.{separate, pass_on}

-- a flow collection is open
abbrev pub enter : Context → Core → Core
enter x c = record c { level = record { context = x; key = None }; outer = c.level ∷ c.outer; key_allowed = true }

abbrev pub leave_to : List Level → Core → Core
leave_to [] c = record c { level = at_root; outer = []; key_allowed = false }
leave_to (l ∷ ls) c = record c { level = l; outer = ls; key_allowed = false }

-- the innermost flow collection is left
abbrev pub leave : Core → Core
leave c = leave_to c.outer c

-- No more than `most_open` flow collections are open at once.
unfoldable pub open_collection : Context → Kind → Core → StepResult
open_collection x kind c =
    if nat_le most_open (length c.outer) then refuse fault.RecursionLimit c.cursor.mark
    else (separate (pass_on 1 (enter x c)) >>= λ d. completed_step (up_to_here c.cursor.mark kind d.1 ∷ []) d.1)

-- `[` or `{`, which may begin a key
unfoldable pub opening_steps : Context → Kind → ℕ → Core → StepResult
opening_steps x kind n c = open_collection x kind (go_deeper (save_key n c))

-- after a collection inside flow, which may be a key, its colon may come at once
abbrev pub allow_adjacent : Core → Core
allow_adjacent c = if in_block c then c else record c { adjacent = c.cursor.mark.index }

-- the end of a pair comes before the token that ends it
abbrev pub behind_pair : Bool → Marker → Action → List Action
behind_pair ends m a = if ends then at_mark m tokens.FlowMappingEnd ∷ a ∷ [] else a ∷ []

unfoldable pub close_collection : Bool → Kind → Core → StepResult
close_collection ends kind c =
    separate (pass_on 1 (leave c)) >>= λ d. completed_step
    (behind_pair ends c.cursor.mark (up_to_here c.cursor.mark kind d.1))
    (allow_adjacent d.1)

-- a bracket, before which an open pair may end
unfoldable pub closing_steps : Bool → Kind → Core → StepResult
closing_steps ends kind c =
    if in_block c then refuse fault.MisplacedBracket c.cursor.mark else close_collection ends kind c

-- `]`
abbrev pub sequence_end_steps : Core → StepResult
sequence_end_steps c = closing_steps (ends_pair c.level.context) tokens.FlowSequenceEnd c

-- `}`, before which no pair is open that ends with its entry
abbrev pub mapping_end_steps : Core → StepResult
mapping_end_steps c = closing_steps false tokens.FlowMappingEnd c

unfoldable pub next_flow_entry : Core → StepResult
next_flow_entry c =
    separate (pass_on 1 (with_context (behind_entry c.level.context) (record c { key_allowed = true })))
    >>= λ d. completed_step (behind_pair (ends_pair c.level.context) c.cursor.mark
    (up_to_here c.cursor.mark tokens.FlowEntry d.1)) d.1

-- `,`
unfoldable pub flow_entry_steps : Core → StepResult
flow_entry_steps c = remove_key c >>= next_flow_entry
