-- The `?` of a text in flow style is read.
use Rattle.std.proofs.Common.{◌≡◌, ◌≢◌, ℕ, ◌≤◌, Bool, true, false, List, [], ◌∷◌, length, slice_index, Ok, refl, sym, ap, ◌∙◌, arith}
use Rattle.yaml_laws.proofs.Common.{None, is_blank_or_breakz, Marker, Cursor, ◌>>=◌, along, cursor_at, Context, SpacesEnd, spaces_at, is_block, behind_question, has_tab_outside, le_next, question_mark, token_place}
use Rattle.yaml_laws.proofs.InBlock.Skips.{spaces_end}
use Rattle.saphyr_scanner.specs.Grammar.Tokens as tokens
use Rattle.saphyr_scanner.specs.Steps.Core.{Core, from_to, up_to_here, completed_step, remove_key}
use Rattle.saphyr_scanner.specs.Steps.Block as block
use Rattle.saphyr_scanner.specs.Steps.Block.{behind_mark, pass_question, begin_key}
use Rattle.saphyr_scanner.specs.Steps.Fetch.{step}
use Rattle.yaml_laws.proofs.InFlow.States.{Around, arrived, at_cursor, core_at, state_at, FlowMoment, moment_in, moment_with, kept_inside}
use Rattle.yaml_laws.proofs.Flow.Places.{right_one}
use Rattle.yaml_laws.proofs.Flow.States.{moved, IsContentStart, IsParted, no_key, PassesPiece, FitsAround, StandsBefore}
use Rattle.yaml_laws.proofs.Flow.GapSteps.{past_content}
use Rattle.yaml_laws.proofs.Flow.Fillers.{separation_past}
use Rattle.yaml_laws.proofs.Flow.Tokens.{arrives, step_comes, within_index}
use Rattle.yaml_laws.proofs.Flow.Joins.{step_passes}
use Rattle.yaml_laws.proofs.InBlock.Crossings.{fresh_in_flow, holds_in_flow}
use Rattle.yaml_laws.proofs.Flow.Brackets.{IsTokenMark, mark_begins, mark_moved, one_on, token_mark}
use Rattle.yaml_laws.proofs.Flow.Ends.{ends_behind_separation}
use Rattle.yaml_laws.proofs.Flow.Spaces.{spaces_passed}

question : IsTokenMark 63
question = token_mark 63 refl

question_reads_key : (second i : ℕ) (c : Core) → is_blank_or_breakz second ≡ true
    → step 63 second i c ≡ block.key_steps c
unfolding step
question_reads_key second i c h = rw h refl

-- the moment behind a `?`
abbrev question_read : Cursor → FlowMoment → FlowMoment
question_read there now =
    record now { cursor = there; context = behind_question now.context; key = None; allowed = false }

begins_key : (around : Around) (d : Bool) (now : FlowMoment) → is_block now.context ≡ false
    → begin_key (core_at around d now) ≡ pass_question (core_at around d (question_read now.cursor now))
unfolding begin_key remove_key
begins_key around d now e = grind arith

passes_mark : (around : Around) (d : Bool) (o : List ℕ) (m : Marker) (b : Bool) (now : FlowMoment)
    (n : Marker) (blank : Bool) (c : ℕ) (cs : List ℕ) → IsContentStart c
    → spaces_at false (cursor_at o (along m 1) false) ≡ spaces_end n blank (c ∷ cs)
    → pass_question (core_at around d (at_cursor (cursor_at (question_mark ∷ o) m b) now))
    ≡ Ok (core_at around d (at_cursor (cursor_at (c ∷ cs) n blank) now))
unfolding behind_mark
passes_mark around d o m b now n blank c cs content is =
    let met = ap (λ (x : SpacesEnd). x.space) is in
    let at = ap (λ (x : SpacesEnd). x.cursor) is in grind (arith, met, at)

question_flows : (y : Context) → is_block y ≡ false → is_block (behind_question y) ≡ false
question_flows y e = grind arith

key_of : (around : Around) (d : Bool) (now : FlowMoment) → is_block now.context ≡ false
    → block.key_steps (core_at around d now) ≡ (begin_key (core_at around d now)
    >>= λ e. completed_step (up_to_here now.cursor.mark tokens.Key e ∷ []) e)
unfolding block.key_steps
key_of around d now e = grind arith

-- A `?` before separation without a tab: the key after it is not kept. The step passes what is behind the mark up to
-- the next token (`spaces_passed`), and puts the mark's token, which ends there.
pub mark_passes : (around : Around) (y : Context) → is_block y ≡ false → (m : Marker) (o : List ℕ)
    → FitsAround around m (question_mark ∷ []) o
    → (parted : IsParted around.indent o) → parted.separation ≢ [] → has_tab_outside false parted.separation ≡ false
    → (now : FlowMoment) → now.adjacent ≤ m.index → StandsBefore around now m (question_mark ∷ o)
    → PassesPiece around (state_at around (moment_in y now)) (no_key (moved m (question_mark ∷ []))) (behind_question y)
    now.outer
    now.places (moved m (question_mark ∷ [])) o (tokens.Key ∷ [])
mark_passes around y flows m o fits parted some tabs now before text =
    let v = arrives around (moment_in y now) m (63 ∷ o) (text ∙ past_content around.indent m 63 o question.content) refl
    (mark_begins m 63 o question fits.clear) flows fits.right in
    let on = le_next around.indent m.col fits.right in
    let w = parted.separation in
    let c = parted.first in
    let cs = parted.others in
    let seen = arrived v in
    let p = spaces_passed around.indent (along m 1) false w c cs parted.parts on some tabs parted.ends in
    let n = moved (along m 1) w in
    let there = cursor_at (c ∷ cs) n p.still_blank in
    let white : is_blank_or_breakz (slice_index o 0) ≡ true =
    cc (ends_behind_separation around.indent w (c ∷ cs) parted.parts some) in
    let stepped = λ (d : Bool). question_reads_key (slice_index o 0) (length now.places) (core_at around d seen) white
    ∙ key_of around d seen flows ∙ ap (λ q. q >>= λ (e : Core). completed_step (up_to_here m tokens.Key e ∷ []) e)
    (begins_key around d seen flows
    ∙ passes_mark around d o m v.blank (question_read seen.cursor seen) n p.still_blank c cs parted.ends (cc)) in
    let lands = sym (cc (separation_past around.indent (along m 1) w (c ∷ cs) parted.parts on)) in
    let below = fits.below in
    let new = token_place m n tokens.Key ∷ [] in
    let next = question_read there seen in
    let came = step_comes around (state_at around (moment_in y now)) (moment_in y now) m (63 ∷ o) v None
    (moment_with new next) (from_to m n tokens.Key ∷ []) (λ d. d) stepped refl
    (within_index around.indent around.limit there (along m 1) o lands (omega (arith, below)))
    (kept_inside (question_flows y flows)) in
    step_passes next new (moved m (63 ∷ [])) o (tokens.Key ∷ [])
    (no_key (moved m (63 ∷ []))) came (right_one around.indent m 63 refl fits.right) (cc (mark_moved m 63 question))
    (fresh_in_flow (behind_question y) o false there (question_flows y flows))
    (holds_in_flow (question_flows y flows)) refl
    (came.same (question_flows y flows), refl, one_on m 63 now.adjacent before)
