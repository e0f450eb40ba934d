-- The `?` of a block mapping is read (YAML 1.2.2, 8.2.2).
use Rattle.yaml_laws.proofs.Common.{Bool, IsTrue, List, Ok, [], ap, arith, false, inl, inr, length, refl, slice_index, suc, true, ℕ, ◌++◌, ◌+◌, ◌∙◌, ◌∷◌, ◌≡◌, ◌≤◌, ◌⊎◌, None, Option, nat_le, ◌==◌, is_blank, is_blank_or_breakz, line_feed, tab, Marker, along, ◌>>=◌, Candidate, behind_question, next, State, Kind, le_next, or-true, colon, question_mark, queue_of, behind_start, cursor_at, SpacesEnd, spaces_at}
use Rattle.saphyr_scanner.specs.declared.engine.level.Context.TheVariants as context
use Rattle.saphyr_scanner.specs.Steps.Core.{least_column, Core, completed_step, from_to, roll, remove_key, with_context, in_block}
use Rattle.saphyr_scanner.specs.Steps.Block as block
use Rattle.saphyr_scanner.specs.Grammar.Tokens as tokens
use Rattle.saphyr_scanner.specs.Steps.Fetch.{state_behind_content, step}
use Rattle.yaml_laws.specs.Grammar.BlockNodes as yaml
use Rattle.yaml_laws.proofs.Flow.GapSteps.{past_count, past_again}
use Rattle.yaml_laws.proofs.InBlock.States.{Frame, Moment, moment_at, moment_there, core_of, state_of, IsStop, crosses, At, Before, past}
use Rattle.yaml_laws.proofs.InBlock.Gaps.{past_stops, stop_tabbed}
use Rattle.yaml_laws.proofs.InBlock.Skips.{has_tab, spaces_end, spaces_reach}
use Rattle.yaml_laws.proofs.InBlock.Follows.{BeginsToken, begins_with, deeper_at}
use Rattle.yaml_laws.proofs.InBlock.Entries.{BeginsWhite, frame_behind, steps_on, start_places, start_performs, start_kinds, start_are, before_next}

-- ## `?`

white_first : (o : List ℕ) → BeginsWhite o → is_blank_or_breakz (slice_index o 0) ≡ true
white_first o h = grind arith

-- a space or a break
no_tab_first : (c : ℕ) (cs : List ℕ) → IsTrue (is_blank c) ⊎ (c ≡ line_feed) → has_tab (c ∷ cs) ≡ false
    → (c ≡ 32) ⊎ (c ≡ line_feed)
no_tab_first c cs (inl e) clean = grind arith
no_tab_first c cs (inr e) clean = inr e

reach : (m : Marker) (o : List ℕ) → BeginsWhite o → has_tab o ≡ false
    → (b : Bool) × (spaces_at false (cursor_at o m false) ≡ spaces_end (past 0 m o).0 b (past 0 m o).1)
reach m [] h clean = absurd h
reach m (c ∷ cs) h clean = spaces_reach m false c cs (no_tab_first c cs h clean) clean

pub colon_begins : (m : Marker) (o : List ℕ) → BeginsToken m (colon ∷ o)
colon_begins m o = begins_with 58 m o (refl, refl, refl) refl refl refl refl

no_tab_here : (y : List ℕ) → IsStop y → (slice_index y 0 == tab) ≡ false
no_tab_here [] h = refl
no_tab_here (c ∷ cs) h = grind arith

mark_enters : (f : Frame) (m : Marker) (y : List ℕ) (blank : Bool) (key : Option Candidate) (ad : ℕ)
    (deeper further : Bool) → nat_le f.indent m.col ≡ further → (d : Bool) × (remove_key
    (with_context (behind_question context.Block)
    (roll m.col (core_of f (moment_at m y blank key true ad deeper))))
    ≡ Ok (core_of (frame_behind further m.col f) (moment_at m y blank None true ad d)))
unfolding remove_key
mark_enters f m y blank key ad deeper true e = (false, rw e refl)
mark_enters f m y blank key ad deeper false e = (deeper, rw e refl)

-- after `?`, at the next token
abbrev question_moment : Marker → List ℕ → Bool → ℕ → Bool → Moment
question_moment n y blank ad deeper = moment_at n y blank None true ad deeper

passes_mark : (g : Frame) (m : Marker) (o : List ℕ) (blank : Bool) (ad : ℕ) (deeper : Bool) → BeginsWhite o
    → has_tab o ≡ false
    → (b : Bool) × (block.pass_question (core_of g (moment_at m (question_mark ∷ o) blank None true ad deeper))
    ≡ Ok (core_of g (question_moment (past 0 (along m 1) o).0 (past 0 (along m 1) o).1 b ad deeper)))
unfolding block.behind_mark
passes_mark g m o blank ad deeper h clean =
    let r = reach (along m 1) o h clean in
    let c = core_of g (moment_at m (63 ∷ o) blank None true ad deeper) in
    let none = no_tab_here (past 0 (along m 1) o).1 (past_stops (along m 1) o) in
    let there : block.behind_mark true
    (core_of g (question_moment (past 0 (along m 1) o).0 (past 0 (along m 1) o).1 r.0 ad deeper))
    ≡ Ok (core_of g (question_moment (past 0 (along m 1) o).0 (past 0 (along m 1) o).1 r.0 ad deeper)) = rw none refl in
    let met = ap (λ (x : SpacesEnd). x.space) r.1 in
    let at = ap (λ (x : SpacesEnd). x.cursor) r.1 in (r.0, simp (met, at, there))

question_step : (f : Frame) (m : Marker) (o : List ℕ) (blank : Bool) (key : Option Candidate) (ad : ℕ)
    (deeper further : Bool) → nat_le f.indent m.col ≡ further → BeginsWhite o → has_tab o ≡ false → (i : ℕ)
    → (b : Bool) × (d : Bool)
    × (step 63 (slice_index o 0) i (core_of f (moment_at m (question_mark ∷ o) blank key true ad deeper))
    ≡ completed_step (behind_start further m tokens.BlockMappingStart (from_to m (past 0 (along m 1) o).0 tokens.Key))
    (core_of (frame_behind further m.col f)
    (question_moment (past 0 (along m 1) o).0 (past 0 (along m 1) o).1 b ad d)))
unfolding step block.key_steps block.begin_key
question_step f m o blank key ad deeper further e h clean i =
    let c = core_of f (moment_at m (63 ∷ o) blank key true ad deeper) in
    let r = mark_enters f m (63 ∷ o) blank key ad deeper further e in
    let g = frame_behind further m.col f in
    let p = passes_mark g m o blank ad r.0 h clean in
    let first = white_first o h in
    let last = core_of g (question_moment (past 0 (along m 1) o).0 (past 0 (along m 1) o).1 p.0 ad r.0) in
    let begun = ap (λ q. q >>= λ (d : Core). block.pass_question (record d { key_allowed = in_block d })) r.1 ∙ p.1 in
    let done = ap (λ q. q >>= λ (d : Core). completed_step
    (behind_start (nat_le f.indent m.col) m tokens.BlockMappingStart (from_to m d.cursor.mark tokens.Key)) d) begun
    ∙ ap (λ (x : Bool). completed_step
    (behind_start x m tokens.BlockMappingStart (from_to m last.cursor.mark tokens.Key)) last) e in (
      p.0,
      r.0,
      rw first done,
    )

-- the tokens before a key, where a mapping may start
abbrev pub key_kinds : Bool → List Kind
key_kinds further = start_kinds further tokens.BlockMappingStart tokens.Key

shifted : (i l limit : ℕ) → i + suc l ≤ limit → i + 1 + l ≤ limit
shifted i l limit h = omega (arith, h)

-- `?` is read, which begins a mapping or goes on with one. As `reads_value` of the colon, but the step itself passes
-- what is behind the mark, so its token ends at the next one.
pub reads_question : {limit : ℕ} {start : State} {ts : List Kind} (f : Frame) (m : Marker) (o : List ℕ) (further : Bool)
    → nat_le f.indent m.col ≡ further → f.indent ≤ m.col + 1 → BeginsWhite o → has_tab o ≡ false
    → m.index + length (question_mark ∷ o) ≤ limit → (v : At limit start f m (question_mark ∷ o) ts) → v.allowed ≡ true
    → Before limit start (yaml.BehindMark m.col) (frame_behind further m.col f) (along m 1) o (ts ++ key_kinds further)
unfolding state_behind_content
reads_question {limit} {start} {ts} f m o further e far h clean count v allowed =
    let i = next (queue_of v.places) in
    let deeper = deeper_at f v.deeper m in
    let s = question_step f m o v.blank v.key v.adjacent deeper further e h clean i in
    let g = frame_behind further m.col f in
    let n = (past 0 (along m 1) o).0 in
    let y = (past 0 (along m 1) o).1 in
    let t = question_moment n y s.0 v.adjacent s.1 in
    let qs = start_places further m tokens.BlockMappingStart m n tokens.Key v.places in
    let made : state_behind_content 63 (slice_index o 0)
    (state_of f (moment_at m (63 ∷ o) v.blank v.key true v.adjacent deeper) v.places) ≡ Ok (state_of g t qs) =
    cc (start_performs further m tokens.BlockMappingStart m n tokens.Key v.places) in
    let there : state_behind_content 63 (slice_index o 0)
    (state_of f (moment_there v deeper) v.places) ≡ Ok (state_of g t qs) =
    cc in
    let counted = past_count 0 (along m 1) o in
    let stop = past_stops (along m 1) o in
    before_next (yaml.BehindMark m.col) g t qs (along m 1) o
    (steps_on f g m (63 ∷ o) v (begins_with 63 m o (refl, refl, refl) refl refl refl refl) far t qs there refl
    (omega (arith, counted, (shifted m.index (length o) limit count))))
    (start_are further m tokens.BlockMappingStart m n tokens.Key v.places ts v.are) refl refl refl (le_next v.adjacent
    m.index v.low)
    (past_again 0 (along m 1) o) (stop_tabbed (least_column (core_of g t)) n s.0 y stop) (or-true (crosses y)) refl
