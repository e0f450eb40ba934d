-- The `-` of an entry of a block sequence is read (YAML 1.2.2, 8.2.1).
use Rattle.yaml_laws.proofs.Common.{Bool, IsTrue, List, Ok, [], ap, append_assoc, arith, false, inl, length, refl, slice_index, suc, true, ℕ, ◌++◌, ◌+◌, ◌∙◌, ◌∷◌, ◌≡◌, ◌≤◌, ◌⊎◌, None, Option, if◌then◌else◌, nat_le, nat_lt, not, ◌&&◌, ◌==◌, ◌||◌, hyphen, is_alpha, is_blank, is_blank_or_breakz, is_break, is_flow, is_document_indicator, Yes, Marker, along, separation, ◌>>=◌, AreIn, cursor_at, IsCommentBehind, Candidate, pass_on, Place, bare_place, empty_piece, next, State, Kind, LeadsTo, place_kinds, place_kinds_append, queue_of, token_place, le_next, or-true, length-append, found_blanks, found_tabs, has_valid_yaml_ws}
use Rattle.saphyr_scanner.specs.Steps.Core.{least_column, completed_step, at_mark, from_to, perform, roll, remove_key}
use Rattle.saphyr_scanner.specs.Steps.Block.{block_entry_steps, next_entry, pass_dash, deepen, refuse_tab, behind_start}
use Rattle.saphyr_scanner.specs.Grammar.Tokens as tokens
use Rattle.saphyr_scanner.specs.Steps.Fetch.{fetch, state_behind_content, step}
use Rattle.yaml_laws.proofs.Flow.GapSteps.{past_low}
use Rattle.yaml_laws.specs.Grammar.BlockNodes as yaml
use Rattle.yaml_laws.specs.Grammar.BlockNodes.{Position as Position}
use Rattle.yaml_laws.proofs.Flow.Separates.{StopsLine, line_separated}
use Rattle.yaml_laws.proofs.InBlock.States.{Frame, Moment, frame_at_column, moment_at, moment_there, core_of, state_of, IsUntabbed, crosses, is_compact, IsPlaced, At, Before, past}
use Rattle.yaml_laws.proofs.InBlock.Gaps.{past_stops}
use Rattle.yaml_laws.proofs.InBlock.Skips.{IsCleanBehind}
use Rattle.yaml_laws.proofs.InBlock.Follows.{follows_itself, steps_from, goes_alike, left_key, left_again, lands, BeginsToken, begins_with, begins_here, arrives_at, stays_open, deeper_at, left_none}

-- ## What comes after an indicator

-- a blank or a break comes first
abbrev pub BeginsWhite : List ℕ → Type 0
BeginsWhite [] = ⊥
BeginsWhite (c ∷ cs) = IsTrue (is_blank c) ⊎ (c ≡ 10)

-- After an indicator are blanks, and a comment after some or none; then the end of the line, or a token. After
-- tabs
-- that is no `-` of a compact sequence and, after a colon and tabs alone, no word. No tab is in the indentation of
-- what comes next, of so many columns.
pub record IsBehindIndicator (colon : Bool) (indent : ℕ) (o : List ℕ) : Type 0 where
  pub blanks : List ℕ
  pub comment : List ℕ
  pub more : List ℕ
  pub is : o ≡ blanks ++ (comment ++ more)
  pub are : AreIn is_blank blanks
  pub parts : IsCommentBehind blanks comment
  pub stops : StopsLine comment more
  pub dash : (found_tabs (found_blanks Yes o)
      && ((slice_index more 0 == hyphen) && is_blank_or_breakz (slice_index more 1))) ≡ false
  pub word : colon ≡ true → (not (has_valid_yaml_ws (found_blanks Yes o))
      && ((slice_index more 0 == hyphen) || is_alpha (slice_index more 0))) ≡ false
  pub lands : (m : Marker) → past 0 (along m (length (blanks ++ comment))) more ≡ past 0 m o
  pub crosses_same : crosses more ≡ crosses o
  pub clean : IsCleanBehind indent more
  pub clean_all : IsCleanBehind indent o
  pub first : is_blank_or_breakz (slice_index o 0) ≡ true
  pub white : (o ≡ []) ⊎ BeginsWhite o

-- after what is passed on the line
abbrev pub front_end : {colon : Bool} {indent : ℕ} {o : List ℕ} → IsBehindIndicator colon indent o → Marker → Marker
front_end h m = along m (length (h.blanks ++ h.comment))

-- blanks and a comment are passed
pub separates : {colon : Bool} {indent : ℕ} (o : List ℕ) (h : IsBehindIndicator colon indent o) (m : Marker) (b : Bool)
    → separation Yes (cursor_at o m b) ≡ Ok (found_blanks Yes o, cursor_at h.more (front_end h m) b)
separates o h m b = line_separated (cursor_at o m b) h.blanks h.comment h.more h.is h.are h.parts h.stops

-- ## A step

-- From a token a step leads on. After it no key is kept.
pub steps_on : {limit : ℕ} {start : State} {ts : List Kind} (f g : Frame) (m : Marker) (y : List ℕ)
    (v : At limit start f m y ts) → BeginsToken m y → f.indent ≤ m.col + 1 → (n : Moment) (qs : List Place)
    → state_behind_content (slice_index y 0) (slice_index y 1)
    (state_of f (moment_there v (deeper_at f v.deeper m)) v.places)
    ≡ Ok (state_of g n qs) → n.key ≡ None → n.cursor.mark.index ≤ limit → LeadsTo limit (state_of g n qs) start
unfolding fetch
steps_on f g m y v begins far n qs is none low = search (arrives_at, stays_open, begins_here, steps_from)

-- ## `-`

dash_is_no_marker : (o : List ℕ) → is_blank_or_breakz (slice_index o 0) ≡ true
    → is_document_indicator (hyphen ∷ o) ≡ false
dash_is_no_marker [] h = refl
dash_is_no_marker (c ∷ cs) h = grind arith

dash_begins : (m : Marker) (o : List ℕ) → is_blank_or_breakz (slice_index o 0) ≡ true → BeginsToken m (hyphen ∷ o)
dash_begins m o h = begins_with 45 m o (refl, refl, refl) refl refl refl (dash_is_no_marker o h)

deepens : (g : Frame) (n : Moment) → (d : Bool) × (deepen (core_of g n) ≡ core_of g (record n { deeper = d }))
deepens g n = by_first (is_break (slice_index n.cursor.rest 0) || is_flow (slice_index n.cursor.rest 0)) refl
  where
    by_first : (b : Bool) → (is_break (slice_index n.cursor.rest 0) || is_flow (slice_index n.cursor.rest 0)) ≡ b
        → (d : Bool) × (deepen (core_of g n) ≡ core_of g (record n { deeper = d }))
    by_first true e = (nat_lt 0 g.indent || n.deeper, rw e refl)
    by_first false e = (n.deeper, rw e refl)

-- what comes after `-` on its line is passed
passes_dash : {colon : Bool} {indent : ℕ} (g : Frame) (n : Moment) (o : List ℕ) (h : IsBehindIndicator colon indent o)
    (m : Marker) → n.cursor ≡ cursor_at o m false → (d : Bool) × (pass_dash (core_of g n)
    ≡ Ok (core_of g (record n { cursor = cursor_at h.more (front_end h m) false; deeper = d })))
unfolding pass_dash
passes_dash g n o h m at =
    let there = cursor_at h.more (front_end h m) false in
    let sep = ap (separation Yes) at ∙ separates o h m false in
    let d = deepens g (record n { cursor = there }) in
    let untabbed : refuse_tab (found_blanks Yes o, core_of g (record n { cursor = there }))
    ≡ Ok (deepen (core_of g (record n { cursor = there }))) = rw h.dash refl in (
      d.0,
      grind (arith, core_of),
    )

-- the frame after a `-`, and what it puts before its token
abbrev pub frame_behind : Bool → ℕ → Frame → Frame
frame_behind further column f = if further then frame_at_column column f else f

-- after `-`
abbrev behind_dash : List ℕ → Marker → Bool → ℕ → Moment
behind_dash more n deeper ad = moment_at n more false None true ad deeper

dash_enters : (f : Frame) (m : Marker) (o : List ℕ) (blank : Bool) (key : Option Candidate) (ad : ℕ)
    (deeper further : Bool) → nat_le f.indent m.col ≡ further
    → (d : Bool) × (roll m.col (pass_on 1 (core_of f (moment_at m (hyphen ∷ o) blank key true ad deeper)))
    ≡ core_of (frame_behind further m.col f)
    (record (moment_at m (hyphen ∷ o) blank key true ad d) { cursor = cursor_at o (along m 1) false }))
dash_enters f m o blank key ad deeper true e = (false, rw e refl)
dash_enters f m o blank key ad deeper false e = (deeper, rw e refl)

forgets : (g : Frame) (n : Moment) → n.required ≡ false
    → remove_key (core_of g n) ≡ Ok (core_of g (record n { key = None; required = false }))
unfolding remove_key
forgets g n free = rw free refl

-- What the step at a `-` gives, taken apart in its order: a sequence begins if the `-` is right of the innermost
-- collection (`further`), what is behind it on its line is passed, and no key is kept.
dash_step : {colon : Bool} {indent : ℕ} (f : Frame) (m : Marker) (o : List ℕ) (h : IsBehindIndicator colon indent o)
    (blank : Bool) (key : Option Candidate) (ad : ℕ) (deeper further : Bool) → nat_le f.indent m.col ≡ further → (i : ℕ)
    → (d : Bool) × (step 45 (slice_index o 0) i (core_of f (moment_at m (hyphen ∷ o) blank key true ad deeper))
    ≡ completed_step (behind_start further m tokens.BlockSequenceStart
    (at_mark (front_end h (along m 1)) tokens.BlockEntry))
    (core_of (frame_behind further m.col f) (behind_dash h.more (front_end h (along m 1)) d ad)))
unfolding step block_entry_steps next_entry
dash_step f m o h blank key ad deeper further e i =
    let c = core_of f (moment_at m (45 ∷ o) blank key true ad deeper) in
    let r = dash_enters f m o blank key ad deeper further e in
    let n : Moment = record (moment_at m (45 ∷ o) blank key true ad r.0) { cursor = cursor_at o (along m 1) false } in
    let g = frame_behind further m.col f in
    let p = passes_dash g n o h (along m 1) refl in
    let all = ap pass_dash r.1 ∙ p.1 in
    let there : Moment = record n { cursor = cursor_at h.more (front_end h (along m 1)) false; deeper = p.0 } in
    let gone = ap (λ q. q >>= remove_key) all ∙ forgets g there refl in
    let last = record (core_of g (record there { key = None; required = false })) { key_allowed = true } in (
      p.0,
      grind arith,
    )

-- the places of an indicator at n to e, before which a collection may start at m
pub start_places : Bool → Marker → Kind → Marker → Marker → Kind → List Place → List Place
start_places true m opens n e kind ps = (ps ++ bare_place (empty_piece m opens) ∷ []) ++ token_place n e kind ∷ []
start_places false m opens n e kind ps = ps ++ token_place n e kind ∷ []

pub start_performs : (further : Bool) (m : Marker) (opens : Kind) (n e : Marker) (kind : Kind) (ps : List Place)
    → perform (behind_start further m opens (from_to n e kind)) (queue_of ps)
    ≡ queue_of (start_places further m opens n e kind ps)
unfolding start_places
start_performs further m opens n e kind ps = grind arith

-- their tokens
abbrev pub start_kinds : Bool → Kind → Kind → List Kind
start_kinds further opens kind = if further then opens ∷ kind ∷ [] else kind ∷ []

pub start_are : (further : Bool) (m : Marker) (opens : Kind) (n e : Marker) (kind : Kind) (ps : List Place)
    (ts : List Kind) → place_kinds ps ≡ ts
    → place_kinds (start_places further m opens n e kind ps) ≡ ts ++ start_kinds further opens kind
unfolding start_places
start_are further m opens n e kind ps ts h = grind (arith, place_kinds_append, token_place, append_assoc)

-- the tokens of a `-`, before which a sequence may start
abbrev pub dash_kinds : Bool → List Kind
dash_kinds further = start_kinds further tokens.BlockSequenceStart tokens.BlockEntry

-- After an indicator content has to reach no column after the next.
pub least_within : (further : Bool) (column : ℕ) (f : Frame) (n : Moment) → f.indent ≤ column + 1
    → least_column (core_of (frame_behind further column f) n) ≤ suc column
least_within further column f n far = grind arith

-- A raw state after an indicator, told at the next token, which blanks, breaks and comments may come before. It is
-- as `Before` asks: no key is kept there, and one may begin if a break was passed or the place allows it.
pub before_next : {limit : ℕ} {start : State} {ts : List Kind} (place : Position) (g : Frame) (n : Moment)
    (qs : List Place) (m : Marker) (o : List ℕ) → LeadsTo limit (state_of g n qs) start → place_kinds qs ≡ ts
    → n.key ≡ None → n.required ≡ false → n.comment ≡ None → n.adjacent ≤ m.index
    → past 0 n.cursor.mark n.cursor.rest ≡ past 0 m o → IsUntabbed (least_column (core_of g n)) n.cursor
    → (crosses n.cursor.rest || n.allowed) ≡ (is_compact place || crosses o) → IsPlaced place m
    → Before limit start place g m o ts
before_next {limit} {start} {ts} place g n qs m o leads are none free quiet low text clean allows placed =
    let t = past 0 m o in
    let l = lands g n qs t.0 t.1 free text clean (inl quiet) in
    record {
      at = record {
        blank = l.0;
        key = left_key n.key t.0;
        allowed = crosses n.cursor.rest || n.allowed;
        adjacent = n.adjacent;
        deeper = n.deeper;
        places = qs;
        follows = goes_alike (follows_itself leads) l.1 refl;
        stop = past_stops m o;
        near = left_again n.key t.0;
        are = are;
        low = omega (arith, low, past_low 0 m o);
      };
      none = left_none n.key none t.0;
      allows = λ e. allows ∙ e;
      placed = placed;
    }

-- `-` is read, which begins a sequence or goes on with one: from where the scanner stands the step is taken
-- (`steps_on`), and its state is told at the next token (`before_next`).
pub reads_dash : {colon : Bool} {limit : ℕ} {start : State} {ts : List Kind} (f : Frame) (m : Marker) (o : List ℕ)
    (further : Bool) → nat_le f.indent m.col ≡ further → f.indent ≤ m.col + 1 → IsBehindIndicator colon (suc m.col) o
    → m.index + length (hyphen ∷ o) ≤ limit → (v : At limit start f m (hyphen ∷ o) ts) → v.allowed ≡ true
    → Before limit start (yaml.BehindDash m.col) (frame_behind further m.col f) (along m 1) o
    (ts ++ dash_kinds further)
unfolding state_behind_content
reads_dash {limit} {start} {ts} f m o further e far h count v allowed =
    let i = next (queue_of v.places) in
    let n = front_end h (along m 1) in
    let deeper = deeper_at f v.deeper m in
    let s = dash_step f m o h v.blank v.key v.adjacent deeper further e i in
    let g = frame_behind further m.col f in
    let t = behind_dash h.more n s.0 v.adjacent in
    let made : state_behind_content 45 (slice_index o 0)
    (state_of f (moment_at m (45 ∷ o) v.blank v.key true v.adjacent deeper) v.places)
    ≡ Ok (state_of g t (start_places further m tokens.BlockSequenceStart n n tokens.BlockEntry v.places)) =
    grind (arith, queue_of, core_of, start_performs) in
    let there : state_behind_content 45 (slice_index o 0)
    (state_of f (moment_there v deeper) v.places)
    ≡ Ok (state_of g t (start_places further m tokens.BlockSequenceStart n n tokens.BlockEntry v.places)) =
    grind (arith, state_of, moment_at) in
    let size = ap length h.is ∙ length-append h.blanks (h.comment ++ h.more) in
    let inner = length-append h.comment h.more in
    let front = length-append h.blanks h.comment in
    let low : n.index ≤ limit = omega (arith, count, size, inner, front) in
    before_next (yaml.BehindDash m.col) g t (start_places further m tokens.BlockSequenceStart n n tokens.BlockEntry
    v.places) (along m 1) o
    (steps_on f g m (45 ∷ o) v (dash_begins m o h.first) far t (start_places further m tokens.BlockSequenceStart n n
    tokens.BlockEntry v.places) there refl low)
    (start_are further m tokens.BlockSequenceStart n n tokens.BlockEntry v.places ts v.are) refl refl refl
    (le_next v.adjacent m.index v.low) (h.lands (along m 1))
    (h.clean (least_column (core_of g t)) (least_within further m.col f t far) n) (or-true (crosses h.more)) refl
