-- The `:` of a block mapping is read (YAML 1.2.2, 8.2.2).
use Rattle.yaml_laws.proofs.Common.{Bool, List, Ok, [], ap, append_assoc, arith, false, inr, length, refl, slice_index, suc, sym, true, ℕ, ◌++◌, ◌+◌, ◌<◌, ◌∙◌, ◌∷◌, ◌≡◌, ◌≤◌, ◌⊎◌, None, Option, Some, if◌then◌else◌, nat_le, nat_lt, ◌==◌, ◌||◌, tab, Marker, SkipTabs, Yes, Cursor, along, separation, ◌>>=◌, Core, Open, at_mark, completed_step, least_column, perform, Candidate, with_cursor, Place, Queue, bare_place, empty_piece, next, Piece, State, after_step, Kind, cursor_at, le_next, zero_below_next, or-true, colon, place_kinds, place_kinds_append, queue_of, or-false, length-append, Opening, Node}
use Rattle.saphyr_scanner.specs.declared.queue.Opening.TheVariants as opening
use Rattle.saphyr_scanner.specs.Grammar.Tokens as tokens
use Rattle.saphyr_scanner.specs.Steps.Value as value
use Rattle.saphyr_scanner.specs.Steps.Fetch.{fetch, fetch_here, state_behind_content, step}
use Rattle.yaml_laws.specs.Grammar.BlockNodes as yaml
use Rattle.yaml_laws.proofs.Flow.Values.{pair_places, performs}
use Rattle.yaml_laws.proofs.InBlock.States.{Frame, Moment, moment_at, moment_there, moment_with, core_of, state_of, tabbed, crosses, At, Before, past}
use Rattle.yaml_laws.proofs.InBlock.Follows.{steps_from, begins_here, deeper_at, lands_key}
use Rattle.yaml_laws.proofs.InBlock.Entries.{IsBehindIndicator, front_end, separates, frame_behind, steps_on, start_places, start_performs, start_kinds, start_are, least_within, before_next}
use Rattle.yaml_laws.proofs.InBlock.Statements.{KeyRead}
use Rattle.yaml_laws.proofs.InBlock.Questions.{colon_begins, key_kinds}

-- ## After a colon

-- What comes after a colon on its line is passed, where a tab comes first; else nothing is.
record PassesColon (indent : ℕ) (o : List ℕ) (h : IsBehindIndicator true indent o) (m : Marker) : Type 0 where
  mark : Marker
  rest : List ℕ
  passes : (f : Frame) (n : Moment) → n.cursor ≡ cursor_at o m false
      → value.check_tab (core_of f n) ≡ Ok (core_of f (record n { cursor = cursor_at rest mark false }))
  low : mark.index ≤ m.index + length o
  lands : past 0 mark rest ≡ past 0 m o
  crosses_same : crosses rest ≡ crosses o
  clean : (least : ℕ) → least ≤ indent → tabbed least mark false false rest ≡ false

passes_colon : (indent : ℕ) (o : List ℕ) (h : IsBehindIndicator true indent o) (m : Marker) → PassesColon indent o h m
unfolding value.check_tab
passes_colon indent o h m = by_tab (slice_index o 0 == 9) refl
  where
    size : length o ≡ length (h.blanks ++ h.comment) + length h.more
    size = ap length (h.is ∙ sym (append_assoc h.blanks h.comment h.more))
        ∙ length-append (h.blanks ++ h.comment) h.more

    passed : (slice_index o 0 == tab) ≡ true → (f : Frame) (n : Moment) → n.cursor ≡ cursor_at o m false
        → value.check_tab (core_of f n) ≡ Ok (core_of f (record n { cursor = cursor_at h.more (front_end h m) false }))
    passed e f n at =
        let sep = ap (separation Yes) at ∙ separates o h m false in
        let first : (slice_index n.cursor.rest 0 == 9) ≡ true = ap (λ (s : Cursor). slice_index s.rest 0 == 9) at ∙ e in
        rw first (ap (λ r. (r >>= λ (x : SkipTabs × Cursor). Ok (x.0, with_cursor x.1 (core_of f n)))
        >>= value.refuse_lone_tab) sep ∙ (rw (h.word refl) refl))

    by_tab : (b : Bool) → (slice_index o 0 == tab) ≡ b → PassesColon indent o h m
    by_tab false e = record {
      mark = m;
      rest = o;
      passes = λ f n at. rw (ap (λ (s : Cursor). slice_index s.rest 0 == 9) at ∙ e)
          (ap (λ (s : Cursor). Ok (core_of f (record n { cursor = s }))) at);
      low = omega arith;
      lands = refl;
      crosses_same = refl;
      clean = λ least low. h.clean_all least low m;
    }
    by_tab true e = record {
      mark = front_end h m;
      rest = h.more;
      passes = passed e;
      low = omega (arith, size);
      lands = h.lands m;
      crosses_same = h.crosses_same;
      clean = λ least low. h.clean least low (front_end h m);
    }

-- ## `:` after `?`, or without a key

-- after a `:` of its own
abbrev behind_value : Marker → List ℕ → ℕ → Moment
behind_value n o ad = moment_at n o false None true ad true

some_further : (i k : ℕ) (b : Bool) → nat_le i k ≡ b → nat_lt 0 i ≡ true ⊎ (b ≡ true)
some_further i k true e = inr refl
some_further i k false e = grind arith

value_step : (f : Frame) (m : Marker) (o : List ℕ) (h : IsBehindIndicator true (suc m.col) o)
    (p : PassesColon (suc m.col) o h (along m 1)) (blank : Bool) (ad : ℕ) (deeper further : Bool)
    → nat_le f.indent m.col ≡ further → (i : ℕ)
    → step 58 (slice_index o 0) i (core_of f (moment_at m (colon ∷ o) blank None true ad deeper))
    ≡ completed_step (value.opening_actions false m (core_of f (moment_at m (colon ∷ o) blank None true ad deeper)))
    (core_of (frame_behind further m.col f) (behind_value p.mark p.rest ad))
unfolding step value.value_steps value.behind_key value.value_alone value.opening_actions
value_step f m o h p blank ad deeper further e i =
    let n : Moment = record (moment_at m (58 ∷ o) blank None true ad deeper)
    { cursor = cursor_at o (along m 1) false } in
    rw h.first (ap (λ r. r >>= λ (c : Core). value.behind_key c.level.key false m c) (p.passes f n refl)
    ∙ alone further e (some_further f.indent m.col further e))
  where
    d : Moment
    d = record (moment_at m (58 ∷ o) blank None true ad deeper) { cursor = cursor_at p.rest p.mark false }

    alone : (b : Bool) → nat_le f.indent m.col ≡ b → nat_lt 0 f.indent ≡ true ⊎ (b ≡ true)
        → value.behind_key None false m (core_of f d)
        ≡ completed_step (value.opening_actions false m (core_of f (moment_at m (colon ∷ o) blank None true ad deeper)))
        (core_of (frame_behind b m.col f) (behind_value p.mark p.rest ad))
    alone b h k = grind (arith, zero_below_next)

value_performs : (f : Frame) (n : Moment) (further : Bool) (m : Marker) (ps : List Place)
    → nat_le f.indent m.col ≡ further → perform (value.opening_actions false m (core_of f n)) (queue_of ps)
    ≡ queue_of (start_places further m tokens.BlockMappingStart m m tokens.Value ps)
unfolding value.opening_actions
value_performs f n true m ps e = rw e (start_performs true m tokens.BlockMappingStart m m tokens.Value ps)
value_performs f n false m ps e = rw e (start_performs false m tokens.BlockMappingStart m m tokens.Value ps)

-- the tokens of a `:`, before which a mapping may start
abbrev pub value_kinds : Bool → List Kind
value_kinds further = start_kinds further tokens.BlockMappingStart tokens.Value

room : (i j l limit : ℕ) → j ≤ i + 1 + l → i + suc l ≤ limit → j ≤ limit
room i j l limit k h = omega (arith, k, h)

-- The `:` of a value is read, which begins a mapping or goes on with one. From where the scanner stands the step is
-- taken (`steps_on`), and its state is told at the next token (`before_next`).
pub reads_value : {limit : ℕ} {start : State} {ts : List Kind} (f : Frame) (m : Marker) (o : List ℕ) (further : Bool)
    → nat_le f.indent m.col ≡ further → f.indent ≤ m.col + 1
    → IsBehindIndicator true (suc m.col) o
    → m.index + length (colon ∷ o) ≤ limit → (v : At limit start f m (colon ∷ o) ts) → v.key ≡ None → v.allowed ≡ true
    → Before limit start (yaml.BehindMark m.col) (frame_behind further m.col f) (along m 1) o
    (ts ++ value_kinds further)
unfolding state_behind_content
reads_value {limit} {start} {ts} f m o further e far h count v none allowed =
    let i = next (queue_of v.places) in
    let deeper = deeper_at f v.deeper m in
    let p = passes_colon (suc m.col) o h (along m 1) in
    let g = frame_behind further m.col f in
    let t = behind_value p.mark p.rest v.adjacent in
    let qs = start_places further m tokens.BlockMappingStart m m tokens.Value v.places in
    let n = moment_at m (58 ∷ o) v.blank None true v.adjacent deeper in
    let made : state_behind_content 58 (slice_index o 0) (state_of f n v.places) ≡ Ok (state_of g t qs) =
    ap (λ r. after_step r (queue_of v.places)) (value_step f m o h p v.blank v.adjacent deeper further e i)
    ∙ ap (λ (q : Queue). Ok (let r : State = record { core = core_of g t; queue = q } in r))
    (value_performs f n further m v.places e) in
    let there : state_behind_content 58 (slice_index o 0)
    (state_of f (moment_there v deeper) v.places) ≡ Ok (state_of g t qs) =
    grind (arith, state_of, moment_at) in
    before_next (yaml.BehindMark m.col) g t qs (along m 1) o
    (steps_on f g m (58 ∷ o) v (colon_begins m o) far t qs there refl
    (room m.index p.mark.index (length o) limit p.low count))
    (start_are further m tokens.BlockMappingStart m m tokens.Value v.places ts v.are) refl refl refl
    (le_next v.adjacent m.index v.low) p.lands
    (p.clean (least_column (core_of g t)) (least_within further m.col f t far)) (or-true (crosses p.rest)) refl

-- ## `:` after a key

-- what comes before a key
abbrev pub block_opening : Bool → Opening
block_opening further = if further then opening.BlockMappingAndKey else opening.Key

-- after the colon of a key
abbrev colon_moment : Marker → List ℕ → ℕ → Moment
colon_moment n o ad = moment_at n o false None false ad true

colon_step : (f : Frame) (r : Bool) (k : Candidate) (m : Marker) (indent : ℕ) (o : List ℕ)
    (h : IsBehindIndicator true indent o) (p : PassesColon indent o h (along m 1)) (blank a : Bool) (ad : ℕ)
    (deeper further : Bool)
    → nat_le f.indent k.mark.col ≡ further
    → f.indent ≤ k.mark.col + 1 → nat_lt 0 f.indent ≡ true ⊎ (further ≡ true) → (i : ℕ)
    → step 58 (slice_index o 0) i (core_of f (moment_with r m (colon ∷ o) blank (Some k) a ad deeper))
    ≡ completed_step (Open k.place (block_opening further) ∷ at_mark m tokens.Value ∷ [])
    (core_of (frame_behind further k.mark.col f) (colon_moment p.mark p.rest ad))
unfolding step value.value_steps value.behind_key value.value_of_key
colon_step f r k m indent o h p blank a ad deeper further e far some i =
    let n : Moment = record (moment_with r m (58 ∷ o) blank (Some k) a ad deeper)
    { cursor = cursor_at o (along m 1) false } in
    rw h.first (ap (λ q. q >>= λ (c : Core). value.behind_key c.level.key false m c) (p.passes f n refl)
    ∙ opens further e some)
  where
    d : Moment
    d = record (moment_with r m (58 ∷ o) blank (Some k) a ad deeper) { cursor = cursor_at p.rest p.mark false }

    opens : (b : Bool) → nat_le f.indent k.mark.col ≡ b → nat_lt 0 f.indent ≡ true ⊎ (b ≡ true)
        → value.behind_key (Some k) false m (core_of f d)
        ≡ completed_step (Open k.place (block_opening b) ∷ at_mark m tokens.Value ∷ [])
        (core_of (frame_behind b k.mark.col f) (colon_moment p.mark p.rest ad))
    opens b h k = grind (arith, zero_below_next)

key_are : (further : Bool) (ps others : List Place) (key : Piece) (m : Marker) (ts us : List Kind) → place_kinds ps ≡ ts
    → place_kinds (bare_place key ∷ others) ≡ us
    → place_kinds (ps ++ pair_places (block_opening further) key others (empty_piece m tokens.Value))
    ≡ ts ++ (key_kinds further ++ (us ++ tokens.Value ∷ []))
key_are further ps others key m ts us first are =
    grind (arith, place_kinds_append, pair_places, place_kinds, key_kinds)

-- The colon of a key is read, which begins a mapping or goes on with one. The scanner is before the blanks in front of
-- the colon, and lands there with the key still a candidate, whose place the step opens.
pub reads_colon : {limit : ℕ} {start : State} {node : Node} (f : Frame) (k m : Marker) (o : List ℕ) (ts : List Kind)
    (further : Bool) → nat_le f.indent k.col ≡ further → f.indent ≤ k.col + 1
    → (r : KeyRead limit start node f k m o ts) → k.col ≤ m.col → IsBehindIndicator true (suc k.col) o
    → m.index + length (colon ∷ o) ≤ limit
    → Before limit start (yaml.BehindKey k.col) (frame_behind further k.col f) (along m 1) o
    (ts ++ (key_kinds further ++ (r.tokens ++ tokens.Value ∷ [])))
unfolding fetch state_behind_content
reads_colon {limit} f k m o ts further e far r right h count =
    let n = r.moment in
    let ps = r.places in
    let new = bare_place r.key ∷ r.others in
    let l = lands_key f n (ps ++ new) m (58 ∷ o) r.lands r.untabbed r.quiet r.near
    (further_right f.indent k.col m.col far right) in
    let deeper = deeper_at f n.deeper m in
    let i = next (queue_of (ps ++ new)) in
    let g = frame_behind further k.col f in
    let p = passes_colon (suc k.col) o h (along m 1) in
    let t = colon_moment p.mark p.rest n.adjacent in
    let places = pair_places (block_opening further) r.key r.others (empty_piece m tokens.Value) in
    let allowed = crosses n.cursor.rest || n.allowed in
    let c = core_of f (moment_with n.required m (58 ∷ o) l.0 n.key allowed n.adjacent deeper) in
    let stepped = ap (λ (q : Option Candidate). step 58 (slice_index o 0) i
    (core_of f (moment_with n.required m (58 ∷ o) l.0 q allowed n.adjacent deeper))) r.candidate
    ∙ colon_step f n.required (record { mark = k; place = length ps }) m (suc k.col) o h p l.0 allowed n.adjacent deeper
    further e far (some_further f.indent k.col further e) i in
    let made = ap (λ r. after_step r (queue_of (ps ++ new))) stepped
    ∙ ap (λ (q : Queue). Ok (let r : State = record { core = core_of g t; queue = q } in r))
    (performs ps r.others new (block_opening further) r.key (empty_piece m tokens.Value) refl) in
    let there = ap (λ r. r >>= fetch_here) l.1
    ∙ begins_here f n.required m (58 ∷ o) l.0 n.key allowed n.adjacent n.deeper (ps ++ new) (colon_begins m o)
    (further_right f.indent k.col m.col far right) ∙ made in
    before_next (yaml.BehindKey k.col) g t (ps ++ places) (along m 1) o
    (steps_from g t (ps ++ places) r.follows refl there refl (room m.index p.mark.index (length o) limit p.low count))
    (key_are further ps r.others r.key m ts r.tokens r.first r.are) refl refl refl
    (le_next n.adjacent m.index r.low) p.lands (p.clean (least_column (core_of g t))
    (least_within further k.col f t far)) (or-false (crosses p.rest) ∙ p.crosses_same) (behind k.col m.col right)
  where
    further_right : (i k m : ℕ) → i ≤ k + 1 → k ≤ m → i ≤ m + 1
    further_right i k m h l = omega (arith, h, l)

    behind : (k m : ℕ) → k ≤ m → k < m + 1
    behind k m h = omega (arith, h)
