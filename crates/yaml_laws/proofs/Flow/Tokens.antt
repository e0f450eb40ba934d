-- The next token of a text in flow style is reached, and read and passed by a step.
use Rattle.std.proofs.Common.{◌≡◌, ◌⊎◌, inl, inr, ℕ, ◌≤◌, Bool, true, false, List, [], ◌∷◌, ◌++◌, length, slice_index, refl, sym, ap, ◌∙◌, arith, ◌+◌, Ok}
use Rattle.yaml_laws.proofs.Common.{◌==◌, Option, None, Some, ◌||◌, ◌&&◌, AreIn, is_too_far, clash, percent_sign, is_blank, is_z, is_bom, Marker, Cursor, ◌>>=◌, Context, Kind, Piece, Place, bare_place, Queue, from_to, completed_step, Action, perform, Candidate, is_block, token_place, queue_of, saved, zero-add, is_document_indicator, State, after_step, and_false, and_or_false, stop_here}
use Rattle.saphyr_scanner.specs.Steps.Fetch.{step, state_behind_content, fetch_here, arrive, fetch}
use Rattle.yaml_laws.proofs.InFlow.States.{Around, Kept, Placed, arrived, core_at, state_at, FlowMoment, moment_with, noted_core, noted, reach, reach_low, in_column, inside, behind_key, kept_inside, kept_near, left_near, not_left, placed_right, drops_far_key, key_left, left_in_flow, left_or_none, none_unrolls, unrequired, ComesAround, comes, Ready, right_at, with_key_saved}
use Rattle.yaml_laws.proofs.Flow.States.{moved, past, IsClear, IsContentStart, IsFresh, Since, KeptKey, keeping, Known, PassesNoting, PassesPiece, Fits, fits_free, fits_key, FitsAround, Holds, IsBehindBlanks, StandsBefore, crosses}
use Rattle.yaml_laws.proofs.Flow.KeyPieces.{begin_near, fits_below, held_behind, unheld_so}
use Rattle.yaml_laws.proofs.InBlock.Skips.{blanks_cross}
use Rattle.yaml_laws.proofs.Flow.ContentStarts.{Begins}
use Rattle.yaml_laws.proofs.Flow.Places.{moved_count, clear_here}
use Rattle.yaml_laws.proofs.Flow.GapSteps.{past_count}
use Rattle.saphyr_scanner.specs.Steps.Passing.{pass_gap, check_comment}
use Rattle.yaml_laws.proofs.InBlock.Untabbed.{gap_past}

-- What is between two tokens is passed, up to the place m, where y is.
pub record PassesGap (around : Around) (now : FlowMoment) (m : Marker) (y : List ℕ) : Type 0 where
  pub blank : Bool
  pub allowed : Bool
  pub is : (d : Bool) → pass_gap (core_at around d now)
      ≡ Ok (core_at around d (right_at now y m blank now.key allowed))
  pub same : is_block now.context ≡ false → allowed ≡ now.allowed
  pub fresh : is_block now.context ≡ true → crosses now.cursor.rest ≡ true → allowed ≡ true
  pub still : crosses now.cursor.rest ≡ false → allowed ≡ now.allowed

pub passes_gap : (around : Around) (now : FlowMoment) (m : Marker) (y : List ℕ)
    → past around.indent now.cursor.mark now.cursor.rest ≡ (m, y) → is_blank (slice_index y 0) ≡ false
    → PassesGap around now m y
unfolding pass_gap check_comment
passes_gap around now m y here past_blanks =
    let s = now.cursor in
    let x = now.context in
    let a = now.allowed in
    let g = gap_past around.indent s.mark s.blank_so_far s.rest in
    let stands = ap (λ (p : Marker × List ℕ). is_blank (slice_index p.1 0)) here ∙ past_blanks in
    record {
      blank = g.still_blank;
      allowed = (crosses s.rest && is_block x) || a;
      is = grind (arith, reach, reach_low, crosses, stop_here, core_at);
      same = λ e. rw e (ap (λ (b : Bool). b || a) (and_false (crosses s.rest)));
      fresh = λ e h. rw (h, e) refl;
      still = λ e. rw e refl;
    }

-- the text y begins with the next token, which is at m
pub record Arrives (around : Around) (now : FlowMoment) (m : Marker) (y : List ℕ) : Type 0 where
  pub blank : Bool
  pub key : Option Candidate
  pub allowed : Bool
  pub is : (d : Bool) → arrive (state_at around now d)
      ≡ Ok (state_at around (right_at now y m blank key allowed) d)
  pub same : is_block now.context ≡ false → (key ≡ now.key) × (allowed ≡ now.allowed)
  pub kept : (key ≡ None) ⊎ (key ≡ now.key)
  pub stays : is_too_far now.key m ≡ false → key ≡ now.key
  pub still : crosses now.cursor.rest ≡ false → allowed ≡ now.allowed

arrives_at : (around : Around) (now : FlowMoment) (m : Marker) (y : List ℕ) → past around.indent now.cursor.mark
    now.cursor.rest ≡ (m, y) → is_blank (slice_index y 0) ≡ false → around.indent ≤ m.col
    → Kept around now.context now.key m → Arrives around now m y
unfolding arrive
arrives_at around now m y text past_blanks right kept =
    let g = passes_gap around now m y text past_blanks in
    let left = key_left now.context now.key m in
    record {
      blank = g.blank;
      key = left;
      allowed = g.allowed;
      is = λ d. cc (
        g.is d,
        drops_far_key around None d (right_at now y m g.blank now.key g.allowed) kept,
        none_unrolls around m.col m (right_at now y m g.blank left g.allowed) d right,
      );
      same = λ e. (left_in_flow now.context now.key m e, g.same e);
      kept = left_or_none now.context now.key m;
      stays = left_near now.context now.key m;
      still = g.still;
    }

-- neither the end nor something else that is at the start of a line alone
pub record BeginsToken (m : Marker) (t : List ℕ) : Type 0 where
  pub nul : is_z (slice_index t 0) ≡ false
  pub byte_order_mark : is_bom (slice_index t 0) ≡ false
  pub directive : (slice_index t 0 == percent_sign) ≡ false
  pub marker : ((m.col == 0) && is_document_indicator t) ≡ false

pub begins_here : (around : Around) (d : Bool) (now : FlowMoment) → BeginsToken now.cursor.mark now.cursor.rest
    → around.indent ≤ now.cursor.mark.col → fetch_here (state_at around now d)
    ≡ state_behind_content (slice_index now.cursor.rest 0) (slice_index now.cursor.rest 1) (state_at around now d)
unfolding fetch_here
begins_here around d now h right = grind (arith, and_or_false, and_false, not_left, in_column)

-- The next token is about to be read.
token_ready : (around : Around) (now : FlowMoment) (m : Marker) (y : List ℕ) → (v : Arrives around now m y)
    → BeginsToken m y → around.indent ≤ m.col → Placed around now.context v.allowed m
    → ((k : Candidate) → around.held ≡ Some k → is_block now.context ≡ true
    → (v.key ≡ Some k) × (v.allowed ≡ false)) → Ready around (state_at around now) now m y
unfolding fetch state_behind_content
token_ready around now m y v h right placed holds =
    let seen = right_at now y m v.blank v.key v.allowed in
    record {
      blank = v.blank;
      key = v.key;
      allowed = v.allowed;
      to = λ d. d;
      running = λ d. refl;
      fetches = λ d. ap (λ r. r >>= fetch_here) (v.is d) ∙ begins_here around d seen h right
          ∙ ap (λ (n : ℕ). after_step (step (slice_index y 0) (slice_index y 1) n (core_at around d seen))
          (queue_of now.places)) (zero-add (length now.places));
      placed = placed;
      same = v.same;
      kept = v.kept;
      holds = holds;
    }

-- inside flow
pub arrives : (around : Around) (now : FlowMoment) (m : Marker) (y : List ℕ) → past around.indent now.cursor.mark
    now.cursor.rest ≡ (m, y) → is_blank (slice_index y 0) ≡ false → BeginsToken m y → is_block now.context ≡ false
    → around.indent ≤ m.col → Ready around (state_at around now) now m y
arrives around now m y text past_blanks begins flow right =
    let v = arrives_at around now m y text past_blanks right (kept_inside flow) in
    token_ready around now m y v begins right (inside flow right)
    (λ k held block. absurd (clash (is_block now.context) block flow))

-- what the step at the next token's first characters gives
pub step_comes : (around : Around) (start : Bool → State) (now : FlowMoment) (m : Marker) (y : List ℕ)
    (v : Ready around start now m y) → (comment : Option Marker) (next : FlowMoment) (actions : List Action)
    (to : Bool → Bool)
    → ((d : Bool) → step (slice_index y 0) (slice_index y 1) (length now.places) (core_at around d (arrived v))
    ≡ completed_step actions (noted_core comment (core_at around (to d) next)))
    → perform actions (queue_of now.places) ≡ queue_of next.places → next.cursor.mark.index ≤ around.limit
    → Kept around next.context next.key next.cursor.mark → ComesAround around start comment next
step_comes around start now m y v comment next actions to is done low kept =
    comes around start comment next (λ d. to (v.to d)) v.running
    (λ d. v.fetches d ∙ ap (λ r. after_step r (queue_of now.places)) (is (v.to d))
    ∙ ap (λ (q : Queue). Ok (let r : State =
    record (noted comment (state_at around next (to (v.to d)))) { queue = q } in r)) done) low kept

-- a place before the same token is within the limit
pub within_index : (column limit : ℕ) (t : Cursor) (m : Marker) (o : List ℕ)
    → past column t.mark t.rest ≡ past column m o → m.index + length o ≤ limit → t.mark.index ≤ limit
within_index column limit t m o e h = grind (arith, past_count, past)

pub begins_past : (column : ℕ) (m : Marker) (p o : List ℕ) → Begins p → past column m (p ++ o) ≡ (m, p ++ o)
begins_past column m p o b = grind arith

begins_crosses : (p o : List ℕ) → Begins p → crosses (p ++ o) ≡ false
begins_crosses p o b = grind arith

pub begins_no_blank : (p o : List ℕ) → Begins p → is_blank (slice_index (p ++ o) 0) ≡ false
begins_no_blank p o b = ap (λ (t : List ℕ). is_blank (slice_index (t ++ o) 0)) b.is ∙ b.content.blank

pub begins_token : (m : Marker) (p o : List ℕ) → Begins p → IsClear m p o → BeginsToken m (p ++ o)
begins_token m p o b clear =
    let here = clear_here m b.first b.others o (rw b.is at clear) in
    let token : BeginsToken m (b.first ∷ (b.others ++ o)) =
    record { nul = b.nul; byte_order_mark = b.content.byte_order_mark; directive = b.directive; marker = here } in
    rw (ap (λ (t : List ℕ). t ++ o) b.is) token

-- the moment after a token that the scanner is at now
abbrev pub passed : FlowMoment → Cursor → Bool → ℕ → FlowMoment
passed now there allowed adjacent =
    record (with_key_saved (length now.places) now) { cursor = there; allowed = allowed; adjacent = adjacent }

-- A step over the token that the scanner is at now: after the token o is at n. A comment may have ended it. `says`
-- tells whether a key may begin after it, and where a colon may come at once.
pub record TokenStep (around : Around) (comment : Option Marker) (says : Bool → ℕ → Type 0) (kind : Kind)
    (n : Marker) (o : List ℕ) (now : FlowMoment) : Type 0 where
  pub there : Cursor
  pub end : Marker
  pub allowed : Bool
  pub adjacent : ℕ
  pub to : Bool → Bool
  pub is : (d : Bool) → step (slice_index now.cursor.rest 0) (slice_index now.cursor.rest 1) (length now.places)
      (core_at around d now) ≡ completed_step (from_to now.cursor.mark end kind ∷ [])
      (noted_core comment (core_at around (to d) (passed now there allowed adjacent)))
  pub fits : past around.indent there.mark there.rest ≡ past around.indent n o
  pub fresh : IsFresh now.context o allowed there
  pub line : is_block now.context ≡ true → (white : List ℕ) (c : ℕ) (cs : List ℕ) → o ≡ white ++ (c ∷ cs)
      → AreIn is_blank white → IsContentStart c → around.indent ≤ n.col
      → (allowed ≡ false) × IsBehindBlanks around.indent there (moved n white) (c ∷ cs)
  pub holds : says allowed adjacent

-- what is known after a token
pub record IsAfterToken (says : Bool → ℕ → Type 0) (x : Context) (kept : KeptKey) (key : Option Candidate)
    (allowed : Bool)
    (adjacent : ℕ) (new : List Place) : Type 0 where
  pub piece : Piece
  pub is : new ≡ bare_place piece ∷ []
  pub keeps : is_block x ≡ false → key ≡ kept.kept
  pub since : Since kept.before kept.from kept.over key
  pub holds : says allowed adjacent

-- a colon may come at once at this place alone
abbrev pub adjacent_at : ℕ → Bool → ℕ → Type 0
adjacent_at n allowed adjacent = adjacent ≡ n

abbrev pub after_token : (Bool → ℕ → Type 0) → Context → KeptKey → Known
after_token says x kept key allowed adjacent new = IsAfterToken says x kept key allowed adjacent new

-- the run over a token p, which is at m before o
abbrev pub PassesToken : Around → (Bool → ℕ → Type 0) → (Bool → State) → FlowMoment → Marker → List ℕ → List ℕ → Kind
    → Type 0
PassesToken around says start now m p o kind =
    PassesPiece around start (after_token says now.context (keeping now m p)) now.context now.outer
    now.places (moved m p) o (kind ∷ [])

-- the candidate after a token is what was one, or the token
pub saved_since : (e : Bool) (n : ℕ) (m : Marker) (k j : Option Candidate) (p : List ℕ) (key : Option Candidate)
    → (j ≡ None) ⊎ (j ≡ k) → (key ≡ None) ⊎ (key ≡ saved e n m j) → Since k m p key
saved_since e n m k j p key h (inl g) = inl g
saved_since true n m k j p key h (inr g) = inr (inr ([], p, n, refl, g))
saved_since false n m k j p key (inl h) (inr g) = inl (g ∙ h)
saved_since false n m k j p key (inr h) (inr g) = inr (inl (g ∙ h))

-- ## The next part of a text

-- after what was read of it
pub part_ready : (around : Around) (now : FlowMoment) (m : Marker) (p o : List ℕ) → Begins p
    → Fits around now.context m p o → around.indent ≤ m.col → StandsBefore around now m (p ++ o)
    → Holds around now.context now.key now.allowed now.cursor m (p ++ o)
    → Ready around (state_at around now) now m (p ++ o)
part_ready around now m p o b (fits_free (inl flow) f) right text holds =
    arrives around now m (p ++ o) (text ∙ begins_past around.indent m p o b) (begins_no_blank p o b)
    (begins_token m p o b f.clear) flow right
part_ready around now m p o b (fits_free (inr h) f) right text holds =
    let v = arrives_at around now m (p ++ o) (text ∙ begins_past around.indent m p o b) (begins_no_blank p o b) right
    (unrequired h.0) in
    token_ready around now m (p ++ o) v (begins_token m p o b f.clear) right
    (placed_right now.context v.allowed h.0 right) (λ k held block. absurd (unheld_so k h.1 held))
part_ready around now m p o b (fits_key block k held f) right text holds =
    let lands = begins_past around.indent m p o b in
    let h = holds.so k held block in
    let near : is_too_far now.key m ≡ false = rw h.is (begin_near k m p o f) in
    let v = arrives_at around now m (p ++ o) (text ∙ lands) (begins_no_blank p o b) right (kept_near near) in
    let quiet : crosses now.cursor.rest ≡ false =
    ap crosses (h.line.rest ∙ ap (λ (z : Marker × List ℕ). h.line.white ++ z.1) lands)
    ∙ blanks_cross h.line.white (p ++ o) h.line.are ∙ begins_crosses p o b in
    let closed = v.still quiet ∙ h.closed in
    token_ready around now m (p ++ o) v (begins_token m p o b f.clear) right (behind_key block closed)
    (λ j other e. (v.stays near ∙ h.is ∙ sym held ∙ other, closed))

-- where no key is required or read
pub text_ready : (around : Around) (now : FlowMoment) (m : Marker) (p o : List ℕ) → Begins p → around.pending ≡ false
    → around.held ≡ None → FitsAround around m p o → StandsBefore around now m (p ++ o)
    → Ready around (state_at around now) now m (p ++ o)
text_ready around now m p o b calm none f text =
    part_ready around now m p o b (fits_free (inr (calm, none)) f) f.right text
    (record { so = λ k held. absurd (unheld_so k none held) })

-- ## A token is passed

-- What all tokens have in common: `steps` tells of the step over one, wherever the scanner stands before it. From there
-- the step is run (`step_comes`), the token has its own place in the queue, and the key behind it is what was kept or
-- begins with it (`saved_since`). A key that is held stays so on its line (`held_behind`).
pub token_passes : (around : Around) (comment : Option Marker) (says : Bool → ℕ → Type 0) (kind : Kind) (p o : List ℕ)
    (m : Marker) (now : FlowMoment) → Fits around now.context m p o → around.indent ≤ (moved m p).col
    → (start : Bool → State) → Ready around start now m (p ++ o) → ((b : Bool) (j : Option Candidate) (e : Bool)
    → Placed around now.context e m
    → TokenStep around comment says kind (moved m p) o (right_at now (p ++ o) m b j e))
    → PassesNoting comment around start (after_token says now.context (keeping now m p)) now.context
    now.outer now.places (moved m p) o (kind ∷ [])
token_passes around comment says kind p o m now fits right start v steps =
    let w = steps v.blank v.key v.allowed v.placed in
    let count = moved_count m p o in
    let below = fits_below fits in
    let low = within_index around.indent around.limit w.there (moved m p) o w.fits (omega (arith, count, below)) in
    let new = token_place m w.end kind ∷ [] in
    let keeps = held_behind m p o fits right (saved v.allowed (length now.places) m v.key) w.there w.allowed
    (λ k held block. let h = v.holds k held block in
    ap (λ (a : Bool). saved a (length now.places) m v.key) h.1 ∙ h.0) w.line in
    let came = step_comes around start now m (p ++ o) v comment
    (moment_with new (passed (arrived v) w.there w.allowed w.adjacent)) (from_to m w.end kind ∷ []) w.to w.is refl low
    keeps.0 in
    record {
      there = w.there;
      key = came.key;
      allowed = w.allowed;
      adjacent = w.adjacent;
      new = new;
      leads = came.leads;
      right = right;
      fits = w.fits;
      fresh = w.fresh;
      holds = keeps.1 came.key came.stays;
      are = refl;
      knows = record {
        piece = record { span = record { start = m; end = w.end }; kind = kind };
        is = refl;
        keeps = λ e. came.same e ∙ (rw ((v.same e).0, (v.same e).1) refl);
        since = saved_since v.allowed (length now.places) m now.key v.key p came.key v.kept came.kept;
        holds = w.holds;
      };
    }
