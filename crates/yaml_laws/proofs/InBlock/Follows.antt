-- Runs at block level, told at the next token.
use Rattle.yaml_laws.proofs.Common.{Bool, List, Ok, [], ap, arith, false, inl, refl, slice_index, subst, sym, true, ℕ, ◌+◌, ◌∙◌, ◌∷◌, ◌≡◌, ◌≤◌, ◌⊎◌, None, Option, Some, if◌then◌else◌, nat_le, nat_lt, ◌&&◌, ◌-◌, ◌==◌, ◌||◌, nat_tests, is_bom, is_z, is_document_indicator, Marker, ◌>>=◌, Candidate, GapEnd, Place, State, LeadsTo, leads_on, onward, stay, cursor_at, and_or_false, le-leb, percent_sign, queue_of}
use Rattle.saphyr_scanner.specs.Steps.Core.{Core, is_too_far, drop_far_key, least_column}
use Rattle.saphyr_scanner.specs.Steps.Passing.{pass_gap, check_comment, goes_on_behind, behind_gap, check_comment_of}
use Rattle.saphyr_scanner.specs.Steps.Unrolling.{unroll}
use Rattle.saphyr_scanner.specs.Steps.Fetch.{fetch, fetch_here, arrive, fetch_within, check_limit, without_far_key, state_behind_content}
use Rattle.yaml_laws.proofs.InBlock.States.{Frame, Moment, moment_at, moment_with, core_of, state_of, crosses, IsUntabbed, IsStop, GoesOnAs, past}
use Rattle.yaml_laws.proofs.InBlock.Gaps.{past_stops, gap_still, passes_to}

-- ## Going on

pub follows_itself : {limit : ℕ} {start s : State} → LeadsTo limit s start → GoesOnAs limit start s
follows_itself {s = s} l = record { reached = s; leads = l; same = refl; running = refl }

-- another state from which the scanner goes on alike
pub goes_alike : {limit : ℕ} {start s t : State} → GoesOnAs limit start s → fetch s ≡ fetch t
    → s.core.ended ≡ t.core.ended → GoesOnAs limit start t
goes_alike f e g = record { reached = f.reached; leads = f.leads; same = f.same ∙ e; running = f.running ∙ g }

-- the first step from a state that goes on alike
pub first_step : {limit : ℕ} {start s t u : State} → GoesOnAs limit start s → s.core.ended ≡ false
    → fetch_within limit s ≡ Ok t → without_far_key t ≡ Ok u → LeadsTo limit u start
unfolding fetch_within
first_step {limit} {s = s} {t = t} {u = u} f going is settles = grind (arith, leads_on, onward, stay)

pub goes_on : {limit : ℕ} {start s d : State} → GoesOnAs limit start s → LeadsTo limit d s → GoesOnAs limit start d
goes_on f stay = f
goes_on f (onward s t u going is settles l) = follows_itself (leads_on (first_step f going is settles) l)

-- where the scanner has ended, it has come there
pub comes_to_end : {limit : ℕ} {start s d : State} → GoesOnAs limit start s → s.core.ended ≡ false → LeadsTo limit d s
    → d.core.ended ≡ true → LeadsTo limit d start
comes_to_end f running stay over = absurd (let e = sym running ∙ over in cc)
comes_to_end f running (onward s t u going is settles l) over = leads_on (first_step f going is settles) l

-- ## The next token

-- the candidate that is left at a place
abbrev pub left_key : Option Candidate → Marker → Option Candidate
left_key k m = if is_too_far k m then None else k

pub left_none : (k : Option Candidate) → k ≡ None → (m : Marker) → left_key k m ≡ None
left_none k e m = rw e refl

-- nothing is dropped twice
pub left_again : (k : Option Candidate) (m : Marker) → is_too_far (left_key k m) m ≡ false
left_again k m = grind arith

-- at the next token, where a comment that ended a scalar is forgotten
abbrev pub landed : Moment → Marker → List ℕ → Bool → Moment
landed n m y blank = moment_at m y blank (left_key n.key m) (crosses n.cursor.rest || n.allowed) n.adjacent n.deeper

pub drops : (f : Frame) (n : Moment) → n.required ≡ false
    → drop_far_key (core_of f n) ≡ Ok (core_of f (record n { key = left_key n.key n.cursor.mark; required = false }))
unfolding drop_far_key
drops f n free = grind arith

-- the comment does not intercept what is at the next token
abbrev pub IsQuiet : Frame → Moment → Marker → List ℕ → Type 0
IsQuiet f n m y = (n.comment ≡ None) ⊎ ((comment : Marker) (blank : Bool)
    → goes_on_behind comment (core_of f (record (landed n m y blank) { key = n.key; required = n.required })) ≡ false)

passes_untabbed : (f : Frame) (n : Moment) (m : Marker) (y : List ℕ) → past 0 n.cursor.mark n.cursor.rest ≡ (m, y)
    → IsUntabbed (least_column (core_of f n)) n.cursor → IsQuiet f n m y
    → (blank : Bool) × (pass_gap (core_of f n)
    ≡ Ok (core_of f (record (landed n m y blank) { key = n.key; required = n.required })))
unfolding pass_gap check_comment
passes_untabbed f n m y here clean quiet =
    let p = passes_to (least_column (core_of f n)) n.cursor m y here clean in
    let first = ap (λ r. r >>= λ (g : GapEnd). check_comment (behind_gap (core_of f n) g)) p.is in
    (p.blank, first ∙ at_comment p.blank n.comment quiet refl)
  where
    behind : Bool → Option Marker → Core
    behind blank co = core_of f (record (landed n m y blank) { key = n.key; required = n.required; comment = co })

    at_comment : (blank : Bool) (co : Option Marker) → IsQuiet f n m y → n.comment ≡ co
        → check_comment_of n.comment (behind_gap (core_of f n)
        (record { cursor = cursor_at y m blank; broke = crosses n.cursor.rest }))
        ≡ Ok (core_of f (record (landed n m y blank) { key = n.key; required = n.required }))
    at_comment blank co q e = grind arith

-- right at a token nothing is passed
pub arrives_still : (f : Frame) (m : Marker) (y : List ℕ) (blank : Bool) (key : Option Candidate) (a : Bool) (ad : ℕ)
    (deeper : Bool) → IsStop y → is_too_far key m ≡ false
    → (pass_gap (core_of f (moment_at m y blank key a ad deeper)) >>= drop_far_key)
    ≡ Ok (core_of f (moment_at m y blank key a ad deeper))
unfolding pass_gap check_comment
arrives_still f m y blank key a ad deeper stop near =
    let c = core_of f (moment_at m y blank key a ad deeper) in
    ap (λ r. (r >>= λ (g : GapEnd). check_comment (behind_gap c g)) >>= drop_far_key)
    (gap_still (least_column c) m blank y stop) ∙ drops f (moment_at m y blank key a ad deeper) refl
    ∙ ap (λ (k : Option Candidate). Ok (core_of f (moment_at m y blank k a ad deeper))) (same near)
  where
    same : is_too_far key m ≡ false → left_key key m ≡ key
    same e = rw e refl

-- where the scanner goes on as from the next token
pub lands : (f : Frame) (n : Moment) (ps : List Place) (m : Marker) (y : List ℕ) → n.required ≡ false
    → past 0 n.cursor.mark n.cursor.rest ≡ (m, y) → IsUntabbed (least_column (core_of f n)) n.cursor
    → IsQuiet f n m y → (blank : Bool) × (fetch (state_of f n ps) ≡ fetch (state_of f (landed n m y blank) ps))
unfolding fetch arrive
lands f n ps m y free here clean quiet =
    let p = passes_untabbed f n m y here clean quiet in
    let raw = ap (λ r. r >>= drop_far_key) p.1
    ∙ drops f (record (landed n m y p.0) { key = n.key; required = n.required }) free in
    let there = arrives_still f m y p.0 (left_key n.key m) (crosses n.cursor.rest || n.allowed) n.adjacent n.deeper
    (subst (λ (q : Marker × List ℕ). IsStop q.1) here (past_stops n.cursor.mark n.cursor.rest))
    (left_again n.key m) in (
      p.0,
      grind (arith, queue_of),
    )

-- ## The scanner at a token

-- right at a token, which may be far left
pub arrives_at : (f : Frame) (m : Marker) (y : List ℕ) (blank : Bool) (key : Option Candidate) (a : Bool) (ad : ℕ)
    (deeper : Bool) (ps : List Place) → IsStop y → is_too_far key m ≡ false
    → arrive (state_of f (moment_at m y blank key a ad deeper) ps)
    ≡ Ok (unroll (Some m.col) m (state_of f (moment_at m y blank key a ad deeper) ps))
unfolding arrive
arrives_at f m y blank key a ad deeper ps stop near = grind (arith, queue_of, arrives_still)

-- whether content is one column further right, at a token
abbrev pub deeper_at : Frame → Bool → Marker → Bool
deeper_at f deeper m = deeper && nat_le f.indent m.col

not_right : (i col : ℕ) → i ≤ col + 1 → nat_lt col (i - 1) ≡ false
not_right i col h = grind (arith, nat_tests)

-- the frame stays open
pub stays_open : (f : Frame) (r : Bool) (m : Marker) (y : List ℕ) (blank : Bool) (key : Option Candidate) (a : Bool)
    (ad : ℕ) (deeper : Bool) (ps : List Place) → f.indent ≤ m.col + 1
    → unroll (Some m.col) m (state_of f (moment_with r m y blank key a ad deeper) ps)
    ≡ state_of f (moment_with r m y blank key a ad (deeper_at f deeper m)) ps
unfolding unroll
stays_open f r m y blank key a ad deeper ps h = by_outers f.outers refl
  where
    by_outers : (is : List ℕ) → f.outers ≡ is
        → unroll (Some m.col) m (state_of f (moment_with r m y blank key a ad deeper) ps)
        ≡ state_of f (moment_with r m y blank key a ad (deeper_at f deeper m)) ps
    by_outers [] e = rw (e, not_right f.indent m.col h) refl
    by_outers (i ∷ is) e = rw (e, not_right f.indent m.col h) refl

-- a token begins here that is neither the end nor what is at a line's start alone
pub record BeginsToken (m : Marker) (y : List ℕ) : Type 0 where
  pub stop : IsStop y
  pub nul : is_z (slice_index y 0) ≡ false
  pub byte_order_mark : is_bom (slice_index y 0) ≡ false
  pub directive : ((m.col == 0) && (slice_index y 0 == percent_sign)) ≡ false
  pub marker : ((m.col == 0) && is_document_indicator y) ≡ false

-- by its first character
pub begins_with : (c : ℕ) (m : Marker) (o : List ℕ) → IsStop (c ∷ o) → is_z c ≡ false → is_bom c ≡ false
    → (c == percent_sign) ≡ false → is_document_indicator (c ∷ o) ≡ false → BeginsToken m (c ∷ o)
begins_with c m o stop nul mark sign none = grind arith

far_enough : (i col : ℕ) (deeper : Bool) → i ≤ col + 1
    → nat_lt col (if deeper && nat_le i col then i else i - 1) ≡ false
far_enough i col false h = not_right i col h
far_enough i col true h = grind arith

-- what the step at a token's first characters gives
pub begins_here : (f : Frame) (r : Bool) (m : Marker) (y : List ℕ) (blank : Bool) (key : Option Candidate) (a : Bool)
    (ad : ℕ) (deeper : Bool) (ps : List Place) → BeginsToken m y → f.indent ≤ m.col + 1
    → fetch_here (state_of f (moment_with r m y blank key a ad (deeper_at f deeper m)) ps)
    ≡ state_behind_content (slice_index y 0) (slice_index y 1)
    (state_of f (moment_with r m y blank key a ad (deeper_at f deeper m)) ps)
unfolding fetch_here
begins_here f r m y blank key a ad deeper ps h far = grind (arith, and_or_false, far_enough)

-- ## A step

-- from a state that goes on with this state, the scanner comes to that, where no key is kept
pub steps_from : {limit : ℕ} {start s : State} (g : Frame) (n : Moment) (qs : List Place) → GoesOnAs limit start s
    → s.core.ended ≡ false → fetch s ≡ Ok (state_of g n qs) → n.key ≡ None → n.cursor.mark.index ≤ limit
    → LeadsTo limit (state_of g n qs) start
unfolding fetch_within drop_far_key
steps_from {limit} g n qs f going is none low =
    let fits : check_limit limit (state_of g n qs) ≡ Ok (state_of g n qs) =
    rw (le-leb n.cursor.mark.index limit low) refl in
    first_step f going (ap (λ r. r >>= check_limit limit) is ∙ fits) (rw none refl)

-- a key is not too far from its colon
pub lands_key : (f : Frame) (n : Moment) (ps : List Place) (m : Marker) (y : List ℕ)
    → past 0 n.cursor.mark n.cursor.rest ≡ (m, y) → IsUntabbed (least_column (core_of f n)) n.cursor
    → n.comment ≡ None → is_too_far n.key m ≡ false → f.indent ≤ m.col + 1
    → (blank : Bool) × (arrive (state_of f n ps)
    ≡ Ok (state_of f (moment_with n.required m y blank n.key (crosses n.cursor.rest || n.allowed) n.adjacent
    (deeper_at f n.deeper m)) ps))
unfolding arrive drop_far_key
lands_key f n ps m y here clean quiet near far =
    let p = passes_untabbed f n m y here clean (inl quiet) in
    let there : Moment = moment_with n.required m y p.0 n.key (crosses n.cursor.rest || n.allowed) n.adjacent
    n.deeper in
    let kept : drop_far_key (core_of f there) ≡ Ok (core_of f there) = rw near refl in (
      p.0,
      grind (arith, queue_of, stays_open, crosses),
    )
