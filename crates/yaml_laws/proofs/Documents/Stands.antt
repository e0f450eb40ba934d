-- The places between the documents of a text, and a step from one to the next.
use Rattle.yaml_laws.proofs.Common.{Bool, List, Ok, [], ap, arith, false, inl, inr, length, refl, slice_index, subst, sym, true, ℕ, ◌++◌, ◌+◌, ◌∙◌, ◌∷◌, ◌≡◌, ◌≤◌, ◌⊎◌, None, Option, Some, not, ◌&&◌, ◌==◌, ◌||◌, is_blank, is_z, can_be_plain, is_document_indicator, Marker, Cursor, ◌>>=◌, Kind, Piece, Place, bare_place, Core, drop_far_key, Candidate, State, LeadsTo, cursor_at, eq-eqb, place_kinds, place_kinds_append, queue_of, core_at, state_at, drops_key, none_unrolls, comes}
use Rattle.saphyr_scanner.specs.declared.engine.level.Context.TheVariants as context
use Rattle.saphyr_scanner.specs.Steps.Gap.{GapEnd, gap_here, stop}
use Rattle.saphyr_scanner.specs.Steps.Passing.{goes_on_behind, pass_gap, check_comment, behind_gap}
use Rattle.saphyr_scanner.specs.Steps.Fetch.{fetch_here, arrive, fetch}
use Rattle.yaml_laws.proofs.InFlow.States.{alone, moment, noted}
use Rattle.yaml_laws.proofs.InBlock.States.{crosses, GoesOnAs, past, EndsDocument}
use Rattle.yaml_laws.proofs.InBlock.Follows.{goes_on}
use Rattle.yaml_laws.proofs.InBlock.Lines.{IsLined}
use Rattle.yaml_laws.proofs.InBlock.Untabbed.{gap_past}
use Rattle.yaml_laws.proofs.InBlock.Gaps.{past_no_blank}
use Rattle.yaml_laws.proofs.Flow.GapSteps.{past_low}
use Rattle.yaml_laws.proofs.Flow.Tokens.{passes_gap, within_index}
use Rattle.yaml_laws.proofs.Flow.ContentStarts.{mark_no_plain}

-- ## After a comment that ended a plain scalar

pub none_of : (a b c d e g : Bool) → (c ≡ false) ⊎ ((d ≡ false) ⊎ ((e ≡ false) ⊎ (g ≡ false)))
    → (a && b && c && d && e && g) ≡ false
none_of a b c d e g h = grind arith

pub document_ends_by_test : (m : Marker) (y : List ℕ) → EndsDocument m y
    → (not (is_z (slice_index y 0)) ≡ false)
    ⊎ ((not ((m.col == 0) && is_document_indicator y) ≡ false) ⊎ (can_be_plain false y ≡ false))
document_ends_by_test m y h = grind (arith, eq-eqb, mark_no_plain)

none_goes_on : (comment : Marker) (c : Core) → EndsDocument c.cursor.mark c.cursor.rest
    → goes_on_behind comment c ≡ false
unfolding goes_on_behind
none_goes_on comment c h = grind (arith, none_of, document_ends_by_test)

-- What is between two documents is passed, up to the place m, where y is.
record PassesNoted (co : Option Marker) (s : Cursor) (k : Option Candidate) (a : Bool) (ad : ℕ) (m : Marker)
    (y : List ℕ) : Type 0 where
  blank : Bool
  allowed : Bool
  is : pass_gap (record (core_at false s k a ad) { comment = co })
      ≡ Ok (core_at false (cursor_at y m blank) k allowed ad)

passes_noted : (co : Option Marker) (s : Cursor) (k : Option Candidate) (a : Bool) (ad : ℕ) (m : Marker) (y : List ℕ)
    → past 0 s.mark s.rest ≡ (m, y) → (co ≡ None) ⊎ EndsDocument m y → PassesNoted co s k a ad m y
unfolding pass_gap check_comment stop
passes_noted None s k a ad m y here h =
    let g = passes_gap (alone 0) (moment s context.Block k [] a ad []) m y here
    (ap (λ (p : Marker × List ℕ). is_blank (slice_index p.1 0)) (sym here) ∙ past_no_blank s.mark s.rest) in
    record { blank = g.blank; allowed = g.allowed; is = g.is false }
passes_noted (Some comment) s k a ad m y here (inl e) = absurd (cc)
passes_noted (Some comment) s k a ad m y here (inr h) =
    let g = gap_past 0 s.mark s.blank_so_far s.rest in
    let c : Core = record (core_at false s k a ad) { comment = Some comment } in
    let there = g.is (past_no_blank s.mark s.rest) 0 (omega arith)
    ∙ ap (λ (p : Marker × List ℕ). stop (gap_here p.0 g.still_blank (crosses s.rest) false p.1)) here in
    let b = (crosses s.rest && true) || a in
    let goes : check_comment
    (record (core_at false (cursor_at y m g.still_blank) k b ad) { comment = Some comment })
    ≡ Ok (core_at false (cursor_at y m g.still_blank) k b ad) =
    rw (none_goes_on comment (core_at false (cursor_at y m g.still_blank) k b ad) h) refl in
    record {
      blank = g.still_blank;
      allowed = b;
      is = ap (λ r. r >>= λ (p : GapEnd). check_comment (behind_gap c p)) there ∙ goes;
    }

-- the text y begins with the next token, which is at m
record Reaches (co : Option Marker) (s : Cursor) (k : Option Candidate) (a : Bool) (ad : ℕ) (ps : List Place)
    (m : Marker) (y : List ℕ) : Type 0 where
  blank : Bool
  key : Option Candidate
  allowed : Bool
  is : arrive (noted co (state_at false s k a ad ps))
      ≡ Ok (state_at false (cursor_at y m blank) key allowed ad ps)

reaches : (co : Option Marker) (s : Cursor) (k : Option Candidate) (a : Bool) (ad : ℕ) (ps : List Place) (m : Marker)
    (y : List ℕ) → past 0 s.mark s.rest ≡ (m, y) → (co ≡ None) ⊎ EndsDocument m y
    → Reaches co s k a ad ps m y
unfolding arrive
reaches co s k a ad ps m y text h =
    let g = passes_noted co s k a ad m y text h in
    let there = cursor_at y m g.blank in
    let d = drops_key false there k g.allowed ad in
    let reached = ap (λ r. r >>= drop_far_key) g.is ∙ d.is in
    record {
      blank = g.blank;
      key = d.left;
      allowed = g.allowed;
      is = grind (arith, queue_of, none_unrolls);
    }

-- What begins at m is read, and the cursor is t after it.
pub reads_here : (limit : ℕ) (co : Option Marker) (s : Cursor) (k : Option Candidate) (a : Bool) (ad : ℕ)
    (ps : List Place) (m : Marker) (y : List ℕ)
    → past 0 s.mark s.rest ≡ (m, y) → (co ≡ None) ⊎ EndsDocument m y
    → (e : Bool) (t : Bool → Cursor) (j : Option Candidate → Option Candidate) (b : Bool) (qs : List Place)
    → ((blank : Bool) (key : Option Candidate) (allowed : Bool)
    → fetch_here (state_at false (cursor_at y m blank) key allowed ad ps)
    ≡ Ok (state_at e (t blank) (j key) b ad qs))
    → ((blank : Bool) → (t blank).mark.index ≤ limit)
    → (blank : Bool) × (key : Option Candidate) × (seen : Option Candidate) × (j seen ≡ None → key ≡ None)
    × LeadsTo limit (state_at e (t blank) key b ad qs)
    (noted co (state_at false s k a ad ps))
unfolding fetch
reads_here limit co s k a ad ps m y text h e t j b qs is low =
    let v = reaches co s k a ad ps m y text h in
    let came = comes limit (noted co (state_at false s k a ad ps)) e (t v.blank)
    (j v.key) b ad qs refl (ap (λ r. r >>= fetch_here) v.is ∙ is v.blank v.key v.allowed) (low v.blank) in
    (v.blank, came.key, v.key, came.none, came.leads)

-- ## Places

-- at a line's start, where anything is left
abbrev pub AtLine : List ℕ → Marker → Type 0
AtLine o m = (m.col ≡ 0) ⊎ (o ≡ [])

-- at a line's start, where anything is left; where it is open, a key may begin at the next token, if there is one
abbrev pub Lined : Bool → List ℕ → Marker → Bool → Type 0
Lined opened o m b = AtLine o m × (opened ≡ true → (b ≡ true) ⊎ (o ≡ []))

-- after a line's start
abbrev pub OffLine : Marker → Type 0
OffLine m = (m.col == 0) ≡ false

-- after `---`, where a key may begin on a later line
abbrev pub BehindStart : List ℕ → Marker → Bool → Type 0
BehindStart o m b = OffLine m × (b ≡ crosses o)

-- The scanner has read these tokens, and is where the text o does, at a place of which P holds. Where it is free no
-- plain scalar was ended by a comment. P is told too whether a key may begin at the next token. No colon may be at
-- once after that.
pub record StandsInStream (limit : ℕ) (start : State) (free : Bool) (P : Marker → Bool → Type 0)
    (o : List ℕ) (ts : List Kind) : Type 0 where
  pub there : Cursor
  pub key : Option Candidate
  pub allowed : Bool
  pub adjacent : ℕ
  pub comment : Option Marker
  pub places : List Place
  pub mark : Marker
  pub none : free ≡ true → key ≡ None
  pub follows : GoesOnAs limit start (noted comment (state_at false there key allowed adjacent places))
  pub fits : past 0 there.mark there.rest ≡ past 0 mark o
  pub line : P mark (crosses there.rest || allowed)
  pub count : mark.index + length o ≤ limit
  pub are : place_kinds places ≡ ts
  pub quiet : free ≡ true → comment ≡ None
  pub low : adjacent ≤ (past 0 mark o).0.index
  pub lined : IsLined mark

-- the same at a line's start
abbrev pub StandsLined : ℕ → State → Bool → Bool → List ℕ → List Kind → Type 0
StandsLined limit start free opened o ts = StandsInStream limit start free (Lined opened o) o ts

pub lined_so : {limit : ℕ} {start : State} {free opened : Bool} {o y : List ℕ} {ts : List Kind} → o ≡ y
    → StandsLined limit start free opened o ts → StandsLined limit start free opened y ts
lined_so {limit} {start} {free} {opened} {ts = ts} e v = grind arith

-- what a place knows of its comment, before what may end a document
pub passable : (free : Bool) (co : Option Marker) (m : Marker) (y : List ℕ) → (free ≡ true → co ≡ None)
    → (free ≡ true) ⊎ EndsDocument m y → (co ≡ None) ⊎ EndsDocument m y
passable free co m y quiet (inl e) = inl (quiet e)
passable free co m y quiet (inr h) = inr h

-- The piece is read where the text is y, at m, and the cursor is t after it. Whether a key may begin then is told too.
abbrev pub Fetches : Marker → List ℕ → (Bool → Cursor) → Bool → Piece → Type 0
Fetches m y t b piece = (blank : Bool) (key : Option Candidate) (allowed : Bool) (ad : ℕ) (ps : List Place)
    → fetch_here (state_at false (cursor_at y m blank) key allowed ad ps)
    ≡ Ok (state_at false (t blank) None b ad (ps ++ bare_place piece ∷ []))

-- A token that is right here is read: there is one step to take, from wherever the scanner stands between the last
-- token and this one (`reads_here`). The premises tell what is after it, and that this is further on.
pub reads_token : {limit : ℕ} {start : State} {free : Bool} {P : Marker → Bool → Type 0} {y : List ℕ} {ts : List Kind}
    (v : StandsInStream limit start free P y ts) → past 0 v.mark y ≡ (v.mark, y) → (free ≡ true) ⊎ EndsDocument v.mark y
    → (t : Bool → Cursor) (b : Bool) (piece : Piece) → Fetches v.mark y t b piece
    → (Q : Marker → Bool → Type 0) (n : Marker) (o : List ℕ)
    → ((blank : Bool) → past 0 (t blank).mark (t blank).rest ≡ past 0 n o) → n.index + length o ≤ limit
    → ((blank : Bool) → Q n (crosses (t blank).rest || b))
    → v.mark.index ≤ n.index → IsLined n
    → StandsInStream limit start true Q o (ts ++ piece.kind ∷ [])
reads_token {limit = limit} {y = y} {ts = ts} v here may t b piece is Q n o fits count line later lined =
    let first : v.adjacent ≤ v.mark.index = subst (λ (q : Marker × List ℕ). v.adjacent ≤ q.0.index) here v.low in
    let on = past_low 0 n o in
    let r = reads_here limit v.comment v.there v.key v.allowed v.adjacent v.places v.mark y (v.fits ∙ here)
    (passable _ v.comment v.mark y v.quiet may) false t (λ _. None) b (v.places ++ bare_place piece ∷ [])
    (λ blank key allowed. is blank key allowed v.adjacent v.places)
    (λ blank. within_index 0 limit (t blank) n o (fits blank) count) in
    record {
      there = t r.0;
      key = r.1;
      allowed = b;
      adjacent = v.adjacent;
      comment = None;
      places = v.places ++ bare_place piece ∷ [];
      mark = n;
      follows = goes_on v.follows r.4;
      none = λ _. r.3 refl;
      fits = fits r.0;
      line = line r.0;
      count = count;
      are = place_kinds_append v.places (bare_place piece ∷ []) ∙ ap (λ (x : List Kind). x ++ piece.kind ∷ []) v.are;
      quiet = λ _. refl;
      low = omega (arith, first, later, on);
      lined = lined;
    }

-- what holds no token is passed
pub passes_over : {limit : ℕ} {start : State} {free : Bool} {P : Marker → Bool → Type 0} {o : List ℕ} {ts : List Kind}
    (v : StandsInStream limit start free P o ts) (Q : Marker → Bool → Type 0) (n : Marker) (y : List ℕ)
    → past 0 v.mark o ≡ past 0 n y → n.index + length y ≤ limit → Q n (crosses v.there.rest || v.allowed) → IsLined n
    → StandsInStream limit start free Q y ts
passes_over {free = free} v Q n y fits count line lined = grind arith

-- where a document is free one may be that needn't be
pub unfree : {limit : ℕ} {start : State} {o : List ℕ} {ts : List Kind}
    → StandsLined limit start true true o ts → StandsLined limit start false false o ts
unfree {o = o} v = grind arith
