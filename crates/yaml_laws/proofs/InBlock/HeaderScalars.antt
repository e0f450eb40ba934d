-- A block scalar at block level is read from its header on (YAML 1.2.2, 8.1).
use Rattle.yaml_laws.proofs.Common.{Bool, List, Ok, [], ap, arith, encode_utf8_all, false, inl, inr, length, refl, slice_index, subst, suc, sym, true, zero, ℕ, ◌++◌, ◌<◌, ◌^◌, ◌∙◌, ◌∷◌, ◌≡◌, ◌≤◌, ◌⊎◌, None, Option, Some, ◌||◌, is_break, BlockStyle, Marker, spaces, Cursor, ◌>>=◌, completed_step, from_to, least_column, save_key, Candidate, DoubleQuoted, Folded, Literal, Plain, SingleQuoted, Style, Place, bare_place, next, Piece, State, after_step, on_core, Kind, scalar_token, LeadsTo, IsBlockScalarText, IsStyled, cursor_at, or-true, le-leb, place_kinds, place_kinds_append, queue_of, saved, le_next, length-append, Span, style_of}
use Rattle.saphyr_scalar.specs.declared.values.BlockStyle.TheVariants as block_style
use Rattle.saphyr_scalar.specs.Steps.Block as blocks
use Rattle.saphyr_scanner.specs.Steps.Fetch.{fetch, fetch_here, fetch_within, check_limit, state_behind_content, step}
use Rattle.saphyr_scanner.specs.Steps.Scalar as scalar
use Rattle.saphyr_scanner.specs.Grammar.Tokens as kind
use Rattle.yaml_laws.proofs.Flow.GapSteps.{past_low}
use Rattle.yaml_laws.proofs.Flow.Places.{moved_append, moved_count}
use Rattle.yaml_laws.proofs.InBlock.States.{Frame, Moment, moment_at, moment_there, core_of, state_of, tabbed, IsUntabbed, crosses, GoesOnAs, At, EndsDocument, moved, past}
use Rattle.yaml_laws.proofs.InBlock.Gaps.{past_stops}
use Rattle.yaml_laws.proofs.InBlock.Skips.{skipped_past, spaces_skipped}
use Rattle.yaml_laws.proofs.InBlock.Follows.{follows_itself, goes_alike, first_step, left_key, left_again, drops, lands, BeginsToken, begins_with, begins_here, arrives_at, stays_open, deeper_at}
use Rattle.yaml_laws.proofs.InBlock.Lines.{FitsOnLines, fits_back}
use Rattle.yaml_laws.proofs.InBlock.Statements.{EndsNodeAt, Arrived}
use Rattle.yaml_laws.proofs.InBlock.ScalarTexts.{ReadsBlocks, block_taken}

-- ## The step at a header

-- the character that begins a header
abbrev pub sign : BlockStyle → ℕ
sign block_style.Literal = 124
sign block_style.Folded = 62

-- after a block scalar
abbrev behind_scalar : Cursor → Option Candidate → ℕ → Moment
behind_scalar s key ad =
    record { cursor = s; key = key; allowed = true; adjacent = ad; deeper = false; required = false; comment = None }

-- the core after the saving of a key, with the header ahead
pub saves : (f : Frame) (m : Marker) (y : List ℕ) (blank : Bool) (key : Option Candidate) (a : Bool) (ad : ℕ)
    (deeper : Bool) (i : ℕ) → f.indent ≤ m.col
    → save_key i (core_of f (moment_at m y blank key a ad deeper))
    ≡ core_of f (moment_at m y blank (saved a i m key) a ad deeper)
saves f m y blank key a ad deeper i low = grind arith

block_step : (f : Frame) (style : BlockStyle) (m : Marker) (y : List ℕ) (blank : Bool) (key : Option Candidate)
    (a : Bool) (ad : ℕ) (deeper : Bool) (text : List ℕ) (span : Span) (left : Cursor)
    → f.indent ≤ m.col → blocks.block_scalar style f.indent (cursor_at y m blank) ≡ Ok (text, span, left) → (i : ℕ)
    → scalar.block_scalar_steps style i (core_of f (moment_at m y blank key a ad deeper))
    ≡ completed_step (from_to span.start span.end (kind.Scalar (style_of style) text) ∷ [])
    (core_of f (behind_scalar left (saved a i m key) ad))
unfolding scalar.block_scalar_steps scalar.read_block
block_step f style m y blank key a ad deeper text span left low e i = grind (arith, saves, saved)

style_at_sign : (f : Frame) (style : BlockStyle) (n : Moment) (second i : ℕ)
    → step (sign style) second i (core_of f n) ≡ scalar.block_scalar_steps style i (core_of f n)
unfolding step
style_at_sign f style n second i = grind arith

header_begins : (style : BlockStyle) (m : Marker) (o : List ℕ) → BeginsToken m (sign style ∷ o)
header_begins block_style.Literal m o = begins_with 124 m o (refl, refl, refl) refl refl refl refl
header_begins block_style.Folded m o = begins_with 62 m o (refl, refl, refl) refl refl refl refl

sign_is_no_break : (style : BlockStyle) → is_break (sign style) ≡ false
sign_is_no_break style = grind arith

-- ## A key that is dropped after a line

-- A candidate, where there is one, begins on this line or before it.
abbrev pub IsOnLineOrBefore : Option Candidate → Marker → Type 0
IsOnLineOrBefore None m = Unit {0}
IsOnLineOrBefore (Some k) m = k.mark.line ≤ m.line

gone : (a : Bool) (i : ℕ) (m n : Marker) (key : Option Candidate) → IsOnLineOrBefore key m → m.line < n.line
    → left_key (saved a i m key) n ≡ None
gone a i m n key late h = grind arith

-- From a state that goes on with this state the scanner comes to that, where a key that is too far is dropped.
steps_dropping : {limit : ℕ} {start s : State} (g : Frame) (n : Moment) (qs : List Place) → GoesOnAs limit start s
    → s.core.ended ≡ false → fetch s ≡ Ok (state_of g n qs) → n.required ≡ false → n.cursor.mark.index ≤ limit
    → LeadsTo limit (state_of g (record n { key = left_key n.key n.cursor.mark; required = false }) qs) start
unfolding fetch_within
steps_dropping {limit} g n qs f going is free low =
    let fits : check_limit limit (state_of g n qs) ≡ Ok (state_of g n qs) =
    rw (le-leb n.cursor.mark.index limit low) refl in
    first_step f going (ap (λ r. r >>= check_limit limit) is ∙ fits)
    (ap (λ r. on_core r (queue_of qs)) (drops g n free))

-- ## A block scalar alone

spaces_tabbed : (least : ℕ) (m : Marker) (blank : Bool) (n : ℕ) (y : List ℕ)
    → tabbed least m blank false (spaces n ++ y) ≡ tabbed least (moved m (spaces n)) blank false y
spaces_tabbed least m blank zero y = refl
spaces_tabbed least m blank (suc n) y = spaces_tabbed least (moved m (32 ∷ [])) blank n y

-- where the scanner comes after a block scalar
arrives_behind : {limit : ℕ} {start : State} (f : Frame) (left : Cursor) (key : Option Candidate) (ad : ℕ)
    (qs : List Place) (ts : List Kind) (k : Marker) (o : List ℕ)
    → LeadsTo limit (state_of f (behind_scalar left key ad) qs) start
    → place_kinds qs ≡ ts → past 0 left.mark left.rest ≡ past 0 k o → ((least : ℕ) → IsUntabbed least left)
    → ad ≤ (past 0 k o).0.index → (key ≡ None) ⊎ (o ≡ []) → Arrived limit start f k o ts
arrives_behind f left key ad qs ts k o leads are text clean low ends =
    let n = behind_scalar left key ad in
    let t = past 0 k o in
    let l = lands f n qs t.0 t.1 refl text (clean (least_column (core_of f n))) (inl refl) in
    record {
      at = grind (arith, left_key, crosses, goes_alike, follows_itself, past_stops, left_again);
      next = by_end ends;
    }
  where
    by_end : (key ≡ None) ⊎ (o ≡ []) → EndsDocument (past 0 k o).0 (past 0 k o).1
        ⊎ ((left_key key (past 0 k o).0 ≡ None) × ((crosses left.rest || true) ≡ true))
    by_end (inl none) = inr (ap (λ (c : Option Candidate). left_key c (past 0 k o).0) none, or-true (crosses left.rest))
    by_end (inr over) = inl (inl (ap (λ (y : List ℕ). (past 0 k y).1) over))

-- From its header on. The scalar is one token, after which the scanner is on a later line, behind some of its
-- spaces. So a key that was saved at the header is too far away then, and dropped; and from there on comes what
-- comes from the scalar's end on, which is where its node ends.
pub reads_scalar : ReadsBlocks
    → {limit : ℕ} {start : State} {ts : List Kind} (f : Frame) (style : BlockStyle) (value : List ℕ) (m : Marker)
    (more t o : List ℕ) → limit < 2 ^ 63 → f.indent ≤ m.col
    → t ≡ sign style ∷ more → IsBlockScalarText style value f.indent t o → FitsOnLines limit m t o
    → EndsNodeAt f.indent (moved m t) o → (v : At limit start f m (t ++ o) ts) → IsOnLineOrBefore v.key m
    → Arrived limit start f (moved m t) o (ts ++ kind.Scalar (style_of style) (encode_utf8_all value) ∷ [])
unfolding fetch state_behind_content
reads_scalar laws {limit} {start} {ts} f style value m more t o short low begins is fits behind v late =
    let y = t ++ o in
    let start_is : y ≡ sign style ∷ (more ++ o) = ap (λ (x : List ℕ). x ++ o) begins in
    let b = block_taken laws style value f.indent (cursor_at y m v.blank) (sign style) more t o refl begins
    (sign_is_no_break style) fits.clear.no_return is in
    let i = next (queue_of v.places) in
    let deeper = deeper_at f v.deeper m in
    let n = behind_scalar b.left (saved v.allowed i m v.key) v.adjacent in
    let piece : Piece = record { span = b.span; kind = kind.Scalar (style_of style) (encode_utf8_all value) } in
    let qs = v.places ++ bare_place piece ∷ [] in
    let c = core_of f (moment_there v deeper) in
    let far = le_next f.indent m.col low in
    let begun : BeginsToken m y = subst (BeginsToken m) (sym start_is) (header_begins style m (more ++ o)) in
    let stepped = ap (λ (x : List ℕ). step (slice_index x 0) (slice_index y 1) i c) start_is
    ∙ style_at_sign f style (moment_there v deeper) (slice_index y 1) i
    ∙ block_step f style m y v.blank v.key v.allowed v.adjacent deeper (encode_utf8_all value) b.span b.left low b.read
    i in
    let there =
    ap (λ r. r >>= fetch_here) (arrives_at f m y v.blank v.key v.allowed v.adjacent v.deeper v.places v.stop v.near)
    ∙ ap fetch_here (stays_open f false m y v.blank v.key v.allowed v.adjacent v.deeper v.places far)
    ∙ begins_here f false m y v.blank v.key v.allowed v.adjacent v.deeper v.places begun far ∙
    (ap (λ r. after_step r (queue_of v.places)) stepped) in
    let whole = moved_count m t o in
    let inner = moved_count (moved m t) (spaces b.n) b.others in
    let size = ap length b.behind in
    let index = ap (λ (k : Marker). k.index) b.mark in
    let below = fits.below in
    let limited : b.left.mark.index ≤ limit = omega (arith, whole, inner, size, index, below) in
    let ends = key_ends i b.left.mark (b.later fits.lined (omega (arith, below, short))) in
    let lands_at = ap (λ (x : List ℕ). past 0 b.left.mark x) b.rest ∙ ap (λ (k : Marker). past 0 k b.others) b.mark
    ∙ sym (skipped_past (moved m t) (spaces b.n) b.others (spaces_skipped b.n))
    ∙ ap (past 0 (moved m t)) (sym b.behind) in
    let clean : (least : ℕ) → IsUntabbed least b.left =
    λ least. ap (λ (x : List ℕ). tabbed least b.left.mark b.left.blank_so_far false x) b.rest
    ∙ ap (λ (k : Marker). tabbed least k b.left.blank_so_far false b.others) b.mark
    ∙ sym (spaces_tabbed least (moved m t) b.left.blank_so_far b.n b.others)
    ∙ ap (tabbed least (moved m t) b.left.blank_so_far false) (sym b.behind)
    ∙ behind.clean least (moved m t) b.left.blank_so_far in
    arrives_behind f b.left (left_key (saved v.allowed i m v.key) b.left.mark) v.adjacent qs (ts ++ piece.kind ∷ [])
    (moved m t) o (steps_dropping f n qs v.follows refl there refl limited)
    (place_kinds_append v.places (bare_place piece ∷ []) ∙ ap (λ (x : List Kind). x ++ piece.kind ∷ []) v.are)
    lands_at clean (omega (arith, v.low, past_low 0 (moved m t) o, whole, length-append t o)) ends
  where
    key_ends : (i : ℕ) (n : Marker) → (m.line < n.line) ⊎ (o ≡ [])
        → (left_key (saved v.allowed i m v.key) n ≡ None) ⊎ (o ≡ [])
    key_ends i n (inl later) = inl (gone v.allowed i m n v.key late later)
    key_ends i n (inr over) = inr over

-- a block scalar of a style
reads_styled : ReadsBlocks
    → {limit : ℕ} {start : State} {ts : List Kind} (f : Frame) (style : Style) (value : List ℕ) (m : Marker)
    (t o : List ℕ) → limit < 2 ^ 63 → f.indent ≤ m.col → IsStyled style value f.indent t o
    → FitsOnLines limit m t o → EndsNodeAt f.indent (moved m t) o → (v : At limit start f m (t ++ o) ts)
    → IsOnLineOrBefore v.key m
    → Arrived limit start f (moved m t) o (ts ++ scalar_token style value ∷ [])
reads_styled laws f Literal value m t o short low (more, h, e) fits behind v late =
    reads_scalar laws f block_style.Literal value m more t o short low e h fits behind v late
reads_styled laws f Folded value m t o short low (more, h, e) fits behind v late =
    reads_scalar laws f block_style.Folded value m more t o short low e h fits behind v late
reads_styled laws f Plain value m t o short low h fits behind v late = absurd h
reads_styled laws f SingleQuoted value m t o short low h fits behind v late = absurd h
reads_styled laws f DoubleQuoted value m t o short low h fits behind v late = absurd h

-- the same after a piece of the text
pub reads_behind : ReadsBlocks
    → {limit : ℕ} {start : State} {ts : List Kind} (f : Frame) (style : Style) (value : List ℕ) (m : Marker)
    (w t o : List ℕ) → limit < 2 ^ 63 → f.indent ≤ (moved m w).col
    → IsStyled style value f.indent t o → FitsOnLines limit m (w ++ t) o → EndsNodeAt f.indent (moved m (w ++ t)) o
    → (v : At limit start f (moved m w) (t ++ o) ts) → IsOnLineOrBefore v.key (moved m w)
    → Arrived limit start f (moved m (w ++ t)) o (ts ++ scalar_token style value ∷ [])
reads_behind laws {limit} {start} {ts} f style value m w t o short low h fits behind v late =
    subst (λ (k : Marker). Arrived limit start f k o (ts ++ scalar_token style value ∷ [])) (sym (moved_append m w t))
    (reads_styled laws f style value (moved m w) t o short low h (fits_back m w t o fits)
    (subst (λ (k : Marker). EndsNodeAt f.indent k o) (moved_append m w t) behind) v late)
