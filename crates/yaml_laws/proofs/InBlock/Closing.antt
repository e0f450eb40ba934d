-- A block collection ends before a token to its left, and at the end of its document.
use Rattle.yaml_laws.proofs.Common.{Bool, IsTrue, List, Ok, [], ap, arith, false, inl, inr, refl, slice_index, subst, sym, true, ℕ, ◌++◌, ◌+◌, ◌<◌, ◌∙◌, ◌∷◌, ◌≡◌, ◌≤◌, ◌⊎◌, None, Result, Some, if◌then◌else◌, nat_le, nat_lt, ◌&&◌, ◌==◌, ◌||◌, nat_tests, is_blank_or_breakz, is_bom, is_z, is_document_end, is_document_indicator, is_document_start, Marker, Refusal, ◌>>=◌, Place, bare_place, empty_piece, State, Kind, zero_below_next, eq-eqb, eqb-true, ltb-true, full_stop, hyphen, percent_sign, place_kinds, place_kinds_append, EndsContent, cursor_at, end_mark}
use Rattle.saphyr_scanner.specs.Steps.Document as document
use Rattle.saphyr_scanner.specs.Grammar.Tokens as tokens
use Rattle.saphyr_scanner.specs.Steps.Unrolling.{unroll}
use Rattle.saphyr_scanner.specs.Steps.Fetch.{fetch, fetch_here}
use Rattle.yaml_laws.proofs.InBlock.States.{Frame, Moment, frame_at_column, moment_there, state_of, EndsDocument, At}
use Rattle.yaml_laws.proofs.InBlock.Follows.{goes_alike, arrives_at, stays_open}

-- the token that ends a collection
abbrev pub end_place : Marker → Place
end_place m = bare_place (empty_piece m tokens.BlockEnd)

-- ## Before a token to its left

ends_left : (f : Frame) (c : ℕ) (m : Marker) (n : Moment) (ps : List Place) → m.col < c
    → unroll (Some m.col) m (state_of (frame_at_column c f) n ps)
    ≡ unroll (Some m.col) m (state_of f (record n { deeper = false }) (ps ++ end_place m ∷ []))
unfolding unroll
ends_left f c m n ps left = grind arith

-- ## At the end of its document

-- the states with and without the collection end alike
ends_last : (f : Frame) (c : ℕ) (m : Marker) (n : Moment) (other : Bool) (ps : List Place)
    → unroll None m (state_of (frame_at_column c f) n ps)
    ≡ unroll None m (state_of f (record n { deeper = other }) (ps ++ end_place m ∷ []))
unfolding unroll
ends_last f c m n other ps = rw (zero_below_next c) refl

-- the first character of a document marker
record IsMarkerSign (c : ℕ) : Type 0 where
  nul : is_z c ≡ false
  byte_order_mark : is_bom c ≡ false
  directive : (c == percent_sign) ≡ false

dash_sign : (c : ℕ) → (c == hyphen) ≡ true → IsMarkerSign c
dash_sign c h =
    subst IsMarkerSign (sym (eqb-true c 45 h)) (record { nul = refl; byte_order_mark = refl; directive = refl })

dot_sign : (c : ℕ) → (c == full_stop) ≡ true → IsMarkerSign c
dot_sign c h =
    subst IsMarkerSign (sym (eqb-true c 46 h)) (record { nul = refl; byte_order_mark = refl; directive = refl })

first_of : (a b c d : Bool) → ((a && b && c) && d) ≡ true → a ≡ true
first_of a b c d h = grind arith

marker_sign : (y : List ℕ) (start : Bool) → is_document_start y ≡ start → IsTrue (is_document_indicator y)
    → IsMarkerSign (slice_index y 0)
marker_sign y true e h = dash_sign (slice_index y 0)
    (first_of (slice_index y 0 == 45) (slice_index y 1 == 45) (slice_index y 2 == 45)
    (is_blank_or_breakz (slice_index y 3)) e)
marker_sign y false e h =
    dot_sign (slice_index y 0) (first_of (slice_index y 0 == 46) (slice_index y 1 == 46) (slice_index y 2 == 46)
    (is_blank_or_breakz (slice_index y 3)) (ap (λ (b : Bool). b || is_document_end y) (sym e) ∙ h))

abbrev by_marker : Bool → State → Result State Refusal
by_marker start s =
    if start then document.state_behind_marker tokens.DocumentStart s else document.state_behind_document_end s

marker_here : (f : Frame) (n : Moment) (ps : List Place) (start : Bool) → is_document_start n.cursor.rest ≡ start
    → n.cursor.mark.col ≡ 0 → IsTrue (is_document_indicator n.cursor.rest)
    → fetch_here (state_of f n ps) ≡ by_marker start (state_of f n ps)
unfolding fetch_here
marker_here f n ps start h k e = grind (arith, marker_sign, eq-eqb)

-- what a byte order mark at m does
abbrev by_mark : Marker → State → Result State Refusal
by_mark m s = document.end_content s >>= λ t. Ok
    (document.put_passed m tokens.ByteOrderMark (document.pass_mark t.core) t)

mark_here : (f : Frame) (n : Moment) (ps : List Place) → n.cursor.mark.col ≡ 0
    → IsTrue (is_bom (slice_index n.cursor.rest 0))
    → fetch_here (state_of f n ps) ≡ by_mark n.cursor.mark (state_of f n ps)
unfolding fetch_here document.state_behind_byte_order_mark
mark_here f n ps col h = grind arith

-- the content of states whose collections all end alike ends alike
content_alike : (m : Marker) (s t : State) → s.core.cursor.mark ≡ m → t.core.cursor.mark ≡ m
    → unroll None m s ≡ unroll None m t → document.end_content s ≡ document.end_content t
unfolding document.end_content
content_alike m s t at_s at_t e = grind arith

-- by a marker too
marked_alike : (start : Bool) (m : Marker) (s t : State) → s.core.cursor.mark ≡ m → t.core.cursor.mark ≡ m
    → unroll None m s ≡ unroll None m t → by_marker start s ≡ by_marker start t
unfolding document.state_behind_marker document.state_behind_document_end
marked_alike start m s t at_s at_t e = grind (arith, content_alike)

-- What ends a document's content is read alike in states whose collections all end alike.
pub ended_alike : (f g : Frame) (n : Moment) (other : Bool) (ps qs : List Place) → n.cursor.mark.col ≡ 0
    → EndsContent n.cursor.rest → unroll None n.cursor.mark (state_of f n ps)
    ≡ unroll None n.cursor.mark (state_of g (record n { deeper = other }) qs)
    → fetch_here (state_of f n ps) ≡ fetch_here (state_of g (record n { deeper = other }) qs)
ended_alike f g n other ps qs col (inl h) same =
    let start = is_document_start n.cursor.rest in
    marker_here f n ps start refl col h
    ∙ marked_alike start n.cursor.mark (state_of f n ps) (state_of g (record n { deeper = other }) qs) refl refl same
    ∙ sym (marker_here g (record n { deeper = other }) qs start refl col h)
ended_alike f g n other ps qs col (inr h) same =
    let m = n.cursor.mark in
    mark_here f n ps col h
    ∙ ap (λ r. r >>= λ (u : State). Ok (document.put_passed m tokens.ByteOrderMark (document.pass_mark u.core) u))
    (content_alike m (state_of f n ps) (state_of g (record n { deeper = other }) qs) refl refl same)
    ∙ sym (mark_here g (record n { deeper = other }) qs col h)

-- the same with another text
abbrev pub with_text : Moment → List ℕ → Moment
with_text n y = record n { cursor = cursor_at y n.cursor.mark n.cursor.blank_so_far }

-- what the end of the stream does, where nothing is required
pub stream_ends : (f : Frame) (n : Moment) (ps : List Place) → n.required ≡ false
    → fetch_here (state_of f (with_text n []) ps) ≡ Ok (document.finish (end_mark n.cursor.mark)
    (unroll None (end_mark n.cursor.mark) (state_of f (with_text n []) ps)))
unfolding fetch_here document.state_behind_end document.end_at
stream_ends f n ps free = rw free refl

-- A collection ends at the end of its document, where the next token is no further left.
ends_here : (f : Frame) (c : ℕ) (n : Moment) (other : Bool) (ps : List Place) → n.required ≡ false
    → EndsDocument n.cursor.mark n.cursor.rest → fetch_here (state_of (frame_at_column c f) n ps)
    ≡ fetch_here (state_of f (record n { deeper = other }) (ps ++ end_place (end_mark n.cursor.mark) ∷ []))
ends_here f c n other ps free (inl e) =
    let end = end_mark n.cursor.mark in
    let qs = ps ++ end_place end ∷ [] in
    subst (λ (z : List ℕ). fetch_here (state_of (frame_at_column c f) (with_text n z) ps)
    ≡ fetch_here (state_of f (record (with_text n z) { deeper = other }) qs)) (sym e)
    (stream_ends (frame_at_column c f) n ps free ∙ ap (λ (s : State). Ok (document.finish end s))
    (ends_last f c end (with_text n []) other ps) ∙ sym (stream_ends f (record n { deeper = other }) qs free))
ends_here f c n other ps free (inr h) =
    let m = n.cursor.mark in
    subst (λ (k : Marker). fetch_here (state_of (frame_at_column c f) n ps)
    ≡ fetch_here (state_of f (record n { deeper = other }) (ps ++ end_place k ∷ []))) (sym (rw h.0 refl))
    (ended_alike (frame_at_column c f) f n other ps (ps ++ end_place m ∷ []) h.0 h.1 (ends_last f c m n other ps))

-- ## A collection ends

at_least : (c col : ℕ) → nat_lt col c ≡ false → c + 1 ≤ col + 1
at_least c col h = grind (arith, nat_tests)

not_less : (col c : ℕ) → col < c → nat_lt col c ≡ false → ⊥
not_less col c h e = grind (arith, nat_tests)

-- the tokens of places before the end of a collection
ended_kinds : (ps : List Place) (m : Marker) (ts : List Kind) → place_kinds ps ≡ ts
    → place_kinds (ps ++ end_place m ∷ []) ≡ ts ++ tokens.BlockEnd ∷ []
ended_kinds ps m ts e = place_kinds_append ps (end_place m ∷ []) ∙ ap (λ (x : List Kind). x ++ tokens.BlockEnd ∷ []) e

-- The block collection at a column ends before the token at m, which is to its left or ends the document. Its
-- `BlockEnd` comes only when that token is fetched. So the state inside it is compared with the state behind it, at the
-- unrolling: a token to the left closes it there, and at the document's end all collections close alike.
pub closes_block : {limit : ℕ} {start : State} {ts : List Kind} (f : Frame) (c : ℕ) (m : Marker) (y : List ℕ)
    → f.indent ≤ c → EndsDocument m y ⊎ (m.col < c) → (v : At limit start (frame_at_column c f) m y ts)
    → (w : At limit start f m y (ts ++ tokens.BlockEnd ∷ [])) × (w.key ≡ v.key) × (w.allowed ≡ v.allowed)
unfolding fetch
closes_block {limit} {start} {ts} f c m y inside ends v = by_column (nat_lt m.col c) refl
  where
    seen : Bool → Moment
    seen deeper = moment_there v deeper

    arrived : (g : Frame) (deeper : Bool) (ps : List Place) → fetch (state_of g (seen deeper) ps)
        ≡ fetch_here (unroll (Some m.col) m (state_of g (seen deeper) ps))
    arrived g deeper ps = cc (arrives_at g m y v.blank v.key v.allowed v.adjacent deeper ps v.stop v.near)

    closed_at : (n : Marker) → fetch (state_of (frame_at_column c f) (seen v.deeper) v.places)
        ≡ fetch (state_of f (seen false) (v.places ++ end_place n ∷ []))
        → (w : At limit start f m y (ts ++ tokens.BlockEnd ∷ [])) × (w.key ≡ v.key) × (w.allowed ≡ v.allowed)
    closed_at n e = (
      record {
        blank = v.blank;
        key = v.key;
        allowed = v.allowed;
        adjacent = v.adjacent;
        deeper = false;
        places = v.places ++ end_place n ∷ [];
        follows = goes_alike v.follows e refl;
        stop = v.stop;
        near = v.near;
        are = ended_kinds v.places n ts v.are;
        low = v.low;
      },
      refl,
      refl,
    )

    by_end : nat_lt m.col c ≡ false → EndsDocument m y ⊎ (m.col < c)
        → (w : At limit start f m y (ts ++ tokens.BlockEnd ∷ [])) × (w.key ≡ v.key) × (w.allowed ≡ v.allowed)
    by_end e (inr h) = absurd (not_less m.col c h e)
    by_end e (inl h) =
        let far = at_least c m.col e in
        let end = end_mark m in
        let qs = v.places ++ end_place end ∷ [] in
        closed_at end (arrived (frame_at_column c f) v.deeper v.places
        ∙ ap fetch_here (stays_open (frame_at_column c f) false m y v.blank v.key v.allowed v.adjacent v.deeper v.places
        far) ∙ ends_here f c (seen (v.deeper && nat_le (c + 1) m.col)) false v.places refl h ∙ sym (arrived f false qs
        ∙ ap fetch_here (stays_open f false m y v.blank v.key v.allowed v.adjacent false qs
        (omega (arith, inside, far)))))

    by_column : (b : Bool) → nat_lt m.col c ≡ b
        → (w : At limit start f m y (ts ++ tokens.BlockEnd ∷ [])) × (w.key ≡ v.key) × (w.allowed ≡ v.allowed)
    by_column true e = closed_at m (arrived (frame_at_column c f) v.deeper v.places
        ∙ ap fetch_here (ends_left f c m (seen v.deeper) v.places (ltb-true m.col c e))
        ∙ sym (arrived f false (v.places ++ end_place m ∷ [])))
    by_column false e = by_end e ends
