-- After the document marker of the last line nothing that was read may yet be a key, so all tokens up to its own are
-- handed out.
use Rattle.yaml_laws.proofs.Common.{Bool, List, [], ap, append-nil, arith, false, inl, inr, length, refl, sym, ℕ, ◌++◌, ◌∙◌, ◌∷◌, ◌≡◌, ◌≤◌, None, line_feed, full_stop, hyphen, Marker, Cursor, along, next_line, cursor_at, IsLineRest, Kind, Piece, bare_place, State, LeadsTo, leads_on, onward, stay, place_kinds, place_kinds_append, length-append, is_open, known_before, DocumentMarker, Starts, Ends, marker_text, marker_token, cons_not_empty, state_at}
use Rattle.saphyr_scanner.specs.Grammar.Tokens as tokens
use Rattle.yaml_laws.proofs.Flow.Fillers.{rest_past}
use Rattle.yaml_laws.proofs.Flow.Places.{moved_count}
use Rattle.yaml_laws.proofs.Flow.Separates.{separates_rest}
use Rattle.yaml_laws.proofs.Documents.Lines.{rest_first}
use Rattle.yaml_laws.proofs.Documents.Stands.{Fetches, StandsLined, StandsInStream, lined_so, reads_here}
use Rattle.yaml_laws.proofs.Documents.Markers.{piece_of, at_line, start_here, start_ends, start_count, end_here, end_ends, end_count, reads_start, reads_end, FinishesStream, reads_stream_end}
use Rattle.yaml_laws.proofs.InBlock.States.{GoesOnAs, EndsDocument, moved, past}
use Rattle.yaml_laws.proofs.InBlock.Follows.{first_step}
use Rattle.yaml_laws.proofs.InBlock.Documents.Comes.{Comes}

-- The scanner has read these tokens, none of which may yet be a key, and left a rest that is not open.
pub record Handed (limit : ℕ) (start : State) (ts : List Kind) : Type 0 where
  pub last : State
  pub leads : LeadsTo limit last start
  pub none : last.core.level.key ≡ None
  pub outer : last.core.outer ≡ []
  pub known : is_open last.core.cursor.rest ≡ false
  pub are : place_kinds last.queue.places ≡ ts

-- where a token was read, the scanner has come there
comes_there : {limit : ℕ} {start s d : State} → GoesOnAs limit start s → s.core.ended ≡ false → LeadsTo limit d s
    → ¬ (d ≡ s) → LeadsTo limit d start
comes_there f running stay new = absurd (new refl)
comes_there f running (onward s t u going is settles l) new = leads_on (first_step f running is settles) l

hands_token : {limit : ℕ} {start : State} {free : Bool} {P : Marker → Bool → Type 0} {y : List ℕ} {ts : List Kind}
    (v : StandsInStream limit start free P y ts) → past 0 v.mark y ≡ (v.mark, y) → EndsDocument v.mark y
    → (t : Cursor) (piece : Piece) → Fetches v.mark y (λ _. t) false piece → t.mark.index ≤ limit
    → is_open t.rest ≡ false → Handed limit start (ts ++ piece.kind ∷ [])
hands_token {limit = limit} {y = y} {ts = ts} v here ends t piece is low known =
    let r = reads_here limit v.comment v.there v.key v.allowed v.adjacent v.places v.mark y (v.fits ∙ here) (inr ends)
    false (λ _. t) (λ _. None) false (v.places ++ bare_place piece ∷ [])
    (λ blank key allowed. is blank key allowed v.adjacent v.places) (λ _. low) in
    record {
      last = state_at false t r.1 false v.adjacent (v.places ++ bare_place piece ∷ []);
      leads = comes_there v.follows refl r.4
          (λ e. (let l = length-append v.places ((bare_place piece) ∷ []) in let same = ap length (ap (λ (s : State).
          s.queue.places) e) in omega (arith, l, same)));
      none = r.3 refl;
      outer = refl;
      known = known;
      are = cc (place_kinds_append v.places (bare_place piece ∷ []));
    }

-- ## The marker of the last line

-- after it, up to and including the break
abbrev pub last_rest : List ℕ → List ℕ
last_rest tail = tail ++ line_feed ∷ []

-- what a break ends is not open
rest_known : (tail : List ℕ) → is_open (last_rest tail) ≡ false
rest_known tail = known_before (record { front = tail; is = refl }) refl

hands_start : {limit : ℕ} {start : State} {free opened : Bool} {ts : List Kind} (tail : List ℕ) → IsLineRest tail
    → StandsLined limit start free opened (hyphen ∷ hyphen ∷ hyphen ∷ last_rest tail) ts
    → Handed limit start (ts ++ tokens.DocumentStart ∷ [])
hands_start {limit = limit} tail tail_is v =
    let r = last_rest tail in
    let first = rest_first tail (10 ∷ []) tail_is (inr refl) in
    let col = at_line (45 ∷ 45 ∷ 45 ∷ r) v.mark v.line.0 (cons_not_empty 45 (45 ∷ 45 ∷ r)) in
    let count = start_count v.mark r limit v.count in
    hands_token v refl (inr (col, inl (start_ends r first))) (cursor_at r (along v.mark 3) false)
    (piece_of v.mark (along v.mark 3) tokens.DocumentStart)
    (start_here v.mark r col first)
    (omega (arith, count)) (rest_known tail)

hands_end : {limit : ℕ} {start : State} {free opened : Bool} {ts : List Kind} (tail : List ℕ) → IsLineRest tail
    → StandsLined limit start free opened (full_stop ∷ full_stop ∷ full_stop ∷ last_rest tail) ts
    → Handed limit start (ts ++ tokens.DocumentEnd ∷ [])
hands_end {limit = limit} tail tail_is v =
    let r = last_rest tail in
    let first = rest_first tail (10 ∷ []) tail_is (inr refl) in
    let col = at_line (46 ∷ 46 ∷ 46 ∷ r) v.mark v.line.0 (cons_not_empty 46 (46 ∷ 46 ∷ r)) in
    let sep = separates_rest (cursor_at r (along v.mark 3) false) tail (10 ∷ []) refl tail_is (inr refl) in
    let n = moved (along v.mark 3) tail in
    let count = end_count v.mark n r (10 ∷ []) limit v.count (moved_count (along v.mark 3) tail (10 ∷ [])) in
    hands_token v refl (inr (col, inl (end_ends r first))) (cursor_at (10 ∷ []) n false)
    (piece_of v.mark (along v.mark 3) tokens.DocumentEnd)
    (end_here v.mark n r (10 ∷ []) sep.0 col first sep.1 refl)
    (omega (arith, count)) refl

-- The scanner reads a marker of this kind and holds nothing back. It then comes to the stream's end.
pub record MarkerRead (limit : ℕ) (start : State) (kind : Kind) : Type 0 where
  pub earlier : List Kind
  pub handed : Handed limit start (earlier ++ kind ∷ [])
  pub ends : FinishesStream limit start (λ t. t ≡ tokens.StreamEnd ∷ []) (earlier ++ kind ∷ [])

pub reads_marker : {limit : ℕ} {start : State} (marker : DocumentMarker) (tail : List ℕ) → IsLineRest tail
    → Comes limit start (marker_text marker ++ last_rest tail) → MarkerRead limit start (marker_token marker)
reads_marker Starts tail tail_is c =
    let v = reads_start (last_rest tail) c.stands (rest_first tail (10 ∷ []) tail_is (inr refl)) in
    record {
      earlier = c.tokens;
      handed = hands_start tail tail_is c.stands;
      ends = reads_stream_end v (next_line (moved v.mark tail) 1)
          (rest_past 0 v.mark tail (10 ∷ []) tail_is (inr refl) (omega arith));
    }
reads_marker Ends tail tail_is c =
    let r = last_rest tail in
    let v = reads_end r [] (lined_so (ap (λ (x : List ℕ). 46 ∷ 46 ∷ 46 ∷ x) (sym (append-nil r))) c.stands)
    (inl (tail, tail_is, refl)) in
    record {
      earlier = c.tokens;
      handed = hands_end tail tail_is c.stands;
      ends = reads_stream_end v v.mark refl;
    }
