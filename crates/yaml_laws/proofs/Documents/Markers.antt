-- Document markers, byte order marks and the text's end are read.
use Rattle.yaml_laws.proofs.Common.{Bool, IsTrue, List, Ok, [], ap, arith, false, inl, inr, length, refl, slice_index, sym, true, ℕ, ◌++◌, ◌+◌, ◌∙◌, ◌∷◌, ◌≡◌, ◌≤◌, ◌⊎◌, ◌==◌, ◌||◌, nat_tests, is_blank_or_breakz, is_breakz, is_document_indicator, SkipTabs, Yes, Marker, along, separation, cursor_at, IsEol, Kind, Piece, State, LeadsTo, or-false, or-true, eq-eqb, full_stop, hyphen, place_kinds, place_kinds_append, length-append, cons_not_empty, state_at, fetches_stream_end, stream_end_place}
use Rattle.saphyr_scanner.specs.Grammar.Tokens as tokens
use Rattle.saphyr_scanner.specs.Steps.Core.{remove_key}
use Rattle.saphyr_scanner.specs.Steps.Unrolling.{unroll}
use Rattle.saphyr_scanner.specs.Steps.Document.{end_content, state_behind_marker, end_line, state_behind_document_end, state_behind_byte_order_mark}
use Rattle.saphyr_scanner.specs.Steps.Fetch.{fetch_here}
use Rattle.yaml_laws.proofs.Flow.GapSteps.{past_count}
use Rattle.yaml_laws.proofs.Flow.Separates.{separates_rest}
use Rattle.yaml_laws.proofs.Documents.Lines.{eol, eol_first, break_ends}
use Rattle.yaml_laws.proofs.Documents.Stands.{Fetches, StandsLined, reads_here, AtLine, Lined, BehindStart, StandsInStream, reads_token}
use Rattle.yaml_laws.proofs.InBlock.States.{crosses, moved, past}
use Rattle.yaml_laws.proofs.InBlock.Follows.{comes_to_end}

-- a token that was read
abbrev pub piece_of : Marker → Marker → Kind → Piece
piece_of a b kind = record { span = record { start = a; end = b }; kind = kind }

-- a line's start, where something is left
pub at_line : (o : List ℕ) (m : Marker) → AtLine o m → ¬ (o ≡ []) → m.col ≡ 0
at_line o m h k = grind arith

-- ## `---`

along_lined : (m : Marker) (n : ℕ) → m.line ≤ m.index + 1 → m.line ≤ m.index + n + 1
along_lined m n h = omega (arith, h)

pub start_here : (m : Marker) (r : List ℕ) → m.col ≡ 0 → is_blank_or_breakz (slice_index r 0) ≡ true
    → Fetches m (hyphen ∷ hyphen ∷ hyphen ∷ r) (λ _. cursor_at r (along m 3) false) false
    (piece_of m (along m 3) tokens.DocumentStart)
unfolding fetch_here state_behind_marker end_content remove_key unroll
start_here m r col h blank k a ad ps = rw (eq-eqb m.col 0 col, h) refl

off_line : (n : ℕ) → (n + 3 == 0) ≡ false
off_line n = grind (arith, nat_tests)

index_behind : (i n : ℕ) → i ≤ i + n
index_behind i n = omega arith

pub start_count : (m : Marker) (r : List ℕ) (limit : ℕ) → m.index + length (hyphen ∷ hyphen ∷ hyphen ∷ r) ≤ limit
    → m.index + 3 + length r ≤ limit
start_count m r limit h = omega (arith, h)

-- `---` and `...` end a document
pub start_ends : (r : List ℕ) → is_blank_or_breakz (slice_index r 0) ≡ true
    → IsTrue (is_document_indicator (hyphen ∷ hyphen ∷ hyphen ∷ r))
start_ends r h = rw h refl

pub reads_start : {limit : ℕ} {start : State} {free opened : Bool} {ts : List Kind} (r : List ℕ)
    → StandsLined limit start free opened (hyphen ∷ hyphen ∷ hyphen ∷ r) ts
    → is_blank_or_breakz (slice_index r 0) ≡ true
    → StandsInStream limit start true (BehindStart r) r (ts ++ tokens.DocumentStart ∷ [])
reads_start {limit = limit} r v h =
    let col = at_line (45 ∷ 45 ∷ 45 ∷ r) v.mark v.line.0 (cons_not_empty 45 (45 ∷ 45 ∷ r)) in
    reads_token v refl (inr (inr (col, inl (start_ends r h)))) (λ _. cursor_at r (along v.mark 3) false) false
    (piece_of v.mark (along v.mark 3) tokens.DocumentStart)
    (start_here v.mark r col h) (BehindStart r) (along v.mark 3) r
    (λ _. refl) (start_count v.mark r limit v.count) (λ _. (off_line v.mark.col, or-false (crosses r)))
    (index_behind v.mark.index 3) (along_lined v.mark 3 v.lined)

-- ## A byte order mark

-- after a byte order mark, which has no column
abbrev pub beyond_byte_order_mark : Marker → Marker
beyond_byte_order_mark m = record { index = m.index + 1; line = m.line; col = m.col }

mark_here : (m : Marker) (r : List ℕ) → m.col ≡ 0
    → Fetches m (65279 ∷ r) (λ blank. cursor_at r (beyond_byte_order_mark m) blank) true
    (piece_of m (beyond_byte_order_mark m) tokens.ByteOrderMark)
unfolding fetch_here state_behind_byte_order_mark end_content remove_key unroll
mark_here m r col blank k a ad ps = grind (arith, nat_tests)

pub reads_mark : {limit : ℕ} {start : State} {free opened : Bool} {ts : List Kind} (r : List ℕ)
    → StandsLined limit start free opened (65279 ∷ r) ts
    → StandsLined limit start true true r (ts ++ tokens.ByteOrderMark ∷ [])
reads_mark {limit = limit} r v =
    let col = at_line (65279 ∷ r) v.mark v.line.0 (cons_not_empty 65279 r) in
    reads_token v refl (inr (inr (col, inr refl))) (λ blank. cursor_at r (beyond_byte_order_mark v.mark) blank) true
    (piece_of v.mark (beyond_byte_order_mark v.mark) tokens.ByteOrderMark)
    (mark_here v.mark r col) (Lined true r)
    (beyond_byte_order_mark v.mark) r
    (λ _. refl) (omega (arith, v.count)) (λ _. (inl col, λ _. inl (or-true (crosses r))))
    (index_behind v.mark.index 1) (along_lined v.mark 1 v.lined)

-- ## `...`

pub end_here : (m n : Marker) (r more : List ℕ) (found : SkipTabs) → m.col ≡ 0
    → is_blank_or_breakz (slice_index r 0) ≡ true
    → separation Yes (cursor_at r (along m 3) false) ≡ Ok (found, cursor_at more n false)
    → is_breakz (slice_index more 0) ≡ true
    → Fetches m (full_stop ∷ full_stop ∷ full_stop ∷ r) (λ _. cursor_at more n false) false
    (piece_of m (along m 3) tokens.DocumentEnd)
unfolding fetch_here state_behind_document_end state_behind_marker end_content remove_key unroll end_line
end_here m n r more found col first is h blank k a ad ps = grind arith

pub end_ends : (r : List ℕ) → is_blank_or_breakz (slice_index r 0) ≡ true
    → IsTrue (is_document_indicator (full_stop ∷ full_stop ∷ full_stop ∷ r))
end_ends r h = rw h refl

pub end_count : (m n : Marker) (r o : List ℕ) (limit : ℕ)
    → m.index + length (full_stop ∷ full_stop ∷ full_stop ∷ r) ≤ limit
    → n.index + length o ≡ m.index + 3 + length r → n.index + length o ≤ limit
end_count m n r o limit h e = omega (arith, h, e)

pub reads_end : {limit : ℕ} {start : State} {free opened : Bool} {ts : List Kind} (end o : List ℕ)
    → StandsLined limit start free opened (full_stop ∷ full_stop ∷ full_stop ∷ (end ++ o)) ts → IsEol end o
    → StandsLined limit start true true o (ts ++ tokens.DocumentEnd ∷ [])
reads_end {limit = limit} end o v h =
    let r = end ++ o in
    let col = at_line (46 ∷ 46 ∷ 46 ∷ r) v.mark v.line.0 (cons_not_empty 46 (46 ∷ 46 ∷ r)) in
    let e = eol (along v.mark 3) end o h in
    let first = eol_first (along v.mark 3) r o e in
    let sep = separates_rest (cursor_at r (along v.mark 3) false) e.rest e.more e.is e.line e.break in
    let n = moved (along v.mark 3) e.rest in
    reads_token v refl (inr (inr (col, inl (end_ends r first)))) (λ _. cursor_at e.more n false) false
    (piece_of v.mark (along v.mark 3) tokens.DocumentEnd)
    (end_here v.mark n r e.more sep.0 col first sep.1 (break_ends e.more e.break)) (Lined true o) e.mark o
    (λ _. e.behind 0)
    (end_count v.mark e.mark r o limit v.count e.count) (λ _. (e.place, λ _. opens e.more o e.opens))
    (let all = length-append end o in omega (arith, e.count, all)) (e.lined (along_lined v.mark 3 v.lined))
  where
    opens : (more o : List ℕ) → (crosses more ≡ true) ⊎ (o ≡ []) → ((crosses more || false) ≡ true) ⊎ (o ≡ [])
    opens more o (inl h) = inl (or-false (crosses more) ∙ h)
    opens more o (inr h) = inr h

-- ## The text's end

-- From the start the scanner comes to the end of the stream, and has read these tokens and others, of which Follow
-- holds.
pub record FinishesStream (limit : ℕ) (start : State) (Follow : List Kind → Type 0) (ts : List Kind) : Type 0 where
  pub last : State
  pub leads : LeadsTo limit last start
  pub over : last.core.ended ≡ true
  pub others : List Kind
  pub follow : Follow others
  pub are : place_kinds last.queue.places ≡ ts ++ others

low_index : (i l n limit : ℕ) → i + 0 ≡ n + l → n + l ≤ limit → i ≤ limit
low_index i l n limit e h = omega (arith, e, h)

pub reads_stream_end : {limit : ℕ} {start : State} {free : Bool} {P : Marker → Bool → Type 0} {o : List ℕ}
    {ts : List Kind} (v : StandsInStream limit start free P o ts) (m : Marker) → past 0 v.mark o ≡ (m, [])
    → FinishesStream limit start (λ t. t ≡ tokens.StreamEnd ∷ []) ts
reads_stream_end {limit = limit} {free = free} {o = o} {ts = ts} v m text =
    let counted = ap (λ (p : Marker × List ℕ). p.0.index + length p.1) (sym text) ∙ past_count 0 v.mark o in
    let low = low_index m.index (length o) v.mark.index limit counted v.count in
    let r = reads_here limit v.comment v.there v.key v.allowed v.adjacent v.places m [] (v.fits ∙ text) (inr (inl refl))
    true (λ blank. cursor_at [] m blank) (λ key. key) false (v.places ++ stream_end_place m ∷ [])
    (λ blank key allowed. fetches_stream_end m blank key allowed v.adjacent v.places) (λ _. low) in
    record {
      last = state_at true (cursor_at [] m r.0) r.1 false v.adjacent
          (v.places ++ stream_end_place m ∷ []);
      leads = comes_to_end v.follows refl r.4 refl;
      over = refl;
      others = tokens.StreamEnd ∷ [];
      follow = refl;
      are = cc (place_kinds_append v.places (stream_end_place m ∷ []));
    }
