-- A text of YAML's grammar ends with the line of a document marker: whatever follows, the tokens up to and including
-- the marker's own come first.
use Rattle.std.proofs.Common.{◌≡◌, ℕ, ◌≤◌, ◌<◌, ◌^◌, true, false, List, [], ◌∷◌, ◌++◌, length, length-append, slice_index, Ok, refl, sym, ap, ◌∙◌, subst, append_assoc, inl, inr, arith, IsTrue}
use Rattle.yaml_laws.proofs.Common.{map, normalized, is_blank_or_breakz, line_feed, is_document_indicator, ◌>>=◌, bind_ok, AreEach, IsLineRest, joined_pieces, Forest, most_open, fetch_within, without_far_key, Piece, Remaining, State, start, Kind, LeadsTo, flat, onward, stay, holding, IsMarkBehindFiller, IsYaml, IsYamlText, IsRestOfText, is_open, later_here, later_than, known_before, scan, Yields, onto, free_block, begins_so, Readers, DocumentMarker, Starts, Ends, marker_text, marker_token, IsBeforeLine, IsBeforeMarker, EndsWithMarker, HandsOut, HaveSameKinds}
use Rattle.saphyr_scanner.specs.Grammar.Tokens as tokens
use Rattle.saphyr_scanner.proofs.Handing.Unroll.{rest}
use Rattle.saphyr_scanner.specs.Longer.{extended_by, state_behind_token}
use Rattle.yaml_laws.proofs.Breaks.Normal.{no_return_left, beside, normal_shorter}
use Rattle.yaml_laws.proofs.Documents.Lines.{passes_filler, rest_first}
use Rattle.yaml_laws.proofs.Documents.Markers.{start_ends, end_ends, reads_end, reads_mark}
use Rattle.yaml_laws.proofs.Documents.Stands.{StandsLined, lined_so}
use Rattle.yaml_laws.proofs.Flow.States.{ReaderPromises}
use Rattle.yaml_laws.proofs.InBlock.Documents.Comes.{Comes, ComesIn}
use Rattle.yaml_laws.proofs.InBlock.Documents.Ends.{HasNoReturn, marks_text}
use Rattle.yaml_laws.proofs.InBlock.HandedMarkers.{Handed, last_rest, reads_marker}
use Rattle.yaml_laws.proofs.InBlock.LineStarts.{opens_line, feed_opens}
use Rattle.yaml_laws.proofs.InBlock.ScalarTexts.{ReadsBlocks}
use Rattle.yaml_laws.proofs.InBlock.Statements.{ReadsLeaves}
use Rattle.yaml_laws.proofs.InBlock.Streams.{begins, yaml_leads}
use Rattle.yaml_laws.proofs.InBlock.YamlTexts.{leaves}
use Rattle.saphyr_scanner.proofs.WhatCame.Fetches.{token_came}

-- ## The marker of the last line

last_is_marker : (marker : DocumentMarker) (tail : List ℕ) → IsLineRest tail
    → IsTrue (is_document_indicator (marker_text marker ++ last_rest tail))
last_is_marker Starts tail is = start_ends (last_rest tail) (rest_first tail (10 ∷ []) is (inr refl))
last_is_marker Ends tail is = end_ends (last_rest tail) (rest_first tail (10 ∷ []) is (inr refl))

-- byte order marks are passed
passes_marks : {limit : ℕ} {start : State} {ts : List Kind} (pieces : List (List ℕ)) (y : List ℕ)
    → AreEach IsMarkBehindFiller pieces → StandsLined limit start true true (joined_pieces pieces ++ y) ts
    → Comes limit start y
passes_marks {ts = ts} [] y are v = record { free = true; opened = true; tokens = ts; stands = v }
passes_marks (piece ∷ pieces) y ((filler, filler_is, is), are) v =
    let others = joined_pieces pieces ++ y in
    passes_marks pieces y are (reads_mark others (passes_filler filler (65279 ∷ others) filler_is
    (lined_so (marks_text piece filler (joined_pieces pieces) y is) v)))

before_line : (front : List ℕ) → IsBeforeLine front → opens_line true front ≡ true
before_line front h = grind (arith, opens_line, feed_opens)

-- a `...` line, byte order marks, and what comes after them
mark_text : (others rest marks y : List ℕ)
    → (others ++ (46 ∷ 46 ∷ 46 ∷ (rest ++ line_feed ∷ marks))) ++ y
    ≡ others ++ (46 ∷ 46 ∷ 46 ∷ ((rest ++ line_feed ∷ []) ++ (marks ++ y)))
mark_text others rest marks y = simp append_assoc

-- The scanner comes to a marker before which is a line's start, perhaps with byte order marks.
comes_before : {limit : ℕ} {start : State} {ts : List Kind} (front y : List ℕ) → IsBeforeMarker front
    → IsTrue (is_document_indicator y) → StandsLined limit start true true (front ++ y) ts
    → ComesIn limit start (front ++ y) → Comes limit start y
comes_before front y (inl before) marker v go =
    go y marker (record { front = front; is = refl; line = before_line front before })
comes_before front y (inr (marks, (pieces, are, joins), inl first)) marker v go =
    passes_marks pieces y are (lined_so (ap (λ (x : List ℕ). x ++ y) (first ∙ joins)) v)
comes_before front y (inr (marks, (pieces, are, joins), inr (earlier, rest, before, rest_is, is))) marker v go =
    let behind = (rest ++ 10 ∷ []) ++ (marks ++ y) in
    let text : front ++ y ≡ earlier ++ (46 ∷ 46 ∷ 46 ∷ behind) = cc (mark_text earlier rest marks y) in
    let first : is_blank_or_breakz (slice_index behind 0) ≡ true = cc (
      append_assoc rest (10 ∷ []) (marks ++ y),
      rest_first rest (10 ∷ (marks ++ y)) rest_is (inr refl),
    ) in
    let c = go (46 ∷ 46 ∷ 46 ∷ behind) (end_ends behind first)
    (record { front = earlier; is = text; line = before_line earlier before }) in
    passes_marks pieces y are (lined_so (ap (λ (x : List ℕ). x ++ y) joins)
    (reads_end (rest ++ 10 ∷ []) (marks ++ y) c.stands (inl (rest, rest_is, refl))))

-- ## Runs

-- there is one run to the end
one_end : {limit : ℕ} {d e s : State} → LeadsTo limit d s → LeadsTo limit e s → d.core.ended ≡ true
    → e.core.ended ≡ true → d ≡ e
one_end stay stay h k = refl
one_end stay (onward s t u going is settles l) h k = absurd (cc)
one_end (onward s t u going is settles l) stay h k = absurd (cc)
one_end {limit} {e = e} (onward s t u going is settles l) (onward _ v w more came goes m) h k =
    let same : u ≡ w = cc in one_end l (subst (λ (x : State). LeadsTo limit e x) (sym same) m) h k

-- a run that leaves a rest that is not open is one with more behind the text too
leads_came : (more : List ℕ) {limit : ℕ} {d s : State} → LeadsTo limit d s → is_open d.core.cursor.rest ≡ false
    → LeadsTo limit (extended_by more d) (extended_by more s) × IsRestOfText d.core.cursor.rest s.core.cursor.rest
leads_came more {d = d} stay known = (stay, later_here d.core.cursor.rest)
leads_came more {limit} (onward s t u going is settles l) known =
    let n = leads_came more l known in
    let read : state_behind_token limit s ≡ Ok u = ap (λ r. r >>= without_far_key) is ∙ settles in
    let came = token_came more limit s in
    let b = bind_ok (fetch_within limit (extended_by more s)) without_far_key (extended_by more u)
    (came.same u read (known_before n.1 known)) in (
      onward (extended_by more s) b.0 (extended_by more u) going b.1 b.2 n.0,
      later_than n.1 (came.later u read),
    )

-- From the start of the text the scanner comes after the marker, and holds nothing back.
record ClosedLeads (limit : ℕ) (marker : DocumentMarker) (forest : Forest) (text : List ℕ) : Type 0 where
  earlier : List Kind
  yields : Yields forest (earlier ++ marker_token marker ∷ tokens.StreamEnd ∷ [])
  handed : Handed limit (start text) (earlier ++ marker_token marker ∷ [])

closed_leads : ReaderPromises → (limit : ℕ) → ReadsLeaves limit → (marker : DocumentMarker) (forest : Forest)
    → (text : List ℕ) → HasNoReturn text → EndsWithMarker IsLineRest marker text → IsYaml most_open forest text
    → length text ≤ limit → ClosedLeads limit marker forest text
closed_leads readers limit leaves marker forest text clean (front, tail, tail_is, before, at) yaml short =
    let run = yaml_leads readers limit leaves forest text clean yaml short in
    let come : Comes limit (start text) (marker_text marker ++ last_rest tail) = comes_before front
    (marker_text marker ++ last_rest tail) before (last_is_marker marker tail tail_is)
    (lined_so at (begins limit text short)) (subst (ComesIn limit (start text)) at run.4) in
    let r = reads_marker marker tail tail_is come in
    let same = one_end run.1 r.ends.leads run.2 r.ends.over in
    let all : run.3.0 ≡ r.earlier ++ marker_token marker ∷ tokens.StreamEnd ∷ [] =
    cc (append_assoc r.earlier (marker_token marker ∷ []) (tokens.StreamEnd ∷ [])) in
    record { earlier = r.earlier; yields = subst (Yields forest) all run.3.1; handed = r.handed }

-- ## The scanner's tokens

onto_kinds : (ts : List Piece) (r : Remaining) → map (λ (t : Piece). t.kind) (onto ts r).pieces
    ≡ map (λ (t : Piece). t.kind) ts ++ map (λ (t : Piece). t.kind) r.pieces
onto_kinds [] r = refl
onto_kinds (t ∷ ts) r = ap (λ ks. t.kind ∷ ks) (onto_kinds ts r)

-- they come first, whatever the text after the marker's line gives
closed_begins : Readers → ReaderPromises → (limit : ℕ) → ReadsLeaves limit
    → (marker : DocumentMarker) (forest : Forest) (text more : List ℕ) → HasNoReturn text
    → EndsWithMarker IsLineRest marker text → IsYaml most_open forest text → length text ≤ limit
    → HandsOut marker forest (scan limit (text ++ more))
closed_begins readers reads limit leaves marker forest text more clean ends yaml short =
    let c = closed_leads reads limit leaves marker forest text clean ends yaml short in
    let d = extended_by more c.handed.last in
    let all = begins_so readers limit (text ++ more) d (leads_came more c.handed.leads c.handed.known).0
    (free_block d.core c.handed.none c.handed.outer) in
    let others = rest limit (holding d.core [] (length d.queue.places)) in
    let kinds = λ (r : Remaining). map (λ (t : Piece). t.kind) r.pieces in
    record {
      earlier = c.earlier;
      more = kinds others;
      yields = c.yields;
      begins = cc (
        onto_kinds (flat d.queue.places) others,
        append_assoc c.earlier (marker_token marker ∷ []) (kinds others),
        c.handed.are,
      );
    }

-- The same of every text whose normalized breaks give such a text. The break between it and what follows is whole.
pub closed_scans : Readers → ReaderPromises → ReadsBlocks → (limit : ℕ) → limit < 2 ^ 63
    → (marker : DocumentMarker) (forest : Forest) (text more : List ℕ)
    → HaveSameKinds (scan limit (text ++ more)) (scan limit (normalized (text ++ more)))
    → IsYamlText most_open forest text → EndsWithMarker IsLineRest marker (normalized text)
    → normalized (text ++ more) ≡ normalized text ++ normalized more → length (text ++ more) ≤ limit
    → HandsOut marker forest (scan limit (text ++ more))
closed_scans readers reads blocks limit low marker forest text more same yaml ends apart short =
    let clean = no_return_left (beside text) in
    let less = normal_shorter text in
    let long = length-append text more in
    let h = closed_begins readers reads limit (leaves reads blocks limit low) marker forest (normalized text)
    (normalized more) clean ends yaml (omega (arith, less, long, short)) in
    record { earlier = h.earlier; more = h.more; yields = h.yields; begins = cc }
