-- Directives are read.
use Rattle.yaml_laws.proofs.Common.{Bool, List, Ok, [], ap, append-nil, append_assoc, arith, encode_utf8_all, false, inl, length, refl, slice_index, subst, sym, true, ℕ, ◌++◌, ◌+◌, ◌∙◌, ◌∷◌, ◌≡◌, ◌≤◌, map, Marker, Cursor, along, next_line, Reserved, TagPrefix, Version, Kind, directive_token, State, AreDirectives, IsDirective, cursor_at, eq-eqb, false≢true, percent_sign, line_feed, length-append, ReadDirective, version, tag_prefix, reserved, IsDirectiveText, IsLineTail, IsHandle}
use Rattle.saphyr_scalar.specs.Steps.Directive as directives
use Rattle.saphyr_scanner.specs.Grammar.Forest as forest
use Rattle.saphyr_scanner.specs.Steps.Core.{remove_key}
use Rattle.saphyr_scanner.specs.Steps.Unrolling.{unroll}
use Rattle.saphyr_scanner.specs.Steps.Document as document
use Rattle.saphyr_scanner.specs.Steps.Document.{end_content, read_directive, directive_kind}
use Rattle.saphyr_scanner.specs.Steps.Fetch.{fetch_here}
use Rattle.yaml_laws.proofs.Flow.States.{past, ReaderPromises}
use Rattle.yaml_laws.proofs.Documents.Lines.{passes_filler}
use Rattle.yaml_laws.proofs.Documents.Stands.{Fetches, StandsLined, lined_so, Lined, reads_token}
use Rattle.yaml_laws.proofs.InBlock.Lines.{one_lined}
use Rattle.yaml_laws.proofs.Documents.Markers.{piece_of, at_line}

directive_here : (m e : Marker) (r : List ℕ) (d : ReadDirective) (u : Cursor) → m.col ≡ 0
    → ((blank : Bool) → directives.directive (cursor_at (percent_sign ∷ r) m blank) ≡ Ok (d, e, u))
    → Fetches m (percent_sign ∷ r) (λ _. u) false (piece_of m e (directive_kind d))
unfolding fetch_here document.state_behind_directive end_content remove_key unroll read_directive
directive_here m e r d u col is blank k a ad ps = rw (eq-eqb m.col 0 col, is blank) refl

-- ## How a directive is read

-- A directive is read where its line's break and o come after it.
record ReadsAs (d : forest.Directive) (t : List ℕ) : Type 0 where
  said : ReadDirective
  end : Marker → Marker
  kind : directive_kind said ≡ directive_token d
  first : slice_index t 0 ≡ percent_sign
  reads : (m : Marker) (blank : Bool) (o : List ℕ) → directives.directive (cursor_at (t ++ (line_feed ∷ o)) m blank)
      ≡ Ok (said, end m, cursor_at o (next_line (along m (length t)) 1) true)

reads_text : ReaderPromises → (d : forest.Directive) (said : ReadDirective) (t tail : List ℕ)
    → directive_kind said ≡ directive_token d → IsDirectiveText said t → IsLineTail tail
    → slice_index (t ++ tail) 0 ≡ percent_sign → ReadsAs d (t ++ tail)
reads_text readers d said t tail kind is tail_is first =
    record {
      said = said;
      end = λ m. along m (length t);
      kind = kind;
      first = first;
      reads = λ m blank o. cc (
        readers.directive (cursor_at ((t ++ tail) ++ (10 ∷ o)) m blank) said t tail (10 ∷ o)
            (append_assoc t tail (10 ∷ o)) is tail_is refl,
        length-append t tail,
      );
    }

handle_is : (handle : forest.Handle) (t : List ℕ) → IsHandle handle t → t ≡ forest.handle_text handle
handle_is handle t h = grind arith

reads_as : ReaderPromises → (d : forest.Directive) (t : List ℕ) → IsDirective d t → ReadsAs d t
reads_as readers (Version major minor) t (text, tail, is, tail_is, e) =
    rw e (reads_text readers (Version major minor) (version major minor) text tail refl is tail_is (cc))
reads_as readers (TagPrefix handle prefix) t (written, text, tail, handle_of, is, tail_is, e) =
    rw e (reads_text readers (TagPrefix handle prefix)
    (tag_prefix (encode_utf8_all written) (encode_utf8_all prefix)) text tail
    (cc (handle_is handle written handle_of)) (written, prefix, is, refl, refl) tail_is (cc))
reads_as readers (Reserved name) t is =
    record {
      said = reserved (encode_utf8_all name);
      end = λ m. along m (length t);
      kind = refl;
      first = ap (λ (x : List ℕ). slice_index x 0) is.7;
      reads = λ m blank o. readers.reserved (cursor_at (t ++ (10 ∷ o)) m blank) name t (10 ∷ o) refl is refl;
    }

-- ## Directive lines

percent_sign_begins : (t : List ℕ) → slice_index t 0 ≡ percent_sign → (r : List ℕ) × (t ≡ percent_sign ∷ r)
percent_sign_begins [] h = absurd (cc)
percent_sign_begins (c ∷ cs) h = (cs, ap (λ (x : ℕ). x ∷ cs) h)

line_count : (m : Marker) (t o : List ℕ) (limit : ℕ) → m.index + length (t ++ (line_feed ∷ o)) ≤ limit
    → m.index + length t + 1 + length o ≤ limit
line_count m t o limit h = let l = length-append t (10 ∷ o) in omega (arith, h, l)

not_none : (t : List ℕ) (o : List ℕ) → slice_index t 0 ≡ percent_sign → t ++ (line_feed ∷ o) ≡ [] → ⊥
not_none [] o h e = cc
not_none (c ∷ cs) o h e = cc

wider : (l i n : ℕ) → l ≤ i + 1 → l ≤ i + n + 1
wider l i n h = omega (arith, h)

index_behind_next : (i n : ℕ) → i ≤ i + n + 1
index_behind_next i n = omega arith

reads_directive : {limit : ℕ} {start : State} {ts : List Kind} (d : forest.Directive) (t o : List ℕ) → ReadsAs d t
    → StandsLined limit start true false (t ++ (line_feed ∷ o)) ts
    → StandsLined limit start true false o (ts ++ directive_token d ∷ [])
reads_directive {limit = limit} {start = start} {ts = ts} d t o h v =
    let col = at_line (t ++ (10 ∷ o)) v.mark v.line.0 (not_none t o h.first) in
    let b = percent_sign_begins t h.first in
    let n = next_line (along v.mark (length t)) 1 in
    let text : t ++ (10 ∷ o) ≡ 37 ∷ (b.0 ++ (10 ∷ o)) = ap (λ (x : List ℕ). x ++ (10 ∷ o)) b.1 in
    let here = ap (past 0 v.mark) text ∙ ap (λ (x : List ℕ). (v.mark, x)) (sym text) in
    let u = cursor_at o n true in
    let piece = piece_of v.mark (h.end v.mark) (directive_kind h.said) in
    let fetched : Fetches v.mark (t ++ (10 ∷ o)) (λ _. u) false piece = rw text
    (directive_here v.mark (h.end v.mark) (b.0 ++ (10 ∷ o)) h.said u col (λ blank. cc (h.reads v.mark blank o))) in
    subst (λ (k : Kind). StandsLined limit start true false o (ts ++ k ∷ [])) h.kind
    (reads_token v here (inl refl) (λ _. u) false piece fetched (Lined false o) n o (λ _. refl)
    (line_count v.mark t o limit v.count) (λ _. (inl refl, λ e. absurd (false≢true e)))
    (index_behind_next v.mark.index (length t))
    (one_lined (along v.mark (length t)) 10 (wider v.mark.line v.mark.index (length t) v.lined)))

lines_text : (directive filler more y : List ℕ)
    → (directive ++ (line_feed ∷ (filler ++ more))) ++ y ≡ directive ++ (line_feed ∷ (filler ++ (more ++ y)))
lines_text directive filler more y = simp append_assoc

-- directive lines, and what comes after them
pub reads_directives : {limit : ℕ} {start : State} → ReaderPromises
    → (ds : List forest.Directive) (t y : List ℕ) (ts : List Kind) → AreDirectives ds t
    → StandsLined limit start true false (t ++ y) ts
    → StandsLined limit start true false y (ts ++ map directive_token ds)
reads_directives {limit = limit} {start = start} readers [] t y ts h v = rw (append-nil ts) (rw h at v)
reads_directives {limit = limit} {start = start} readers (d ∷ ds) t y ts
    (directive, filler, more, is, filler_is, others, e) v =
    let first = reads_directive d directive (filler ++ (more ++ y)) (reads_as readers d directive is)
    (lined_so (cc (lines_text directive filler more y)) v) in
    let last = reads_directives readers ds more y (ts ++ directive_token d ∷ []) others
    (passes_filler filler (more ++ y) filler_is first) in
    rw (append_assoc ts (directive_token d ∷ []) (map directive_token ds)) at last
