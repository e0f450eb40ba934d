-- Where a block scalar is: its text is passed character by character, so the index moves on by as many as are taken,
-- and it ends after its first line, or at the end.
use Rattle.saphyr_scalar.proofs.Common.{◌≡◌, ℕ, ◌+◌, ◌<◌, ◌⊎◌, Bool, true, false, List, [], ◌∷◌, length, Ok, refl, ap, arith, inl, inr, ◌≤◌, drop, is_blank, is_break, is_z, is_yaml_non_break, BlockStyle, Chomping, Marker, Span, BlockHeader, EmptyLines, Cursor, along, next_line, pass, and_true_left, by_test, eqb-true, non_break_no_break}
use Rattle.std.specs.Prelude.{◌&&◌, slice_index, nat_lt, nat_le, min, max, Option, Some, None, unwrap_or}
use Rattle.saphyr_scalar.specs.Passing as passing
use Rattle.saphyr_scalar.specs.Passing.{IsPassed}
use Rattle.saphyr_scalar.specs.Steps.Block.{header, is_indentation, is_cr_lf, inside_break, with_empty_line, pass_empty_lines, line_starts, LinesRead, between, line, chomped_lines, content, behind_leading_lines, given_indentation, no_lines, behind_header, block_scalar}
use Rattle.std.proofs.lemmas.List.{length-drop}
use Rattle.saphyr_scalar.specs.Spelling.LineBreaks.{break_len}
use Rattle.saphyr_scalar.proofs.PassedBreaks.{PassesBreak, inside_same, one_here, return_here, feed_here, stop_here, end_here}
use Rattle.saphyr_scalar.proofs.Block.PlacedHeaders.{top, passed_passed, passed_lines, Goes, one_passed, EndsHeaderLine, header_ends_from, goes_nowhere}
use Rattle.saphyr_scalar.proofs.Block.Indentations.{indentation_is_space}
use Rattle.saphyr_scalar.proofs.Given.{Given, given_bind, given_of}

-- ## The lines

pub empty_passes : (limit : Option ℕ) (before : EmptyLines) (b : Bool) (m : Marker) (t : List ℕ)
    → PassesBreak m t (pass_empty_lines limit before b m t).1
unfolding pass_empty_lines
empty_passes limit before b m [] = end_here m b
empty_passes limit before b m (c ∷ cs) =
    let P : EmptyLines × Cursor → Type 0 = λ x. PassesBreak m (c ∷ cs) x.1 in
    by_test (is_indentation limit m.col c) _ _ P
    (λ e. one_here m c cs _ (ap is_break (indentation_is_space limit m.col c e))
    (empty_passes limit before b (along m 1) cs))
    (λ _. by_test (is_cr_lf c cs) _ _ P
    (λ e. return_here m (inside_break m) c cs _ e (inside_same m) (empty_passes limit before b (inside_break m) cs))
    (λ e. by_test (is_break c) _ _ P
    (λ f. feed_here m c cs _ e f (empty_passes limit (with_empty_line before m.col) true (next_line m 1) cs).here)
    (λ f. stop_here m c cs b f)))

starts_non_break : (i col c : ℕ) (cs : List ℕ) → line_starts i col (c ∷ cs) ≡ true → is_break c ≡ false
unfolding line_starts
starts_non_break i col c cs e = grind arith

mutual
  unfolding between line

  pub between_passes : (style : BlockStyle) (i : ℕ) (above : Option Bool) (lines : ℕ) (b : Bool) (m : Marker)
      (t : List ℕ) → PassesBreak m t (between style i above lines b m t).2
  between_passes style i above lines b m [] = end_here m b
  between_passes style i above lines b m (c ∷ cs) =
      let P : LinesRead → Type 0 = λ x. PassesBreak m (c ∷ cs) x.2 in
      by_test (is_indentation (Some i) m.col c) _ _ P
      (λ e. one_here m c cs _ (ap is_break (indentation_is_space (Some i) m.col c e))
      (between_passes style i above lines b (along m 1) cs))
      (λ _. by_test (is_cr_lf c cs) _ _ P
      (λ e. return_here m (inside_break m) c cs _ e (inside_same m)
      (between_passes style i above lines b (inside_break m) cs))
      (λ e. by_test (is_break c) _ _ P
      (λ f. feed_here m c cs _ e f (between_passes style i above (lines + 1) true (next_line m 1) cs).here)
      (λ f. by_test (line_starts i m.col (c ∷ cs)) _ _ P
      (λ g. one_here m c cs _ (starts_non_break i m.col c cs g) (line_passes style i (is_blank c) b (along m 1) cs))
      (λ _. stop_here m c cs b f))))

  line_passes : (style : BlockStyle) (i : ℕ) (more b : Bool) (m : Marker) (t : List ℕ)
      → PassesBreak m t (line style i more b m t).2
  line_passes style i more b m [] = end_here m b
  line_passes style i more b m (c ∷ cs) =
      let P : LinesRead → Type 0 = λ x. PassesBreak m (c ∷ cs) x.2 in
      by_test (is_yaml_non_break c) _ _ P
      (λ e. one_here m c cs _ (non_break_no_break c e) (line_passes style i more b (along m 1) cs))
      (λ _. by_test (is_cr_lf c cs) _ _ P
      (λ e. return_here m (inside_break m) c cs _ e (inside_same m) (line_passes style i more b (inside_break m) cs))
      (λ e. by_test (is_break c) _ _ P
      (λ f. feed_here m c cs _ e f (between_passes style i (Some more) 0 true (next_line m 1) cs).here)
      (λ f. stop_here m c cs b f)))

-- ## The scalar

-- What is read of a block scalar at s is passed from the place z on, which is s or that after its first character.
record PlacedFrom (z s : Cursor) (span : Span) (t : Cursor) : Type 0 where
  passes : IsPassed z.mark z.rest t.mark t.rest
  end : span.end ≡ t.mark
  start : (span.start ≡ s.mark) ⊎ ((behind : List ℕ) × IsPassed z.mark z.rest span.start behind
      × IsPassed span.start behind t.mark t.rest)
  line : z.mark.line < top → (z.mark.line < t.mark.line) ⊎ (is_z (slice_index t.rest 0) ≡ true)

abbrev PlacedAt : Cursor → Cursor → List ℕ × Span × Cursor → Type 0
PlacedAt z s x = PlacedFrom z s x.1 x.2

-- nothing is passed at the end
none_at_end : (limit : Option ℕ) (before : EmptyLines) (b : Bool) (m : Marker) (t : List ℕ)
    → is_z (slice_index t 0) ≡ true → is_z (slice_index (pass_empty_lines limit before b m t).1.rest 0) ≡ true
unfolding pass_empty_lines
none_at_end limit before b m [] e = refl
none_at_end limit before b m (c ∷ cs) e =
    grind (arith, eqb-true, indentation_is_space, and_true_left, slice_index, by_test)

-- the lines after a place of a later line, or at the end
lines_behind_line : (s h t : Cursor) → IsPassed h.mark h.rest t.mark t.rest
    → (h.mark.line ≡ min (s.mark.line + 1) top) ⊎ (is_z (slice_index h.rest 0) ≡ true)
    → (is_z (slice_index h.rest 0) ≡ true → is_z (slice_index t.rest 0) ≡ true)
    → s.mark.line < top → (s.mark.line < t.mark.line) ⊎ (is_z (slice_index t.rest 0) ≡ true)
lines_behind_line s h t p u0 z l = grind (arith, passed_lines)

content_placed : (style : BlockStyle) (c : Chomping) (indent i lines : ℕ) (z s h x : Cursor) → EndsHeaderLine z h
    → IsPassed h.mark h.rest x.mark x.rest → is_z (slice_index x.rest 0) ≡ false
    → (is_z (slice_index h.rest 0) ≡ true → is_z (slice_index x.rest 0) ≡ true)
    → Given (PlacedAt z s) (content style c indent i lines x)
unfolding content chomped_lines
content_placed style c indent i lines z s h x e p none ends =
    let t : Cursor = (between style i None lines x.blank_so_far x.mark x.rest).2 in
    let q = (between_passes style i None lines x.blank_so_far x.mark x.rest).here in
    let first = passed_passed z.mark z.rest h.mark h.rest x.mark x.rest e.passes p in
    by_test (nat_lt x.mark.col i && nat_le indent x.mark.col) _ _ (Given (PlacedAt z s)) (λ _. tt)
    (λ _. record {
      passes = passed_passed z.mark z.rest x.mark x.rest t.mark t.rest first q;
      end = refl;
      start = inr (x.rest, first, q);
      line = lines_behind_line z h t (passed_passed h.mark h.rest x.mark x.rest t.mark t.rest p q) e.line
          (λ f. absurd (let g = ends f in cc));
    })

leading_placed : (style : BlockStyle) (indent : ℕ) (c : Chomping) (limit : Option ℕ) (z s h : Cursor)
    (x : EmptyLines × Cursor) → EndsHeaderLine z h → IsPassed h.mark h.rest x.1.mark x.1.rest
    → (is_z (slice_index h.rest 0) ≡ true → is_z (slice_index x.1.rest 0) ≡ true)
    → Given (PlacedAt z s) (behind_leading_lines style indent s.mark c limit x)
unfolding behind_leading_lines
leading_placed style indent c limit z s h x e p ends =
    by_test (is_z (slice_index x.1.rest 0)) _ _ (Given (PlacedAt z s))
    (λ f. record {
      passes = passed_passed z.mark z.rest h.mark h.rest x.1.mark x.1.rest e.passes p;
      end = refl;
      start = inl refl;
      line = λ _. inr f;
    })
    (λ f. content_placed style c indent (unwrap_or limit (max x.0.widest indent)) x.0.count z s h x.1 e p f ends)

scalar_placed : (style : BlockStyle) (indent : ℕ) (z s : Cursor) → Goes z (pass 1 s)
    → Given (PlacedAt z s) (block_scalar style indent s)
unfolding block_scalar behind_header
scalar_placed style indent z s g = given_bind (PlacedAt z s) (header s) _ (λ h e.
    let limit = given_indentation indent h.0.indicator in
    let k = h.1 in
    leading_placed style indent h.0.chomping limit z s k (pass_empty_lines limit no_lines k.blank_so_far k.mark k.rest)
    (given_of (λ (y : BlockHeader × Cursor). EndsHeaderLine z y.1) (header s) h (header_ends_from z s g) e)
    (empty_passes limit no_lines k.blank_so_far k.mark k.rest).here
    (none_at_end limit no_lines k.blank_so_far k.mark k.rest))

span_placed : (s : Cursor) (span : Span) (t : Cursor) → PlacedFrom s s span t
    → (behind : List ℕ) × IsPassed s.mark s.rest span.start behind × IsPassed span.start behind t.mark t.rest
span_placed s span t p = elim p.start [
  | inl at ↦ (s.rest, rw at (passing.nothing s.mark s.rest), rw at p.passes)
  | inr w ↦ w
]

pub block_scalar_placed : (style : BlockStyle) (indent : ℕ) (s t : Cursor) (text : List ℕ) (span : Span)
    → is_break (slice_index s.rest 0) ≡ false → 0 < length s.rest → block_scalar style indent s ≡ Ok (text, span, t)
    → IsPassed s.mark s.rest t.mark t.rest × (span.end ≡ t.mark)
    × ((behind : List ℕ) × IsPassed s.mark s.rest span.start behind × IsPassed span.start behind t.mark t.rest)
    × (s.mark.line < top → (s.mark.line < t.mark.line) ⊎ (is_z (slice_index t.rest 0) ≡ true))
block_scalar_placed style indent s t text span b some e =
    let p = given_of (PlacedAt s s) (block_scalar style indent s) (text, span, t)
    (scalar_placed style indent s s (one_passed s b some)) e in
    (p.passes, p.end, span_placed s span t p, p.line)

-- ## What is taken

-- a passing counts what it passes
record Counts (m : Marker) (t : List ℕ) (n : Marker) (u : List ℕ) : Type 0 where
  later : m.index ≤ n.index
  same : n.index + length u ≡ m.index + length t

break_counts : (m : Marker) (t : List ℕ) → is_break (slice_index t 0) ≡ true
    → Counts m t (next_line m (break_len t)) (drop (break_len t) t)
break_counts m t h = grind arith

passed_counts : (m : Marker) (t : List ℕ) (n : Marker) (u : List ℕ) → IsPassed m t n u → Counts m t n u
passed_counts _ _ _ _ (passing.nothing m t) = record { later = omega arith; same = omega arith }
passed_counts _ _ _ _ (passing.character m c t n u e p) =
    let q = passed_counts (along m 1) t n u p in
    record { later = omega (arith, q.later); same = omega (arith, q.same) }
passed_counts _ _ _ _ (passing.line_break m t n u e p) =
    let b = break_counts m t e in
    let q = passed_counts (next_line m (break_len t)) (drop (break_len t) t) n u p in
    record { later = omega (arith, b.later, q.later); same = omega (arith, b.same, q.same) }

placed : (style : BlockStyle) (indent : ℕ) (s t : Cursor) (text : List ℕ) (span : Span)
    → block_scalar style indent s ≡ Ok (text, span, t) → PlacedFrom (pass 1 s) s span t
placed style indent s t text span e = given_of (PlacedAt (pass 1 s) s) (block_scalar style indent s) (text, span, t)
    (scalar_placed style indent (pass 1 s) s (goes_nowhere (pass 1 s))) e

pub block_scalar_counts : (style : BlockStyle) (indent : ℕ) (s t : Cursor) (text : List ℕ) (span : Span)
    → 0 < length s.rest → block_scalar style indent s ≡ Ok (text, span, t)
    → (s.mark.index ≤ span.start.index) × (span.start.index ≤ span.end.index) × (span.end ≡ t.mark)
    × (t.mark.index + length t.rest ≡ s.mark.index + length s.rest)
block_scalar_counts style indent s t text span some e = grind (arith, placed, passed_counts, length-drop)

-- so it takes something off the text
pub block_scalar_takes : (style : BlockStyle) (indent : ℕ) (s t : Cursor) (text : List ℕ) (span : Span)
    → 0 < length s.rest → block_scalar style indent s ≡ Ok (text, span, t) → length t.rest < length s.rest
block_scalar_takes style indent s t text span some e = grind (arith, placed, passed_counts, length-drop)
