-- A plain scalar is refused where it begins, where a word of it would begin, or after the blanks of a line.
use Rattle.std.proofs.Common.{◌≡◌, ℕ, zero, suc, Bool, true, false, List, [], ◌∷◌, ◌++◌, drop, slice_index, Result, Ok, Err, refl, sym, ap, ◌∙◌, subst, inl, inr, nat_lt, encode_utf8, arith}
use Rattle.std.specs.Prelude.{◌⊎◌, ◌&&◌, ◌||◌, ◌==◌, not, pred, if◌then◌else◌}
use Rattle.saphyr_scalar.proofs.Common.{prefix_len, is_blank, is_bom, is_break, is_z, tab, line_feed, is_blank_or_break, Marker, Refusal, Cursor, ◌>>=◌, along, pass, pass_break, or_left, or_false_right, by_test, blank_no_break}
use Rattle.saphyr_scalar.specs.Passing.{IsPassed, nothing}
use Rattle.saphyr_scalar.specs.Steps.Plain.{PlainGap, ends_line, is_in_word, word_starts, content_behind_tab, reached_gap, line_front, lines, next_lines, gap_from, gap, next_word_starts, PlainScalarRead, with_text, gap_len, word_behind_gap, word, plain}
use Rattle.saphyr_scalar.specs.Steps.Quoted.{mid_line}
use Rattle.saphyr_scalar.specs.RefusedInside.{IsRefusedInside}
use Rattle.saphyr_scalar.proofs.PassedBreaks.{PassesBreak, along_same, one_here, return_here, feed_here, stop_here, end_here, behind_one}
use Rattle.saphyr_scalar.proofs.Block.PlacedHeaders.{passed_passed, run_passed, break_ends}
use Rattle.saphyr_scalar.proofs.Plain.Gaps.{gap_end}
use Rattle.saphyr_scalar.proofs.Plain.Pieces.{some_count, dropped_at_end, starts_says, goes_says}
use Rattle.saphyr_scalar.proofs.RefusedOnWay.{inside_from, refused_there, inside_start, one_more_passed}
use Rattle.saphyr_scalar.proofs.Given.{Refused, RefusedAt, refused_bind, refused_more}

-- ## The lines after a word's line

-- passed up to where the gap ends, or refused at the scalar's start or up to where it is refused
abbrev PassesLines : Marker → Marker → List ℕ → Result PlainGap Refusal → Type 0
PassesLines start m t (Ok g) = PassesBreak m t g.behind
PassesLines start m t (Err e) = (e.mark ≡ start) ⊎ ((behind : List ℕ) × PassesBreak m t (mid_line e.mark behind))

passes_more : (start m k : Marker) (t u : List ℕ) (r : Result PlainGap Refusal)
    → ((s : Cursor) → PassesBreak k u s → PassesBreak m t s) → PassesLines start k u r → PassesLines start m t r
passes_more start m k t u (Ok g) more h = more g.behind h
passes_more start m k t u (Err e) more (inl is) = inl is
passes_more start m k t u (Err e) more (inr h) = inr (h.0, more (mid_line e.mark h.0) h.1)

reached_passes : (start : Marker) (tabbed : Bool) (feeds : List ℕ) (m : Marker) (t : List ℕ)
    → ((b : Bool) → PassesBreak m t (record { rest = t; mark = m; blank_so_far = b }))
    → PassesLines start m t (reached_gap start tabbed feeds (line_front m t))
unfolding content_behind_tab
reached_passes start tabbed feeds m t here =
    let P : Result Cursor Refusal → Type 0 =
    λ r. PassesLines start m t (r >>= λ u. Ok (record { text = feeds; tabbed = tabbed; behind = u })) in
    by_test (tabbed && is_bom (slice_index t 0)) _ _ P (λ _. inr (t, here false))
    (λ _. by_test (tabbed && not ((slice_index t 0 == 35) || is_z (slice_index t 0))) _ _ P (λ _. inl refl)
    (λ _. here true))

-- a character, of a break or none, before what is told from the place after it on
one_passes : (start m : Marker) (c : ℕ) (cs : List ℕ) (f : Marker → Result PlainGap Refusal)
    → ((k : Marker) → PassesLines start k cs (f k)) → PassesLines start m (c ∷ cs) (f (behind_one m c cs))
one_passes start m c cs f others = grind (arith, passes_more, return_here, along_same, feed_here, one_here)

lines_pass : (indent : ℕ) (start : Marker) (tabbed : Bool) (feeds : List ℕ) (m : Marker) (t : List ℕ)
    → PassesLines start m t (lines indent start tabbed feeds m t)
unfolding lines
lines_pass indent start tabbed feeds m [] = reached_passes start tabbed feeds m [] (end_here m)
lines_pass indent start tabbed feeds m (c ∷ cs) =
    let tabs : Bool = is_blank c && (tabbed || ((c == tab) && nat_lt m.col indent)) in
    let fed : List ℕ = if ends_line c cs then feeds ++ line_feed ∷ [] else feeds in
    by_test (is_blank_or_break c) _ _ (PassesLines start m (c ∷ cs))
    (λ _. one_passes start m c cs (λ k. lines indent start tabs fed k cs)
    (λ k. lines_pass indent start tabs fed k cs))
    (λ e. reached_passes start tabbed feeds m (c ∷ cs) (λ b. stop_here m c cs b (or_false_right _ _ e)))

-- ## Gaps

abbrev GapPasses : Marker → Cursor → Result PlainGap Refusal → Type 0
GapPasses start s (Ok g) = IsPassed s.mark s.rest g.behind.mark g.behind.rest
GapPasses start s (Err e) = (e.mark ≡ start) ⊎ IsRefusedInside s e

next_passes : (indent : ℕ) (start : Marker) (s t : Cursor) → IsPassed s.mark s.rest t.mark t.rest
    → GapPasses start s (next_lines indent start t)
next_passes indent start s t p = grind (arith, lines_pass, passed_passed, inside_from)

gap_passes : (indent : ℕ) (start : Marker) (s : Cursor) → GapPasses start s (gap indent start s)
unfolding gap gap_from
gap_passes indent start s =
    let t : Cursor = pass (prefix_len is_blank s.rest) s in
    let p : IsPassed s.mark s.rest t.mark t.rest = run_passed is_blank s.mark s.rest blank_no_break in
    by_test (is_break (slice_index t.rest 0)) _ _ (GapPasses start s)
    (λ e. next_passes indent start s (pass_break t)
    (passed_passed s.mark s.rest t.mark t.rest (pass_break t).mark (pass_break t).rest p
    (break_ends t (or_left (is_break (slice_index t.rest 0)) (is_z (slice_index t.rest 0)) e)).passes)) (λ _. p)

plain_gap_refused : (indent : ℕ) (s t : Cursor) → IsPassed s.mark s.rest t.mark t.rest
    → Refused (IsRefusedInside s) (gap indent s.mark t)
plain_gap_refused indent s t p = by (gap indent s.mark t) (gap_passes indent s.mark t)
  where
    by : (r : Result PlainGap Refusal) → GapPasses s.mark t r → Refused (IsRefusedInside s) r
    by (Ok g) h = tt
    by (Err e) (inl is) = inside_start s e is
    by (Err e) (inr h) = inside_from s t e p h

gap_passed : (indent : ℕ) (start : Marker) (s : Cursor) (g : PlainGap) → gap indent start s ≡ Ok g
    → IsPassed s.mark s.rest g.behind.mark g.behind.rest
gap_passed indent start s g e = rw e at (gap_passes indent start s)

-- ## Words

starts_refused : (in_flow : Bool) (s : Cursor) → RefusedAt s.mark (word_starts in_flow s)
unfolding word_starts
starts_refused in_flow s = grind arith

goes_refused : (in_flow : Bool) (indent : ℕ) (s : Cursor) → RefusedAt s.mark (next_word_starts in_flow indent s)
unfolding next_word_starts
goes_refused in_flow indent s = grind (arith, by_test, nat_lt, starts_refused)

word_no_break : (in_flow : Bool) (t : List ℕ) → is_in_word in_flow t ≡ true → is_break (slice_index t 0) ≡ false
unfolding is_in_word
word_no_break in_flow t e = grind arith

text_refused : (P : Refusal → Type 0) (text : List ℕ) (r : PlainScalarRead) → Refused P r → Refused P (with_text text r)
text_refused P text r h = refused_bind P r _ h (λ x _. tt)

mutual
  unfolding word_behind_gap word

  between_refused : (s : Cursor) (in_flow : Bool) (indent : ℕ) (end : Marker) (g : PlainGap) (left : ℕ) (t : List ℕ)
      → IsPassed s.mark s.rest g.behind.mark g.behind.rest → drop left t ≡ g.behind.rest
      → Refused (IsRefusedInside s) (word_behind_gap in_flow indent s.mark end g left t)
  between_refused s in_flow indent end g left [] p is = tt
  between_refused s in_flow indent end g zero (c ∷ cs) p is =
      let P = IsRefusedInside s in
      let b = g.behind in
      let here : IsPassed s.mark s.rest b.mark (c ∷ cs) = subst (λ u. IsPassed s.mark s.rest b.mark u) (sym is) p in
      refused_bind P (next_word_starts in_flow indent b) _
      (refused_more (λ e. e.mark ≡ b.mark) P (next_word_starts in_flow indent b) (goes_refused in_flow indent b)
      (refused_there s b p)) (λ x e. by_test x.0 _ _ (Refused P)
      (λ goes. let first : is_break c ≡ false =
      word_no_break in_flow (c ∷ cs) (ap (is_in_word in_flow) is ∙ (goes_says in_flow indent x.0 b x.1 e).goes goes) in
      text_refused P (g.text ++ encode_utf8 c) (word in_flow indent s.mark (along b.mark 1) cs)
      (word_refused s in_flow indent (along b.mark 1) cs (one_more_passed s b.mark c cs here first))) (λ _. tt))
  between_refused s in_flow indent end g (suc left) (c ∷ cs) p is = between_refused s in_flow indent end g left cs p is

  word_refused : (s : Cursor) (in_flow : Bool) (indent : ℕ) (m : Marker) (t : List ℕ) → IsPassed s.mark s.rest m t
      → Refused (IsRefusedInside s) (word in_flow indent s.mark m t)
  word_refused s in_flow indent m [] p = tt
  word_refused s in_flow indent m (c ∷ cs) p =
      let P = IsRefusedInside s in
      let t : Cursor = mid_line m (c ∷ cs) in
      by_test (is_in_word in_flow (c ∷ cs)) _ _ (Refused P)
      (λ e. text_refused P (encode_utf8 c) (word in_flow indent s.mark (along m 1) cs)
      (word_refused s in_flow indent (along m 1) cs (one_more_passed s m c cs p (word_no_break in_flow (c ∷ cs) e))))
      (λ _. refused_bind P (gap indent s.mark t) _ (plain_gap_refused indent s t p) (λ g e.
      let end = gap_end indent s.mark t g e in
      let k = pred (gap_len (c ∷ cs) g) in
      let there = passed_passed s.mark s.rest m (c ∷ cs) g.behind.mark g.behind.rest p
      (gap_passed indent s.mark t g e) in
      by_test (gap_len (c ∷ cs) g == 0) _ _ (Refused P) (λ _. tt)
      (λ some. between_refused s in_flow indent m g k cs there
      (dropped_at_end (c ∷ cs) g end (suc k) (some_count (gap_len (c ∷ cs) g) some)))))

pub plain_refused : (in_flow : Bool) (indent : ℕ) (s : Cursor) → Refused (IsRefusedInside s) (plain in_flow indent s)
unfolding plain
plain_refused in_flow indent s =
    let P = IsRefusedInside s in
    refused_bind P (word_starts in_flow s) _
    (refused_more (λ e. e.mark ≡ s.mark) P (word_starts in_flow s) (starts_refused in_flow s) (inside_start s)) (λ b e.
    let same : b.1 ≡ s = (starts_says in_flow b.0 s b.1 e).same in
    let here : IsPassed s.mark s.rest b.1.mark b.1.rest = rw same (nothing s.mark s.rest) in
    by_test b.0 _ _ (Refused P) (λ _. word_refused s in_flow indent b.1.mark b.1.rest here)
    (λ _. (s.rest, nothing s.mark s.rest)))
