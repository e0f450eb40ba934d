-- After a plain scalar no break is, and a comment that keeps it from going on is there. Where blanks alone come before
-- on the line, that is a later one, and else outside flow the text goes on right of the block collection's column.
use Rattle.std.proofs.Common.{◌≡◌, ℕ, zero, suc, ◌+◌, ◌≤◌, ◌<◌, ◌⊎◌, Bool, true, false, List, [], ◌∷◌, ◌++◌, Option, Some, None, Result, Ok, Err, refl, sym, arith, subst, cond}
use Rattle.std.specs.Prelude.{◌&&◌, ◌||◌, ◌==◌, nat_lt, pred, slice_index}
use Rattle.saphyr_input.specs.Classes.{is_break, is_blank, is_flow, tab}
use Rattle.saphyr_input.specs.Places.{is_blank_or_break, is_document_indicator}
use Rattle.saphyr_scalar.specs.declared.scalar.position.Marker.{Marker}
use Rattle.saphyr_scalar.specs.declared.scalar.fault.Refusal.{Refusal}
use Rattle.saphyr_scalar.specs.Views.Cursor.{Cursor, ◌>>=◌, along, next_line}
use Rattle.saphyr_scalar.specs.Steps.Plain.{PlainGap, PlainScalarRead, plain, word_starts, word, word_behind_gap, next_word_starts, gap, gap_from, gap_len, is_in_word, lines, reached_gap, content_behind_tab, ends_line, scalar_end, comment_of, with_text, line_front}
use Rattle.saphyr_scalar.specs.Steps.Quoted.{mid_line}
use Rattle.saphyr_input.proofs.Basics.Booleans.{by_test, or_false_right}
use Rattle.saphyr_scalar.proofs.Given.{Given, given_map}
use Rattle.saphyr_scalar.proofs.Block.PlacedHeaders.{top}

abbrev pub StopsUnbroken : Cursor → Type 0
StopsUnbroken s = is_break (slice_index s.rest 0) ≡ false

-- from the column n of a line on, where not too many lines were counted
abbrev StopsFrom : ℕ → ℕ → Cursor → Type 0
StopsFrom n line s = (s.blank_so_far ≡ false → n ≤ s.mark.col) × (s.mark.line < top → line ≤ s.mark.line)
    × (s.blank_so_far ≡ true → s.mark.line < top → line < s.mark.line)

abbrev StopsGap : Marker → PlainGap → Type 0
StopsGap m g = StopsUnbroken g.behind × StopsFrom m.col m.line g.behind

abbrev pub IsNoted : Option Marker → Cursor → Type 0
IsNoted comment s = (comment ≡ None) ⊎ (comment ≡ Some s.mark)

-- and outside flow right of the indentation, if it was before; and where blanks alone come before, on a later line than
-- the last word
abbrev pub EndsPlain : Bool → ℕ → ℕ → ℕ → List ℕ × Marker × Option Marker × Cursor → Type 0
EndsPlain in_flow indent n line x = IsNoted x.2 x.3 × StopsUnbroken x.3
    × (in_flow ≡ false → indent ≤ n → x.3.blank_so_far ≡ false → indent ≤ x.3.mark.col)
    × (x.3.mark.line < top → line ≤ x.3.mark.line)
    × (x.3.blank_so_far ≡ true → x.3.mark.line < top → line < x.3.mark.line)
    × (x.3.blank_so_far ≡ true → x.3.mark.line < top → x.1.line < x.3.mark.line)

given_then : {X Y : Type 0} → (P : X → Type 0) (Q : Y → Type 0) (r : Result X Refusal) (f : X → Result Y Refusal)
    → Given P r → ((x : X) → P x → Given Q (f x)) → Given Q (r >>= f)
given_then P Q (Ok x) f h go = go x h
given_then P Q (Err e) f h go = tt

line_stops : (Q : Cursor → Type 0) (start : Marker) (tabbed : Bool) (feeds : List ℕ) (s : Cursor) → Q s
    → Given (λ (g : PlainGap). Q g.behind) (reached_gap start tabbed feeds s)
unfolding content_behind_tab
line_stops Q start tabbed feeds s h = grind arith

-- after blanks alone, on a line or a later one
abbrev StopsInFront : ℕ → Cursor → Type 0
StopsInFront line s = StopsUnbroken s × (s.blank_so_far ≡ true) × (s.mark.line < top → line ≤ s.mark.line)

lines_stop : (indent : ℕ) (start : Marker) (tabbed : Bool) (feeds : List ℕ) (m : Marker) (xs : List ℕ)
    → Given (λ (g : PlainGap). StopsInFront m.line g.behind) (lines indent start tabbed feeds m xs)
unfolding lines
lines_stop indent start tabbed feeds m [] =
    line_stops (StopsInFront m.line) start tabbed feeds (line_front m []) (refl, refl, λ _. omega arith)
lines_stop indent start tabbed feeds m (c ∷ cs) = by_test (is_blank_or_break c) _ _
    (Given (λ (g : PlainGap). StopsInFront m.line g.behind))
    (λ _. given_map _ _ (lines indent start (is_blank c && (tabbed || ((c == tab) && nat_lt m.col indent)))
    (cond (ends_line c cs) (feeds ++ 10 ∷ []) feeds) (cond (ends_line c cs) (next_line m 1) (along m 1)) cs)
    (λ g h. (h.0, h.1, λ small. later (ends_line c cs) g.behind.mark.line (h.2 small) small))
    (lines_stop indent start (is_blank c && (tabbed || ((c == tab) && nat_lt m.col indent)))
    (cond (ends_line c cs) (feeds ++ 10 ∷ []) feeds) (cond (ends_line c cs) (next_line m 1) (along m 1)) cs))
    (λ e. line_stops (StopsInFront m.line) start tabbed feeds (line_front m (c ∷ cs))
    (or_false_right (is_blank c) (is_break c) e, refl, λ _. omega arith))
  where
    later : (b : Bool) (n : ℕ) → (cond b (next_line m 1) (along m 1)).line ≤ n → n < top → m.line ≤ n
    later true n l small = omega (arith, l, small)
    later false n l small = l

-- after blanks, which come after a word that ended at m
gap_stops : (indent : ℕ) (start : Marker) (blanks : List ℕ) (m : Marker) (s : Cursor) → s.blank_so_far ≡ false
    → m.col ≤ s.mark.col → s.mark.line ≡ m.line → Given (StopsGap m) (gap_from indent start blanks s)
unfolding gap_from
gap_stops indent start blanks m s non_space col line = grind (arith, lines_stop)

ended_ends : (in_flow : Bool) (indent : ℕ) (m : Marker) (g : PlainGap) → StopsGap m g
    → Given (EndsPlain in_flow indent m.col m.line) (scalar_end in_flow m g)
unfolding comment_of
ended_ends in_flow indent m g h = grind arith

text_ends : (in_flow : Bool) (indent n line k more : ℕ) (text : List ℕ) (r : PlainScalarRead)
    → (in_flow ≡ false → indent ≤ n → indent ≤ k) → (more < top → line ≤ more)
    → Given (EndsPlain in_flow indent k more) r → Given (EndsPlain in_flow indent n line) (with_text text r)
text_ends in_flow indent n line k more text (Ok x) col later h = (
  h.0,
  h.1,
  (λ f i b. h.2 f (col f i) b),
  (λ small. let l = h.3 small in let d = later (omega (arith, l, small)) in omega (arith, l, d)),
  (λ b small. let l = h.4 b small in let d = later (omega (arith, l, small)) in omega (arith, l, d)),
  h.5,
)
text_ends in_flow indent n line k more text (Err e) col later h = tt

-- outside flow another word on a later line begins right of the indentation
next_word_right : (in_flow : Bool) (indent : ℕ) (s : Cursor)
    → Given (λ (b : Bool × Cursor). b.0 ≡ true → in_flow ≡ false → s.blank_so_far ≡ true → indent ≤ s.mark.col)
    (next_word_starts in_flow indent s)
unfolding next_word_starts
next_word_right in_flow indent s = grind arith

either : (blank : Bool) (indent n k : ℕ) → indent ≤ n → (blank ≡ false → n ≤ k) → (blank ≡ true → indent ≤ k)
    → indent ≤ k + 1
either true indent n k i on front = let l = front refl in omega (arith, l)
either false indent n k i on front = let l = on refl in omega (arith, i, l)

mutual
  unfolding word_behind_gap word gap

  between_ends : (in_flow : Bool) (indent : ℕ) (start m : Marker) (g : PlainGap) (left : ℕ) (xs : List ℕ)
      → StopsGap m g
      → Given (EndsPlain in_flow indent m.col m.line) (word_behind_gap in_flow indent start m g left xs)
  between_ends in_flow indent start m g left [] h = ended_ends in_flow indent m g h
  between_ends in_flow indent start m g zero (c ∷ cs) h =
      given_then (λ (b : Bool × Cursor). b.0 ≡ true → in_flow ≡ false → g.behind.blank_so_far ≡ true
      → indent ≤ g.behind.mark.col) (EndsPlain in_flow indent m.col m.line)
      (next_word_starts in_flow indent g.behind) _ (next_word_right in_flow indent g.behind)
      (λ b right. by_test b.0 _ _ (Given (EndsPlain in_flow indent m.col m.line))
      (λ e. text_ends in_flow indent m.col m.line (g.behind.mark.col + 1) g.behind.mark.line _
      (word in_flow indent start (along g.behind.mark 1) cs)
      (λ f i. either g.behind.blank_so_far indent m.col g.behind.mark.col i h.1.0 (right e f)) h.1.1
      (word_ends in_flow indent start (along g.behind.mark 1) cs)) (λ _. ended_ends in_flow indent m g h))
  between_ends in_flow indent start m g (suc left) (c ∷ cs) h =
      between_ends in_flow indent start m g left cs h

  word_ends : (in_flow : Bool) (indent : ℕ) (start m : Marker) (xs : List ℕ)
      → Given (EndsPlain in_flow indent m.col m.line) (word in_flow indent start m xs)
  word_ends in_flow indent start m [] = ended_ends in_flow indent m
      (record { text = []; tabbed = false; behind = mid_line m [] })
      (refl, ((λ _. omega arith), (λ _. omega arith), λ b. absurd (cc)))
  word_ends in_flow indent start m (c ∷ cs) = by_test (is_in_word in_flow (c ∷ cs)) _ _
      (Given (EndsPlain in_flow indent m.col m.line))
      (λ _. text_ends in_flow indent m.col m.line (m.col + 1) m.line _ (word in_flow indent start (along m 1) cs)
      (λ _ i. omega (arith, i)) (λ _. omega arith) (word_ends in_flow indent start (along m 1) cs))
      (λ _. given_then (StopsGap m) (EndsPlain in_flow indent m.col m.line) (gap indent start (mid_line m (c ∷ cs))) _
      (gap_stops indent start _ m _ refl (omega arith) refl)
      (λ g h. by_test (gap_len (c ∷ cs) g == 0) _ _ (Given (EndsPlain in_flow indent m.col m.line))
      (λ _. ended_ends in_flow indent m g h)
      (λ _. between_ends in_flow indent start m g (pred (gap_len (c ∷ cs) g)) cs h)))

-- a word begins here
word_begins : (in_flow : Bool) (s : Cursor)
    → Given (λ (b : Bool × Cursor). (b.1 ≡ s) × (b.0 ≡ true → is_in_word in_flow s.rest ≡ true)) (word_starts in_flow s)
unfolding word_starts
word_begins in_flow s =
    let P : Bool × Cursor → Type 0 = λ b. (b.1 ≡ s) × (b.0 ≡ true → is_in_word in_flow s.rest ≡ true) in
    by_test ((slice_index s.rest 0 == 35) || ((s.mark.col == 0) && is_document_indicator s.rest)) _ _ (Given P)
    (λ _. (refl, λ e. absurd (cc)))
    (λ _. by_test (in_flow && (slice_index s.rest 0 == 45) && is_flow (slice_index s.rest 1)) _ _ (Given P) (λ _. tt)
    (λ _. (refl, λ e. e)))

pub plain_ends : (in_flow : Bool) (indent : ℕ) (s : Cursor)
    → Given (EndsPlain in_flow indent (s.mark.col + 1) s.mark.line) (plain in_flow indent s)
unfolding plain word is_in_word
plain_ends in_flow indent s =
    let Q = EndsPlain in_flow indent (s.mark.col + 1) s.mark.line in
    given_then (λ (b : Bool × Cursor). (b.1 ≡ s) × (b.0 ≡ true → is_in_word in_flow s.rest ≡ true)) Q
    (word_starts in_flow s) _ (word_begins in_flow s)
    (λ b w. by_test b.0 _ _ (Given Q)
    (λ e. subst (λ (t : Cursor). Given Q (word in_flow indent s.mark t.mark t.rest)) (sym w.0)
    (first s.rest (w.1 e))) (λ _. tt))
  where
    first : (xs : List ℕ) → is_in_word in_flow xs ≡ true
        → Given (EndsPlain in_flow indent (s.mark.col + 1) s.mark.line) (word in_flow indent s.mark s.mark xs)
    first [] e = absurd (cc)
    first (c ∷ cs) e = rw e (text_ends in_flow indent (s.mark.col + 1) s.mark.line (s.mark.col + 1) s.mark.line _
        (word in_flow indent s.mark (along s.mark 1) cs) (λ _ i. i) (λ _. omega arith)
        (word_ends in_flow indent s.mark (along s.mark 1) cs))
