-- What is read behind a gap of a plain scalar, where the text has what the gap reads as at its end.
use Rattle.saphyr_scalar.proofs.Common.{◌≡◌, ℕ, ◌<◌, ◌≤◌, Bool, true, false, List, [], ◌∷◌, ◌++◌, length, take, drop, slice_index, Result, Ok, Err, refl, sym, ap, ◌∙◌, arith, append_assoc, ◌==◌, ◌||◌, ◌&&◌, nat_lt, encode_utf8, Option, if◌then◌else◌, IsSplitPoint, take-append_seam, encode_ascii, nat_tests, is_blank, is_break, tab, line_feed, space, is_blank_or_break, by_test, Marker, Refusal, Stop, Cursor, ◌>>=◌, along, next_line, pass_break, Moves}
use Rattle.std.proofs.lemmas.List.{append-nil, length-append}
use Rattle.saphyr_scalar.specs.Steps.Plain.{PlainGap, seen_gap, reached_gap, line_front, ends_line, lines, folded_gap, gap_onto, next_lines, gap_from, gap, is_in_word, next_word_starts, comment_of, with_text, scalar_end, word, scalar_behind_gap, PlainWordsMoved}
use Rattle.saphyr_scalar.proofs.Plain.Gaps.{gap_end, same_gap, may_stand_same}
use Rattle.saphyr_scalar.proofs.Plain.LineEnds.{from_break}
use Rattle.saphyr_scalar.proofs.Plain.Pieces.{text_twice, plain_behind_gap, moved_behind_word, goes_says}
use Rattle.saphyr_scalar.proofs.Quoted.Inside.{BlanksMoved}
use Rattle.saphyr_scalar.proofs.Runs.{cuts_before, blanks_low}

abbrev Found : Type 0
Found = Result PlainGap Refusal

-- A gap that was read, and a text before it.

-- what was read onto a text is what a gap reads as
pub record ReadOnto (text grown : List ℕ) (r : Found) (tabbed : Bool) (u : Cursor) : Type 0 where
  pub gap : PlainGap
  pub is : r ≡ Ok gap
  pub grown_by : grown ≡ text ++ gap.text
  pub tabbed_is : gap.tabbed ≡ tabbed
  pub behind : gap.behind ≡ u

pub onto_reads : (text grown : List ℕ) (r : Found) (tabbed : Bool) (u : Cursor)
    → gap_onto text r ≡ Ok (seen_gap tabbed grown u) → ReadOnto text grown r tabbed u
onto_reads text grown u0 tabbed u e = grind arith

pub onto_refused : (text : List ℕ) (r : Found) (e : Refusal) → gap_onto text r ≡ Err e → r ≡ Err e
onto_refused text (Ok g) e h = absurd (cc)
onto_refused text (Err r) e h = h

-- Lines that are read onto a text.

reached_onto : (a : Marker) (t : Bool) (text f : List ℕ) (s : Cursor)
    → reached_gap a t (text ++ f) s ≡ gap_onto text (reached_gap a t f s)
reached_onto a t text f s = grind arith

fed_onto : (b : Bool) (text f : List ℕ)
    → (if b then (text ++ f) ++ line_feed ∷ [] else text ++ f) ≡ text ++ (if b then f ++ line_feed ∷ [] else f)
fed_onto true text f = rw append_assoc refl
fed_onto false text f = refl

either_onto : (b : Bool) (text : List ℕ) (x y v w : Found) → x ≡ gap_onto text v → y ≡ gap_onto text w
    → (if b then x else y) ≡ gap_onto text (if b then v else w)
either_onto true text x y v w h k = h
either_onto false text x y v w h k = k

lines_onto : (i : ℕ) (a : Marker) (t : Bool) (text f : List ℕ) (m : Marker) (xs : List ℕ)
    → lines i a t (text ++ f) m xs ≡ gap_onto text (lines i a t f m xs)
unfolding lines
lines_onto i a t text f m [] = reached_onto a t text f (line_front m [])
lines_onto i a t text f m (c ∷ cs) =
    let tabs : Bool = is_blank c && (t || ((c == tab) && nat_lt m.col i)) in
    let fed : List ℕ = if ends_line c cs then f ++ line_feed ∷ [] else f in
    let place : Marker = if ends_line c cs then next_line m 1 else along m 1 in
    either_onto (is_blank_or_break c) text _ _ _ _
    (ap (λ (x : List ℕ). lines i a tabs x place cs) (fed_onto (ends_line c cs) text f)
    ∙ lines_onto i a tabs text fed place cs)
    (reached_onto a t text f (line_front m (c ∷ cs)))

-- what a call that reads lines onto a text says
pub lines_said : (i : ℕ) (a : Marker) (text : List ℕ) (s : Cursor) (r : Found)
    → lines i a false text s.mark s.rest ≡ r → gap_onto text (lines i a false [] s.mark s.rest) ≡ r
lines_said i a text s r e = sym (lines_onto i a false text [] s.mark s.rest)
    ∙ ap (λ (x : List ℕ). lines i a false x s.mark s.rest) (append-nil text) ∙ e

-- some line is empty
pub next_lines_with_feeds : (i : ℕ) (a : Marker) (text grown : List ℕ) (tabbed : Bool) (s u : Cursor)
    → lines i a false text s.mark s.rest ≡ Ok (seen_gap tabbed grown u) → length text < length grown
    → gap_onto text (next_lines i a s) ≡ Ok (seen_gap tabbed grown u)
next_lines_with_feeds i a text grown tabbed s u e more =
    by (lines i a false [] s.mark s.rest) (onto_reads text grown _ tabbed u (lines_said i a text s _ e))
  where
    by : (r : Found) → ReadOnto text grown r tabbed u
        → gap_onto text (r >>= λ g. Ok (folded_gap g)) ≡ Ok (seen_gap tabbed grown u)
    by r o =
        let some : (length o.gap.text == 0) ≡ false =
        (let longer = ap length o.grown_by in grind (arith, nat_tests, length-append)) in
        rw (o.is, some, o.grown_by, ← o.tabbed_is, ← o.behind) refl

-- none is
pub next_lines_without_feed : (i : ℕ) (a : Marker) (text grown pushed : List ℕ) (tabbed : Bool) (s u : Cursor)
    → lines i a false text s.mark s.rest ≡ Ok (seen_gap tabbed grown u) → length grown ≤ length text
    → pushed ≡ grown ++ encode_utf8 space
    → gap_onto text (next_lines i a s) ≡ Ok (seen_gap tabbed pushed u)
next_lines_without_feed i a text grown pushed tabbed s u e less put =
    by (lines i a false [] s.mark s.rest) (onto_reads text grown _ tabbed u (lines_said i a text s _ e))
  where
    nothing : (xs : List ℕ) → length (text ++ xs) ≤ length text → xs ≡ []
    nothing [] h = refl
    nothing (x ∷ xs) h = absurd (omega (arith, h, length-append text (x ∷ xs)))

    by : (r : Found) → ReadOnto text grown r tabbed u
        → gap_onto text (r >>= λ g. Ok (folded_gap g)) ≡ Ok (seen_gap tabbed pushed u)
    by r o =
        let none : o.gap.text ≡ [] = nothing o.gap.text (rw (← o.grown_by) less) in
        let same : grown ≡ text = o.grown_by ∙ ap (λ (x : List ℕ). text ++ x) none ∙ append-nil text in
        let is : pushed ≡ text ++ space ∷ [] = put ∙ ap (λ (x : List ℕ). x ++ encode_utf8 space) same
        ∙ ap (λ (x : List ℕ). text ++ x) (encode_ascii space (omega arith)) in
        rw (o.is, none, is, ← o.tabbed_is, ← o.behind) refl

pub lines_refused : (i : ℕ) (a : Marker) (text : List ℕ) (s : Cursor) (e : Refusal)
    → lines i a false text s.mark s.rest ≡ Err e → gap_onto text (next_lines i a s) ≡ Err e
lines_refused i a text s e h =
    ap (λ (r : Found). gap_onto text (r >>= λ g. Ok (folded_gap g))) (onto_refused text _ e (lines_said i a text s _ h))

-- A gap after a word.

pub gap_on_line : (i : ℕ) (a : Marker) (text grown : List ℕ) (s u : Cursor) → BlanksMoved text grown s u
    → is_break (slice_index u.rest 0) ≡ false → gap_onto text (gap i a s) ≡ Ok (seen_gap false grown u)
unfolding gap gap_from
gap_on_line i a text grown s u m non_space = grind arith

pub gap_over_lines : (i : ℕ) (a : Marker) (text grown more : List ℕ) (s u v w : Cursor) (r : Result Bool Stop)
    → BlanksMoved text grown s u → is_break (slice_index u.rest 0) ≡ true → v ≡ pass_break u
    → Moves (λ t. seen_gap t more w) r (gap_onto grown (next_lines i a v))
    → Moves (λ t. seen_gap t more w) r (gap_onto text (gap i a s))
unfolding gap
gap_over_lines i a text grown more s u v w r m breaks on h = grind (arith, from_break)

-- Where the text is cut again.

fed_low : (b : Bool) (f : List ℕ) → slice_index f 0 < 128
    → slice_index (if b then f ++ line_feed ∷ [] else f) 0 < 128
fed_low true [] low = omega arith
fed_low true (x ∷ xs) low = low
fed_low false f low = low

lines_low : (i : ℕ) (a : Marker) (t : Bool) (f : List ℕ) (m : Marker) (xs : List ℕ) (g : PlainGap)
    → slice_index f 0 < 128 → lines i a t f m xs ≡ Ok g → slice_index g.text 0 < 128
unfolding lines
lines_low i a t f m [] g low e = rw (may_stand_same a t f (line_front m []) g e) low
lines_low i a t f m (c ∷ cs) g low e =
    by_test (is_blank_or_break c) _ _ (λ (r : Found). r ≡ Ok g → slice_index g.text 0 < 128)
    (λ _ e. lines_low i a (is_blank c && (t || ((c == tab) && nat_lt m.col i)))
    (if ends_line c cs then f ++ line_feed ∷ [] else f) (if ends_line c cs then next_line m 1 else along m 1) cs g
    (fed_low (ends_line c cs) f low) e)
    (λ _ e. rw (may_stand_same a t f (line_front m (c ∷ cs)) g e) low) e

folded_low : (g : PlainGap) → slice_index g.text 0 < 128 → slice_index (folded_gap g).text 0 < 128
folded_low g low = by_test (length g.text == 0) (space ∷ []) g.text (λ (x : List ℕ). slice_index x 0 < 128)
    (λ _. omega arith) (λ _. low)

next_low : (i : ℕ) (a : Marker) (s : Cursor) (g : PlainGap) → next_lines i a s ≡ Ok g → slice_index g.text 0 < 128
next_low i a s g = by (lines i a false [] s.mark s.rest)
    (λ h. lines_low i a false [] s.mark s.rest h (omega arith))
  where
    by : (r : Found) → ((h : PlainGap) → r ≡ Ok h → slice_index h.text 0 < 128)
        → (r >>= λ g. Ok (folded_gap g)) ≡ Ok g → slice_index g.text 0 < 128
    by (Ok h) low e =
        let same : folded_gap h ≡ g = cc in rw (← same) (folded_low h (low h refl))
    by (Err x) low e = absurd (cc)

pub gap_cuts : (i : ℕ) (a : Marker) (text grown : List ℕ) (s u : Cursor) (tabbed : Bool) (n : ℕ)
    → gap_onto text (gap i a s) ≡ Ok (seen_gap tabbed grown u) → n ≡ length text → IsSplitPoint grown n
unfolding gap gap_from
gap_cuts i a text grown s u tabbed n e is =
    grind (arith, onto_reads, cuts_before, by_test, slice_index, drop, next_low, same_gap, blanks_low)

pub lines_cut : (i : ℕ) (a : Marker) (text grown : List ℕ) (s u : Cursor) (tabbed : Bool) (n : ℕ)
    → gap_onto text (next_lines i a s) ≡ Ok (seen_gap tabbed grown u) → n ≡ length text → IsSplitPoint grown n
lines_cut i a text grown s u tabbed n e is = grind (arith, onto_reads, cuts_before, next_low)

-- What is read behind the gap.

pub behind_gap_read : (f : Bool) (i : ℕ) (a end : Marker) (text grown : List ℕ) (r : Found) (tabbed : Bool) (u : Cursor)
    (n : ℕ)
    → gap_onto text r ≡ Ok (seen_gap tabbed grown u) → n ≡ length text
    → scalar_behind_gap f i a n end tabbed grown u ≡ with_text text (r >>= plain_behind_gap f i a end)
behind_gap_read f i a end text grown r tabbed u n e is =
    let o = onto_reads text grown r tabbed u e in same o.gap o.is o.grown_by o.tabbed_is o.behind
  where
    by : (g : PlainGap) (w : Result (Bool × Cursor) Refusal) → next_word_starts f i g.behind ≡ w
        → (w >>= λ b. if b.0 then with_text (text ++ g.text) (word f i a b.1.mark b.1.rest)
        else Ok (take (length text) (text ++ g.text), end, comment_of f g.tabbed b.1, b.1))
        ≡ with_text text
        (w >>= λ b. if b.0 then with_text g.text (word f i a b.1.mark b.1.rest) else scalar_end f end g)
    by g (Ok (true, t)) h = sym (text_twice text g.text (word f i a t.mark t.rest))
    by g (Ok (false, t)) h =
        let there : t ≡ g.behind = (goes_says f i false g.behind t h).same in
        rw (take-append_seam text g.text, append-nil text, there) refl
    by g (Err x) h = refl

    same : (g : PlainGap) → r ≡ Ok g → grown ≡ text ++ g.text → g.tabbed ≡ tabbed → g.behind ≡ u
        → scalar_behind_gap f i a n end tabbed grown u ≡ with_text text (r >>= plain_behind_gap f i a end)
    same g q grows tabs at =
        rw (q, is, grows, ← tabs, ← at) (by g (next_word_starts f i g.behind) refl)

-- No word begins there, or one does and is moved, and what is behind it is read.

pub behind_refused : (f : Bool) (i : ℕ) (a end : Marker) (text : List ℕ) (tabbed : Bool) (s : Cursor) (n : ℕ)
    (e : Refusal) → next_word_starts f i s ≡ Err e → scalar_behind_gap f i a n end tabbed text s ≡ Err e
behind_refused f i a end text tabbed s n e h = rw h refl

pub behind_ends : (f : Bool) (i : ℕ) (a end : Marker) (text less : List ℕ) (tabbed : Bool) (s t u : Cursor) (n : ℕ)
    (comment : Option Marker)
    → next_word_starts f i s ≡ Ok (false, t) → less ≡ take n text → comment ≡ comment_of f tabbed t → u ≡ t
    → scalar_behind_gap f i a n end tabbed text s ≡ Ok (less, end, comment, u)
behind_ends f i a end text less tabbed s t u n comment h cut is same = rw (h, cut, is, same) refl

pub behind_words : (f : Bool) (i : ℕ) (a end : Marker) (text grown : List ℕ) (tabbed : Bool) (s t v : Cursor) (n : ℕ)
    → next_word_starts f i s ≡ Ok (true, t) → PlainWordsMoved f text grown t v
    → scalar_behind_gap f i a n end tabbed text s
    ≡ with_text grown (gap i a v >>= plain_behind_gap f i a v.mark)
behind_words f i a end text grown tabbed s t v n h words = begun ∙ moved_behind_word f i a text grown t v words
  where
    begun : scalar_behind_gap f i a n end tabbed text s ≡ with_text text (word f i a t.mark t.rest)
    begun = rw h refl

pub behind_words_refused : (f : Bool) (i : ℕ) (a end : Marker) (text grown : List ℕ) (tabbed : Bool) (s t v : Cursor)
    (n : ℕ) (e : Refusal)
    → next_word_starts f i s ≡ Ok (true, t) → PlainWordsMoved f text grown t v → gap_onto grown (gap i a v) ≡ Err e
    → scalar_behind_gap f i a n end tabbed text s ≡ Err e
behind_words_refused f i a end text grown tabbed s t v n e h words refused =
    behind_words f i a end text grown tabbed s t v n h words
    ∙ ap (λ (r : Found). with_text grown (r >>= plain_behind_gap f i a v.mark)) (onto_refused grown _ e refused)

pub behind_shorter : (f : Bool) (i : ℕ) (a : Marker) (text grown more : List ℕ) (tabbed : Bool) (s t v w : Cursor)
    → next_word_starts f i s ≡ Ok (true, t) → PlainWordsMoved f text grown t v
    → gap_onto grown (gap i a v) ≡ Ok (seen_gap tabbed more w) → length w.rest < length s.rest
behind_shorter f i a text grown more tabbed s t v w h words e =
    let says = goes_says f i true s t h in
    let o = onto_reads grown more _ tabbed w e in
    let end = gap_end i a v o.gap o.is in
    let goes : is_in_word f t.rest ≡ true = ap (λ (x : Cursor). is_in_word f x.rest) says.same ∙ says.goes refl in
    let left : length w.rest ≡ length o.gap.behind.rest = ap (λ (x : Cursor). length x.rest) (sym o.behind) in
    let first : length t.rest ≡ length s.rest = ap (λ (x : Cursor). length x.rest) says.same in
    omega (arith, end.count, left, first, words.shorter goes)
