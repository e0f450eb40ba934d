-- The quoted scalars of a text in flow style are read, whatever comes after them.
use Rattle.std.proofs.Common.{◌≡◌, ℕ, suc, ◌+◌, ◌≤◌, Bool, true, false, List, [], ◌∷◌, ◌++◌, drop, slice_index, Ok, refl, sym, ap, ◌∙◌, arith, subst, append_assoc, IsTrue, IsFalse, encode_utf8_all}
use Rattle.yaml_laws.proofs.Common.{◌==◌, not, false≢true, nat_tests, is_break, space, line_feed, carriage_return, Marker, Item, Quote, Single, Double, Cursor, along, next_line, mid_line, break_len, is_closing, IsText, closed, itself, broken, two_quotes, escaped, numbered, escaped_break, AreIn, space_count, IsLine, LinesFit, IsQuoted, by_test}
use Rattle.saphyr_scalar.specs.Values.Flow.{mark, backslash, apostrophe}
use Rattle.saphyr_scalar.specs.Passing.{IsPassed, nothing, character, line_break}
use Rattle.saphyr_scalar.specs.Steps.Quoted as quotes
use Rattle.yaml_laws.proofs.Flow.States.{moved, IsClear, ReaderPromises}
use Rattle.yaml_laws.proofs.Flow.Places.{right_one, clear_back, clear_here}
use Rattle.yaml_laws.proofs.InFlow.Quotes.{text_right}

-- ## Breaks

is_feed : (c : ℕ) → IsTrue (is_break c) → IsTrue (not (c == carriage_return)) → c ≡ line_feed
is_feed c h k = grind (arith, nat_tests)

-- a break first, in a piece without CR
record Breaks (m : Marker) (t o : List ℕ) : Type 0 where
  there : Marker
  start : there.col ≡ 0
  clear : IsClear there (drop (break_len t) t) o
  same : drop (break_len t) t ++ o ≡ drop (break_len (t ++ o)) (t ++ o)
  first : IsTrue (is_break (slice_index (t ++ o) 0))

breaks : (m : Marker) (t o : List ℕ) → IsClear m t o → IsTrue (is_break (slice_index t 0)) → Breaks m t o
breaks m [] o clear h = absurd (false≢true h)
breaks m (c ∷ cs) o clear h =
    subst (λ (y : ℕ). IsClear m (y ∷ cs) o → Breaks m (y ∷ cs) o) (sym (is_feed c h clear.no_return.0))
    (λ k. record {
      there = next_line m 1;
      start = refl;
      clear = clear_back m (10 ∷ []) cs o k;
      same = refl;
      first = refl;
    }) clear

-- ## What comes after does not matter

has_first : (t : List ℕ) → IsTrue (is_break (slice_index t 0)) → (c : ℕ) × (cs : List ℕ) × (t ≡ c ∷ cs)
has_first [] h = absurd (false≢true h)
has_first (c ∷ cs) h = (c, cs, refl)

text_first : (q : Quote) (t : List ℕ) (items : List Item) (x : List ℕ) → IsText q t items x
    → (c : ℕ) × (cs : List ℕ) × (t ≡ c ∷ cs)
text_first _ _ _ _ (closed q x h) = (mark q, x, refl)
text_first _ _ _ _ (itself q c t items x h r) = (c, t, refl)
text_first _ _ _ _ (broken q t items x h r) = has_first t h
text_first _ _ _ _ (two_quotes t items x r) = (apostrophe, apostrophe ∷ t, refl)
text_first _ _ _ _ (escaped e c t items x h r) = (backslash, e ∷ t, refl)
text_first _ _ _ _ (numbered e c ds t items x h r) = (backslash, e ∷ (ds ++ t), refl)
text_first _ _ _ _ (escaped_break t items x h r) = (backslash, t, refl)

-- more text after a line takes none of its spaces away
more_spaces : (u o : List ℕ) → space_count u ≤ space_count (u ++ o)
more_spaces [] o = omega arith
more_spaces (c ∷ cs) o = grind (arith, more_spaces cs o)

-- nor a break after them
still_broken : (u o : List ℕ) → IsTrue (is_break (slice_index (drop (space_count u) u) 0))
    → IsTrue (is_break (slice_index (drop (space_count (u ++ o)) (u ++ o)) 0))
still_broken [] o h = absurd (false≢true h)
still_broken (c ∷ cs) o h = by_space (c == space) refl h (still_broken cs o)
  where
    step : (n : ℕ) → 1 + n ≡ suc n
    step n = omega arith

    by_space : (b : Bool) → (c == space) ≡ b → IsTrue (is_break (slice_index (drop (space_count (c ∷ cs)) (c ∷ cs)) 0))
        → (IsTrue (is_break (slice_index (drop (space_count cs) cs) 0))
        → IsTrue (is_break (slice_index (drop (space_count (cs ++ o)) (cs ++ o)) 0)))
        → IsTrue (is_break (slice_index (drop (space_count (c ∷ (cs ++ o))) (c ∷ (cs ++ o))) 0))
    by_space true e k on =
        let count : space_count (c ∷ cs) ≡ suc (space_count cs) = rw e (step (space_count cs)) in
        let counted : space_count (c ∷ (cs ++ o)) ≡ suc (space_count (cs ++ o)) = rw e (step (space_count (cs ++ o))) in
        subst (λ (n : ℕ). IsTrue (is_break (slice_index (drop n (c ∷ (cs ++ o))) 0))) (sym counted) (on (rw count at k))
    by_space false e k on =
        let count : space_count (c ∷ cs) ≡ 0 = rw e refl in
        let counted : space_count (c ∷ (cs ++ o)) ≡ 0 = rw e refl in rw counted (rw count at k)

-- no document marker begins a line of a clear piece, and each is indented as it was, or less is asked
line_fits : (low indent : ℕ) → low ≤ indent → (m : Marker) (u o : List ℕ) (c : ℕ) (cs : List ℕ) → u ≡ c ∷ cs → m.col ≡ 0
    → IsClear m u o → IsLine indent u → IsLine low (u ++ o)
line_fits low indent below m u o c cs is start clear line = grind (arith, clear_here, drop, more_spaces, still_broken)

quote_closes : (q : Quote) (y : List ℕ) → (slice_index y 0 == 39) ≡ false → IsTrue (is_closing q (mark q ∷ y))
quote_closes q y h = grind arith

-- a text between quotes, with its lines
abbrev FitsQuotes : ℕ → Quote → List ℕ → List Item → List ℕ → Type 0
FitsQuotes low q t items x = (spelled : IsText q t items x) × LinesFit low q t items x spelled

over_break : (low : ℕ) (q : Quote) (t : List ℕ) (items : List Item) (x o : List ℕ) (m : Marker) → Breaks m t o
    → FitsQuotes low q (drop (break_len t) t ++ o) items (x ++ o)
    → FitsQuotes low q (drop (break_len (t ++ o)) (t ++ o)) items (x ++ o)
over_break low q t items x o m b f = rw b.same at f

break_line : (low indent : ℕ) → low ≤ indent → (q : Quote) (t : List ℕ) (items : List Item) (x o : List ℕ) (m : Marker)
    → IsText q (drop (break_len t) t) items x → Breaks m t o → IsLine indent (drop (break_len t) t)
    → IsLine low (drop (break_len (t ++ o)) (t ++ o))
break_line low indent below q t items x o m spelled b line =
    let u = drop (break_len t) t in
    let f = text_first q u items x spelled in
    rw b.same at (line_fits low indent below b.there u o f.0 f.1 f.2 b.start b.clear line)

-- By recursion on how the text is spelled. Nothing changes but what follows: at the closing quote it is no further
-- quote, and behind a break it begins no document marker, since the text has none. So the later lines are still
-- indented, in the words of the reader too (`break_line`).
extends : (low indent : ℕ) → low ≤ indent
    → (q : Quote) (t : List ℕ) (items : List Item) (x : List ℕ) (spelled : IsText q t items x)
    → LinesFit indent q t items x spelled → (o : List ℕ) (m : Marker) → IsClear m t o
    → (slice_index (x ++ o) 0 == 39) ≡ false → FitsQuotes low q (t ++ o) items (x ++ o)
extends low indent below _ _ _ _ (closed q x h) fit o m clear ends = (
  closed q (x ++ o) (quote_closes q (x ++ o) ends),
  tt,
)
extends low indent below _ _ _ _ (itself q c t items x h r) fit o m clear ends =
    let more = extends low indent below q t items x r fit o (moved m (c ∷ [])) (clear_back m (c ∷ []) t o clear) ends in
    (itself q c (t ++ o) items (x ++ o) h more.0, more.1)
extends low indent below _ _ _ _ (broken q t items x h r) fit o m clear ends =
    let b = breaks m t o clear h in
    let more = over_break low q t items x o m b
    (extends low indent below q (drop (break_len t) t) items x r fit.1 o b.there b.clear ends) in
    (broken q (t ++ o) items (x ++ o) b.first more.0, (break_line low indent below q t items x o m r b fit.0, more.1))
extends low indent below _ _ _ _ (two_quotes t items x r) fit o m clear ends =
    let more = extends low indent below Single t items x r fit o (moved m (39 ∷ 39 ∷ []))
    (clear_back m (39 ∷ 39 ∷ []) t o clear) ends in
    (two_quotes (t ++ o) items (x ++ o) more.0, more.1)
extends low indent below _ _ _ _ (escaped e c t items x h r) fit o m clear ends =
    let more = extends low indent below Double t items x r fit o (moved m (backslash ∷ e ∷ []))
    (clear_back m (backslash ∷ e ∷ []) t o clear) ends in
    (escaped e c (t ++ o) items (x ++ o) h more.0, more.1)
extends low indent below _ _ _ _ (numbered e c ds t items x h r) fit o m clear ends =
    let more = extends low indent below Double t items x r fit o (moved m (backslash ∷ e ∷ ds))
    (clear_back m (backslash ∷ e ∷ ds) t o clear) ends in
    rw (append_assoc ds t o) ((numbered e c ds (t ++ o) items (x ++ o) h more.0, more.1))
extends low indent below _ _ _ _ (escaped_break t items x h r) fit o m clear ends =
    let n = moved m (backslash ∷ []) in
    let b = breaks n t o (clear_back m (backslash ∷ []) t o clear) h in
    let more = over_break low Double t items x o n b
    (extends low indent below Double (drop (break_len t) t) items x r fit.1 o b.there b.clear ends) in (
      escaped_break (t ++ o) items (x ++ o) b.first more.0,
      (break_line low indent below Double t items x o n r b fit.0, more.1),
    )

-- ## The place after a text

feed : (c : ℕ) → (c == line_feed) ≡ true → c ≡ line_feed
feed c e = grind (arith, nat_tests)

no_feed_no_break : (c : ℕ) → (c == line_feed) ≡ false → IsTrue (not (c == carriage_return)) → IsFalse (is_break c)
no_feed_no_break c e h = grind (arith, nat_tests)

pub moved_passes : (m : Marker) (t o : List ℕ) → AreIn (λ c. not (c == carriage_return)) t
    → IsPassed m (t ++ o) (moved m t) o
moved_passes m [] o h = nothing m o
moved_passes m (c ∷ cs) o h =
    by_test (c == line_feed) (next_line m 1) (along m 1) (λ (k : Marker). IsPassed m (c ∷ (cs ++ o)) (moved k cs) o)
    (λ e. rw (feed c e)
    (line_break m (10 ∷ (cs ++ o)) (moved (next_line m 1) cs) o refl (moved_passes (next_line m 1) cs o h.1)))
    (λ e. character m c (cs ++ o) (moved (along m 1) cs) o (no_feed_no_break c e h.0) (moved_passes (along m 1) cs o
    h.1))

-- ## A quoted scalar is read

pub quoted_read : ReaderPromises → (low indent : ℕ) → low ≤ indent → (quote : Quote) (s : Cursor) (value t o : List ℕ)
    → s.rest ≡ t ++ o → IsQuoted quote indent value t → IsClear s.mark t o → (slice_index o 0 == 39) ≡ false
    → quotes.quoted quote low s ≡ Ok (encode_utf8_all value, mid_line (moved s.mark t) o)
quoted_read reads low indent below quote s value t o is (inside, items, spelled, fit, stands_for, text) clear ends =
    let more = extends low indent below quote inside items [] spelled fit o (moved s.mark (mark quote ∷ []))
    (clear_back s.mark (mark quote ∷ []) inside o (rw text at clear)) ends in
    let got = reads.quoted quote low s items o (inside ++ o, is ∙ ap (λ (y : List ℕ). y ++ o) text, more.0) more.1 in
    let passed : IsPassed s.mark s.rest (moved s.mark t) o = grind (arith, moved, moved_passes) in
    let there = reads.place s.mark s.rest (moved s.mark t) o passed got.0 got.1 in cc

-- a quoted scalar ends right of a column that its lines reach
pub quoted_right : (indent : ℕ) (quote : Quote) (m : Marker) (value t o : List ℕ) → IsQuoted quote indent value t
    → IsClear m t o → indent ≤ m.col → indent ≤ (moved m t).col
quoted_right indent quote m value t o (inside, items, spelled, fit, stands_for, text) clear low =
    grind (arith, moved, right_one, text_right)
