-- Scalars that end on the line where they begin have no later lines.
use Rattle.std.proofs.Common.{◌≡◌, ℕ, ◌≤◌, ◌<◌, Bool, true, false, List, [], ◌∷◌, ◌++◌, length, drop, slice_index, refl, sym, ap, ◌∙◌, arith, inl, inr, IsTrue}
use Rattle.saphyr_scanner.proofs.Common.{◌||◌, ◌&&◌, ◌==◌, not, false≢true, is_break, by_test, and_true_left, and_false, Item, Quote, mark, Marker, IsPassed, nothing, character, line_break, end_of_text, IsPlainReading, HasIndentedLines, AreLaterLines, ArePlainLines, IsPlainLine, IsText, IsQuotedText, closed, itself, broken, two_quotes, escaped, numbered, escaped_break, stands_for_itself, Cursor, along, next_line, mark_no_break}
use Rattle.saphyr_scalar.specs.Spelling.LineBreaks.{break_len, ends_line}
use Rattle.std.specs.List.{list_any}
use Rattle.saphyr_scalar.specs.Reading.Plain.{IsPlainEnd}
use Rattle.saphyr_scalar.proofs.Passings.{digits_passed, one_place}
use Rattle.saphyr_scalar.proofs.Quoted.Spellings.{no_break_simple, no_break_digits}
use Rattle.saphyr_scanner.proofs.Taken.Later.{top, piece_later, passed_later}

-- what comes after a piece ends no line more of it
ends_before : (c : ℕ) (cs u : List ℕ) → IsTrue (ends_line c (cs ++ u)) → ends_line c cs ≡ true
ends_before c [] u e =
    let breaks = and_true_left (is_break c) (not ((c == 13) && (slice_index u 0 == 10))) e in
    rw (breaks, and_false (c == 13)) refl
ends_before c (d ∷ ds) u e = e

piece_on_line : (P : List ℕ → Type 0) (m : Marker) (cs u : List ℕ) → (end_of_text m cs).line ≤ m.line
    → (end_of_text m cs).line < top → AreLaterLines P cs u
piece_on_line P m [] u = λ le small. tt
piece_on_line P m (c ∷ cs) u = by_test (ends_line c cs) (next_line m 1) (along m 1)
    (λ (k : Marker). (end_of_text k cs).line ≤ m.line → (end_of_text k cs).line < top → AreLaterLines P (c ∷ cs) u)
    (λ _ le small. absurd (let more = (piece_later (next_line m 1) cs u).kept small in omega (arith, more, le, small)))
    (λ unbroken le small. (
      λ e. absurd (false≢true (sym unbroken ∙ ends_before c cs u e)),
      piece_on_line P (along m 1) cs u le small,
    ))

pub plain_on_line : (f : Bool) (i : ℕ) (s t : Cursor) (text : List ℕ) (end : Marker) (r : IsPlainReading f s text end t)
    → t.mark.line ≤ s.mark.line → t.mark.line < top → ArePlainLines f i r.piece (r.white ++ t.rest)
plain_on_line f i s t text end r le small =
    let last : (end_of_text end r.white).line ≡ t.mark.line = ap (λ (m : Marker). m.line) r.behind in
    let ends : (end_of_text s.mark r.piece).line ≡ end.line = ap (λ (m : Marker). m.line) r.ends in
    let more : end.line ≤ (end_of_text end r.white).line =
    (piece_later end r.white t.rest).kept (omega (arith, last, small)) in
    piece_on_line (IsPlainLine f i) s.mark r.piece (r.white ++ t.rest) (omega (arith, ends, more, last, le))
    (omega (arith, ends, more, last, small))

-- No line ends in the white space after it, so what ends it doesn't depend on a column.
later_break : (c : ℕ) (cs : List ℕ) → ends_line c cs ≡ false → (is_break c || list_any is_break cs) ≡ true
    → list_any is_break cs ≡ true
later_break c [] e h = grind arith
later_break c (d ∷ ds) e h = grind arith

no_break_on_line : (m : Marker) (cs : List ℕ) → (end_of_text m cs).line ≤ m.line → (end_of_text m cs).line < top
    → list_any is_break cs ≡ true → ⊥
no_break_on_line m [] = λ _ _ e. absurd (false≢true e)
no_break_on_line m (c ∷ cs) = by_test (ends_line c cs) (next_line m 1) (along m 1)
    (λ (k : Marker). (end_of_text k cs).line ≤ m.line → (end_of_text k cs).line < top
    → (is_break c || list_any is_break cs) ≡ true → ⊥)
    (λ _ le small _. let more = (piece_later (next_line m 1) cs []).kept small in
    absurd (omega (arith, more, le, small)))
    (λ unbroken le small e. no_break_on_line (along m 1) cs le small (later_break c cs unbroken e))

pub end_on_line : (f : Bool) (i j : ℕ) (s t : Cursor) (text : List ℕ) (end : Marker) (r : IsPlainReading f s text end t)
    → t.mark.line ≤ s.mark.line → t.mark.line < top → IsPlainEnd f i r.white t → IsPlainEnd f j r.white t
end_on_line f i j s t text end r le small = by
  where
    no_break : list_any is_break r.white ≡ true → ⊥
    no_break =
        let last : (end_of_text end r.white).line ≡ t.mark.line = ap (λ (m : Marker). m.line) r.behind in
        let ends : (end_of_text s.mark r.piece).line ≡ end.line = ap (λ (m : Marker). m.line) r.ends in
        let more : end.line ≤ (end_of_text end r.white).line =
        (piece_later end r.white t.rest).kept (omega (arith, last, small)) in
        let first : s.mark.line ≤ (end_of_text s.mark r.piece).line =
        (piece_later s.mark r.piece []).kept (omega (arith, last, more, ends, small)) in
        no_break_on_line end r.white (omega (arith, last, ends, first, le)) (omega (arith, last, small))

    by : IsPlainEnd f i r.white t → IsPlainEnd f j r.white t
    by (n, inl z) = (n, inl z)
    by (n, inr (inl z)) = (n, inr (inl z))
    by (n, inr (inr (inl z))) = (n, inr (inr (inl z)))
    by (n, inr (inr (inr (inl z)))) = (n, inr (inr (inr (inl z))))
    by (n, inr (inr (inr (inr z)))) = absurd (no_break z.1)

-- where a quoted scalar ends, and that it has no later lines if that is on its line
record OnLine (k : ℕ) (q : Quote) (t : List ℕ) (items : List Item) (x : List ℕ) (is : IsText q t items x) (m : Marker) :
    Type 0 where
  place : Marker
  passed : IsPassed m t place x
  lines : place.line ≤ m.line → place.line < top → HasIndentedLines k q t items x is

pub stands_unbroken : (q : Quote) (c : ℕ) → IsTrue (stands_for_itself q c) → is_break c ≡ false
stands_unbroken q c h = grind arith

-- By recursion over the spelling, an item after the other. A line break moves the place to the next line, and places
-- never go back, so where the end is on the first line there is none (`later.kept`).
quotes_on_line : (k : ℕ) (q : Quote) (t : List ℕ) (items : List Item) (x : List ℕ) (is : IsText q t items x)
    (m : Marker) → OnLine k q t items x is m
quotes_on_line k _ _ _ _ (closed q x h) m = record {
  place = along m 1;
  passed = character m (mark q) x (along m 1) x (mark_no_break q) (nothing (along m 1) x);
  lines = λ _ _. tt;
}
quotes_on_line k _ _ _ _ (itself q c t items x h r) m =
    let o = quotes_on_line k q t items x r (along m 1) in
    record {
      place = o.place;
      passed = character m c t o.place x (stands_unbroken q c h) o.passed;
      lines = o.lines;
    }
quotes_on_line k _ _ _ _ (broken q t items x h r) m =
    let o = quotes_on_line k q (drop (break_len t) t) items x r (next_line m (break_len t)) in
    let later = passed_later (next_line m (break_len t)) (drop (break_len t) t) o.place x o.passed in
    record {
      place = o.place;
      passed = line_break m t o.place x h o.passed;
      lines = λ le small. absurd (let more = later.kept small in omega (arith, more, le, small));
    }
quotes_on_line k _ _ _ _ (two_quotes t items x r) m =
    let o = quotes_on_line k _ t items x r (along (along m 1) 1) in
    record {
      place = o.place;
      passed = character m 39 (39 ∷ t) o.place x refl (character (along m 1) 39 t o.place x refl o.passed);
      lines = o.lines;
    }
quotes_on_line k _ _ _ _ (escaped e c t items x h r) m =
    let o = quotes_on_line k _ t items x r (along (along m 1) 1) in
    record {
      place = o.place;
      passed = character m 92 (e ∷ t) o.place x refl
          (character (along m 1) e t o.place x (no_break_simple e c h) o.passed);
      lines = o.lines;
    }
quotes_on_line k _ _ _ _ (numbered e c ds t items x h r) m =
    let o = quotes_on_line k _ t items x r (along (along (along m 1) 1) (length ds)) in
    record {
      place = o.place;
      passed = character m 92 (e ∷ (ds ++ t)) o.place x refl
          (character (along m 1) e (ds ++ t) o.place x (no_break_digits e (length ds) h.count)
          (digits_passed (along (along m 1) 1) ds t o.place x h.hex o.passed));
      lines = o.lines;
    }
quotes_on_line k _ _ _ _ (escaped_break t items x h r) m =
    let o = quotes_on_line k _ (drop (break_len t) t) items x r (next_line (along m 1) (break_len t)) in
    let later = passed_later (next_line (along m 1) (break_len t)) (drop (break_len t) t) o.place x o.passed in
    record {
      place = o.place;
      passed = character m 92 t o.place x refl (line_break (along m 1) t o.place x h o.passed);
      lines = λ le small. absurd (let more = later.kept small in omega (arith, more, le, small));
    }

-- between quotes characters are taken off
pub quoted_shorter : (q : Quote) (items : List Item) (s t : List ℕ) → IsQuotedText q s items t → length t < length s
quoted_shorter q items s t is =
    let m : Marker = record { index = 0; line = 0; col = 0 } in
    let o = quotes_on_line 0 q is.0 items t is.2 m in
    let l = passed_later m is.0 o.place t o.passed in
    let e = ap length is.1 in omega (arith, l.index, l.counted, e)

pub quoted_on_line : (k : ℕ) (q : Quote) (items : List Item) (s t : Cursor) (is : IsQuotedText q s.rest items t.rest)
    → IsPassed s.mark s.rest t.mark t.rest → t.mark.line ≤ s.mark.line → t.mark.line < top
    → HasIndentedLines k q is.0 items t.rest is.2
quoted_on_line k q items s t is passed le small =
    let o = quotes_on_line k q is.0 items t.rest is.2 (along s.mark 1) in
    let line : o.place.line ≡ t.mark.line = cc (one_place s.mark s.rest t.mark t.rest passed o.place (rw is.1
    (character s.mark (mark q) is.0 o.place t.rest (mark_no_break q) o.passed))) in
    o.lines (omega (arith, line, le)) (omega (arith, line, small))
