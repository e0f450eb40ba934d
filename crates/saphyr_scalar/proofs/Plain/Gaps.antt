-- What comes after a plain scalar's word, and how much of the text it takes.
use Rattle.saphyr_scalar.proofs.Common.{◌≡◌, ℕ, suc, ◌+◌, ◌≤◌, Bool, List, [], ◌∷◌, ◌++◌, length, drop, length-drop, slice_index, Result, Ok, Err, refl, arith, ◌||◌, ◌&&◌, ◌==◌, nat_lt, if◌then◌else◌, prefix_len, drop-drop, is_blank, is_break, tab, line_feed, is_blank_or_break, Marker, Refusal, Cursor, along, next_line, pass, pass_break, by_test, prefix_len-le-length}
use Rattle.saphyr_scalar.specs.Steps.Plain.{PlainGap, seen_gap, content_behind_tab, reached_gap, line_front, ends_line, lines, next_lines, gap_from, gap}

-- ys is the end of xs
pub record IsEnd (xs ys : List ℕ) : Type 0 where
  pub taken : ℕ
  pub is : ys ≡ drop taken xs
  pub count : taken + length ys ≡ length xs

end_at_start : (xs : List ℕ) → IsEnd xs xs
end_at_start xs = record { taken = 0; is = refl; count = omega arith }

end_behind_character : (c : ℕ) (xs ys : List ℕ) → IsEnd xs ys → IsEnd (c ∷ xs) ys
end_behind_character c xs ys e = record { taken = suc e.taken; is = e.is; count = omega (arith, e.count) }

end_of_end : (xs ys zs : List ℕ) → IsEnd xs ys → IsEnd ys zs → IsEnd xs zs
end_of_end xs ys zs e f = grind (arith, drop, drop-drop)

dropped : (n : ℕ) (xs : List ℕ) → n ≤ length xs → IsEnd xs (drop n xs)
dropped n xs h = record { taken = n; is = refl; count = rw length-drop (omega arith) }

-- what a call that gave something says
pub no_refusal : {X : Type 0} (r : Refusal) (x : X) → Err r ≡ Ok x → ⊥
no_refusal r x e = absurd (cc)

pub same_gap : (g h : PlainGap) → (let r : Result PlainGap Refusal = Ok g in r ≡ Ok h) → h ≡ g
same_gap g h e = cc

pub may_stand_same : (a : Marker) (t : Bool) (f : List ℕ) (s : Cursor) (g : PlainGap) → reached_gap a t f s ≡ Ok g
    → g ≡ seen_gap t f s
unfolding content_behind_tab
may_stand_same a t f s g = grind arith

reached_end : (a : Marker) (t : Bool) (f : List ℕ) (m : Marker) (xs : List ℕ) (g : PlainGap)
    → reached_gap a t f (line_front m xs) ≡ Ok g → IsEnd xs g.behind.rest
reached_end a t f m xs g e = let is = may_stand_same a t f (line_front m xs) g e in rw is (end_at_start xs)

lines_end : (i : ℕ) (a : Marker) (t : Bool) (f : List ℕ) (m : Marker) (xs : List ℕ) (g : PlainGap)
    → lines i a t f m xs ≡ Ok g → IsEnd xs g.behind.rest
unfolding lines
lines_end i a t f m [] g = reached_end a t f m [] g
lines_end i a t f m (c ∷ cs) g =
    by_test (is_blank_or_break c) _ _ (λ (r : Result PlainGap Refusal). r ≡ Ok g → IsEnd (c ∷ cs) g.behind.rest)
    (λ _ e. end_behind_character c cs _ (lines_end i a (is_blank c && (t || ((c == tab) && nat_lt m.col i)))
    (if ends_line c cs then f ++ line_feed ∷ [] else f) (if ends_line c cs then next_line m 1 else along m 1) cs g e))
    (λ _ e. reached_end a t f m (c ∷ cs) g e)

break_end : (s : Cursor) → IsEnd s.rest (pass_break s).rest
break_end s = grind (arith, end_at_start, by_test, end_behind_character)

next_lines_end : (i : ℕ) (a : Marker) (s : Cursor) (g : PlainGap) → next_lines i a s ≡ Ok g → IsEnd s.rest g.behind.rest
next_lines_end i a s g = grind (arith, lines_end)

pub gap_end : (i : ℕ) (a : Marker) (s : Cursor) (g : PlainGap) → gap i a s ≡ Ok g → IsEnd s.rest g.behind.rest
unfolding gap gap_from
gap_end i a s g =
    let n = prefix_len is_blank s.rest in
    let t = pass n s in
    let start = dropped n s.rest (prefix_len-le-length is_blank s.rest) in
    by_test (is_break (slice_index t.rest 0)) _ _
    (λ (r : Result PlainGap Refusal). r ≡ Ok g → IsEnd s.rest g.behind.rest)
    (λ _ e. end_of_end _ _ _ start (end_of_end _ _ _ (break_end t) (next_lines_end i a (pass_break t) g e)))
    (λ _ e. let is = same_gap _ g e in rw is start)
