-- The blanks and breaks after a plain scalar's word, read a piece at a time.
use Rattle.saphyr_scalar.proofs.Common.{◌≡◌, ℕ, ◌<◌, Bool, true, false, List, [], ◌∷◌, ◌++◌, length, drop, slice_index, Result, Ok, Err, refl, sym, ap, ◌∙◌, arith, ◌||◌, ◌&&◌, ◌==◌, nat_lt, nat_tests, is_blank, is_break, tab, carriage_return, line_feed, is_blank_or_break, Marker, Refusal, Cursor, ◌>>=◌, along, next_line, pass_break, by_test, blank_cases}
use Rattle.saphyr_scalar.specs.Steps.Plain.{lines, reached_gap, line_front, pass_white, content_behind_tab}
use Rattle.saphyr_scalar.proofs.Quoted.Inside.{break_cases}

-- whether a tab is in the indentation, once a character of the line more is read
abbrev pub tabbed_by : ℕ → Bool → Marker → ℕ → Bool
tabbed_by indent tabbed m c = tabbed || ((c == tab) && nat_lt m.col indent)

pub lines_blank : (i : ℕ) (a : Marker) (t : Bool) (f : List ℕ) (m : Marker) (c : ℕ) (cs : List ℕ) → is_blank c ≡ true
    → lines i a t f m (c ∷ cs) ≡ lines i a (tabbed_by i t m c) f (along m 1) cs
unfolding lines
lines_blank i a t f m c cs h =
    blank_cases c h (λ x. lines i a t f m (x ∷ cs) ≡ lines i a (tabbed_by i t m x) f (along m 1) cs) refl refl

lines_feed : (i : ℕ) (a : Marker) (t : Bool) (f : List ℕ) (m : Marker) (cs : List ℕ)
    → lines i a t f m (line_feed ∷ cs) ≡ lines i a false (f ++ line_feed ∷ []) (next_line m 1) cs
unfolding lines
lines_feed i a t f m cs = refl

lines_first_of_two : (i : ℕ) (a : Marker) (t : Bool) (f : List ℕ) (m : Marker) (cs : List ℕ)
    → lines i a t f m (carriage_return ∷ line_feed ∷ cs) ≡ lines i a false f (along m 1) (line_feed ∷ cs)
unfolding lines
lines_first_of_two i a t f m cs = refl

lines_two : (i : ℕ) (a : Marker) (t : Bool) (f : List ℕ) (m : Marker) (cs : List ℕ)
    → lines i a t f m (carriage_return ∷ line_feed ∷ cs) ≡ lines i a false (f ++ line_feed ∷ []) (next_line m 2) cs
lines_two i a t f m cs = lines_first_of_two i a t f m cs ∙ lines_feed i a false f (along m 1) cs
    ∙ ap (λ n. lines i a false (f ++ 10 ∷ []) (record (next_line m 2) { index = n }) cs) (omega arith)

-- after a break
abbrev Behind : ℕ → Marker → Bool → List ℕ → Cursor → Type 0
Behind i a t f s = lines i a t f s.mark s.rest ≡ lines i a false (f ++ 10 ∷ []) (pass_break s).mark (pass_break s).rest

return_on : (i : ℕ) (a : Marker) (t : Bool) (f : List ℕ) (m : Marker) (cs : List ℕ) (b : Bool)
    → Behind i a t f (record { rest = carriage_return ∷ cs; mark = m; blank_so_far = b })
unfolding lines
return_on i a t f m v5 b = grind (arith, nat_tests, lines_two)

pub lines_break : (i : ℕ) (a : Marker) (t : Bool) (f : List ℕ) (s : Cursor) → is_break (slice_index s.rest 0) ≡ true
    → Behind i a t f s
lines_break i a t f s h = grind (arith, slice_index, break_cases, lines_feed, return_on)

pub lines_over : (i : ℕ) (a : Marker) (t : Bool) (f : List ℕ) (m : Marker) (xs : List ℕ)
    → is_blank_or_break (slice_index xs 0) ≡ false → lines i a t f m xs ≡ reached_gap a t f (line_front m xs)
unfolding lines
lines_over i a t f m [] h = refl
lines_over i a t f m (c ∷ cs) h = rw h refl

blank_of : (a b : Bool) → (a || b) ≡ true → b ≡ false → a ≡ true
blank_of a b x y = grind arith

-- a blank or a break is passed
pub past_shorter : (i : ℕ) (t : Bool) (f : List ℕ) (s : Cursor) → is_blank_or_break (slice_index s.rest 0) ≡ true
    → length (pass_white i t f s).2.rest < length s.rest
unfolding pass_white
past_shorter i t f s h = grind arith

pub past_blank : (i : ℕ) (t : Bool) (f : List ℕ) (s : Cursor) → s.blank_so_far ≡ true
    → (pass_white i t f s).2.blank_so_far ≡ true
unfolding pass_white
past_blank i t f s h = grind arith

pub past_on : (i : ℕ) (a : Marker) (t : Bool) (f : List ℕ) (s : Cursor)
    → is_blank_or_break (slice_index s.rest 0) ≡ true
    → let p = pass_white i t f s in lines i a p.0 p.1 p.2.mark p.2.rest ≡ lines i a t f s.mark s.rest
unfolding pass_white
past_on i a t f s h = grind (arith, by_test, slice_index, lines_break, blank_of, drop, lines_blank)

-- what a call that passed one says

pub record PastWhite (i : ℕ) (t : Bool) (f : List ℕ) (s : Cursor) (t2 : Bool) (f2 : List ℕ) (s2 : Cursor) : Type 0 where
  pub is : pass_white i t f s ≡ (t2, f2, s2)

abbrev pub SameWhite : ℕ → Bool → List ℕ → Cursor → Bool → List ℕ → Cursor → Type 0
SameWhite i t f s t2 f2 s2 =
    let r : Result (Bool × List ℕ × Cursor) Refusal = Ok (pass_white i t f s) in r ≡ Ok (t2, f2, s2)

pub past_of : (i : ℕ) (t : Bool) (f : List ℕ) (s : Cursor) (t2 : Bool) (f2 : List ℕ) (s2 : Cursor)
    → SameWhite i t f s t2 f2 s2 → PastWhite i t f s t2 f2 s2
past_of i t f s t2 f2 s2 e = record { is = cc }

pub white_on : (i : ℕ) (a : Marker) (t : Bool) (f : List ℕ) (s : Cursor) (t2 : Bool) (f2 : List ℕ) (s2 : Cursor)
    → is_blank_or_break (slice_index s.rest 0) ≡ true → PastWhite i t f s t2 f2 s2
    → lines i a t2 f2 s2.mark s2.rest ≡ lines i a t f s.mark s.rest
white_on i a t f s t2 f2 s2 h p = rw p.is at (past_on i a t f s h)

pub white_blank : (i : ℕ) (t : Bool) (f : List ℕ) (s : Cursor) (t2 : Bool) (f2 : List ℕ) (s2 : Cursor)
    → s.blank_so_far ≡ true → PastWhite i t f s t2 f2 s2 → s2.blank_so_far ≡ true
white_blank i t f s t2 f2 s2 h p = rw p.is at (past_blank i t f s h)

pub white_shorter : (i : ℕ) (t : Bool) (f : List ℕ) (s : Cursor) (t2 : Bool) (f2 : List ℕ) (s2 : Cursor)
    → is_blank_or_break (slice_index s.rest 0) ≡ true → PastWhite i t f s t2 f2 s2 → length s2.rest < length s.rest
white_shorter i t f s t2 f2 s2 h p = rw p.is at (past_shorter i t f s h)

-- a line that is reached
pub line_over : (i : ℕ) (a : Marker) (t : Bool) (f : List ℕ) (s : Cursor)
    → is_blank_or_break (slice_index s.rest 0) ≡ false → s.blank_so_far ≡ true
    → lines i a t f s.mark s.rest ≡ reached_gap a t f s
line_over i a t f s h b = lines_over i a t f s.mark s.rest h
    ∙ ap (λ x. reached_gap a t f (record { rest = s.rest; mark = s.mark; blank_so_far = x })) (sym b)

pub refused_by : (a : Marker) (t : Bool) (f : List ℕ) (s : Cursor) (r : Refusal) → content_behind_tab a t s ≡ Err r
    → reached_gap a t f s ≡ Err r
refused_by a t f s r h = ap (λ x. x >>= λ u. Ok (record { text = f; tabbed = t; behind = u })) h

pub taken_by : (a : Marker) (t : Bool) (f : List ℕ) (s u : Cursor) → content_behind_tab a t s ≡ Ok u
    → reached_gap a t f s ≡ Ok (record { text = f; tabbed = t; behind = u })
taken_by a t f s u h = ap (λ x. x >>= λ u. Ok (record { text = f; tabbed = t; behind = u })) h
