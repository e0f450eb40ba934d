-- What is taken off a text is no longer than the text.
use Rattle.saphyr_scalar.proofs.Common.{◌≡◌, ℕ, zero, suc, ◌+◌, ◌^◌, ◌<◌, ◌≤◌, Bool, true, false, List, [], ◌∷◌, length, drop, slice_index, ap, sym, ◌∙◌, arith, ◌&&◌, ◌==◌, prefix_len, prefix_len-le-length, false≢true, nat_tests, is_yaml_non_break, next_2_are, separation_len, SkipTabs, Marker, Cursor, along, clash, and_false}
use Rattle.std.proofs.lemmas.List.{length-drop}

-- a run is no longer than the text
pub run_within : (p : ℕ → Bool) (xs : List ℕ) → prefix_len p xs ≤ length xs
run_within = prefix_len-le-length

-- CR and LF are two characters
pub two_shown : (xs : List ℕ) → next_2_are xs 13 10 ≡ true → 2 ≤ length xs
two_shown [] e = absurd (cc)
two_shown (c ∷ []) e = clash ((c == 13) && false) e (and_false (c == 13))
two_shown (c ∷ d ∷ cs) e = omega arith

-- white space with its comment is no longer than the text
pub separation_within : (tabs : SkipTabs) (xs : List ℕ) → separation_len tabs xs ≤ length xs
separation_within tabs xs =
    grind (arith, nat_tests, prefix_len-le-length, length-drop, prefix_len-le-length is_yaml_non_break xs)

-- The place after n characters of a text, and what is left of it. These are lemmas on their own since a tactic reads
-- little here, and much at a goal.

pub below_at_most : (a b c : ℕ) → a < b → b ≤ c → a < c
below_at_most a b c less most = omega arith

pub at_most_below : (a b c : ℕ) → a ≤ b → b < c → a < c
at_most_below a b c most less = omega arith

pub none_before : (n : ℕ) → 0 ≤ n
none_before n = omega arith

-- a place that shows a character other than NUL is one
pub seen_left : (s t : Cursor) (c d : ℕ) → c ≡ slice_index s.rest 0 → t ≡ s → (d == 0) ≡ false → c ≡ d
    → 0 < length t.rest
seen_left s t c d read same other is = rw same (some s.rest (sym read ∙ is))
  where
    some : (xs : List ℕ) → slice_index xs 0 ≡ d → 0 < length xs
    some [] e = absurd (false≢true (sym other ∙ ap (λ (x : ℕ). x == 0) (sym e)))
    some (x ∷ xs) e = omega arith

pub countable : (at : ℕ) (xs : List ℕ) → at + length xs < 2 ^ 64 → length xs < 2 ^ 64
countable at xs fits = omega arith

pub place_fits : (xs : List ℕ) (at n : ℕ) → at + length xs < 2 ^ 64 → n ≤ length xs → at + n < 2 ^ 64
place_fits xs at n fits within = omega arith

pub place_left : (xs now : List ℕ) (m t : Marker) (n : ℕ) → m.index + length xs < 2 ^ 64 → n ≤ length xs
    → now ≡ drop n xs → t ≡ along m n → t.index + length now < 2 ^ 64
place_left xs now m t n fits within left moved = rw (moved, left, length-drop) (omega arith)

pub column_left : (m t : Marker) (n : ℕ) → m.col ≤ m.index → t ≡ along m n → t.col ≤ t.index
column_left m t n column moved = rw moved (omega arith)

-- the same after a run

pub within_run : (p : ℕ → Bool) (xs : List ℕ) (n : ℕ) → n ≡ prefix_len p xs → n ≤ length xs
within_run p xs n is = rw is (run_within p xs)

pub within_separation : (tabs : SkipTabs) (xs : List ℕ) (n : ℕ) → n ≡ separation_len tabs xs → n ≤ length xs
within_separation tabs xs n is = rw is (separation_within tabs xs)

-- where a part of a text was taken off, and memory ran out
pub part_left : (xs now : List ℕ) (at n : ℕ) → at + length xs < 2 ^ 64 → now ≡ drop n xs → at + length now < 2 ^ 64
part_left xs now at n fits left = rw (left, length-drop) (omega arith)

-- ## What is read of a text is told by what is read of its ends

by_bound : (P : Cursor → Cursor → Type 0)
    → ((s t : Cursor) → ((x y : Cursor) → length x.rest < length s.rest → P x y) → P s t) → (n : ℕ) (s t : Cursor)
    → length s.rest ≤ n → P s t
by_bound P step zero s t h = step s t (λ x y less. absurd (omega arith))
by_bound P step (suc n) s t h = step s t (λ x y less. by_bound P step n x y (omega (arith, less, h)))

pub by_ends : (P : Cursor → Cursor → Type 0)
    → ((s t : Cursor) → ((x y : Cursor) → length x.rest < length s.rest → P x y) → P s t) → (s t : Cursor) → P s t
by_ends P step s t = by_bound P step (length s.rest) s t (omega arith)
