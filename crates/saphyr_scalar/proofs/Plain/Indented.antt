-- The later lines of a plain scalar that is read are indented.
use Rattle.saphyr_scalar.proofs.Common.{◌≡◌, ◌≢◌, ℕ, ◌+◌, ◌-◌, ◌≤◌, Bool, true, false, List, [], ◌∷◌, ◌++◌, slice_index, Result, Ok, refl, sym, ap, ◌∙◌, arith, IsTrue, append_assoc, ◌||◌, ◌&&◌, ◌==◌, not, nat_le, nat_lt, if◌then◌else◌, false≢true, eqb-true, le-leb, or_left, or_parts, is_blank, is_break, is_z, tab, line_feed, is_blank_or_break, number_sign, Marker, Refusal, Cursor, along, next_line, pass_break, by_test, either, and_true_left, blank_cases}
use Rattle.saphyr_scalar.specs.Spelling.LaterLines.{indentation, behind_indentation, is_blank_line, is_plain_line, AreLaterLines}
use Rattle.saphyr_scalar.specs.Steps.Plain.{is_in_word, next_word_starts, PlainGap, content_behind_tab, reached_gap, line_front, ends_line, lines}
use Rattle.saphyr_scalar.proofs.Quoted.Inside.{break_cases}
use Rattle.saphyr_scalar.proofs.Quoted.Gaps.{by_break_len}
use Rattle.saphyr_scalar.proofs.PassedBreaks.{behind_one}
use Rattle.saphyr_scalar.proofs.Plain.Gaps.{may_stand_same}
use Rattle.saphyr_scalar.proofs.Plain.Pieces.{not_in_word}
use Rattle.saphyr_scalar.proofs.Plain.Spelled.{goes_begins}
use Rattle.saphyr_scalar.proofs.Plain.Runs.{IsNonSpace, AreNonSpace}

-- Later lines of two pieces, and of a word.

pub later_append : (P : List ℕ → Type 0) (v w behind : List ℕ) → AreLaterLines P v (w ++ behind)
    → AreLaterLines P w behind → AreLaterLines P (v ++ w) behind
later_append P [] w behind h k = k
later_append P (c ∷ v) w behind h k = grind (arith, append_assoc, later_append P v w behind h.1 k)

no_line_end : (c : ℕ) (cs : List ℕ) → is_break c ≡ false → IsTrue (ends_line c cs) → ⊥
no_line_end c cs h e = false≢true (sym (ap (λ b. b && not ((c == 13) && (slice_index cs 0 == 10))) h) ∙ e)

pub later_unbroken : (P : List ℕ → Type 0) (c : ℕ) (cs behind : List ℕ) → is_break c ≡ false
    → AreLaterLines P cs behind → AreLaterLines P (c ∷ cs) behind
later_unbroken P c cs behind unbroken h = (λ e. absurd (no_line_end c (cs ++ behind) unbroken e), h)

pub later_non_space : (P : List ℕ → Type 0) (w behind : List ℕ) → AreNonSpace w → AreLaterLines P w behind
later_non_space P [] behind h = tt
later_non_space P (c ∷ w) behind h =
    later_unbroken P c w behind (or_parts (is_blank c) (is_break c) h.0).1 (later_non_space P w behind h.1)

pub later_weaken : (P Q : List ℕ → Type 0) → ((line : List ℕ) → P line → Q line) → (v behind : List ℕ)
    → AreLaterLines P v behind → AreLaterLines Q v behind
later_weaken P Q f [] behind h = tt
later_weaken P Q f (c ∷ v) behind h = (λ e. f (v ++ behind) (h.0 e), later_weaken P Q f v behind h.1)

-- Where another word begins after a gap.
pub record GoesOn (f : Bool) (i : ℕ) (s : Cursor) : Type 0 where
  pub word : is_in_word f s.rest ≡ true
  pub comment : slice_index s.rest 0 ≢ number_sign
  pub right : f ≡ false → s.blank_so_far ≡ true → i ≤ s.mark.col

-- what is asked of a line before it
abbrev pub IsLine : ℕ → Cursor → List ℕ → Type 0
IsLine i s line = (f : Bool) → GoesOn f i s → IsTrue (is_plain_line f i line)

-- from inside a line's blanks on: n spaces more are asked for
abbrev IsOn : Bool → ℕ → List ℕ → Type 0
IsOn f n xs = (nat_le n (indentation xs) || is_blank_line xs || (f && not (behind_indentation xs == tab))) ≡ true

-- where a tab is in the indentation only blanks follow
abbrev IsOnLine : Bool → Bool → ℕ → List ℕ → Type 0
IsOnLine f true n xs = is_blank_line xs ≡ true
IsOnLine f false n xs = IsOn f n xs

enough : (f : Bool) (n : ℕ) (xs : List ℕ) → n ≤ indentation xs → IsOn f n xs
enough f n xs h = or_left (nat_le n (indentation xs) || is_blank_line xs) (f && not (behind_indentation xs == 9))
    (or_left (nat_le n (indentation xs)) (is_blank_line xs) (le-leb n (indentation xs) h))

blank : (f t : Bool) (n : ℕ) (xs : List ℕ) → is_blank_line xs ≡ true → IsOnLine f t n xs
blank f t n xs h = grind arith

space_on_line : (f t : Bool) (n k : ℕ) (xs : List ℕ) → n ≤ k + 1 → IsOnLine f t k xs → IsOnLine f t n (32 ∷ xs)
space_on_line f t n k xs le h = grind arith

break_on_line : (f t : Bool) (n c : ℕ) (cs : List ℕ) → is_break c ≡ true → IsOnLine f t n (c ∷ cs)
break_on_line f t n c cs h = blank f t n (c ∷ cs) (or_left (is_break c) (is_blank c && is_blank_line cs) h)

word_no_nul : (f : Bool) (xs : List ℕ) → is_in_word f xs ≡ true → is_z (slice_index xs 0) ≡ false
unfolding is_in_word
word_no_nul f xs h = grind arith

-- where the line's content begins
non_space_on : (n c : ℕ) (cs : List ℕ) → IsNonSpace c → IsOn true n (c ∷ cs)
non_space_on n c cs non_space = grind arith

reached_on : (f : Bool) (i : ℕ) (a : Marker) (t : Bool) (feeds : List ℕ) (m : Marker) (c : ℕ) (cs : List ℕ)
    (g : PlainGap)
    → IsNonSpace c → reached_gap a t feeds (line_front m (c ∷ cs)) ≡ Ok g → GoesOn f i (line_front m (c ∷ cs))
    → IsOnLine f t (i - m.col) (c ∷ cs)
unfolding content_behind_tab
reached_on f i a u0 feeds m c cs g non_space e on =
    grind (arith, either, eqb-true, word_no_nul, non_space_on, enough)

same_front : (f : Bool) (i : ℕ) (a : Marker) (t : Bool) (feeds : List ℕ) (m : Marker) (xs : List ℕ) (g : PlainGap)
    → reached_gap a t feeds (line_front m xs) ≡ Ok g → GoesOn f i g.behind → GoesOn f i (line_front m xs)
same_front f i a t feeds m xs g e on = rw (may_stand_same a t feeds (line_front m xs) g e) at on

-- one blank or break of the lines
white_on_line : (f : Bool) (i : ℕ) (t : Bool) (m : Marker) (c : ℕ) (cs : List ℕ) → is_blank_or_break c ≡ true
    → IsOnLine f (is_blank c && (t || ((c == tab) && nat_lt m.col i))) (i - (behind_one m c cs).col) cs
    → IsOnLine f t (i - m.col) (c ∷ cs)
white_on_line f i t m c cs white h = grind (arith, blank_cases, behind_one, space_on_line, break_on_line)

-- from any place in the blanks and breaks after a word's line on
pub lines_on_line : (f : Bool) (i : ℕ) (a : Marker) (t : Bool) (feeds : List ℕ) (m : Marker) (xs : List ℕ)
    (g : PlainGap)
    → lines i a t feeds m xs ≡ Ok g → GoesOn f i g.behind → IsOnLine f t (i - m.col) xs
unfolding lines
lines_on_line f i a t feeds m [] g = λ e on.
    let here = same_front f i a t feeds m [] g e on in absurd (false≢true (sym (not_in_word f) ∙ here.word))
lines_on_line f i a t feeds m (c ∷ cs) g = by_test (is_blank_or_break c) _ _
    (λ (r : Result PlainGap Refusal). r ≡ Ok g → GoesOn f i g.behind → IsOnLine f t (i - m.col) (c ∷ cs))
    (λ white e on. white_on_line f i t m c cs white
    (lines_on_line f i a (is_blank c && (t || ((c == tab) && nat_lt m.col i)))
    (if ends_line c cs then feeds ++ line_feed ∷ [] else feeds) (if ends_line c cs then next_line m 1 else along m 1) cs
    g e on)) (λ non_space e on. reached_on f i a t feeds m c cs g non_space e
    (same_front f i a t feeds m (c ∷ cs) g e on))

-- a line that begins in them
pub lines_is_line : (i : ℕ) (a : Marker) (feeds : List ℕ) (m : Marker) (xs : List ℕ) (g : PlainGap) → m.col ≡ 0
    → lines i a false feeds m xs ≡ Ok g → IsLine i g.behind xs
lines_is_line i a feeds m xs g start e f on =
    let none : i - m.col ≡ i = omega (arith, start) in
    rw none at (lines_on_line f i a false feeds m xs g e on)

pub break_to_start : (s : Cursor) → is_break (slice_index s.rest 0) ≡ true → (pass_break s).mark.col ≡ 0
break_to_start s breaks = rw (by_break_len s breaks) refl

-- and one that begins after a character of them
pub line_begins : (i : ℕ) (a : Marker) (t : Bool) (feeds : List ℕ) (m : Marker) (c : ℕ) (cs : List ℕ) (g : PlainGap)
    → IsTrue (ends_line c cs)
    → lines i a (is_blank c && (t || ((c == tab) && nat_lt m.col i))) feeds (behind_one m c cs) cs ≡ Ok g
    → IsLine i g.behind cs
line_begins i a t feeds m c cs g ends e = grind (arith, and_true_left, slice_index, break_cases, lines_is_line)

goes_right : (f : Bool) (i : ℕ) (s t : Cursor) → next_word_starts f i s ≡ Ok (true, t) → f ≡ false
    → s.blank_so_far ≡ true → i ≤ s.mark.col
unfolding next_word_starts
goes_right f i s t = grind arith

pub goes_on : (f : Bool) (i : ℕ) (s t : Cursor) → next_word_starts f i s ≡ Ok (true, t) → is_in_word f s.rest ≡ true
    → GoesOn f i s
goes_on f i s t e word = record { word = word; comment = (goes_begins f i s t e).comment; right = goes_right f i s t e }
