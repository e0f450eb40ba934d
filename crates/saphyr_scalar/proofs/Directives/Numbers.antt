-- Version numbers, read a digit at a time, and where a prefix begins.
use Rattle.saphyr_scalar.proofs.Common.{◌≡◌, ℕ, suc, ◌+◌, ◌-◌, ◌*◌, ◌^◌, ◌<◌, ◌≤◌, true, false, List, Ok, [], ◌∷◌, length, drop, slice_index, refl, sym, ap, ◌∙◌, arith, ◌||◌, ◌==◌, pow-le-pow_right, pow_more, false≢true, nat_tests, exclamation_mark, is_digit, is_tag_char, drop_one_shorter, Marker, Cursor, along, pass, refuse}
use Rattle.saphyr_scalar.specs.Steps.Directive.{number_from, number_end}
use Rattle.saphyr_scalar.specs.declared.scalar.fault.FaultText.TheVariants as fault
use Rattle.saphyr_scalar.specs.Steps.Quoted.{mid_line}

-- a decimal digit stands for less than ten
pub digit_small : (c : ℕ) → is_digit c ≡ true → c - 48 < 10
digit_small c h = grind (arith, nat_tests)

-- one digit more
pub digits_below : (n v c : ℕ) → v < 10 ^ n → is_digit c ≡ true → v * 10 + (c - 48) < 10 ^ (n + 1)
digits_below n v c lt h = omega (arith, digit_small c h, pow_more 10 n)

-- nine digits are a number of 32 bits
pub digits_fit : (n v c : ℕ) → v < 10 ^ n → is_digit c ≡ true → n < 9 → v * 10 + (c - 48) < 2 ^ 32
digits_fit n v c lt h few = grind (arith, pow-le-pow_right, digits_below)

pub shifted_fits : (n v c : ℕ) → v < 10 ^ n → is_digit c ≡ true → n < 9 → v * 10 < 2 ^ 32
shifted_fits n v c lt h few = omega (arith, digits_fit n v c lt h few)

pub below_nine : (n : ℕ) → n ≤ 9 → (n ≡ 9 → ⊥) → n < 9
below_nine n few other = omega arith

pub nine_at_most : (n : ℕ) → n < 9 → n + 1 ≤ 9
nine_at_most n few = omega arith

pub counts_on : (n : ℕ) → n ≤ 9 → n + 1 < 2 ^ 64
counts_on n few = omega arith

digit_first : (start : Marker) (n v : ℕ) (m : Marker) (xs : List ℕ) → is_digit (slice_index xs 0) ≡ true → n < 9
    → number_from start n v m xs ≡ number_from start (suc n) (v * 10 + (slice_index xs 0 - 48)) (along m 1) (drop 1 xs)
unfolding number_from
digit_first start n v m xs h few = grind arith

-- a digit that was taken off
pub digit_on : (start : Marker) (n v c : ℕ) (s t u : Cursor) → c ≡ slice_index s.rest 0 → is_digit c ≡ true → n < 9
    → t ≡ pass 1 s → u ≡ t
    → number_from start (n + 1) (v * 10 + (c - 48)) u.mark u.rest ≡ number_from start n v s.mark s.rest
digit_on start n v c s t u read h few passed same = grind (arith, slice_index, digit_first)

-- where no digit comes next, the number ends
pub number_ends : (start : Marker) (n v c : ℕ) (s : Cursor) → c ≡ slice_index s.rest 0 → is_digit c ≡ false
    → number_from start n v s.mark s.rest ≡ number_end start n v (mid_line s.mark s.rest)
unfolding number_from
number_ends start n v c s read other = at_end s.rest (ap is_digit (sym read) ∙ other)
  where
    at_end : (xs : List ℕ) → is_digit (slice_index xs 0) ≡ false
        → number_from start n v s.mark xs ≡ number_end start n v (mid_line s.mark xs)
    at_end [] other = refl
    at_end (x ∷ xs) other = rw other refl

pub number_read : (start : Marker) (n v : ℕ) (s : Cursor) → (n ≡ 0 → ⊥) → number_end start n v s ≡ Ok (v, s)
unfolding number_end
number_read start n v s some = let none : (n == 0) ≡ false = grind (arith, nat_tests) in rw none refl

-- a tenth digit is refused
pub number_long : (start : Marker) (n v c : ℕ) (s : Cursor) → c ≡ slice_index s.rest 0 → is_digit c ≡ true → n ≡ 9
    → number_from start n v s.mark s.rest ≡ refuse fault.VersionNumberTooLong start
unfolding number_from
number_long start n v c s read digit nine = at_tenth s.rest (ap is_digit (sym read) ∙ digit)
  where
    at_tenth : (xs : List ℕ) → is_digit (slice_index xs 0) ≡ true
        → number_from start n v s.mark xs ≡ refuse fault.VersionNumberTooLong start
    at_tenth [] h = absurd (false≢true h)
    at_tenth (x ∷ xs) h = rw (h, nine) refl

-- a place that shows a digit is a character
pub digit_left : (c : ℕ) (xs : List ℕ) → c ≡ slice_index xs 0 → is_digit c ≡ true → 0 < length xs
digit_left c [] read h = absurd (let none : is_digit 0 ≡ true = ap is_digit (sym read) ∙ h in cc)
digit_left c (x ∷ xs) read h = omega arith

pub digit_shorter : (c : ℕ) (s t u : Cursor) → c ≡ slice_index s.rest 0 → is_digit c ≡ true → t ≡ pass 1 s → u ≡ t
    → length u.rest < length s.rest
digit_shorter c s t u read h passed same = rw (same, passed) (drop_one_shorter s.rest (digit_left c s.rest read h))

-- a place that shows a character that a prefix may begin with is a character
pub prefix_left : (xs : List ℕ) → ((slice_index xs 0 == exclamation_mark) || is_tag_char (slice_index xs 0)) ≡ true
    → 0 < length xs
prefix_left [] h = absurd (false≢true h)
prefix_left (c ∷ cs) h = omega arith
