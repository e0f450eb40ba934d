-- Escapes of double quoted scalars, a step at a time.
use Rattle.saphyr_scalar.proofs.Common.{◌≡◌, ℕ, zero, suc, ◌+◌, ◌-◌, ◌*◌, ◌^◌, ◌<◌, ◌≤◌, Bool, true, false, List, [], ◌∷◌, length, length-drop, drop, slice_index, Ok, refl, sym, ap, ◌∙◌, arith, subst, none-some, false≢true, nat_tests, Option, Some, None, unwrap_or, pow-le-pow_right, pow_more, backslash, is_hex, hex_value, is_z, Marker, Cursor, refuse_open, along, pass, by_test, shows_character}
use Rattle.saphyr_scalar.specs.Values.Escapes.{digit_count, is_scalar_value, short_escape}
use Rattle.saphyr_scalar.specs.declared.scalar.fault.FaultText.TheVariants as fault
use Rattle.saphyr_scalar.proofs.Moving.{along_none, along_more, drop_more}
use Rattle.saphyr_scalar.specs.Steps.Quoted.{mid_line, digits, hex_digit_count, character, escape_by_number, escape_of, escaped_character}
use Rattle.saphyr_scalar.proofs.EscapeEnds.{EscapeEnds, refused_ends, read, then_ends}

-- no digit is left
pub digits_none : (start : Marker) (n i v : ℕ) (s : Cursor) → n ≤ i → digits start (n - i) v s ≡ Ok (v, s)
unfolding digits
digits_none start n i v s le = let e : n - i ≡ zero = omega arith in rw e refl

-- a place that is no digit
pub digits_stop : (start : Marker) (n i v c : ℕ) (s : Cursor) → c ≡ slice_index s.rest 0
    → is_hex (slice_index s.rest 0) ≡ false → i < n
    → digits start (n - i) v s ≡ refuse_open (is_z c) fault.HexadecimalDigitExpected start
unfolding digits
digits_stop start n i v c s read h lt = let e : n - i ≡ suc (n - (i + 1)) = omega arith in
    rw (e, h) (λ j. refuse_open (is_z (sym read j)) fault.HexadecimalDigitExpected start)

-- a place that is a digit
pub digits_more : (start : Marker) (n i v : ℕ) (s : Cursor) → is_hex (slice_index s.rest 0) ≡ true → i < n
    → digits start (n - i) v s ≡ digits start (n - (i + 1)) (v * 16 + hex_value (slice_index s.rest 0)) (pass 1 s)
unfolding digits
digits_more start n i v s h lt = let e : n - i ≡ suc (n - (i + 1)) = omega arith in rw (e, h) refl

-- a digit that was read and taken off
pub digits_on : (start : Marker) (n i v c d : ℕ) (s t u : Cursor) → i < n → c ≡ slice_index s.rest 0 → is_hex c ≡ true
    → d ≡ hex_value c → t ≡ s → u ≡ pass 1 t → digits start (n - (i + 1)) (v * 16 + d) u ≡ digits start (n - i) v s
digits_on start n i v c d s t u lt read hex value same on = grind (arith, slice_index, digits_more)

-- The same where the place is told alone: i digits were taken off, and m is the place before them.

pub digits_begin : (start : Marker) (n : ℕ) (s : Cursor) → s.blank_so_far ≡ false
    → digits start (n - 0) 0 (mid_line (along s.mark 0) s.rest) ≡ digits start n 0 s
digits_begin start n s line = grind arith

pub digit_passed : (m : Marker) (i : ℕ) (xs ys : List ℕ) → ys ≡ drop 1 xs
    → mid_line (along m (i + 1)) ys ≡ pass 1 (mid_line (along m i) xs)
digit_passed m i xs ys taken = rw (taken, ← along_more m i 1 (i + 1) refl) refl

pub digit_counted : (i total : ℕ) (xs ys : List ℕ) → 0 < length xs → ys ≡ drop 1 xs → i + length xs ≤ total
    → (i + 1) + length ys ≤ total
digit_counted i total xs ys some taken counted = rw (taken, length-drop) (omega (arith, some, counted))

pub digits_done : (start m t : Marker) (n i v : ℕ) (xs : List ℕ) (b : Bool) → i ≡ n → t ≡ along m n → b ≡ false
    → digits start (n - i) v (mid_line (along m i) xs) ≡ Ok (v, record { rest = xs; mark = t; blank_so_far = b })
digits_done start m t n i v xs b all place line =
    rw (place, line, all) (digits_none start n n v (mid_line (along m n) xs) (omega arith))

-- one digit more
pub digits_below : (i v d : ℕ) → v < 16 ^ i → d < 16 → v * 16 + d < 16 ^ (i + 1)
digits_below i v d lt small = omega (arith, pow_more 16 i)

-- eight digits are a number of 32 bits
pub digits_fit : (i v d : ℕ) → v < 16 ^ i → d < 16 → i < 8 → v * 16 + d < 2 ^ 32
digits_fit i v d lt small few = grind (arith, pow-le-pow_right, digits_below)

pub shift_fits : (i v : ℕ) → v < 16 ^ i → i < 8 → v * 16 < 2 ^ 32
shift_fits i v lt few = let none : 0 < 16 = omega arith in omega (arith, digits_fit i v 0 lt none few)

pub below_eight : (i n : ℕ) → i < n → n ≤ 8 → i < 8
below_eight i n lt few = omega arith

-- a place that shows a digit is a character
pub digit_is_left : (c : ℕ) (s t : Cursor) → c ≡ slice_index s.rest 0 → t ≡ s → is_hex c ≡ true → 0 < length t.rest
digit_is_left c s t read same hex = subst (λ (x : Cursor). 0 < length x.rest) (sym same)
    (shows_character s.rest is_hex true (ap is_hex (sym read) ∙ hex) (λ e. false≢true e))

pub two_left : (xs : List ℕ) → (slice_index xs 0 ≡ 0 → ⊥) → (slice_index xs 1 ≡ 0 → ⊥) → 2 ≤ length xs
two_left [] a b = absurd (a refl)
two_left (x ∷ []) a b = absurd (b refl)
two_left (x ∷ y ∷ xs) a b = omega arith

no_nul_digits : (n : ℕ) → digit_count 0 ≡ Some n → ⊥
no_nul_digits n e = absurd (cc)

-- an escape of digits has its letter
pub digits_left : (xs : List ℕ) (n : ℕ) → slice_index xs 0 ≡ backslash → digit_count (slice_index xs 1) ≡ Some n
    → 2 ≤ length xs
digits_left xs n slash e = two_left xs (λ z. absurd (omega arith)) (λ z. no_nul_digits n (rw z at e))

-- Where an escape ends.

digits_place : (start : Marker) (n v : ℕ) (m : Marker) (xs : List ℕ)
    → EscapeEnds m xs n (digits start n v (mid_line m xs))
unfolding digits
digits_place start zero v m xs = subst (λ x. EscapeEnds m xs 0 (Ok (v, mid_line x xs))) (along_none m) (read m xs 0 v)
digits_place start (suc n) v m xs = by_test (is_hex (slice_index xs 0)) _ _ (EscapeEnds m xs (suc n))
    (λ _ e is. digits_place start n _ (along m 1) (drop 1 xs) e is
    ∙ ap (λ x. mid_line x (drop n (drop 1 xs))) (along_more m 1 n (suc n) (omega arith))
    ∙ ap (mid_line (along m (suc n))) (drop_more n 1 (suc n) xs (omega arith))) (λ _. refused_ends m xs (suc n) _)

character_place : (start : Marker) (m : Marker) (xs : List ℕ) (n v : ℕ)
    → EscapeEnds m xs n (character start v (mid_line (along m n) (drop n xs)))
unfolding character
character_place start m xs n v = by_test (is_scalar_value v) _ _ (EscapeEnds m xs n) (λ _. read m xs n v)
    (λ _. refused_ends m xs n _)

numbered_place : (start m : Marker) (xs : List ℕ) (o : Option ℕ)
    → EscapeEnds m xs (2 + unwrap_or o 0) (escape_by_number start o (mid_line m xs))
unfolding escape_by_number
numbered_place start m xs None = refused_ends m xs (2 + 0) _
numbered_place start m xs (Some n) =
    then_ends m xs (2 + n) (digits start n 0 (mid_line (along m 2) (drop 2 xs))) _ (λ x is.
    let place : x.1 ≡ mid_line (along m (2 + n)) (drop (2 + n) xs) = digits_place start n 0 (along m 2) (drop 2 xs) x is
    ∙ ap (λ y. mid_line y (drop n (drop 2 xs))) (along_more m 2 n (2 + n) refl)
    ∙ ap (mid_line (along m (2 + n))) (drop_more n 2 (2 + n) xs refl) in
    subst (λ y. EscapeEnds m xs (2 + n) (character start x.0 y)) (sym place) (character_place start m xs (2 + n) x.0))

no_x : (v : ℕ) → short_escape 120 ≡ Some v → ⊥
unfolding short_escape
no_x v e = none-some v e

no_u : (v : ℕ) → short_escape 117 ≡ Some v → ⊥
unfolding short_escape
no_u v e = none-some v e

no_U : (v : ℕ) → short_escape 85 ≡ Some v → ⊥
unfolding short_escape
no_U v e = none-some v e

-- an escape of one letter has no digits
pub simple_no_digits : (c v : ℕ) → short_escape c ≡ Some v → None ≡ digit_count c
simple_no_digits c v h = grind (arith, nat_tests, no_x, no_u, no_U)

of_place : (start m : Marker) (xs : List ℕ) (letter : ℕ) (o : Option ℕ) → short_escape letter ≡ o
    → EscapeEnds m xs (2 + hex_digit_count letter) (escape_of start o letter (mid_line m xs))
unfolding escape_of
of_place start m xs letter (Some c) h = rw (← simple_no_digits letter c h) (read m xs 2 c)
of_place start m xs letter None h = numbered_place start m xs (digit_count letter)

pub escape_place : (start m : Marker) (xs : List ℕ)
    → EscapeEnds m xs (2 + hex_digit_count (slice_index xs 1)) (escaped_character start (mid_line m xs))
unfolding escaped_character
escape_place start m xs = of_place start m xs (slice_index xs 1) (short_escape (slice_index xs 1)) refl
