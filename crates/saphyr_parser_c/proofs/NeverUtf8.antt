-- Where a test for UTF-8 finds a fault, no bytes behind these make them UTF-8.
use Rattle.std.proofs.Common.{◌≡◌, inl, inr, ⊎_elim, ◌<◌, ◌≤◌, ◌+◌, ◌-◌, ℕ, List, [], ◌∷◌, ◌++◌, length, take, drop, get_or, append-nil, arith, subst, sym}
use Rattle.std.proofs.lemmas.Bool.{cases_lt}
use Rattle.std.proofs.lemmas.Bool.Decides.{nat_tests}
use Rattle.std.proofs.lemmas.List.{drop-append-le, length-append, length-drop, take-append-le}
use Rattle.std.proofs.lemmas.Str.{IsCharBoundary-from_take, IsUtf8-drop}
use Rattle.std.specs.Prelude.{IsUtf8, None}
use Rattle.std.specs.Str.{IsValidUpTo, StartsWithNoChar}
use Rattle.std.specs.Str.Lossy.{second_byte_max, second_byte_min, utf8_error_len}
use Rattle.core.proofs.iter.FirstChar.{no_text}
use Rattle.core.proofs.str.Faults.{Ranged, no_char}
use Rattle.core.proofs.str.Laws.{Follows}
use Rattle.core.proofs.str.Valid.{longer, of_four, of_one, of_three, of_two}
use Rattle.saphyr_parser_c.specs.Encoding.{IsUtf8SoFar}

-- no bytes at the front are UTF-8
abbrev pub HasNoFront : List ℕ → Type 0
HasNoFront bytes = (m : ℕ) → 0 < m → IsUtf8 (take m bytes) → ⊥

pub no_front : (bytes : List ℕ) (n : ℕ) → IsValidUpTo bytes n → HasNoFront (drop n bytes)
no_front bytes n valid m some utf8 = valid.longest (n + m) (omega arith) (longer bytes n m valid.front utf8)

-- by how many bytes a character has that begins with x
pub by_first_byte : (P : Type 0) (x : ℕ) → (x < 128 → P) → (128 ≤ x → x < 224 → P) → (224 ≤ x → x < 240 → P)
    → (240 ≤ x → P) → P
by_first_byte P x one two three four =
    ⊎_elim one (λ wide. ⊎_elim (two wide) (λ wider. ⊎_elim (three wider) four (cases_lt x 240)) (cases_lt x 224))
    (cases_lt x 128)

-- ## Bytes in the ranges of a character, of which none is wrong

at_least : (x y : ℕ) → 128 ≤ y → (x ≡ 224 → 160 ≤ y) → (x ≡ 240 → 144 ≤ y) → second_byte_min x ≤ y
at_least x y follows three four = grind (arith, nat_tests)

at_most : (x y : ℕ) → y ≤ 191 → (x ≡ 237 → y ≤ 159) → (x ≡ 244 → y ≤ 143) → y ≤ second_byte_max x
at_most x y follows three four = grind (arith, nat_tests)

cut_behind_one : (x : ℕ) → 194 ≤ x → x ≤ 244 → utf8_error_len (x ∷ []) ≡ None
unfolding utf8_error_len
cut_behind_one x least most = grind (arith, nat_tests)

cut_behind_two : (x y : ℕ) → 194 ≤ x → x ≤ 244 → second_byte_min x ≤ y → y ≤ second_byte_max x
    → utf8_error_len (x ∷ y ∷ []) ≡ None
unfolding utf8_error_len
cut_behind_two x y least most above below = grind (arith, nat_tests)

cut_behind_three : (x y z : ℕ) → 194 ≤ x → x ≤ 244 → second_byte_min x ≤ y → y ≤ second_byte_max x → Follows z
    → utf8_error_len (x ∷ y ∷ z ∷ []) ≡ None
unfolding utf8_error_len
cut_behind_three x y z least most above below third = grind (arith, nat_tests, third.0, third.1)

-- ## What the ranges say

module _ (n x y z w : ℕ) (in_ranges : Ranged n x y z w) where
  most : 128 ≤ x → x ≤ 244
  most wide = ⊎_elim (λ (short : x < 240). omega arith) (λ (long : 240 ≤ x). omega (arith, (in_ranges.fourth long).2))
      (cases_lt x 240)

  above : 128 ≤ x → second_byte_min x ≤ y
  above wide = at_least x y (in_ranges.second wide).2.0
      (λ is. omega (arith, (in_ranges.in_three (omega arith) (omega arith)).0))
      (λ is. omega (arith, (in_ranges.fourth (omega arith)).2.0))

  below : 128 ≤ x → y ≤ second_byte_max x
  below wide =
      let last = (in_ranges.second wide).2.1 in
      at_most x y (omega (arith, last))
      (λ is. ⊎_elim (λ low. omega arith) (λ high. absurd (omega (arith, last)))
      (in_ranges.in_three (omega arith) (omega arith)).1)
      (λ is. omega (arith, (in_ranges.fourth (omega arith)).2.1))

  ends_behind_one : 128 ≤ x → utf8_error_len (x ∷ []) ≡ None
  ends_behind_one wide = cut_behind_one x (in_ranges.second wide).0 (most wide)

  ends_behind_two : 128 ≤ x → utf8_error_len (x ∷ y ∷ []) ≡ None
  ends_behind_two wide = cut_behind_two x y (in_ranges.second wide).0 (most wide) (above wide) (below wide)

  ends_behind_three : 224 ≤ x → utf8_error_len (x ∷ y ∷ z ∷ []) ≡ None
  ends_behind_three wider =
      let wide : 128 ≤ x = omega arith in
      cut_behind_three x y z (in_ranges.second wide).0 (most wide) (above wide) (below wide) (in_ranges.third wider).1

  -- and of the bytes t behind a character
  module _ (t : List ℕ) where
    one : x < 128 → IsUtf8 (x ∷ [])
    one small = of_one (x ∷ t) 0 (omega arith) small

    two : 128 ≤ x → x < 224 → IsUtf8 (x ∷ y ∷ [])
    two wide small = of_two (x ∷ y ∷ t) 0 (omega arith) ((in_ranges.second wide).0, small) (in_ranges.second wide).2

    three : 224 ≤ x → x < 240 → IsUtf8 (x ∷ y ∷ z ∷ [])
    three wide small =
        let second = (in_ranges.second (omega arith)).2 in
        let third = (in_ranges.third wide).1 in
        let high = in_ranges.in_three wide small in
        of_three (x ∷ y ∷ z ∷ t) 0 (omega arith) (wide, small) second third (omega (arith, high.0, second.0, third.0))
        (⊎_elim (λ low. inl (omega (arith, third.1, second.0))) (λ up. inr (omega (arith, third.0, second.0))) high.1)

    four : 240 ≤ x → IsUtf8 (x ∷ y ∷ z ∷ w ∷ [])
    four wide =
        let last = in_ranges.fourth wide in
        of_four (x ∷ y ∷ z ∷ w ∷ t) 0 (omega arith) wide (in_ranges.second (omega arith)).2
        (in_ranges.third (omega arith)).1 last.1 last.2

-- ## Bytes that end inside a character

abbrev AreInRanges : List ℕ → Type 0
AreInRanges bs =
    Ranged (length bs - 0) (get_or bs 0 0) (get_or bs (0 + 1) 0) (get_or bs (0 + 2) 0) (get_or bs (0 + 3) 0)

-- with others behind them they are in the ranges of a character, and no character is whole: so they end inside one
ends_inside : (rest later : List ℕ) → 0 < length rest → HasNoFront rest → AreInRanges (rest ++ later)
    → utf8_error_len rest ≡ None
ends_inside [] later some none r = absurd (omega arith)
ends_inside (x ∷ []) later some none r =
    by_first_byte _ x (λ a. absurd (none 1 (omega arith) (one _ _ _ _ _ r [] a)))
    (λ a b. ends_behind_one _ _ _ _ _ r a) (λ a b. ends_behind_one _ _ _ _ _ r (omega arith))
    (λ a. ends_behind_one _ _ _ _ _ r (omega arith))
ends_inside (x ∷ y ∷ []) later some none r =
    by_first_byte _ x (λ a. absurd (none 1 (omega arith) (one _ _ _ _ _ r (y ∷ []) a)))
    (λ a b. absurd (none 2 (omega arith) (two _ _ _ _ _ r [] a b)))
    (λ a b. ends_behind_two _ _ _ _ _ r (omega arith)) (λ a. ends_behind_two _ _ _ _ _ r (omega arith))
ends_inside (x ∷ y ∷ z ∷ []) later some none r =
    by_first_byte _ x (λ a. absurd (none 1 (omega arith) (one _ _ _ _ _ r (y ∷ z ∷ []) a)))
    (λ a b. absurd (none 2 (omega arith) (two _ _ _ _ _ r (z ∷ []) a b)))
    (λ a b. absurd (none 3 (omega arith) (three _ _ _ _ _ r [] a b)))
    (λ a. ends_behind_three _ _ _ _ _ r (omega arith))
ends_inside (x ∷ y ∷ z ∷ w ∷ t) later some none r =
    by_first_byte _ x (λ a. absurd (none 1 (omega arith) (one _ _ _ _ _ r (y ∷ z ∷ w ∷ t) a)))
    (λ a b. absurd (none 2 (omega arith) (two _ _ _ _ _ r (z ∷ w ∷ t) a b)))
    (λ a b. absurd (none 3 (omega arith) (three _ _ _ _ _ r (w ∷ t) a b)))
    (λ a. absurd (none 4 (omega arith) (four _ _ _ _ _ r t a)))

no_others : (rest later : List ℕ) → 0 < length rest → HasNoFront rest → (utf8_error_len rest ≡ None → ⊥)
    → IsUtf8 (rest ++ later) → ⊥
no_others rest later some none fault utf8 =
    let all = rest ++ later in
    no_text all []
    (subst StartsWithNoChar (sym (append-nil all)) (no_char all 0 (λ r. fault (ends_inside rest later some none r))))
    utf8 (omega (arith, length-append rest later))

-- the bytes behind the longest front in UTF-8 don't end inside a character
pub never_utf8 : (bytes : List ℕ) (n : ℕ) → IsValidUpTo bytes n → (utf8_error_len (drop n bytes) ≡ None → ⊥)
    → IsUtf8SoFar bytes → ⊥
never_utf8 bytes n valid fault (later, utf8) =
    let all = bytes ++ later in
    let within : n ≤ length bytes = omega (arith, valid.short) in
    let front : IsUtf8 (take n all) = subst IsUtf8 (sym (take-append-le n bytes later within)) valid.front in
    let cut = IsCharBoundary-from_take all n utf8 (omega (arith, length-append bytes later)) front in
    no_others (drop n bytes) later (omega (arith, valid.short, length-drop n bytes)) (no_front bytes n valid) fault
    (subst IsUtf8 (drop-append-le n bytes later within) (IsUtf8-drop all n utf8 cut))
