-- Where a test for UTF-8 ends before it finds a fault, the bytes end inside a character.
use Rattle.std.proofs.Common.{◌≡◌, ◌∙◌, inl, inr, ⊎_elim, ◌<◌, ◌≤◌, ℕ, List, [], ◌∷◌, ◌++◌, length, take, drop, ap, arith, refl, subst, sym}
use Rattle.std.proofs.lemmas.Bool.{and_parts, cases_lt}
use Rattle.std.proofs.lemmas.Bool.Decides.{nat_tests}
use Rattle.std.proofs.lemmas.List.{drop_all, length-append, length-drop, take-append-drop, take-append-le, take_at}
use Rattle.std.proofs.lemmas.Str.{IsUtf8-encode, encode_ascii, len_utf8_bounds, length-encode}
use Rattle.std.specs.Prelude.{IsUtf8, None}
use Rattle.std.specs.Char.{IsScalar, encode_utf8}
use Rattle.std.specs.Str.{IsValidUpTo, encode_utf8_all}
use Rattle.std.specs.Str.Lossy.{second_byte_max, second_byte_min, utf8_error_len}
use Rattle.core.proofs.str.Laws.{Follows}
use Rattle.core.proofs.str.Valid.{of_four, of_three, of_two}
use Rattle.saphyr_parser_c.specs.Encoding.{IsCutCharacter, IsUtf8SoFar}
use Rattle.saphyr_parser_c.proofs.NeverUtf8.{HasNoFront, by_first_byte, no_front}

-- ## What is known of bytes that end inside a character

first_from : (x : ℕ) (t : List ℕ) → utf8_error_len (x ∷ t) ≡ None → (194 ≤ x) × (x ≤ 244)
unfolding utf8_error_len
first_from x t none = grind (arith, nat_tests)

second_from : (x y : ℕ) (t : List ℕ) → utf8_error_len (x ∷ y ∷ t) ≡ None
    → (second_byte_min x ≤ y) × (y ≤ second_byte_max x)
unfolding utf8_error_len
second_from x y t none = grind (arith, nat_tests)

third_from : (x y z : ℕ) (t : List ℕ) → utf8_error_len (x ∷ y ∷ z ∷ t) ≡ None → Follows z
unfolding utf8_error_len
third_from x y z t none = grind (arith, nat_tests)

no_fourth : (x y z w : ℕ) (t : List ℕ) → utf8_error_len (x ∷ y ∷ z ∷ w ∷ t) ≡ None → ⊥
unfolding utf8_error_len
no_fourth x y z w t none = grind (arith, nat_tests)

-- y may come after the first byte x
record MayFollow (x y : ℕ) : Type 0 where
  pub follows : Follows y
  pub three : x ≡ 224 → 160 ≤ y
  pub no_surrogate : x ≡ 237 → y < 160
  pub four : x ≡ 240 → 144 ≤ y
  pub last : x ≡ 244 → y < 144

may_follow : (x y : ℕ) → second_byte_min x ≤ y → y ≤ second_byte_max x → MayFollow x y
may_follow x y least most = record {
  follows = grind (arith, nat_tests);
  three = λ is. grind (arith, nat_tests);
  no_surrogate = λ is. grind (arith, nat_tests);
  four = λ is. grind (arith, nat_tests);
  last = λ is. grind (arith, nat_tests);
}

-- ## Bytes that complete a character

utf8_three : (x y z : ℕ) → 224 ≤ x → x < 240 → MayFollow x y → Follows z → IsUtf8 (x ∷ y ∷ z ∷ [])
utf8_three x y z wide small second third =
    let first = second.follows in
    of_three (x ∷ y ∷ z ∷ []) 0 (omega arith) (wide, small) first third
    (⊎_elim (λ (is : x < 225). omega (arith, second.three (omega arith), third.0))
    (λ (more : 225 ≤ x). omega (arith, first.0)) (cases_lt x 225))
    (⊎_elim (λ (low : x < 237). inl (omega (arith, first.1, third.1)))
    (λ (least : 237 ≤ x). ⊎_elim (λ (is : x < 238). inl (omega (arith, second.no_surrogate (omega arith), third.1)))
    (λ (high : 238 ≤ x). inr (omega arith)) (cases_lt x 238)) (cases_lt x 237))

utf8_four : (x y z w : ℕ) → 240 ≤ x → x ≤ 244 → MayFollow x y → Follows z → Follows w → IsUtf8 (x ∷ y ∷ z ∷ w ∷ [])
utf8_four x y z w wide small second third fourth =
    let first = second.follows in
    of_four (x ∷ y ∷ z ∷ w ∷ []) 0 (omega arith) wide first third fourth (
      ⊎_elim (λ (is : x < 241). omega (arith, second.four (omega arith)))
          (λ (more : 241 ≤ x). omega (arith, first.0)) (cases_lt x 241),
      ⊎_elim (λ (less : x < 244). omega (arith, first.1))
          (λ (is : 244 ≤ x). omega (arith, second.last (omega arith))) (cases_lt x 244),
    )

least_follows : Follows 128
least_follows = (omega arith, omega arith)

least_may_follow : (x : ℕ) → MayFollow x (second_byte_min x)
least_may_follow x = may_follow x (second_byte_min x) (omega arith) (grind (arith, nat_tests))

-- Bytes that begin no character, and have no error yet, can be completed. There are at most three (`no_fourth`). The
-- first byte tells how many bytes the character has, and those that are lacking may be the least that may follow. A
-- case where none is lacking can't be, since then they would begin a character.
completable : (rest : List ℕ) → HasNoFront rest → utf8_error_len rest ≡ None → IsUtf8SoFar rest
completable [] none is = ([], ([], (refl, refl)))
completable (x ∷ []) none is =
    let first = first_from x [] is in
    let least = least_may_follow x in
    by_first_byte _ x (λ a. absurd (omega (arith, first.0)))
    (λ a b. (128 ∷ [], of_two (x ∷ 128 ∷ []) 0 (omega arith) (first.0, b) least_follows))
    (λ a b. (second_byte_min x ∷ 128 ∷ [], utf8_three x _ 128 a b least least_follows))
    (λ a. (second_byte_min x ∷ 128 ∷ 128 ∷ [], utf8_four x _ 128 128 a first.1 least least_follows least_follows))
completable (x ∷ y ∷ []) none is =
    let first = first_from x _ is in
    let range = second_from x y _ is in
    let second = may_follow x y range.0 range.1 in
    by_first_byte _ x (λ a. absurd (omega (arith, first.0)))
    (λ a b. absurd (none 2 (omega arith) (of_two (x ∷ y ∷ []) 0 (omega arith) (first.0, b) second.follows)))
    (λ a b. (128 ∷ [], utf8_three x y 128 a b second least_follows))
    (λ a. (128 ∷ 128 ∷ [], utf8_four x y 128 128 a first.1 second least_follows least_follows))
completable (x ∷ y ∷ z ∷ []) none is =
    let first = first_from x _ is in
    let range = second_from x y _ is in
    let second = may_follow x y range.0 range.1 in
    let third = third_from x y z _ is in
    by_first_byte _ x (λ a. absurd (omega (arith, first.0)))
    (λ a b. absurd (none 2 (omega arith) (of_two (x ∷ y ∷ z ∷ []) 0 (omega arith) (first.0, b) second.follows)))
    (λ a b. absurd (none 3 (omega arith) (utf8_three x y z a b second third)))
    (λ a. (128 ∷ [], utf8_four x y z 128 a first.1 second third least_follows))
completable (x ∷ y ∷ z ∷ w ∷ t) none is = absurd (no_fourth x y z w t is)

-- ## The character that is completed

module _ (rest later cs : List ℕ) (c : ℕ) (scalar : IsScalar c)
    (is : encode_utf8 c ++ encode_utf8_all cs ≡ rest ++ later) where
  -- it is longer than these bytes
  is_longer : length rest < length (encode_utf8 c) → IsCutCharacter rest
  is_longer long =
      let n = length rest in
      let all = encode_utf8 c in
      let front : rest ≡ take n all =
      sym (take_at rest later n refl) ∙ ap (take n) (sym is)
      ∙ take-append-le n all (encode_utf8_all cs) (omega arith) in (
        c,
        drop n all,
        scalar,
        omega (arith, length-drop n all),
        ap (λ bs. bs ++ drop n all) front ∙ take-append-drop n all,
      )

  -- or all of it is among them
  is_front : length (encode_utf8 c) ≤ length rest → IsUtf8 (take (length (encode_utf8 c)) rest)
  is_front short =
      let all = encode_utf8 c in
      let n = length all in
      let same : take n rest ≡ all =
      sym (take-append-le n rest later short) ∙ ap (take n) (sym is) ∙ take_at all (encode_utf8_all cs) n refl in
      subst IsUtf8 (sym same) (IsUtf8-encode c scalar)

is_cut : (rest : List ℕ) → 0 < length rest → HasNoFront rest → IsUtf8SoFar rest → IsCutCharacter rest
is_cut rest some none (later, ([], (scalars, is))) = absurd (omega (arith, ap length is, length-append rest later))
is_cut rest some none (later, (c ∷ cs, (scalars, is))) =
    let scalar : IsScalar c = (and_parts _ _ scalars).0 in
    let size = length (encode_utf8 c) in
    let begins : 0 < size = omega (arith, length-encode c, (len_utf8_bounds c).0) in
    ⊎_elim (is_longer rest later cs c scalar is)
    (λ short. absurd (none size begins (is_front rest later cs c scalar is short))) (cases_lt (length rest) size)

-- the bytes behind the longest front in UTF-8 end inside a character
pub cut_character : (bytes : List ℕ) (n : ℕ) → IsValidUpTo bytes n → utf8_error_len (drop n bytes) ≡ None
    → IsCutCharacter (drop n bytes)
cut_character bytes n valid is =
    let none = no_front bytes n valid in
    is_cut (drop n bytes) (omega (arith, valid.short, length-drop n bytes)) none (completable (drop n bytes) none is)

-- behind all bytes none are left
pub none_left : (bytes : List ℕ) → IsCutCharacter (drop (length bytes) bytes)
none_left bytes =
    subst IsCutCharacter (sym (drop_all (length bytes) bytes (omega arith)))
    (0, 0 ∷ [], refl, omega arith, sym (encode_ascii 0 (omega arith)))
