-- The bytes of a character's UTF-8, as they are escaped and as they are read.
use Rattle.saphyr_scalar.proofs.Common.{◌≡◌, ℕ, suc, ◌+◌, ◌-◌, ◌*◌, ◌/◌, ◌%◌, ◌<◌, ◌≤◌, true, List, [], ◌∷◌, length, refl, arith, nat_lt, encode_utf8, nat_tests, by_test, lt-ltb, le-ltb, le-leb}
use Rattle.std.proofs.Math.Utf8.{encode}
use Rattle.saphyr_scalar.specs.Values.Escapes.{IsScalarValue, is_scalar_value}
use Rattle.saphyr_scalar.specs.Steps.Tag.{utf8_width, leading_bits, is_trailing, is_encoded}

abbrev pub AreTrailing : List ℕ → Type 0
AreTrailing [] = Unit {0}
AreTrailing (b ∷ bs) = (is_trailing b ≡ true) × AreTrailing bs

-- what trailing bytes say, after those that say v
abbrev pub joined_bytes : ℕ → List ℕ → ℕ
joined_bytes v [] = v
joined_bytes v (b ∷ bs) = joined_bytes (v * 64 + (b - 0x80)) bs

-- a character's UTF-8, as it is read
pub record Bytes (c : ℕ) : Type 0 where
  pub first : ℕ
  pub others : List ℕ
  pub is : encode_utf8 c ≡ first ∷ others
  pub width : utf8_width first ≡ suc (length others)
  pub trailing : AreTrailing others
  pub says : joined_bytes (leading_bits first) others ≡ c
  pub shortest : is_encoded (suc (length others)) c ≡ true

trailing_true : (n : ℕ) → is_trailing (128 + n % 64) ≡ true
trailing_true n = rw (le-leb 128 (128 + n % 64) (omega arith), lt-ltb (128 + n % 64) 192 (omega arith)) refl

width_one : (b : ℕ) → b < 0x80 → utf8_width b ≡ 1
unfolding utf8_width
width_one b h = rw (lt-ltb b 0x80 h) refl

width_two : (b : ℕ) → 0xC0 ≤ b → b < 0xE0 → utf8_width b ≡ 2
unfolding utf8_width
width_two b h k = rw (le-ltb b 0x80 (omega arith), le-ltb b 0xC0 h, lt-ltb b 0xE0 k) refl

width_three : (b : ℕ) → 0xE0 ≤ b → b < 0xF0 → utf8_width b ≡ 3
unfolding utf8_width
width_three b h k = rw (le-ltb b 0x80 (omega arith), le-ltb b 0xC0 (omega arith), le-ltb b 0xE0 h, lt-ltb b 0xF0 k) refl

width_four : (b : ℕ) → 0xF0 ≤ b → b < 0xF8 → utf8_width b ≡ 4
unfolding utf8_width
width_four b h k = grind arith

pub bits_one : (b : ℕ) → b < 0x80 → leading_bits b ≡ b
unfolding leading_bits
bits_one b h = rw (lt-ltb b 0xC0 (omega arith)) refl

pub bits_two : (b : ℕ) → 0xC0 ≤ b → b < 0xE0 → leading_bits b ≡ b - 0xC0
unfolding leading_bits
bits_two b h k = rw (le-ltb b 0xC0 h, lt-ltb b 0xE0 k) refl

pub bits_three : (b : ℕ) → 0xE0 ≤ b → b < 0xF0 → leading_bits b ≡ b - 0xE0
unfolding leading_bits
bits_three b h k = rw (le-ltb b 0xC0 (omega arith), le-ltb b 0xE0 h, lt-ltb b 0xF0 k) refl

pub bits_four : (b : ℕ) → 0xF0 ≤ b → leading_bits b ≡ b - 0xF0
unfolding leading_bits
bits_four b h = rw (le-ltb b 0xC0 (omega arith), le-ltb b 0xE0 (omega arith), le-ltb b 0xF0 h) refl

one_byte : (c : ℕ) → c < 0x80 → Bytes c
unfolding encode
one_byte c lt =
    let s : is_scalar_value c ≡ true = grind (arith, nat_tests) in
    record {
      first = c;
      others = [];
      is = rw (lt-ltb c 0x80 lt) refl;
      width = width_one c lt;
      trailing = tt;
      says = bits_one c lt;
      shortest = rw (s, lt-ltb c 0x80 lt) refl;
    }

two_bytes : (c : ℕ) → 0x80 ≤ c → c < 0x800 → Bytes c
unfolding encode
two_bytes c h lt =
    let s : is_scalar_value c ≡ true = grind (arith, nat_tests) in
    let b = 192 + c / 64 in
    let low : 0xC0 ≤ b = omega arith in
    let high : b < 0xE0 = omega arith in
    record {
      first = b;
      others = (128 + c % 64) ∷ [];
      is = rw (le-ltb c 0x80 h, lt-ltb c 0x800 lt) refl;
      width = width_two b low high;
      trailing = (trailing_true c, tt);
      says = rw (bits_two b low high) (omega arith);
      shortest = rw (s, le-ltb c 0x80 h, lt-ltb c 0x800 lt) refl;
    }

three_bytes : (c : ℕ) → 0x800 ≤ c → c < 0x1_0000 → is_scalar_value c ≡ true → Bytes c
unfolding encode
three_bytes c h lt s =
    let b = 224 + c / 4096 in
    let low : 0xE0 ≤ b = omega arith in
    let high : b < 0xF0 = omega arith in
    record {
      first = b;
      others = (128 + c / 64 % 64) ∷ (128 + c % 64) ∷ [];
      is = rw (le-ltb c 0x80 (omega arith), le-ltb c 0x800 h, lt-ltb c 0x1_0000 lt) refl;
      width = width_three b low high;
      trailing = (trailing_true (c / 64), (trailing_true c, tt));
      says = rw (bits_three b low high) (omega arith);
      shortest = rw (s, le-ltb c 0x80 (omega arith), le-ltb c 0x800 h, lt-ltb c 0x1_0000 lt) refl;
    }

four_bytes : (c : ℕ) → 0x1_0000 ≤ c → c < 0x11_0000 → is_scalar_value c ≡ true → Bytes c
unfolding encode
four_bytes c h lt s =
    let b = 240 + c / 262144 in
    let low : 0xF0 ≤ b = omega arith in
    record {
      first = b;
      others = (128 + c / 4096 % 64) ∷ (128 + c / 64 % 64) ∷ (128 + c % 64) ∷ [];
      is = rw (le-ltb c 0x80 (omega arith), le-ltb c 0x800 (omega arith), le-ltb c 0x1_0000 h) refl;
      width = width_four b low (omega arith);
      trailing = (trailing_true (c / 4096), (trailing_true (c / 64), (trailing_true c, tt)));
      says = rw (bits_four b low) (omega arith);
      shortest = rw (s, le-ltb c 0x80 (omega arith), le-ltb c 0x800 (omega arith), le-ltb c 0x1_0000 h) refl;
    }

from_two : (c : ℕ) → 0x80 ≤ c → IsScalarValue c → Bytes c
from_two c h scalar = grind (arith, two_bytes, nat_tests, three_bytes, four_bytes)

pub bytes_of : (c : ℕ) → IsScalarValue c → Bytes c
bytes_of c scalar =
    by_test {A = Unit {0}} (nat_lt c 0x80) tt tt (λ _. Bytes c) (λ e. one_byte c (grind (arith, nat_tests)))
    (λ e. from_two c (grind (arith, nat_tests)) scalar)
