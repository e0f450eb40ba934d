-- The escape of a byte that was taken off, where each place is told again.
use Rattle.saphyr_scalar.proofs.Common.{◌≡◌, ℕ, ◌+◌, ◌-◌, ◌*◌, ◌^◌, ◌<◌, ◌≤◌, true, List, [], ◌∷◌, length, slice_index, Ok, arith, false≢true, is_hex, hex_value, percent_sign, Marker, Cursor, pass}
use Rattle.saphyr_scalar.specs.Steps.Tag.{escaped_byte, trailing_byte}

-- the three characters that are shown: `%`, and two digits with their values
pub record ShowsByte (xs : List ℕ) (a b : ℕ) : Type 0 where
  pub first : slice_index xs 0 ≡ percent_sign
  pub high : is_hex (slice_index xs 1) ≡ true
  pub low : is_hex (slice_index xs 2) ≡ true
  pub high_is : a ≡ hex_value (slice_index xs 1)
  pub low_is : b ≡ hex_value (slice_index xs 2)

pub byte_on : (start : Marker) (s u t : Cursor) (a b : ℕ) → ShowsByte u.rest a b → u ≡ s → t ≡ pass 3 u
    → escaped_byte start s ≡ Ok (a * 16 + b, t)
unfolding escaped_byte
byte_on start s u t a b shows same on = grind arith

pub three_left : (xs : List ℕ) → is_hex (slice_index xs 2) ≡ true → 3 ≤ length xs
three_left [] h = absurd (false≢true h)
three_left (x ∷ []) h = absurd (false≢true h)
three_left (x ∷ y ∷ []) h = absurd (false≢true h)
three_left (x ∷ y ∷ z ∷ xs) h = omega arith

pub high_fits : (a : ℕ) → a < 16 → a * 16 < 2 ^ 32
high_fits a small = omega arith

pub byte_fits : (a b : ℕ) → a < 16 → b < 16 → a * 16 + b < 2 ^ 32
byte_fits a b high low = omega arith

pub byte_small : (a b : ℕ) → a < 16 → b < 16 → a * 16 + b < 256
byte_small a b high low = omega arith

-- a byte that is not the first of its character, and what is said with it

pub byte_grows : (start : Marker) (v b : ℕ) (s t : Cursor) → escaped_byte start s ≡ Ok (b, t) → 0x80 ≤ b → b < 0xC0
    → trailing_byte start v s ≡ Ok (v * 64 + (b - 0x80), t)
unfolding trailing_byte
byte_grows start v b s t read from to = grind arith

pub grown_small : (v b : ℕ) → b < 0xC0 → v * 64 + (b - 0x80) < 64 * v + 64
grown_small v b to = omega arith
