-- What is at the front of a text, told by its first bytes.
use Rattle.std.specs.Char.{len_utf8}
use Rattle.std.specs.Prelude.{◌≡◌, ℕ, ◌≤◌, Bool, true, false, ◌&&◌, ◌==◌, nat_lt, List, slice_index, encode_utf8, ◌⊎◌}
use Rattle.saphyr_input.specs.Classes.{is_blank, is_blank_or_breakz, space}
use Rattle.saphyr_input.specs.Places.{next_3_are}

-- an ASCII character of a class
abbrev pub ascii_in : (ℕ → Bool) → ℕ → Bool
ascii_in test b = nat_lt b 128 && test b

-- a class has ASCII characters alone
abbrev pub IsAsciiClass : (ℕ → Bool) → Type 0
IsAsciiClass test = (c : ℕ) → 128 ≤ c → test c ≡ false

-- the byte b stands for the character c: they are one, unless neither is ASCII
abbrev pub StandsFor : ℕ → ℕ → Type 0
StandsFor b c = (b ≡ c) ⊎ ((128 ≤ b) × (128 ≤ c))

-- three marks before a blank, a break, NUL or the end
abbrev pub is_marker : ℕ → List ℕ → Bool
is_marker mark xs = next_3_are xs mark mark mark && is_blank_or_breakz (slice_index xs 3)

-- spaces, and tabs where these are asked for
abbrev pub is_passed_blank : Bool → ℕ → Bool
is_passed_blank true c = is_blank c
is_passed_blank false c = c == space

-- the UTF-8 of the character c begins with the byte b
abbrev pub IsFirstByte : ℕ → ℕ → Type 0
IsFirstByte b c = slice_index (encode_utf8 c) 0 ≡ b

-- each character whose UTF-8 begins with the byte b, which is not ASCII, has n bytes and passes the test
pub record IsSized (test : ℕ → Bool) (b n : ℕ) : Type 0 where
  pub wide : 128 ≤ b
  pub long : (c : ℕ) → IsFirstByte b c → n ≡ len_utf8 c
  pub is : (c : ℕ) → IsFirstByte b c → test c ≡ true
