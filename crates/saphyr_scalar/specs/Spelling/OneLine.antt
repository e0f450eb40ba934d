-- Escapes of double quoted scalars by number (YAML 1.2.2, 5.7): their digits, and the character for which they stand.
use Rattle.std.specs.Prelude.{◌≡◌, ℕ, ◌+◌, ◌*◌, List, [], ◌∷◌, length, Some, IsTrue}
use Rattle.saphyr_input.specs.Classes.{is_hex, hex_value}
use Rattle.saphyr_scalar.specs.Spelling.Tag.{AreIn}
use Rattle.saphyr_scalar.specs.Values.Escapes.{digit_count, is_scalar_value}

-- what digits stand for, after those that stand for v
abbrev pub hexadecimal_from : ℕ → List ℕ → ℕ
hexadecimal_from v [] = v
hexadecimal_from v (d ∷ ds) = hexadecimal_from (v * 16 + hex_value d) ds

-- a character, by the digits after the letter e
pub record IsNumber (e c : ℕ) (ds : List ℕ) : Type 0 where
  pub count : digit_count e ≡ Some (length ds)
  pub hex : AreIn is_hex ds
  pub value : hexadecimal_from 0 ds ≡ c
  pub scalar : IsTrue (is_scalar_value c)
