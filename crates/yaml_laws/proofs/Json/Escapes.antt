-- The escapes of JSON's strings are escapes of double quoted scalars.
use Rattle.yaml_laws.proofs.Common.{IsTrue, List, arith, refl, ℕ, ◌<◌, ◌≡◌, ◌≤◌, Some, nat_tests, IsHex, hex_value, is_hex, IsSurrogate, IsJsonEscape, IsCode}
use Rattle.saphyr_scalar.specs.Values.Escapes.{is_scalar_value, short_escape}
use Rattle.saphyr_scalar.specs.Spelling.OneLine as spelling

pub short_fits : (letter c : ℕ) → IsJsonEscape letter c → short_escape letter ≡ Some c
unfolding short_escape
short_fits letter c h = grind arith

hex_fits : (d : ℕ) → IsHex d → IsTrue (is_hex d)
hex_fits d h = grind (arith, nat_tests)

hex_small : (d : ℕ) → IsHex d → hex_value d ≤ 15
hex_small d h = grind (arith, nat_tests)

scalar_fits : (c : ℕ) → c < 0x1_0000 → ¬ (IsSurrogate c) → IsTrue (is_scalar_value c)
scalar_fits c h other = grind (arith, nat_tests)

-- four digits that stand for a character
pub code_fits : (c : ℕ) (code : List ℕ) → IsCode c code → ¬ (IsSurrogate c) → spelling.IsNumber 117 c code
code_fits c code (d3, d2, d1, d0, h3, h2, h1, h0, is, spelled) other =
    let small : c < 0x1_0000 = omega (arith, is, hex_small d3 h3, hex_small d2 h2, hex_small d1 h1, hex_small d0 h0) in
    rw spelled (record {
      count = refl;
      hex = (hex_fits d3 h3, (hex_fits d2 h2, (hex_fits d1 h1, (hex_fits d0 h0, tt))));
      value = (omega arith);
      scalar = scalar_fits c small other;
    })
