-- Words on characters that the grammars share.
use Rattle.std.specs.Prelude.{ℕ, ◌≤◌, List, [], ◌∷◌}
pub use Rattle.saphyr_scalar.specs.Values.Escapes.{IsScalarValue}

-- P holds of each character
abbrev pub AreAll : (ℕ → Type 0) → List ℕ → Type 0
AreAll P [] = Unit {0}
AreAll P (c ∷ others) = P c × AreAll P others

-- the codes that UTF-16 sets apart, which are no characters
abbrev pub IsSurrogate : ℕ → Type 0
IsSurrogate c = (0xD800 ≤ c) × (c ≤ 0xDFFF)
