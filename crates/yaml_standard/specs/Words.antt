-- How much of a word of a plain scalar is passed (YAML 1.2.2, 7.3.3).
use Rattle.std.specs.Prelude.{◌≡◌, ◌≢◌, ℕ, Bool, ◌==◌, List, [], ◌∷◌, ◌++◌, IsTrue}
use Rattle.saphyr_input.specs.Indicators.{colon}
use Rattle.saphyr_scalar.specs.Spelling.Tag.{AreIn}
use Rattle.scalar_laws.specs.Spelling.Plain.{is_plain_safe, ArePlainSafe}

-- colons, or none, and a character of words that is no colon
abbrev pub IsSafePart : Bool → List ℕ → Type 0
IsSafePart in_flow t =
    (colons : List ℕ) × (c : ℕ) × AreIn (λ x. x == colon) colons × IsTrue (is_plain_safe in_flow c) × (c ≢ colon)
    × (t ≡ colons ++ c ∷ [])

-- characters of words, of which the last is no colon
abbrev pub AreSomeSafe : Bool → List ℕ → Type 0
AreSomeSafe in_flow t = (t ≢ []) × ArePlainSafe in_flow t
