-- Block scalars (YAML 1.2.2, 8.1), whatever they say.
use Rattle.std.specs.Prelude.{◌≡◌, ℕ, ◌<◌, ◌⊎◌, Bool, List, ◌++◌, IsFalse}
use Rattle.saphyr_input.specs.Classes.{is_blank_or_breakz, tab}
use Rattle.saphyr_input.specs.Indicators.{number_sign}
use Rattle.saphyr_scanner.specs.Grammar.Forest.{Properties, Style}
use Rattle.scalar_laws.specs.Spelling.Block.{IsBehind}
use Rattle.yaml_laws.specs.Grammar.BlockNodes.{IsFillerAtEnd, IsBehindScalar, IsScalarFront, IsStyled}
use Rattle.yaml_standard.specs.BlockLines.{IsSomeBody, IsSomeEmptyBody}

-- ## What ends the lines

-- what comes after the spaces of a line may end a scalar
abbrev pub MayEnd : ℕ → ℕ → ℕ → List ℕ → Type 0
MayEnd indent column c t =
    ((c ≡ tab) × IsFillerAtEnd t)
    ⊎ (IsFalse (is_blank_or_breakz c) × ((column < indent) ⊎ (c ≡ number_sign)))

-- what ends a scalar, after so many spaces
abbrev pub EndsScalar : ℕ → ℕ → ℕ → List ℕ → Type 0
EndsScalar indent i column t = (others : List ℕ) × IsBehind i column t others × IsBehindScalar indent i t

-- ## Bodies

-- all lines of a scalar, and what ends it
abbrev pub IsContentBefore : ℕ → ℕ → Bool → List ℕ → List ℕ → Type 0
IsContentBefore indent i is_given t behind =
    (column : ℕ) × IsSomeBody i is_given behind t × EndsScalar indent i column behind

abbrev pub IsEmptyBefore : ℕ → ℕ → List ℕ → List ℕ → Type 0
IsEmptyBefore indent i t behind =
    (column : ℕ) × IsSomeEmptyBody indent i column behind t × EndsScalar indent i column behind

abbrev pub IsBodyBefore : ℕ → ℕ → Bool → List ℕ → List ℕ → Type 0
IsBodyBefore indent i is_given t behind =
    IsContentBefore indent i is_given t behind ⊎ IsEmptyBefore indent i t behind

-- ## The whole

-- a block scalar, from its header on
abbrev pub IsSomeBlockScalar : ℕ → List ℕ → List ℕ → Type 0
IsSomeBlockScalar indent t behind = (style : Style) × (value : List ℕ) × IsStyled style value indent t behind

-- what comes before it: nothing, or its properties and a gap
abbrev pub IsSomeScalarFront : ℕ → List ℕ → Type 0
IsSomeScalarFront indent t = (p : Properties) × IsScalarFront p indent t

-- a block scalar with its properties
abbrev pub IsSomeScalarInBlock : ℕ → List ℕ → List ℕ → Type 0
IsSomeScalarInBlock indent t behind =
    (p : Properties) × (style : Style) × (value front scalar : List ℕ) × IsScalarFront p indent front
    × IsStyled style value indent scalar behind × (t ≡ front ++ scalar)
