-- The parts of plain scalars and of keys (YAML 1.2.2, 7.3.3).
use Rattle.std.specs.Prelude.{◌≡◌, ℕ, ◌==◌, List, ◌∷◌, ◌++◌, IsTrue, codes}
use Rattle.saphyr_input.specs.Classes.{is_one_of}
use Rattle.saphyr_input.specs.Indicators.{colon}
use Rattle.saphyr_scalar.specs.Spelling.Tag.{AreIn}
use Rattle.scalar_laws.specs.Spelling.Spaces.{AreMany}
use Rattle.yaml_laws.specs.Grammar.FlowScalars.{IsWordGap, IsLoneDash}

-- what comes before a further word: inside flow lone dashes, or none, and a gap
abbrev pub IsBeforeWord : ℕ → List ℕ → Type 0
IsBeforeWord indent t =
    (dashes gap : List ℕ) × AreMany (IsLoneDash indent) dashes × IsWordGap indent gap × (t ≡ dashes ++ gap)

-- a `-`, a `?` or a `:`, and colons or none
abbrev pub AreMarkAndColons : List ℕ → Type 0
AreMarkAndColons t =
    (mark : ℕ) × (colons : List ℕ) × IsTrue (is_one_of (codes "-?:") mark) × AreIn (λ c. c == colon) colons
    × (t ≡ mark ∷ colons)
