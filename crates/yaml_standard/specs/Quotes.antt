-- How much of a scalar in quotes is passed (YAML 1.2.2, 7.3.1 and 7.3.2).
use Rattle.std.specs.Prelude.{◌≡◌, ℕ, ◌<◌, List, [], ◌∷◌, ◌++◌, length, IsTrue}
use Rattle.saphyr_scalar.specs.declared.values.Item.{Item}
use Rattle.saphyr_scalar.specs.declared.values.Quote.{Quote}
use Rattle.saphyr_input.specs.Classes.{is_hex}
use Rattle.saphyr_scalar.specs.Spelling.OneLine.{hexadecimal_from}
use Rattle.saphyr_scalar.specs.Spelling.Quoted.{IsText}
use Rattle.saphyr_scalar.specs.Spelling.Tag.{AreIn}
use Rattle.saphyr_scalar.specs.Values.Escapes.{is_scalar_value}
use Rattle.saphyr_scalar.specs.Values.Flow.{mark}
use Rattle.scalar_laws.specs.Spelling.QuotedLines.{LinesFit}
use Rattle.yaml_standard.specs.Takes.{TakesOff}

-- what comes after the opening quote, with the closing one, where each later line is indented
abbrev pub IsInside : Quote → ℕ → List ℕ → Type 0
IsInside quote indent t =
    (items : List Item) × (spelled : IsText quote t items []) × LinesFit indent quote t items [] spelled

-- the same, and that a quote ends it
abbrev pub EndsInside : Quote → ℕ → List ℕ → Type 0
EndsInside quote indent t = (front : List ℕ) × IsInside quote indent t × (t ≡ front ++ mark quote ∷ [])

-- What ends a scalar from `now` on ends it from `start` on.
abbrev pub Continues : Quote → ℕ → List ℕ → List ℕ → Type 0
Continues quote indent start now =
    (t after : List ℕ) → now ≡ t ++ after → EndsInside quote indent t → TakesOff (EndsInside quote indent) start after

-- a part of a scalar is passed, and not the last one
pub record PassesPart (quote : Quote) (indent : ℕ) (start now : List ℕ) : Type 0 where
  pub goes_on : Continues quote indent start now
  pub shorter : length now < length start

-- a line begins behind a break
abbrev pub BeginsLine : (List ℕ → Type 0) → List ℕ → List ℕ → Type 0
BeginsLine Line before after = (before ≡ 10 ∷ after) × Line after

-- hexadecimal digits, of which there are so many, and what they stand for
pub record SpellsDigits (count value : ℕ) (before after : List ℕ) : Type 0 where
  pub digits : List ℕ
  pub many : length digits ≡ count
  pub hex : AreIn is_hex digits
  pub stands_for : hexadecimal_from 0 digits ≡ value
  pub cut : before ≡ digits ++ after

-- the digits of a character
abbrev pub AreDigitsOf : ℕ → List ℕ → List ℕ → Type 0
AreDigitsOf count before after = (value : ℕ) × IsTrue (is_scalar_value value) × SpellsDigits count value before after

-- a scalar, from its opening quote on
abbrev pub IsQuotedScalar : Quote → ℕ → List ℕ → Type 0
IsQuotedScalar quote indent t = (inside : List ℕ) × IsInside quote indent inside × (t ≡ mark quote ∷ inside)
