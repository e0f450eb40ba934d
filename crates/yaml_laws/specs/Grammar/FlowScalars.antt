-- Scalars in flow style (YAML 1.2.2, 7.3), in texts whose breaks are line feeds.
-- `indent` is the first column to the right of the enclosing block collection, and 0 at the root.
use Rattle.std.specs.Prelude.{◌≡◌, ◌≢◌, ℕ, Bool, not, ◌⊎◌, List, [], ◌∷◌, ◌++◌, slice_index, IsTrue, codes}
use Rattle.saphyr_input.specs.Classes.{is_one_of, is_blank}
use Rattle.saphyr_input.specs.Indicators.{number_sign}
use Rattle.saphyr_scalar.specs.declared.values.Item.{Item}
use Rattle.saphyr_scalar.specs.declared.values.Quote.{Quote}
use Rattle.saphyr_scalar.specs.declared.values.Quote.TheVariants.{Single, Double}
use Rattle.saphyr_scalar.specs.Values.Folding.{folded}
use Rattle.saphyr_scalar.specs.Values.Flow.{mark, plain_value}
use Rattle.saphyr_scalar.specs.Spelling.Quoted.{IsText}
use Rattle.saphyr_scalar.specs.Spelling.Tag.{AreIn}
use Rattle.scalar_laws.specs.Spelling.Plain.{is_plain_safe, IsWordIn}
use Rattle.scalar_laws.specs.Spelling.QuotedLines.{LinesFit}
use Rattle.scalar_laws.specs.Spelling.Spaces.{AreMany, AreSpaces, IsLinePrefix}
use Rattle.saphyr_scanner.specs.Grammar.Forest.{Style, Plain, SingleQuoted, DoubleQuoted}

-- ## 7.3.3: plain scalars

-- no indicator with which another token begins (5.3 [22])
abbrev pub begins_plain : ℕ → Bool
begins_plain c = not (is_one_of (codes ",[]{}#&*!|>'\"%@`") c)

-- the first word, which is no lone `-`, `?` or `:`
abbrev pub IsFirstWord : Bool → List ℕ → Type 0
IsFirstWord in_flow word =
    IsWordIn in_flow word × IsTrue (begins_plain (slice_index word 0)) × (word ≢ codes "-") × (word ≢ codes "?")
    × (word ≢ codes ":")

-- 6.4 [70]: an empty line, of spaces or none, or of what comes before content
abbrev pub IsEmptyLine : ℕ → List ℕ → Type 0
IsEmptyLine indent t = (front : List ℕ) × (AreSpaces 0 front ⊎ IsLinePrefix indent front) × (t ≡ front ++ codes "\n")

-- 6.5 [74]: between words on different lines: blanks, the break, empty lines, and what comes before the next line's
-- content
abbrev pub IsFoldedGap : ℕ → List ℕ → Type 0
IsFoldedGap indent t =
    (blanks lines front : List ℕ) × AreIn is_blank blanks × AreMany (IsEmptyLine indent) lines
    × IsLinePrefix indent front × (t ≡ blanks ++ (codes "\n" ++ (lines ++ front)))

-- between two words: some blanks, or a folded break
abbrev pub IsWordGap : ℕ → List ℕ → Type 0
IsWordGap indent t = ((t ≢ []) × AreIn is_blank t) ⊎ IsFoldedGap indent t

-- a lone `-` after a word
abbrev pub IsLoneDash : ℕ → List ℕ → Type 0
IsLoneDash indent t = (gap : List ℕ) × IsWordGap indent gap × (t ≡ gap ++ codes "-")

-- A word after others. Inside flow the last word is no lone `-`, but such may come before it.
abbrev pub IsFurtherWord : Bool → ℕ → List ℕ → Type 0
IsFurtherWord in_flow indent t =
    (dashes gap word : List ℕ) × AreMany (IsLoneDash indent) dashes × IsWordGap indent gap × IsWordIn in_flow word
    × (t ≡ dashes ++ (gap ++ word))

-- [131]: A plain scalar: words, with blanks or a break between. None ends with a colon.
abbrev pub IsPlain : Bool → ℕ → List ℕ → Type 0
IsPlain in_flow indent t =
    (first others : List ℕ) × IsFirstWord in_flow first × AreMany (IsFurtherWord in_flow indent) others
    × (t ≡ first ++ others)

-- a key's last word, whose last character may be a colon, and which may be a lone `-`, `?` or `:`
abbrev pub IsLastWord : Bool → List ℕ → Type 0
IsLastWord in_flow word = (word ≢ []) × AreIn (is_plain_safe in_flow) word × (slice_index word 0 ≢ number_sign)

-- A plain scalar that is a key, with the key's colon right after it: words and a last one, or one word, which may be a
-- lone `-`, `?` or `:` too.
abbrev pub IsPlainKey : Bool → ℕ → List ℕ → Type 0
IsPlainKey in_flow indent t =
    (IsLastWord in_flow t × IsTrue (begins_plain (slice_index t 0)))
    ⊎ ((plain dashes gap word : List ℕ) × IsPlain in_flow indent plain × AreMany (IsLoneDash indent) dashes
    × IsWordGap indent gap × IsLastWord in_flow word × (t ≡ plain ++ (dashes ++ (gap ++ word))))

-- ## 7.3.1, 7.3.2: quoted scalars

-- Each later line is indented, or of spaces alone. The scalar stands for its items, folded.
abbrev pub IsQuoted : Quote → ℕ → List ℕ → List ℕ → Type 0
IsQuoted quote indent value t =
    (inside : List ℕ) × (items : List Item) × (spelled : IsText quote inside items [])
    × LinesFit indent quote inside items [] spelled × (value ≡ folded items) × (t ≡ mark quote ∷ inside)

-- ## A scalar in flow style

-- a scalar of this style and value
abbrev pub IsFlowScalar : Style → List ℕ → Bool → ℕ → List ℕ → Type 0
IsFlowScalar Plain value in_flow indent t = IsPlain in_flow indent t × (value ≡ plain_value t)
IsFlowScalar SingleQuoted value in_flow indent t = IsQuoted Single indent value t
IsFlowScalar DoubleQuoted value in_flow indent t = IsQuoted Double indent value t
IsFlowScalar _ value in_flow indent t = ⊥
