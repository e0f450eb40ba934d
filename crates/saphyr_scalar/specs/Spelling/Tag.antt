-- How anchors, tags and prefixes are spelled (YAML 1.2.2, 6.8.2 and 6.9), and what the spellings stand for.
use Rattle.std.specs.Prelude.{◌≡◌, ◌≢◌, ℕ, ◌+◌, ◌*◌, Bool, ◌||◌, ◌&&◌, ◌==◌, ◌⊎◌, List, [], ◌∷◌, ◌++◌, slice_index, IsTrue, codes}
use Rattle.std.specs.Char.{encode_utf8}
use Rattle.saphyr_input.specs.Classes.{is_alpha, is_anchor_char, is_tag_char, is_uri_char, is_blank_or_breakz, is_flow, hex_value, IsHex}
use Rattle.saphyr_input.specs.Indicators.{exclamation_mark, percent_sign}
use Rattle.saphyr_scalar.specs.Values.Escapes.{IsScalarValue}

-- a character of the set, each
abbrev pub AreIn : (ℕ → Bool) → List ℕ → Type 0
AreIn set [] = Unit {0}
AreIn set (c ∷ others) = IsTrue (set c) × AreIn set others

-- 6.9.2: a name has a character
abbrev pub IsAnchorName : List ℕ → Type 0
IsAnchorName name = (name ≢ []) × AreIn is_anchor_char name

-- a byte as `%` and two hexadecimal digits (5.6)
abbrev pub IsByteEscape : ℕ → List ℕ → Type 0
IsByteEscape byte t = (high low : ℕ) × IsHex high × IsHex low × (byte ≡ hex_value high * 16 + hex_value low)
    × (t ≡ percent_sign ∷ high ∷ low ∷ [])

abbrev pub AreByteEscapes : List ℕ → List ℕ → Type 0
AreByteEscapes [] t = t ≡ []
AreByteEscapes (byte ∷ others) t =
    (escape more : List ℕ) × IsByteEscape byte escape × AreByteEscapes others more × (t ≡ escape ++ more)

-- A character of the set: itself, or its bytes in UTF-8, each escaped. So no overlong form stands for a character, and
-- no escapes stand for a surrogate or for a number past U+10FFFF.
abbrev pub IsCharacter : (ℕ → Bool) → ℕ → List ℕ → Type 0
IsCharacter set c t = (IsTrue (set c) × (c ≢ percent_sign) × (t ≡ c ∷ []))
    ⊎ (IsScalarValue c × AreByteEscapes (encode_utf8 c) t)

-- characters of the set and percent escapes, which stand for the decoded characters
abbrev pub IsDecoded : (ℕ → Bool) → List ℕ → List ℕ → Type 0
IsDecoded set [] t = t ≡ []
IsDecoded set (c ∷ others) t =
    (character more : List ℕ) × IsCharacter set c character × IsDecoded set others more × (t ≡ character ++ more)

-- 6.8.2.1: a handle as it is written, `!!` and `!word!`, or `!`
abbrev pub IsNamedHandle : List ℕ → Type 0
IsNamedHandle t = (word : List ℕ) × AreIn is_alpha word × (t ≡ codes "!" ++ (word ++ codes "!"))

abbrev pub IsHandleText : List ℕ → Type 0
IsHandleText t = (t ≡ codes "!") ⊎ IsNamedHandle t

-- 6.9.1: a tag as it is written, its handle and its suffix. The uri of a verbatim tag is its suffix.
abbrev pub IsNonSpecificTag : List ℕ → List ℕ → List ℕ → Type 0
IsNonSpecificTag t handle suffix = (t ≡ codes "!") × (handle ≡ []) × (suffix ≡ codes "!")

abbrev pub IsVerbatimTag : List ℕ → List ℕ → List ℕ → Type 0
IsVerbatimTag t handle suffix =
    (inside : List ℕ) × IsDecoded is_uri_char suffix inside × (handle ≡ []) × (t ≡ codes "!<" ++ (inside ++ codes ">"))

abbrev pub IsShorthandTag : List ℕ → List ℕ → List ℕ → Type 0
IsShorthandTag t handle suffix =
    (back : List ℕ) × IsHandleText handle × (suffix ≢ []) × IsDecoded is_tag_char suffix back × (t ≡ handle ++ back)

abbrev pub IsTagText : List ℕ → List ℕ → List ℕ → Type 0
IsTagText t handle suffix =
    IsNonSpecificTag t handle suffix ⊎ (IsVerbatimTag t handle suffix ⊎ IsShorthandTag t handle suffix)

-- what may come after a tag: a blank, a break, NUL or the end, and in flow a flow indicator
abbrev pub EndsTag : Bool → List ℕ → Type 0
EndsTag in_flow x = IsTrue (is_blank_or_breakz (slice_index x 0) || (in_flow && is_flow (slice_index x 0)))

-- 6.8.2.2: a prefix begins with `!` or a character of tags
abbrev pub IsPrefix : List ℕ → List ℕ → Type 0
IsPrefix [] t = ⊥
IsPrefix (c ∷ others) t =
    (first more : List ℕ) × IsCharacter (λ x. is_tag_char x || (x == exclamation_mark)) c first
    × IsDecoded is_uri_char others more
    × (t ≡ first ++ more)
