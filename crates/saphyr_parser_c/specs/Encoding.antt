-- How a text is encoded (YAML 1.2.2, 5.2).
use Rattle.std.specs.Prelude.{◌≡◌, ◌<◌, ◌≤◌, ◌⊎◌, ℕ, List, ◌∷◌, ◌++◌, length, take, IsUtf8}
use Rattle.std.specs.Char.{IsScalar, encode_utf8}

-- The first n bytes are UTF-8, and no more of them are.
pub record IsUtf8Front (text : List ℕ) (n : ℕ) : Type 0 where
  pub within : n ≤ length text
  pub front : IsUtf8 (take n text)
  pub longest : (m : ℕ) → n < m → m ≤ length text → IsUtf8 (take m text) → ⊥

-- With some bytes that may come after them, these are UTF-8.
abbrev pub IsUtf8SoFar : List ℕ → Type 0
IsUtf8SoFar bytes = (later : List ℕ) × IsUtf8 (bytes ++ later)

-- The first bytes of a character, and not all of its bytes; or no bytes.
abbrev pub IsCutCharacter : List ℕ → Type 0
IsCutCharacter bytes =
    (c : ℕ) × (rest : List ℕ) × IsScalar c × (0 < length rest) × (bytes ++ rest ≡ encode_utf8 c)

-- ## The byte order mark of UTF-16: U+FEFF in either order of its bytes

abbrev pub BeginsBigEndian : List ℕ → Type 0
BeginsBigEndian text = (rest : List ℕ) × (text ≡ 254 ∷ 255 ∷ rest)

abbrev pub BeginsLittleEndian : List ℕ → Type 0
BeginsLittleEndian text = (rest : List ℕ) × (text ≡ 255 ∷ 254 ∷ rest)

-- in UTF-32 two bytes of 0 come after the same two bytes
abbrev pub BeginsAsUtf32 : List ℕ → Type 0
BeginsAsUtf32 text = (rest : List ℕ) × (text ≡ 255 ∷ 254 ∷ 0 ∷ 0 ∷ rest)

abbrev pub BeginsAsUtf16 : List ℕ → Type 0
BeginsAsUtf16 text = BeginsBigEndian text ⊎ (BeginsLittleEndian text × (BeginsAsUtf32 text → ⊥))
