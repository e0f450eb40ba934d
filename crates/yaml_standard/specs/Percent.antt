-- Characters that may be written by percent escapes (YAML 1.2.2, 5.6).
use Rattle.std.specs.Prelude.{◌≢◌, ℕ, Bool, List, [], encode_utf8}
use Rattle.saphyr_scalar.specs.Spelling.Tag.{AreByteEscapes, IsCharacter, IsDecoded}
use Rattle.saphyr_scalar.specs.Values.Escapes.{IsScalarValue}

-- the bytes of a character, each escaped
abbrev pub IsEscaped : List ℕ → Type 0
IsEscaped t = (c : ℕ) × IsScalarValue c × AreByteEscapes (encode_utf8 c) t

-- a character of the set, as it is or by escapes
abbrev pub IsOneOf : (ℕ → Bool) → List ℕ → Type 0
IsOneOf set t = (c : ℕ) × IsCharacter set c t

-- any number of them
abbrev pub AreOf : (ℕ → Bool) → List ℕ → Type 0
AreOf set t = (cs : List ℕ) × IsDecoded set cs t

-- at least one
abbrev pub AreSomeOf : (ℕ → Bool) → List ℕ → Type 0
AreSomeOf set t = (cs : List ℕ) × (cs ≢ []) × IsDecoded set cs t
