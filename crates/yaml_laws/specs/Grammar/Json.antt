-- The texts of JSON and the forests that they stand for (RFC 8259, sections 2 to 7).
use Rattle.std.specs.Prelude.{◌≡◌, ◌≢◌, ℕ, ◌+◌, ◌*◌, ◌≤◌, ◌⊎◌, List, [], ◌∷◌, ◌++◌, codes}
use Rattle.saphyr_input.specs.Classes.{IsFrom, IsDigit, IsHex, hex_value}
use Rattle.saphyr_scanner.specs.Grammar.Characters.{AreAll, IsScalarValue, IsSurrogate}
use Rattle.saphyr_scanner.specs.Grammar.Forest.{Plain, DoubleQuoted, no_properties, Node, Scalar, Seq, Map, Nodes, NoNode, MoreNodes, Pairs, NoPair, MorePairs, bare, Forest}

-- ## White space and structural characters (section 2)

-- space, tab, line feed or carriage return
abbrev pub IsWhite : ℕ → Type 0
IsWhite c = (c ≡ 0x20) ⊎ (c ≡ 0x09) ⊎ (c ≡ 0x0A) ⊎ (c ≡ 0x0D)

abbrev pub IsWhiteSpace : List ℕ → Type 0
IsWhiteSpace t = AreAll IsWhite t

-- one of `[ ] { } : ,` with white space round it
abbrev pub IsStructural : List ℕ → List ℕ → Type 0
IsStructural mark t = (before after : List ℕ) × IsWhiteSpace before × IsWhiteSpace after
    × (t ≡ before ++ (mark ++ after))

-- ## Numbers (section 6)

-- one digit or more
abbrev pub AreDigits : List ℕ → Type 0
AreDigits t = (t ≢ []) × AreAll IsDigit t

-- zero, or digits of which the first is not zero
abbrev pub IsInteger : List ℕ → Type 0
IsInteger t = (t ≡ codes "0")
    ⊎ ((first : ℕ) × (others : List ℕ) × IsFrom 49 57 first × AreAll IsDigit others × (t ≡ first ∷ others))

abbrev pub IsFraction : List ℕ → Type 0
IsFraction t = (digits : List ℕ) × AreDigits digits × (t ≡ codes "." ++ digits)

abbrev pub IsExponent : List ℕ → Type 0
IsExponent t = (letter sign digits : List ℕ) × ((letter ≡ codes "e") ⊎ (letter ≡ codes "E"))
    × ((sign ≡ []) ⊎ (sign ≡ codes "+") ⊎ (sign ≡ codes "-")) × AreDigits digits × (t ≡ letter ++ (sign ++ digits))

abbrev pub IsJsonNumber : List ℕ → Type 0
IsJsonNumber t = (minus integer fraction exponent : List ℕ) × ((minus ≡ []) ⊎ (minus ≡ codes "-")) × IsInteger integer
    × ((fraction ≡ []) ⊎ IsFraction fraction) × ((exponent ≡ []) ⊎ IsExponent exponent)
    × (t ≡ minus ++ (integer ++ (fraction ++ exponent)))

-- ## Strings (section 7)

-- The letter after `\` and the character that both stand for: `"`, `\`, `/`, `b` backspace, `f` form feed,
-- `n` line feed, `r` carriage return, `t` tab.
abbrev pub IsJsonEscape : ℕ → ℕ → Type 0
IsJsonEscape letter c =
    ((letter ≡ 0x22) × (c ≡ 0x22)) ⊎ ((letter ≡ 0x5C) × (c ≡ 0x5C)) ⊎ ((letter ≡ 0x2F) × (c ≡ 0x2F))
    ⊎ ((letter ≡ 0x62) × (c ≡ 0x08)) ⊎ ((letter ≡ 0x66) × (c ≡ 0x0C)) ⊎ ((letter ≡ 0x6E) × (c ≡ 0x0A))
    ⊎ ((letter ≡ 0x72) × (c ≡ 0x0D)) ⊎ ((letter ≡ 0x74) × (c ≡ 0x09))

-- four hexadecimal digits and their number
abbrev pub IsCode : ℕ → List ℕ → Type 0
IsCode c t = (d3 d2 d1 d0 : ℕ) × IsHex d3 × IsHex d2 × IsHex d1 × IsHex d0
    × (c ≡ ((hex_value d3 * 16 + hex_value d2) * 16 + hex_value d1) * 16 + hex_value d0) × (t ≡ d3 ∷ d2 ∷ d1 ∷ d0 ∷ [])

-- a character that stands for itself: from U+0020 on, but `"` and `\`
abbrev pub IsUnescaped : ℕ → Type 0
IsUnescaped c = IsScalarValue c × (0x20 ≤ c) × (c ≢ 0x22) × (c ≢ 0x5C)

-- The spelling of a character. The escapes from `\uD800` to `\uDFFF`, of which RFC 8259 makes pairs, are left out.
abbrev pub IsJsonSpelling : ℕ → List ℕ → Type 0
IsJsonSpelling c t =
    (IsUnescaped c × (t ≡ c ∷ [])) ⊎ ((letter : ℕ) × IsJsonEscape letter c × (t ≡ codes "\\" ++ (letter ∷ [])))
    ⊎ ((code : List ℕ) × IsCode c code × ¬ (IsSurrogate c) × (t ≡ codes "\\u" ++ code))

abbrev pub AreSpellings : List ℕ → List ℕ → Type 0
AreSpellings [] t = t ≡ []
AreSpellings (c ∷ others) t =
    (spelling more : List ℕ) × IsJsonSpelling c spelling × AreSpellings others more × (t ≡ spelling ++ more)

abbrev pub IsString : List ℕ → List ℕ → Type 0
IsString value t = (inside : List ℕ) × AreSpellings value inside × (t ≡ codes "\"" ++ (inside ++ codes "\""))

-- ## Values (sections 3 to 5)

-- section 3: a value that is one word, which stands for its own characters
abbrev pub IsWord : List ℕ → Type 0
IsWord t = (t ≡ codes "true") ⊎ (t ≡ codes "false") ⊎ (t ≡ codes "null") ⊎ IsJsonNumber t

-- section 4: the name of a member
abbrev pub IsMemberName : Node → List ℕ → Type 0
IsMemberName (Scalar p DoubleQuoted value) t = (p ≡ no_properties) × IsString value t
IsMemberName _ t = ⊥

abbrev mutual
  pub IsValue : Node → List ℕ → Type 0
  IsValue (Scalar p Plain value) t = (p ≡ no_properties) × IsWord value × (t ≡ value)
  IsValue (Scalar p DoubleQuoted value) t = (p ≡ no_properties) × IsString value t
  IsValue (Seq p nodes) t =
      (opening inside closing : List ℕ) × (p ≡ no_properties) × IsStructural (codes "[") opening
      × AreElements nodes inside × IsStructural (codes "]") closing × (t ≡ opening ++ (inside ++ closing))
  IsValue (Map p pairs) t =
      (opening inside closing : List ℕ) × (p ≡ no_properties) × IsStructural (codes "{") opening
      × AreMembers pairs inside × IsStructural (codes "}") closing × (t ≡ opening ++ (inside ++ closing))
  IsValue _ t = ⊥

  -- section 5: the elements of an array
  pub AreElements : Nodes → List ℕ → Type 0
  AreElements NoNode t = t ≡ []
  AreElements (MoreNodes node nodes) t =
      (element others : List ℕ) × IsValue node element × AreOtherElements nodes others × (t ≡ element ++ others)

  pub AreOtherElements : Nodes → List ℕ → Type 0
  AreOtherElements NoNode t = t ≡ []
  AreOtherElements (MoreNodes node nodes) t =
      (comma element others : List ℕ) × IsStructural (codes ",") comma × IsValue node element
      × AreOtherElements nodes others × (t ≡ comma ++ (element ++ others))

  -- section 4: the members of an object
  pub AreMembers : Pairs → List ℕ → Type 0
  AreMembers NoPair t = t ≡ []
  AreMembers (MorePairs key node pairs) t =
      (name colon value others : List ℕ) × IsMemberName key name × IsStructural (codes ":") colon × IsValue node value
      × AreOtherMembers pairs others × (t ≡ name ++ (colon ++ (value ++ others)))

  pub AreOtherMembers : Pairs → List ℕ → Type 0
  AreOtherMembers NoPair t = t ≡ []
  AreOtherMembers (MorePairs key node pairs) t =
      (comma name colon value others : List ℕ) × IsStructural (codes ",") comma × IsMemberName key name
      × IsStructural (codes ":") colon × IsValue node value × AreOtherMembers pairs others
      × (t ≡ comma ++ (name ++ (colon ++ (value ++ others))))

-- section 2: a text is one value with white space round it
abbrev pub IsJsonText : Node → List ℕ → Type 0
IsJsonText node t = (before value after : List ℕ) × IsWhiteSpace before × IsValue node value × IsWhiteSpace after
    × (t ≡ before ++ (value ++ after))

-- The forest of a text is one document that is not explicit, with no directives. Names may be repeated in an object.
abbrev pub IsJson : Forest → List ℕ → Type 0
IsJson (document ∷ []) t = (document ≡ bare document.node) × IsJsonText document.node t
IsJson _ t = ⊥
