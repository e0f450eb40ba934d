-- How tags and handles are spelled (YAML 1.2.2, 6.8.2 and 6.9.1), and what the spellings stand for. Percent escapes are
-- those of the reader's definitions.
use Rattle.std.specs.Prelude.{◌≡◌, ◌≢◌, ℕ, List, [], ◌++◌, IsTrue, codes}
use Rattle.saphyr_input.specs.Classes.{is_alpha, is_tag_char, is_uri_char}
use Rattle.saphyr_scalar.specs.Spelling.Tag.{IsDecoded}
use Rattle.saphyr_scanner.specs.Grammar.Characters.{AreAll}
use Rattle.saphyr_scanner.specs.Grammar.Forest.{Handle, Named, handle_text, Tag, NonSpecific, Verbatim, Shorthand}

-- 6.8.2.1 [89] to [92]: the word of a named handle has a character
abbrev pub IsHandle : Handle → List ℕ → Type 0
IsHandle (Named word) t = (word ≢ []) × AreAll (λ c. IsTrue (is_alpha c)) word × (t ≡ handle_text (Named word))
IsHandle handle t = t ≡ handle_text handle

-- 6.9.1 [97] to [100]: a tag. A uri and a suffix have a character each.
abbrev pub IsTag : Tag → List ℕ → Type 0
IsTag NonSpecific t = t ≡ codes "!"
IsTag (Verbatim uri) t =
    (inside : List ℕ) × (uri ≢ []) × IsDecoded is_uri_char uri inside × (t ≡ codes "!<" ++ (inside ++ codes ">"))
IsTag (Shorthand handle suffix) t =
    (front back : List ℕ) × IsHandle handle front × (suffix ≢ []) × IsDecoded is_tag_char suffix back
    × (t ≡ front ++ back)
