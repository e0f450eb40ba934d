-- What is told of a file, as an object of JSON.
use Rattle.std.specs.Prelude.{ℕ, ◌+◌, ◌/◌, ◌%◌, ◌==◌, ◌||◌, nat_lt, if◌then◌else◌, List, [], ◌∷◌, ◌++◌, codes, encode_utf8}
use Rattle.std.specs.Fmt.{decimal}
use Rattle.std.specs.List.{flat_map}
use Rattle.std.specs.Str.{chars}
use Rattle.saphyr_parser.specs.Words.Marker.{Marker}
use Rattle.saphyr_parser.specs.Words.Span.{Span}
use Rattle.yaml_check.specs.Told.{ToldSeen, severity_word}

abbrev pub hexadecimal_digit : ℕ → ℕ
hexadecimal_digit value = if nat_lt value 10 then 48 + value else 87 + value

-- a character in a string, in UTF-8
abbrev pub json_character : ℕ → List ℕ
json_character c = if nat_lt c 32
    then codes "\\u00" ++ (hexadecimal_digit (c / 16) ∷ hexadecimal_digit (c % 16) ∷ [])
    else (if (c == 34) || (c == 92) then 92 ∷ encode_utf8 c else encode_utf8 c)

abbrev pub json_characters : List ℕ → List ℕ
json_characters cs = flat_map json_character cs

-- lines and columns count from 1
unfoldable pub place : Marker → List ℕ
place m = codes "\"line\":" ++ (decimal m.line ++ (codes ",\"column\":" ++ decimal (m.col + 1)))

-- the name, which is one of a string, and the span
abbrev pub object_front : List ℕ → Span → List ℕ
object_front name span = codes "{\"file\":\"" ++ (name ++ (codes "\"," ++ (place span.start ++ (codes ",\"end\":{"
    ++ (place span.end ++ codes "},")))))

abbrev pub object_words : List ℕ → List ℕ → List ℕ
object_words rule severity = codes "\"rule\":\"" ++ (rule ++ (codes "\",\"severity\":\"" ++ (severity
    ++ codes "\",\"message\":\"")))

abbrev pub object_back : ToldSeen → List ℕ
object_back t =
    object_words t.rule (severity_word t.severity) ++ (json_characters (chars t.message) ++ codes "\"}\n")

-- the object, and a break
abbrev pub object : List ℕ → ToldSeen → List ℕ
object name t = object_front name t.span ++ object_back t
