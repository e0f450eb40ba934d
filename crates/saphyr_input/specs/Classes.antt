-- The sets of characters that a YAML reader asks about, on Unicode scalar values.
-- Each is here twice: in small letters as a test that computes, and as the fact that the test decides.
use Rattle.std.specs.Prelude.{◌≡◌, ◌≢◌, ℕ, ◌-◌, ◌≤◌, Bool, ◌||◌, ◌&&◌, ◌==◌, not, nat_le, if◌then◌else◌, codes, Contains, ◌⊎◌, List}
use Rattle.std.specs.List.{list_any}
use Rattle.saphyr_input.specs.Indicators.{exclamation_mark, low_line}

abbrev pub nul : ℕ
nul = 0

abbrev pub tab : ℕ
tab = 9

abbrev pub line_feed : ℕ
line_feed = 10

abbrev pub carriage_return : ℕ
carriage_return = 13

abbrev pub space : ℕ
space = 32

abbrev pub byte_order_mark : ℕ
byte_order_mark = 65279

-- from the first of two characters to the second
abbrev pub is_from : ℕ → ℕ → ℕ → Bool
is_from first last c = nat_le first c && nat_le c last

abbrev pub IsFrom : ℕ → ℕ → ℕ → Type 0
IsFrom first last c = (first ≤ c) × (c ≤ last)

-- one of the characters of a list
abbrev pub is_one_of : List ℕ → ℕ → Bool
is_one_of set c = list_any (λ x. c == x) set

-- NUL, which every place past the end of an input shows
abbrev pub is_z : ℕ → Bool
is_z c = c == nul

abbrev pub IsZ : ℕ → Type 0
IsZ c = c ≡ nul

-- line breaks (YAML 1.2.2, 5.4)
abbrev pub is_break : ℕ → Bool
is_break c = (c == line_feed) || (c == carriage_return)

abbrev pub IsBreak : ℕ → Type 0
IsBreak c = (c ≡ line_feed) ⊎ (c ≡ carriage_return)

abbrev pub is_breakz : ℕ → Bool
is_breakz c = is_break c || is_z c

abbrev pub IsBreakz : ℕ → Type 0
IsBreakz c = IsBreak c ⊎ IsZ c

-- white space (YAML 1.2.2, 5.5)
abbrev pub is_blank : ℕ → Bool
is_blank c = (c == space) || (c == tab)

abbrev pub IsBlank : ℕ → Type 0
IsBlank c = (c ≡ space) ⊎ (c ≡ tab)

abbrev pub is_blank_or_breakz : ℕ → Bool
is_blank_or_breakz c = is_blank c || is_breakz c

abbrev pub IsBlankOrBreakz : ℕ → Type 0
IsBlankOrBreakz c = IsBlank c ⊎ IsBreakz c

-- decimal digits (YAML 1.2.2, 5.6)
abbrev pub is_digit : ℕ → Bool
is_digit c = is_from 48 57 c

abbrev pub IsDigit : ℕ → Type 0
IsDigit c = IsFrom 48 57 c

-- digits, letters, `_` and `-`
abbrev pub is_alpha : ℕ → Bool
is_alpha c = is_digit c || is_from 97 122 c || is_from 65 90 c || is_one_of (codes "_-") c

abbrev pub IsAlpha : ℕ → Type 0
IsAlpha c = IsDigit c ⊎ (IsFrom 97 122 c ⊎ (IsFrom 65 90 c ⊎ Contains (codes "_-") c))

-- word characters (YAML 1.2.2, 5.6): digits, letters and `-`
abbrev pub is_word_char : ℕ → Bool
is_word_char c = is_alpha c && not (c == low_line)

abbrev pub IsWordChar : ℕ → Type 0
IsWordChar c = IsAlpha c × (c ≢ low_line)

-- hexadecimal digits (YAML 1.2.2, 5.6)
abbrev pub is_hex : ℕ → Bool
is_hex c = is_digit c || is_from 97 102 c || is_from 65 70 c

abbrev pub IsHex : ℕ → Type 0
IsHex c = IsDigit c ⊎ (IsFrom 97 102 c ⊎ IsFrom 65 70 c)

-- what a hexadecimal digit stands for
abbrev pub hex_value : ℕ → ℕ
hex_value c = if is_digit c then c - 48 else (if is_from 97 102 c then c - 87 else c - 55)

-- flow indicators (YAML 1.2.2, 7.4)
abbrev pub is_flow : ℕ → Bool
is_flow c = is_one_of (codes ",[]{}") c

abbrev pub IsFlow : ℕ → Type 0
IsFlow c = Contains (codes ",[]{}") c

-- the byte order mark (YAML 1.2.2, 5.2)
abbrev pub is_bom : ℕ → Bool
is_bom c = c == byte_order_mark

abbrev pub IsBom : ℕ → Type 0
IsBom c = c ≡ byte_order_mark

-- all but NUL, breaks and the byte order mark (YAML 1.2.2, 5.4)
abbrev pub is_yaml_non_break : ℕ → Bool
is_yaml_non_break c = not (is_breakz c) && not (is_bom c)

abbrev pub IsYamlNonBreak : ℕ → Type 0
IsYamlNonBreak c = ¬ IsBreakz c × (c ≢ byte_order_mark)

-- non-breaks without blanks (YAML 1.2.2, 5.5)
abbrev pub is_yaml_non_space : ℕ → Bool
is_yaml_non_space c = is_yaml_non_break c && not (is_blank c)

abbrev pub IsYamlNonSpace : ℕ → Type 0
IsYamlNonSpace c = IsYamlNonBreak c × ¬ IsBlank c

-- characters of an anchor's name (YAML 1.2.2, 6.9.2)
abbrev pub is_anchor_char : ℕ → Bool
is_anchor_char c = is_yaml_non_space c && not (is_flow c)

abbrev pub IsAnchorChar : ℕ → Type 0
IsAnchorChar c = IsYamlNonSpace c × ¬ IsFlow c

-- the characters of a URI that are no word characters
abbrev pub is_uri_mark : ℕ → Bool
is_uri_mark c = is_one_of (codes "#;/?:@&=+$,_.!~*'()[]%") c

abbrev pub IsUriMark : ℕ → Type 0
IsUriMark c = Contains (codes "#;/?:@&=+$,_.!~*'()[]%") c

-- characters of a URI (YAML 1.2.2, 5.6)
abbrev pub is_uri_char : ℕ → Bool
is_uri_char c = is_word_char c || is_uri_mark c

abbrev pub IsUriChar : ℕ → Type 0
IsUriChar c = IsWordChar c ⊎ IsUriMark c

-- characters of a tag's suffix (YAML 1.2.2, 5.6): those of a URI without `!` and the flow indicators
abbrev pub is_tag_char : ℕ → Bool
is_tag_char c = is_uri_char c && not (is_flow c || (c == exclamation_mark))

abbrev pub IsTagChar : ℕ → Type 0
IsTagChar c = IsUriChar c × ¬ (IsFlow c ⊎ (c ≡ exclamation_mark))
