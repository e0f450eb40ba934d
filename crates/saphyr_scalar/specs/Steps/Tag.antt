-- Tags (YAML 1.2.2, 6.9.1), their handles (6.8.2.1), and percent escapes (5.6).
use Rattle.std.specs.Prelude.{ℕ, zero, suc, ◌+◌, ◌-◌, ◌*◌, Bool, ◌||◌, ◌&&◌, ◌==◌, nat_lt, nat_le, List, [], ◌∷◌, ◌++◌, length, slice_index, Result, Ok, if◌then◌else◌, encode_utf8, codes}
use Rattle.std.specs.Char.{len_utf8}
use Rattle.saphyr_input.specs.Classes.{is_alpha, is_hex, hex_value, is_blank_or_breakz, is_flow, is_uri_char, is_tag_char}
use Rattle.saphyr_input.specs.Indicators.{exclamation_mark, greater_than, less_than, percent_sign}
use Rattle.saphyr_scalar.specs.declared.scalar.position.Marker.{Marker}
use Rattle.saphyr_scalar.specs.declared.scalar.fault.Refusal.{Refusal}
use Rattle.saphyr_scalar.specs.declared.scalar.fault.FaultText.TheVariants as fault
use Rattle.saphyr_scalar.specs.declared.scalar.tag.UriSet.{UriSet}
use Rattle.saphyr_scalar.specs.declared.scalar.tag.UriSet.TheVariants.{Uri, Suffix}
use Rattle.saphyr_scalar.specs.Views.Cursor.{Cursor, ◌>>=◌, refuse, refuse_open, is_missing, along, pass}
use Rattle.saphyr_scalar.specs.Values.Escapes.{is_scalar_value}
use Rattle.saphyr_scalar.specs.Steps.Quoted.{with_front, with_run, mid_line}

-- a set of characters, under a name that crates above may use
abbrev pub CharacterSet : Type 0
CharacterSet = UriSet

-- the characters of a uri, or of a tag's suffix
abbrev pub is_in_set : UriSet → ℕ → Bool
is_in_set Uri c = is_uri_char c
is_in_set Suffix c = is_tag_char c

-- the byte of two hexadecimal digits after a `%`
abbrev pub byte_value : List ℕ → ℕ
byte_value xs = hex_value (slice_index xs 1) * 16 + hex_value (slice_index xs 2)

-- `%` and two hexadecimal digits
abbrev pub shows_byte : List ℕ → Bool
shows_byte xs = (slice_index xs 0 == percent_sign) && is_hex (slice_index xs 1) && is_hex (slice_index xs 2)

unfoldable pub escaped_byte : Marker → Cursor → Result (ℕ × Cursor) Refusal
escaped_byte start s =
    if shows_byte s.rest then Ok (byte_value s.rest, pass 3 s)
    else refuse_open (is_missing 2 s.rest) fault.TagEscape start

-- how many bytes a character has in UTF-8 whose first byte is b, 0 where none has
unfoldable pub utf8_width : ℕ → ℕ
utf8_width b =
    if nat_lt b 0x80 then 1
    else if nat_lt b 0xC0 then 0
    else if nat_lt b 0xE0 then 2
    else if nat_lt b 0xF0 then 3
    else if nat_lt b 0xF8 then 4
    else 0

-- what the first byte says of the character
unfoldable pub leading_bits : ℕ → ℕ
leading_bits b = if nat_lt b 0xC0 then b else if nat_lt b 0xE0 then b - 0xC0 else if nat_lt b 0xF0 then b - 0xE0 else b
    - 0xF0

abbrev pub is_trailing : ℕ → Bool
is_trailing b = nat_le 0x80 b && nat_lt b 0xC0

-- one byte after those that say v
unfoldable pub trailing_byte : Marker → ℕ → Cursor → Result (ℕ × Cursor) Refusal
trailing_byte start v s =
    escaped_byte start s >>= λ b. if is_trailing b.0 then Ok (v * 64 + (b.0 - 0x80), b.1) else refuse
    fault.TagEscapeTrailingByte start

-- n bytes after those that say v
unfoldable pub trailing_bytes : Marker → ℕ → ℕ → Cursor → Result (ℕ × Cursor) Refusal
trailing_bytes start zero v s = Ok (v, s)
trailing_bytes start (suc n) v s = trailing_byte start v s >>= λ x. trailing_bytes start n x.0 x.1

-- a character whose UTF-8 has so many bytes: no form is longer than it has to be
abbrev pub is_encoded : ℕ → ℕ → Bool
is_encoded width v = is_scalar_value v && (len_utf8 v == width)

unfoldable pub encoded_character : Marker → ℕ → ℕ → Cursor → Result (ℕ × Cursor) Refusal
encoded_character start width v s = if is_encoded width v then Ok (v, s) else refuse fault.TagEscapeCodePoint start

unfoldable pub behind_leading_byte : Marker → ℕ → Cursor → Result (ℕ × Cursor) Refusal
behind_leading_byte start b s =
    if utf8_width b == 0 then refuse fault.TagEscapeLeadingByte start
    else (trailing_bytes start (utf8_width b - 1) (leading_bits b) s
    >>= λ x. encoded_character start (utf8_width b) x.0 x.1)

-- a character as the bytes of its UTF-8, each escaped
unfoldable pub percent_escape : Marker → Cursor → Result (ℕ × Cursor) Refusal
percent_escape start s = escaped_byte start s >>= λ b. behind_leading_byte start b.0 b.1

-- a character, or the escape of one
unfoldable pub uri_character : Marker → Cursor → Result (ℕ × Cursor) Refusal
uri_character start s = if slice_index s.rest 0 == percent_sign then percent_escape start s
    else Ok (slice_index s.rest 0, pass 1 s)

-- how many characters of it come after its first one
abbrev pub uri_tail : List ℕ → ℕ
uri_tail xs = if slice_index xs 0 == percent_sign then 3 * utf8_width (byte_value xs) - 1 else 0

-- Characters of the set, with their escapes resolved: their bytes, and what comes after them.
-- The next k characters are those of an escape, which is read already.
unfoldable pub decoded_characters : UriSet → Marker → ℕ → Marker → List ℕ → Result (List ℕ × Cursor) Refusal
decoded_characters set start k m [] = Ok ([], mid_line (along m k) [])
decoded_characters set start zero m (c ∷ cs) =
    if is_in_set set c then (uri_character start (mid_line m (c ∷ cs)) >>= λ x. with_front (encode_utf8 x.0)
    (decoded_characters set start (uri_tail (c ∷ cs)) (along m 1) cs))
    else Ok ([], mid_line m (c ∷ cs))
decoded_characters set start (suc k) m (c ∷ cs) = decoded_characters set start k (along m 1) cs

abbrev pub decoded_at : UriSet → Marker → Cursor → Result (List ℕ × Cursor) Refusal
decoded_at set start s = decoded_characters set start zero s.mark s.rest

-- the same after a text
abbrev pub decoded_onto : UriSet → Marker → List ℕ → Cursor → Result (List ℕ × Cursor) Refusal
decoded_onto set start text s = with_front text (decoded_at set start s)

-- a tag's handle as it is written, its suffix, and what comes after it
abbrev pub TagRead : Type 0
TagRead = List ℕ × List ℕ × Cursor

-- A tag behind a text, its suffix behind its handle: how many bytes the handle has, the text, and what comes after it.
abbrev pub TagBehind : Type 0
TagBehind = ℕ × List ℕ × Cursor

-- what contracts see of a tag that was put there
abbrev pub seen_tag : ℕ → List ℕ → Cursor → TagBehind
seen_tag handle text s = (handle, text, s)

-- a tag is put behind a text
abbrev pub with_tag : List ℕ → Result TagRead Refusal → Result TagBehind Refusal
with_tag text read = read >>= λ x. Ok (length x.0, (text ++ x.0) ++ x.1, x.2)

-- `!<uri>`: the uri is the suffix
unfoldable pub verbatim_end : Marker → List ℕ × Cursor → Result TagRead Refusal
verbatim_end start x = if slice_index x.1.rest 0 == greater_than then Ok ([], x.0, pass 1 x.1) else
    refuse_open (is_missing 0 x.1.rest) fault.VerbatimTagEndExpected start

unfoldable pub verbatim_tag : Cursor → Result TagRead Refusal
verbatim_tag s = decoded_at Uri s.mark (pass 2 s) >>= λ x. verbatim_end s.mark x

-- the handle of a word
abbrev pub handle_of : List ℕ → List ℕ
handle_of word = codes "!" ++ word ++ codes "!"

-- a suffix after `!!` or `!word!`, which has a character
unfoldable pub named_tag : Marker → List ℕ → List ℕ × Cursor → Result TagRead Refusal
named_tag start word x =
    if length x.0 == 0 then refuse_open (is_missing 0 x.1.rest) fault.TagSuffixExpected start
    else Ok (handle_of word, x.0, x.1)

unfoldable pub named_tail : Marker → List ℕ → Cursor → Result TagRead Refusal
named_tail start word s = decoded_at Suffix start s >>= λ x. named_tag start word x

-- a suffix after `!`; where there is none, the tag is the non-specific one
unfoldable pub primary_tag : List ℕ × Cursor → TagRead
primary_tag x = if length x.0 == 0 then ([], codes "!", x.1) else (codes "!", x.0, x.1)

-- `!` and a word are put behind a text
abbrev pub with_word : List ℕ → Cursor → Result (List ℕ × Cursor) Refusal
with_word text s =
    Ok ((text ++ codes "!") ++ (with_run is_alpha [] (pass 1 s)).0, (with_run is_alpha [] (pass 1 s)).1)

-- after `!` and a word
unfoldable pub tag_behind_word : Marker → List ℕ × Cursor → Result TagRead Refusal
tag_behind_word start w =
    if slice_index w.1.rest 0 == exclamation_mark then named_tail start w.0 (pass 1 w.1)
    else (with_front w.0 (decoded_at Suffix start w.1) >>= λ x. Ok (primary_tag x))

unfoldable pub shorthand_tag : Cursor → Result TagRead Refusal
shorthand_tag s = tag_behind_word s.mark (with_run is_alpha [] (pass 1 s))

-- a tag ends before a blank, a break, NUL or the end, and in flow before a flow indicator
abbrev pub is_behind_tag : Bool → ℕ → Bool
is_behind_tag in_flow c = is_blank_or_breakz c || (in_flow && is_flow c)

unfoldable pub tag_end : Bool → Marker → TagRead → Result TagRead Refusal
tag_end in_flow start p =
    if is_behind_tag in_flow (slice_index p.2.rest 0) then Ok p else refuse fault.TagEndExpected start

abbrev pub any_tag : Cursor → Result TagRead Refusal
any_tag s = if slice_index s.rest 1 == less_than then verbatim_tag s else shorthand_tag s

-- a tag, from its `!` on
unfoldable pub tag : Bool → Cursor → Result TagRead Refusal
tag in_flow s = any_tag s >>= λ p. tag_end in_flow s.mark p
