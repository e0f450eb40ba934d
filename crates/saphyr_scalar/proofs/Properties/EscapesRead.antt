-- Each spelled percent escape is read, and each character with escapes.
use Rattle.saphyr_scalar.proofs.Common.{◌≡◌, ℕ, suc, ◌+◌, ◌-◌, ◌*◌, Bool, true, false, List, [], ◌∷◌, ◌++◌, length, length-append, append_assoc, slice_index, nat_eq, Result, Ok, refl, ap, ◌∙◌, arith, encode_utf8_all, encode_utf8, inl, inr, nat_tests, percent_sign, is_hex, IsHex, Marker, Refusal, UriSet, Cursor, ◌>>=◌, along}
use Rattle.saphyr_scalar.specs.Values.Escapes.{IsScalarValue}
use Rattle.saphyr_scalar.specs.Steps.Quoted.{with_front, mid_line}
use Rattle.saphyr_scalar.specs.Steps.Tag.{is_in_set, escaped_byte, utf8_width, leading_bits, is_trailing, is_encoded, trailing_byte, trailing_bytes, encoded_character, behind_leading_byte, percent_escape, uri_character, decoded_characters}
use Rattle.saphyr_scalar.specs.Spelling.Tag.{IsByteEscape, AreByteEscapes, IsCharacter, IsDecoded}
use Rattle.saphyr_scalar.proofs.Moving.{along_none, along_more}
use Rattle.saphyr_scalar.proofs.Properties.PercentEscapes.{decoded_one_more, ends_at, reads_on}
use Rattle.saphyr_scalar.proofs.Properties.EscapedBytes.{AreTrailing, joined_bytes, Bytes, bytes_of}
use Rattle.saphyr_scalar.proofs.Given.{text_given, number_given}

hex_true : (c : ℕ) → IsHex c → is_hex c ≡ true
hex_true c h = grind (arith, nat_tests)

-- a byte that is escaped is read
byte_read : (start m : Marker) (b : ℕ) (t y : List ℕ) → IsByteEscape b t
    → escaped_byte start (mid_line m (t ++ y)) ≡ Ok (b, mid_line (along m 3) y)
unfolding escaped_byte
byte_read start m b t y (high, low, is_high, is_low, value, text) =
    rw (text, hex_true high is_high, hex_true low is_low, value) refl

byte_len : (b : ℕ) (t : List ℕ) → IsByteEscape b t → length t ≡ 3
byte_len b t (high, low, is_high, is_low, value, text) = rw text refl

trailing_byte_read : (start m : Marker) (b v : ℕ) (t y : List ℕ) → is_trailing b ≡ true → IsByteEscape b t
    → trailing_byte start v (mid_line m (t ++ y)) ≡ Ok (v * 64 + (b - 0x80), mid_line (along m 3) y)
unfolding trailing_byte
trailing_byte_read start m b v t y tail is_byte = rw (byte_read start m b t y is_byte, tail) refl

abbrev trailing_behind : Marker → ℕ → Result (ℕ × Cursor) Refusal → Result (ℕ × Cursor) Refusal
trailing_behind start n r = r >>= λ x. trailing_bytes start n x.0 x.1

-- trailing bytes that are escaped are read
trailing_read : (start m : Marker) (bs : List ℕ) (v : ℕ) (t y : List ℕ) → AreTrailing bs → AreByteEscapes bs t
    → trailing_bytes start (length bs) v (mid_line m (t ++ y)) ≡ Ok (joined_bytes v bs, mid_line (along m (length t)) y)
unfolding trailing_bytes
trailing_read start m [] v t y tails e = rw (e, along_none m) refl
trailing_read start m (b ∷ bs) v t y (tail, tails) (percent_escape, more, is_byte, are_more, e) =
    let whole : t ++ y ≡ percent_escape ++ (more ++ y) = ap (λ u. u ++ y) e ∙ append_assoc percent_escape more y in
    ap (λ u. trailing_behind start (length bs) (trailing_byte start v (mid_line m u))) whole
    ∙ ap (trailing_behind start (length bs)) (trailing_byte_read start m b v percent_escape (more ++ y) tail is_byte)
    ∙ trailing_read start (along m 3) bs (v * 64 + (b - 0x80)) more y tails are_more
    ∙ ap (λ k. number_given (joined_bytes (v * 64 + (b - 0x80)) bs) (mid_line k y))
    (along_more m 3 (length more) (length t) (rw (e, length-append) (omega (arith, byte_len b percent_escape is_byte))))

-- the bytes after the first one are read, and the character that they all stand for
leading_read : (start : Marker) (b n c : ℕ) (s t : Cursor) → utf8_width b ≡ suc n
    → trailing_bytes start n (leading_bits b) s ≡ Ok (c, t) → is_encoded (suc n) c ≡ true
    → behind_leading_byte start b s ≡ Ok (c, t)
unfolding behind_leading_byte encoded_character
leading_read start b n c s t width read shortest =
    let some : nat_eq (suc n) 0 ≡ false = grind (arith, nat_tests) in
    let less : suc n - 1 ≡ n = omega arith in rw (width, some, less, read, shortest) refl

escape_parts : (c : ℕ) (b : Bytes c) (t : List ℕ) → AreByteEscapes (encode_utf8 c) t
    → AreByteEscapes (b.first ∷ b.others) t
escape_parts c b t h = rw b.is at h

behind_first_byte : Marker → Result (ℕ × Cursor) Refusal → Result (ℕ × Cursor) Refusal
behind_first_byte start r = r >>= λ b. behind_leading_byte start b.0 b.1

escape_bytes_read : (start m : Marker) (c : ℕ) (b : Bytes c) (t y : List ℕ) → AreByteEscapes (b.first ∷ b.others) t
    → percent_escape start (mid_line m (t ++ y)) ≡ Ok (c, mid_line (along m (length t)) y)
unfolding percent_escape behind_first_byte
escape_bytes_read start m c b t y (percent_escape, more, is_byte, are_more, e) =
    let whole : t ++ y ≡ percent_escape ++ (more ++ y) = ap (λ u. u ++ y) e ∙ append_assoc percent_escape more y in
    let len : length t ≡ 3 + length more = rw (e, length-append)
    (omega (arith, byte_len b.first percent_escape is_byte)) in
    ap (λ u. behind_first_byte start (escaped_byte start (mid_line m u))) whole
    ∙ ap (behind_first_byte start) (byte_read start m b.first percent_escape (more ++ y) is_byte)
    ∙ leading_read start b.first (length b.others) c (mid_line (along m 3) (more ++ y))
    (mid_line (along m (length t)) y) b.width (trailing_read start (along m 3) b.others (leading_bits b.first) more y
    b.trailing are_more ∙ ap (λ k. number_given (joined_bytes (leading_bits b.first) b.others) (mid_line k y))
    (along_more m 3 (length more) (length t) len) ∙ ap (λ v. number_given v (mid_line (along m (length t)) y)) b.says)
    b.shortest

-- a character that is escaped is read
escape_read : (start m : Marker) (c : ℕ) (t y : List ℕ) → IsScalarValue c → AreByteEscapes (encode_utf8 c) t
    → percent_escape start (mid_line m (t ++ y)) ≡ Ok (c, mid_line (along m (length t)) y)
escape_read start m c t y scalar h =
    escape_bytes_read start m c (bytes_of c scalar) t y (escape_parts c (bytes_of c scalar) t h)

escape_begins : (c : ℕ) (b : Bytes c) (t y : List ℕ) → AreByteEscapes (b.first ∷ b.others) t
    → slice_index (t ++ y) 0 ≡ percent_sign
escape_begins c b t y (percent_escape, more, (high, low, is_high, is_low, value, text), are_more, e) = rw (e, text) refl

pub escape_first : (c : ℕ) (t y : List ℕ) → IsScalarValue c → AreByteEscapes (encode_utf8 c) t
    → slice_index (t ++ y) 0 ≡ percent_sign
escape_first c t y scalar h = escape_begins c (bytes_of c scalar) t y (escape_parts c (bytes_of c scalar) t h)

-- a character, or its escape, is read
pub character_read : (set : ℕ → Bool) (start m : Marker) (c : ℕ) (t y : List ℕ) → IsCharacter set c t
    → uri_character start (mid_line m (t ++ y)) ≡ Ok (c, mid_line (along m (length t)) y)
unfolding uri_character
character_read set start m c t y v6 = grind (arith, nat_tests, escape_first, escape_read)

pub character_first : (set : UriSet) (c : ℕ) (t y : List ℕ) → IsCharacter (is_in_set set) c t
    → is_in_set set (slice_index (t ++ y) 0) ≡ true
character_first set c t y (inl (in_set, plain, e)) = rw e in_set
character_first set c t y (inr (scalar, escaped)) = rw (escape_first c t y scalar escaped) (grind arith)

-- spelled characters are read, up to one that is none of the set
pub decoded_read : (set : UriSet) (start m : Marker) (v t x : List ℕ) → IsDecoded (is_in_set set) v t
    → is_in_set set (slice_index x 0) ≡ false
    → decoded_characters set start 0 m (t ++ x) ≡ Ok (encode_utf8_all v, mid_line (along m (length t)) x)
decoded_read set start m [] t x e ends = rw (e, along_none m) (ends_at set start m x ends)
decoded_read set start m (c ∷ v) t x (character, more, is, others, e) ends =
    let there = along m (length character) in
    ap (decoded_characters set start 0 m) (ap (λ u. u ++ x) e ∙ append_assoc character more x)
    ∙ decoded_one_more set start m (character ++ (more ++ x)) (character_first set c character (more ++ x) is)
    ∙ ap (reads_on set start) (character_read (is_in_set set) start m c character (more ++ x) is)
    ∙ ap (with_front (encode_utf8 c)) (decoded_read set start there v more x others ends)
    ∙ ap (λ k. text_given (encode_utf8 c ++ encode_utf8_all v) (mid_line k x))
    (along_more m (length character) (length more) (length t) (rw (e, length-append) refl))
