-- Percent escapes, read a byte at a time, and the characters of uris.
use Rattle.saphyr_scalar.proofs.Common.{◌≡◌, ℕ, zero, suc, ◌+◌, ◌-◌, ◌*◌, ◌^◌, ◌<◌, true, false, List, [], ◌∷◌, ◌++◌, length, drop, length-drop, slice_index, nat_eq, Result, Ok, Err, refl, sym, ap, ◌∙◌, arith, subst, encode_utf8, pow-le-pow_right, pow_more, nat_tests, append-nil, IsErrAnd, Marker, Refusal, UriSet, Uri, Suffix, Cursor, ◌>>=◌, along, Gives, by_test}
use Rattle.saphyr_scalar.specs.Steps.Quoted.{with_front, mid_line}
use Rattle.saphyr_scalar.specs.Steps.Tag.{is_in_set, byte_value, shows_byte, is_encoded, escaped_byte, utf8_width, leading_bits, trailing_byte, trailing_bytes, encoded_character, behind_leading_byte, percent_escape, uri_character, uri_tail, decoded_characters, decoded_at}
use Rattle.saphyr_scalar.proofs.Moving.{along_none, along_more, drop_more, bind_same}
use Rattle.saphyr_scalar.proofs.Quoted.Inside.{front_twice}
use Rattle.saphyr_scalar.proofs.Steps.{no_result}
use Rattle.saphyr_scalar.proofs.EscapeEnds.{EscapeEnds, refused_ends, read, then_ends}

trailing_first : (start : Marker) (n i v : ℕ) (s : Cursor) → i < n
    → trailing_bytes start (n - i) v s ≡ (trailing_byte start v s >>= λ x. trailing_bytes start (n - (i + 1)) x.0 x.1)
unfolding trailing_bytes
trailing_first start n i v s lt = grind arith

-- a byte that was read of several
pub trailing_on : (start : Marker) (n i v w : ℕ) (s t : Cursor) → i < n → trailing_byte start v s ≡ Ok (w, t)
    → trailing_bytes start (n - (i + 1)) w t ≡ trailing_bytes start (n - i) v s
trailing_on start n i v w s t lt e =
    sym (trailing_first start n i v s lt ∙ ap (λ r. r >>= λ x. trailing_bytes start (n - (i + 1)) x.0 x.1) e)

pub trailing_refused : (start : Marker) (n i v : ℕ) (s : Cursor) (r : Refusal) → i < n → trailing_byte start v s ≡ Err r
    → trailing_bytes start (n - i) v s ≡ Err r
trailing_refused start n i v s r lt e = cc (trailing_first start n i v s lt)

-- what one byte more says
pub bits_below : (i v w : ℕ) → v < 256 * 64 ^ i → w < 64 * v + 64 → w < 256 * 64 ^ (i + 1)
bits_below i v w lt more = omega (arith, pow_more 64 i)

-- what three bytes say is a number of 24 bits
pub bits_fit : (i v : ℕ) → v < 256 * 64 ^ i → i < 3 → v < 2 ^ 24
bits_fit i v lt few = grind (arith, pow-le-pow_right)

-- a refusal that `?` hands on
pub gives_refused : {X Y : Type 0} (view : X → Y) (r : Result X Refusal) (f : Result Y Refusal) (refusal : Refusal)
    → IsErrAnd r (λ e. e ≡ refusal) → f ≡ Err refusal → Gives view r f
gives_refused view (Ok x) f refusal h e = absurd h
gives_refused view (Err r) f refusal h e = e ∙ ap Err (sym h)

-- Where an escape ends.

places_added : (m : Marker) (xs : List ℕ) (a b n : ℕ) → n ≡ a + b
    → mid_line (along (along m a) b) (drop b (drop a xs)) ≡ mid_line (along m n) (drop n xs)
places_added m xs a b n e = cc (along_more m a b n e, drop_more b a n xs e)

-- what is read after a place is read after the one before it
then_further : (m : Marker) (xs : List ℕ) (a b n : ℕ) (r : Result (ℕ × Cursor) Refusal) → n ≡ a + b
    → EscapeEnds (along m a) (drop a xs) b r → EscapeEnds m xs n r
then_further m xs a b n r e h x is = h x is ∙ places_added m xs a b n e

byte_place : (start m : Marker) (xs : List ℕ) → EscapeEnds m xs 3 (escaped_byte start (mid_line m xs))
unfolding escaped_byte
byte_place start m xs = by_test (shows_byte xs) _ _ (EscapeEnds m xs 3) (λ _. read m xs 3 (byte_value xs))
    (λ _. refused_ends m xs 3 _)

trailing_place : (start m : Marker) (v : ℕ) (xs : List ℕ) → EscapeEnds m xs 3 (trailing_byte start v (mid_line m xs))
unfolding trailing_byte
trailing_place start m v xs = grind (arith, then_ends, by_test, byte_place, read, refused_ends)

bytes_place : (start m : Marker) (n v : ℕ) (xs : List ℕ)
    → EscapeEnds m xs (3 * n) (trailing_bytes start n v (mid_line m xs))
unfolding trailing_bytes
bytes_place start m zero v xs = subst (λ x. EscapeEnds m xs 0 (Ok (v, mid_line x xs))) (along_none m) (read m xs 0 v)
bytes_place start m (suc n) v xs = then_ends m xs (3 * suc n) (trailing_byte start v (mid_line m xs)) _ (λ b is.
    subst (λ x. EscapeEnds m xs (3 * suc n) (trailing_bytes start n b.0 x)) (sym (trailing_place start m v xs b is))
    (then_further m xs 3 (3 * n) (3 * suc n) _ (omega arith) (bytes_place start (along m 3) n b.0 (drop 3 xs))))

encoded_place : (start m : Marker) (width v n : ℕ) (xs : List ℕ)
    → EscapeEnds m xs n (encoded_character start width v (mid_line (along m n) (drop n xs)))
unfolding encoded_character
encoded_place start m width v n xs = by_test (is_encoded width v) _ _ (EscapeEnds m xs n) (λ _. read m xs n v)
    (λ _. refused_ends m xs n _)

leading_place : (start m : Marker) (b : ℕ) (xs : List ℕ)
    → EscapeEnds m xs (3 * utf8_width b) (behind_leading_byte start b (mid_line (along m 3) (drop 3 xs)))
unfolding behind_leading_byte
leading_place start m b xs =
    let w = utf8_width b in
    by_test (nat_eq w 0) _ _ (EscapeEnds m xs (3 * w))
    (λ _. refused_ends m xs (3 * w) _)
    (λ some. then_ends m xs (3 * w) (trailing_bytes start (w - 1) (leading_bits b) (mid_line (along m 3) (drop 3 xs))) _
    (λ x is.
    let n : 3 * w ≡ 3 + 3 * (w - 1) = grind (arith, nat_tests) in
    let place : x.1 ≡ mid_line (along m (3 * w)) (drop (3 * w) xs) = bytes_place start (along m 3) (w - 1)
    (leading_bits b) (drop 3 xs) x is ∙ places_added m xs 3 (3 * (w - 1)) (3 * w) n in
    rw place (encoded_place start m w x.0 (3 * w) xs)))

escape_place : (start m : Marker) (xs : List ℕ)
    → EscapeEnds m xs (3 * utf8_width (byte_value xs)) (percent_escape start (mid_line m xs))
unfolding percent_escape escaped_byte
escape_place start m xs = by_test (shows_byte xs) _ _
    (λ (r : Result (ℕ × Cursor) Refusal). EscapeEnds m xs (3 * utf8_width (byte_value xs))
    (r >>= λ (b : ℕ × Cursor). behind_leading_byte start b.0 b.1))
    (λ _. leading_place start m (byte_value xs) xs)
    (λ _. refused_ends m xs (3 * utf8_width (byte_value xs)) _)

-- Characters of a set, read one at a time.

from_here : (start : Marker) (s : Cursor) → uri_character start s ≡ uri_character start (mid_line s.mark s.rest)
unfolding uri_character percent_escape escaped_byte
from_here start s = refl

leading_some : (start : Marker) (b : ℕ) (s : Cursor) (x : ℕ × Cursor) → behind_leading_byte start b s ≡ Ok x
    → 0 < utf8_width b
unfolding behind_leading_byte
leading_some start b s x = grind arith

-- an escape has a byte, where one is read
escape_some : (start : Marker) (s : Cursor) (x : ℕ × Cursor) → percent_escape start s ≡ Ok x
    → 0 < utf8_width (byte_value s.rest)
unfolding percent_escape escaped_byte
escape_some start s x = grind (arith, by_test, leading_some, no_result)

tail_of_escape : (xs : List ℕ) → nat_eq (slice_index xs 0) 37 ≡ true → 0 < utf8_width (byte_value xs)
    → 3 * utf8_width (byte_value xs) ≡ 1 + uri_tail xs
tail_of_escape xs h some = rw h (omega arith)

character_place : (start m : Marker) (xs : List ℕ)
    → EscapeEnds m xs (1 + uri_tail xs) (uri_character start (mid_line m xs))
unfolding uri_character
character_place start m xs x =
    grind (arith, nat_tests, escape_place, tail_of_escape, escape_some, read)

-- the characters of an escape are passed over
escape_passed_over : (set : UriSet) (start : Marker) (k : ℕ) (m : Marker) (xs : List ℕ)
    → decoded_characters set start k m xs ≡ decoded_characters set start 0 (along m k) (drop k xs)
unfolding decoded_characters
escape_passed_over set start zero m xs = ap (λ x. decoded_characters set start 0 x xs) (sym (along_none m))
escape_passed_over set start (suc k) m [] = cc (along_none (along m (suc k)))
escape_passed_over set start (suc k) m (c ∷ cs) = escape_passed_over set start k (along m 1) cs
    ∙ ap (λ x. decoded_characters set start 0 x (drop k cs)) (along_more m 1 k (suc k) (omega arith))

-- what holds of the characters of a URI and of those of a suffix
pub by_set : (P : UriSet → Type 0) → P Uri → P Suffix → (set : UriSet) → P set
by_set P uri suffix Uri = uri
by_set P uri suffix Suffix = suffix

no_nul : (set : UriSet) → is_in_set set 0 ≡ true → ⊥
no_nul set h = grind arith

-- a place that shows a character of the set is a character
pub has_left : (set : UriSet) (xs : List ℕ) → is_in_set set (slice_index xs 0) ≡ true → 0 < length xs
has_left set [] h = absurd (no_nul set h)
has_left set (c ∷ cs) h = omega arith

-- one character and what is read after it
pub decoded_one_more : (set : UriSet) (start m : Marker) (xs : List ℕ) → is_in_set set (slice_index xs 0) ≡ true
    → decoded_characters set start 0 m xs
    ≡ (uri_character start (mid_line m xs) >>= λ x. with_front (encode_utf8 x.0) (decoded_at set start x.1))
unfolding decoded_characters
decoded_one_more set start m [] h = absurd (no_nul set h)
decoded_one_more set start m (c ∷ cs) h = rw h (bind_same (uri_character start (mid_line m (c ∷ cs))) _ _ (λ x is.
    let k = uri_tail (c ∷ cs) in
    let place : x.1 ≡ mid_line (along m (1 + k)) (drop (1 + k) (c ∷ cs)) = character_place start m (c ∷ cs) x is in
    let one : suc k ≡ 1 + k = omega arith in
    ap (with_front (encode_utf8 x.0)) (escape_passed_over set start k (along m 1) cs
    ∙ ap (λ y. decoded_characters set start 0 y (drop k cs)) (along_more m 1 k (1 + k) refl)
    ∙ ap (λ n. decoded_characters set start 0 (along m (1 + k)) (drop n (c ∷ cs))) one
    ∙ ap (decoded_at set start) (sym place))))

abbrev pub reads_on : UriSet → Marker → Result (ℕ × Cursor) Refusal → Result (List ℕ × Cursor) Refusal
reads_on set start r = r >>= λ x. with_front (encode_utf8 x.0) (decoded_at set start x.1)

from_state : (set : UriSet) (start : Marker) (s : Cursor) → is_in_set set (slice_index s.rest 0) ≡ true
    → decoded_at set start s ≡ reads_on set start (uri_character start s)
from_state set start s h = cc (decoded_one_more set start s.mark s.rest h, from_here start s)

-- a character that was put after a text
pub character_on : (set : UriSet) (start : Marker) (text : List ℕ) (s t : Cursor) (c : ℕ)
    → is_in_set set (slice_index s.rest 0) ≡ true → uri_character start s ≡ Ok (c, t)
    → with_front (text ++ encode_utf8 c) (decoded_at set start t) ≡ with_front text (decoded_at set start s)
character_on set start text s t c h e = sym (ap (with_front text) (from_state set start s h ∙ ap (reads_on set start) e)
    ∙ front_twice text (encode_utf8 c) _)

pub character_refused : (set : UriSet) (start : Marker) (text : List ℕ) (s : Cursor) (r : Refusal)
    → is_in_set set (slice_index s.rest 0) ≡ true → uri_character start s ≡ Err r
    → with_front text (decoded_at set start s) ≡ Err r
character_refused set start text s r h e = ap (with_front text) (from_state set start s h ∙ ap (reads_on set start) e)

pub character_shorter : (start : Marker) (s t : Cursor) (c : ℕ) → 0 < length s.rest → uri_character start s ≡ Ok (c, t)
    → length t.rest < length s.rest
character_shorter start s t c some e =
    rw (character_place start s.mark s.rest (c, t) (sym (from_here start s) ∙ e), length-drop) (omega arith)

pub ends_at : (set : UriSet) (start m : Marker) (xs : List ℕ) → is_in_set set (slice_index xs 0) ≡ false
    → decoded_characters set start 0 m xs ≡ Ok ([], mid_line m xs)
unfolding decoded_characters
ends_at set start m [] h = cc (along_none m)
ends_at set start m (c ∷ cs) h = rw h refl

-- no character of the set is next
pub characters_end : (set : UriSet) (start : Marker) (text : List ℕ) (s : Cursor)
    → is_in_set set (slice_index s.rest 0) ≡ false
    → with_front text (decoded_at set start s) ≡ Ok (text, mid_line s.mark s.rest)
characters_end set start text s h = ap (with_front text) (ends_at set start s.mark s.rest h) ∙ rw (append-nil text) refl
