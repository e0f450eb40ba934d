-- What is read as a percent escape is spelled so, and so are characters with escapes.
use Rattle.saphyr_scalar.proofs.Common.{◌≡◌, ◌≢◌, ℕ, zero, suc, ◌-◌, ◌<◌, ◌≤◌, Bool, true, false, List, [], ◌∷◌, ◌++◌, length, length-append, append_assoc, drop, slice_index, nat_eq, Result, Ok, refl, sym, ap, ◌∙◌, arith, subst, encode_utf8_all, inl, inr, encode_utf8, len_utf8, nat_tests, Marker, Refusal, UriSet, Cursor, along, and_true_left, by_test}
use Rattle.saphyr_scalar.specs.Values.Escapes.{IsScalarValue, is_scalar_value}
use Rattle.saphyr_scalar.specs.declared.scalar.fault.FaultText.TheVariants as fault
use Rattle.saphyr_scalar.specs.Steps.Quoted.{with_front, mid_line}
use Rattle.saphyr_scalar.specs.Steps.Tag.{is_in_set, escaped_byte, utf8_width, leading_bits, is_encoded, trailing_bytes, encoded_character, behind_leading_byte, percent_escape, uri_character, decoded_characters, decoded_at}
use Rattle.saphyr_scalar.specs.Spelling.Tag.{AreByteEscapes, IsCharacter, IsDecoded}
use Rattle.saphyr_scalar.proofs.Moving.{along_none, along_more}
use Rattle.saphyr_scalar.proofs.Properties.PercentEscapes.{decoded_one_more, ends_at, has_left, character_shorter}
use Rattle.saphyr_scalar.proofs.Steps.{bind_ok, Chosen, ok_same, cond_ok, cond_not}
use Rattle.saphyr_scalar.proofs.Properties.BytesSpelled.{byte_spelled, escape_of_byte, trailing_spelled}
use Rattle.saphyr_scalar.proofs.Properties.UniqueBytes.{scalar_is, bytes_unique}

pub record LeadingOf (start : Marker) (b c : ℕ) (s u : Cursor) : Type 0 where
  pub some : nat_eq (utf8_width b) 0 ≡ false
  pub trailing : trailing_bytes start (utf8_width b - 1) (leading_bits b) s ≡ Ok (c, u)
  pub shortest : is_encoded (utf8_width b) c ≡ true

encoded_spelled : (start : Marker) (w v c : ℕ) (s u : Cursor) → encoded_character start w v s ≡ Ok (c, u)
    → Chosen {A = ℕ × Cursor} (is_encoded w v) (v, s) (c, u)
unfolding encoded_character
encoded_spelled start w v c s u h =
    cond_ok (is_encoded w v) (v, s) (c, u)
    (record { text = fault.TagEscapeCodePoint; mark = start; may_change = false }) h

leading_spelled : (start : Marker) (b c : ℕ) (s u : Cursor) → behind_leading_byte start b s ≡ Ok (c, u)
    → LeadingOf start b c s u
unfolding behind_leading_byte
leading_spelled start b c s u h = grind (arith, cond_not, nat_eq, bind_ok, encoded_spelled)

pub record EscapeOf (c : ℕ) (m : Marker) (xs : List ℕ) (u : Cursor) : Type 0 where
  pub piece : List ℕ
  pub scalar : IsScalarValue c
  pub escaped : AreByteEscapes (encode_utf8 c) piece
  pub text : xs ≡ piece ++ u.rest
  pub place : u ≡ mid_line (along m (length piece)) u.rest

-- A character that was read by its bytes is spelled by the escapes of exactly its UTF-8. The first byte tells how many
-- others there are. Since the character is encoded in so many bytes, only these bytes give it (`bytes_unique`).
pub escape_spelled : (start m : Marker) (xs : List ℕ) (c : ℕ) (u : Cursor)
    → percent_escape start (mid_line m xs) ≡ Ok (c, u) → EscapeOf c m xs u
unfolding percent_escape
escape_spelled start m xs c u h =
    let one = bind_ok (escaped_byte start (mid_line m xs)) (λ (b : ℕ × Cursor). behind_leading_byte start b.0 b.1)
    (c, u) h in
    let b = one.given.0 in
    let here = one.given.1 in
    let byte = byte_spelled start m xs b here one.first in
    let behind = leading_spelled start b c here u one.next in
    let w = utf8_width b in
    let read = rw byte.place at behind.trailing in
    let others = trailing_spelled start (along m 3) (w - 1) (leading_bits b) here.rest c u read in
    let some = behind.some in
    let count = others.count in
    let width : w ≡ suc (length others.bytes) = grind (arith, nat_tests) in
    let shortest : is_encoded (suc (length others.bytes)) c ≡ true = rw (← width) behind.shortest in
    let utf8 : encode_utf8 c ≡ b ∷ others.bytes = bytes_unique b c others.bytes width others.trailing others.says
    shortest in
    let percent_escape = 37 ∷ byte.high ∷ byte.low ∷ [] in
    let are : AreByteEscapes (b ∷ others.bytes) (percent_escape ++ others.piece) =
    (percent_escape, others.piece, escape_of_byte b m xs here byte, others.escaped, refl) in
    record {
      piece = percent_escape ++ others.piece;
      scalar = scalar_is c (and_true_left (is_scalar_value c) (nat_eq (len_utf8 c) w) behind.shortest);
      escaped = rw utf8 are;
      text = byte.text ∙ ap (λ r. 37 ∷ byte.high ∷ byte.low ∷ r) others.text;
      place = cc (along_more m 3 (length others.piece) (length (percent_escape ++ others.piece))
          (omega (arith, length-append percent_escape others.piece)));
    }

pub record CharacterOf (set : ℕ → Bool) (c : ℕ) (m : Marker) (xs : List ℕ) (u : Cursor) : Type 0 where
  pub piece : List ℕ
  pub is : IsCharacter set c piece
  pub text : xs ≡ piece ++ u.rest
  pub place : u ≡ mid_line (along m (length piece)) u.rest

first_of_set : (set : ℕ → Bool) (xs : List ℕ) → set 0 ≡ false → set (slice_index xs 0) ≡ true
    → xs ≡ slice_index xs 0 ∷ drop 1 xs
first_of_set set xs nul h = grind arith

pub character_spelled : (set : ℕ → Bool) (start m : Marker) (xs : List ℕ) (c : ℕ) (u : Cursor) → set 0 ≡ false
    → set (slice_index xs 0) ≡ true → uri_character start (mid_line m xs) ≡ Ok (c, u) → CharacterOf set c m xs u
unfolding uri_character
character_spelled set start m xs c u nul in_set = by_test (nat_eq (slice_index xs 0) 37) _ _
    (λ (r : Result (ℕ × Cursor) Refusal). r ≡ Ok (c, u) → CharacterOf set c m xs u) (λ _ h.
    let is = escape_spelled start m xs c u h in
    record { piece = is.piece; is = inr (is.scalar, is.escaped); text = is.text; place = is.place }) (λ plain h.
    let same = ok_same (slice_index xs 0, mid_line (along m 1) (drop 1 xs)) (c, u) h in
    let first : slice_index xs 0 ≡ c = ap (λ (x : ℕ × Cursor). x.0) same in
    let left : mid_line (along m 1) (drop 1 xs) ≡ u = ap (λ (x : ℕ × Cursor). x.1) same in
    let rest : drop 1 xs ≡ u.rest = ap (λ (x : Cursor). x.rest) left in
    let other : c ≢ 37 = λ (e : c ≡ 37). grind (arith, nat_tests) in
    record {
      piece = c ∷ [];
      is = inl (rw first at in_set, other, refl);
      text = first_of_set set xs nul in_set ∙ ap (λ (x : ℕ). x ∷ drop 1 xs) first ∙ ap (λ r. c ∷ r) rest;
      place = sym left ∙ ap (mid_line (along m 1)) rest;
    })

pub record DecodedOf (set : UriSet) (m : Marker) (xs text : List ℕ) (t : Cursor) : Type 0 where
  pub value : List ℕ
  pub piece : List ℕ
  pub is : IsDecoded (is_in_set set) value piece
  pub bytes : encode_utf8_all value ≡ text
  pub rest : xs ≡ piece ++ t.rest
  pub ends : is_in_set set (slice_index t.rest 0) ≡ false
  pub place : t ≡ mid_line (along m (length piece)) t.rest

nul_out : (set : UriSet) → is_in_set set 0 ≡ false
nul_out set = grind arith

decoded_none : (set : UriSet) (start m : Marker) (xs text : List ℕ) (t : Cursor)
    → is_in_set set (slice_index xs 0) ≡ false
    → decoded_characters set start 0 m xs ≡ Ok (text, t) → DecodedOf set m xs text t
decoded_none set start m xs text t stop h = grind (arith, ok_same, ends_at, along_none)

pub record OneMore (set : UriSet) (start m : Marker) (xs text : List ℕ) (t : Cursor) : Type 0 where
  pub c : ℕ
  pub here : Cursor
  pub others : List ℕ
  pub first : CharacterOf (is_in_set set) c m xs here
  pub shorter : length here.rest < length xs
  pub next : decoded_characters set start 0 (along m (length first.piece)) here.rest ≡ Ok (others, t)
  pub bytes : encode_utf8 c ++ others ≡ text

-- The first of the characters that were read, and those behind it. The two steps of the reading are taken apart, and
-- the second begins behind the spelling of the first.
one_character : (set : UriSet) (start m : Marker) (xs text : List ℕ) (t : Cursor)
    → is_in_set set (slice_index xs 0) ≡ true
    → decoded_characters set start 0 m xs ≡ Ok (text, t) → OneMore set start m xs text t
one_character set start m xs text t more h =
    let one = bind_ok (uri_character start (mid_line m xs))
    (λ (x : ℕ × Cursor). with_front (encode_utf8 x.0) (decoded_at set start x.1)) (text, t)
    (sym (decoded_one_more set start m xs more) ∙ h) in
    let c = one.given.0 in
    let here = one.given.1 in
    let first = character_spelled (is_in_set set) start m xs c here (nul_out set) more one.first in
    let two = bind_ok (decoded_at set start here) (λ (x : List ℕ × Cursor). Ok (encode_utf8 c ++ x.0, x.1)) (text, t)
    one.next in
    let same = ok_same (encode_utf8 c ++ two.given.0, two.given.1) (text, t) two.next in
    let left : two.given.1 ≡ t = ap (λ (x : List ℕ × Cursor). x.1) same in
    let there : decoded_characters set start 0 here.mark here.rest ≡ Ok (two.given.0, t) =
    two.first ∙ ap (λ (y : Cursor). let r : Result (List ℕ × Cursor) Refusal = Ok (two.given.0, y) in r) left in
    record {
      c = c;
      here = here;
      others = two.given.0;
      first = first;
      shorter = character_shorter start (mid_line m xs) here c (has_left set xs more) one.first;
      next = subst (λ (y : Cursor). decoded_characters set start 0 y.mark y.rest ≡ Ok (two.given.0, t))
          first.place there;
      bytes = ap (λ (x : List ℕ × Cursor). x.0) same;
    }

decoded_more : (set : UriSet) (start m : Marker) (xs text : List ℕ) (t : Cursor) (one : OneMore set start m xs text t)
    → DecodedOf set (along m (length one.first.piece)) one.here.rest one.others t → DecodedOf set m xs text t
decoded_more set start m xs text t one others =
    let first = one.first.piece in
    let piece = first ++ others.piece in
    record {
      value = one.c ∷ others.value;
      piece = piece;
      is = (first, others.piece, one.first.is, others.is, refl);
      bytes = ap (λ b. encode_utf8 one.c ++ b) others.bytes ∙ one.bytes;
      rest = one.first.text ∙ ap (λ r. first ++ r) others.rest ∙ sym (append_assoc first others.piece t.rest);
      ends = others.ends;
      place = cc (along_more m (length first) (length others.piece) (length piece) (length-append first others.piece));
    }

decoded_from : (set : UriSet) (start : Marker) (n : ℕ) (m : Marker) (xs text : List ℕ) (t : Cursor) → length xs ≤ n
    → decoded_characters set start 0 m xs ≡ Ok (text, t) → DecodedOf set m xs text t
decoded_from set start zero m xs text t le h =
    by_test {A = Unit {0}} (is_in_set set (slice_index xs 0)) tt tt (λ _. DecodedOf set m xs text t)
    (λ more. absurd (omega (arith, has_left set xs more))) (λ stop. decoded_none set start m xs text t stop h)
decoded_from set start (suc n) m xs text t le h =
    by_test {A = Unit {0}} (is_in_set set (slice_index xs 0)) tt tt (λ _. DecodedOf set m xs text t) (λ more.
    let one = one_character set start m xs text t more h in
    decoded_more set start m xs text t one
    (decoded_from set start n (along m (length one.first.piece)) one.here.rest one.others t
    (omega (arith, one.shorter)) one.next)) (λ stop. decoded_none set start m xs text t stop h)

-- characters of a set that were read
pub decoded_spelled : (set : UriSet) (start m : Marker) (xs text : List ℕ) (t : Cursor)
    → decoded_characters set start 0 m xs ≡ Ok (text, t) → DecodedOf set m xs text t
decoded_spelled set start m xs text t h = decoded_from set start (length xs) m xs text t (omega arith) h
