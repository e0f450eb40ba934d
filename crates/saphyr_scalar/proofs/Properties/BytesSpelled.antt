-- What is read as escaped bytes is spelled so.
use Rattle.saphyr_scalar.proofs.Common.{◌≡◌, ℕ, zero, suc, ◌+◌, ◌-◌, ◌*◌, true, List, [], ◌∷◌, ◌++◌, length, length-append, cond, Ok, refl, sym, ap, ◌∙◌, arith, percent_sign, is_hex, IsHex, hex_value, Marker, Cursor, along}
use Rattle.saphyr_scalar.specs.Steps.Quoted.{mid_line}
use Rattle.saphyr_scalar.specs.Steps.Tag.{escaped_byte, is_trailing, trailing_byte, trailing_bytes}
use Rattle.saphyr_scalar.specs.Spelling.Tag.{IsByteEscape, AreByteEscapes}
use Rattle.saphyr_scalar.proofs.Moving.{along_none, along_more}
use Rattle.saphyr_scalar.proofs.Properties.EscapedBytes.{AreTrailing, joined_bytes}
use Rattle.saphyr_scalar.proofs.Steps.{bind_ok, ok_same, cond_ok}

hex_is : (c : ℕ) → is_hex c ≡ true → IsHex c
hex_is c h = grind arith

pub record ByteOf (b : ℕ) (m : Marker) (xs : List ℕ) (u : Cursor) : Type 0 where
  pub high : ℕ
  pub low : ℕ
  pub is_high : is_hex high ≡ true
  pub is_low : is_hex low ≡ true
  pub value : b ≡ hex_value high * 16 + hex_value low
  pub text : xs ≡ percent_sign ∷ high ∷ low ∷ u.rest
  pub place : u ≡ mid_line (along m 3) u.rest

pub byte_spelled : (start m : Marker) (xs : List ℕ) (b : ℕ) (u : Cursor)
    → escaped_byte start (mid_line m xs) ≡ Ok (b, u) → ByteOf b m xs u
unfolding escaped_byte
byte_spelled start m xs b u h = grind arith

pub record TrailingOf (n v w : ℕ) (m : Marker) (xs : List ℕ) (u : Cursor) : Type 0 where
  pub bytes : List ℕ
  pub piece : List ℕ
  pub count : length bytes ≡ n
  pub trailing : AreTrailing bytes
  pub says : joined_bytes v bytes ≡ w
  pub escaped : AreByteEscapes bytes piece
  pub text : xs ≡ piece ++ u.rest
  pub place : u ≡ mid_line (along m (length piece)) u.rest

pub record TrailingByte (v w : ℕ) (m : Marker) (xs : List ℕ) (u : Cursor) : Type 0 where
  pub byte : ℕ
  pub trailing : is_trailing byte ≡ true
  pub says : v * 64 + (byte - 0x80) ≡ w
  pub is : ByteOf byte m xs u

trailing_byte_spelled : (start m : Marker) (v : ℕ) (xs : List ℕ) (w : ℕ) (u : Cursor)
    → trailing_byte start v (mid_line m xs) ≡ Ok (w, u) → TrailingByte v w m xs u
unfolding trailing_byte
trailing_byte_spelled start m v xs w u h = grind (arith, bind_ok, cond, cond_ok, byte_spelled)

pub escape_of_byte : (b : ℕ) (m : Marker) (xs : List ℕ) (u : Cursor) (is : ByteOf b m xs u)
    → IsByteEscape b (percent_sign ∷ is.high ∷ is.low ∷ [])
escape_of_byte b m xs u is = (is.high, is.low, hex_is is.high is.is_high, hex_is is.low is.is_low, is.value, refl)

-- The trailing bytes that were read are escaped one behind the other. By induction on how many are left: the first is
-- an escape of three characters, and the others are read from behind it.
pub trailing_spelled : (start m : Marker) (n v : ℕ) (xs : List ℕ) (w : ℕ) (u : Cursor)
    → trailing_bytes start n v (mid_line m xs) ≡ Ok (w, u) → TrailingOf n v w m xs u
unfolding trailing_bytes
trailing_spelled start m zero v xs w u h =
    let same = ok_same (v, mid_line m xs) (w, u) h in
    let left : mid_line m xs ≡ u = ap (λ (x : ℕ × Cursor). x.1) same in
    let rest : xs ≡ u.rest = ap (λ (x : Cursor). x.rest) left in
    record {
      bytes = [];
      piece = [];
      count = refl;
      trailing = tt;
      says = ap (λ (x : ℕ × Cursor). x.0) same;
      escaped = refl;
      text = rest;
      place = sym left ∙ ap (mid_line m) rest ∙ ap (λ k. mid_line k u.rest) (sym (along_none m));
    }
trailing_spelled start m (suc n) v xs w u h =
    let one = bind_ok (trailing_byte start v (mid_line m xs)) (λ (x : ℕ × Cursor). trailing_bytes start n x.0 x.1)
    (w, u) h in
    let first = trailing_byte_spelled start m v xs one.given.0 one.given.1 one.first in
    let byte = first.is in
    let here = one.given.1 in
    let next = rw byte.place at one.next in
    let others = trailing_spelled start (along m 3) n one.given.0 here.rest w u next in
    let escape = 37 ∷ byte.high ∷ byte.low ∷ [] in
    record {
      bytes = first.byte ∷ others.bytes;
      piece = escape ++ others.piece;
      count = ap (λ k. suc k) others.count;
      trailing = (first.trailing, others.trailing);
      says = ap (λ k. joined_bytes k others.bytes) first.says ∙ others.says;
      escaped = (escape, others.piece, escape_of_byte first.byte m xs here byte, others.escaped, refl);
      text = byte.text ∙ ap (λ r. 37 ∷ byte.high ∷ byte.low ∷ r) others.text;
      place = cc (along_more m 3 (length others.piece) (length (escape ++ others.piece))
          (omega (arith, length-append escape others.piece)));
    }
