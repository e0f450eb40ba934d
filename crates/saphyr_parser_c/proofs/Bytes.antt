-- Bytes of a text that comes in pieces: the whole characters at their front, and the rest.
use Rattle.std.proofs.Common.{◌≡◌, ◌∙◌, ◌≤◌, ℕ, List, [], ◌++◌, ap, append-nil, length, subst, sym}
use Rattle.std.specs.Prelude.{IsUtf8, drop, take}
use Rattle.std.specs.Str.{chars}
use Rattle.std.proofs.lemmas.Str.{IsUtf8-append, IsUtf8-encode, chars-append}
use Rattle.std.proofs.lemmas.List.{append_assoc, take-append-drop}
use Rattle.saphyr_parser_c.specs.Encoding.{IsCutCharacter, IsUtf8SoFar}

-- what comes after the front comes after all of the bytes, where the rest waits
pub rest_waits : {A : Type 0} (old new : List ℕ → A) (front rest bytes : List ℕ) → front ++ rest ≡ bytes
    → IsUtf8 front → ((later : List ℕ) → new later ≡ old (chars front ++ later))
    → (later : List ℕ) → new (chars (rest ++ later)) ≡ old (chars (bytes ++ later))
rest_waits old new front rest bytes e utf8 added later =
    added (chars (rest ++ later))
    ∙ ap old (sym (chars-append front (rest ++ later) utf8))
    ∙ ap (λ (bs : List ℕ). old (chars bs)) (sym (append_assoc front rest later))
    ∙ ap (λ (bs : List ℕ). old (chars (bs ++ later))) e

-- the first n bytes and the other bytes are all of them
pub halves_join : (n : ℕ) (front back rest bytes : List ℕ) → front ≡ take n bytes → back ≡ drop n bytes → rest ≡ back
    → front ++ rest ≡ bytes
halves_join n front back rest bytes is_front is_back is_rest =
    ap (λ (bs : List ℕ). bs ++ rest) is_front
    ∙ ap (λ (bs : List ℕ). take n bytes ++ bs) (is_rest ∙ is_back)
    ∙ take-append-drop n bytes

-- what comes after the front waits
pub rest_is_cut : (n : ℕ) (back rest bytes : List ℕ) → back ≡ drop n bytes → rest ≡ back
    → length (drop n bytes) ≤ 3 → IsCutCharacter (drop n bytes) → (length rest ≤ 3) × IsCutCharacter rest
rest_is_cut n back rest bytes is_back is_rest short cut =
    subst (λ (bs : List ℕ). (length bs ≤ 3) × IsCutCharacter bs) (sym (is_rest ∙ is_back)) (short, cut)

-- with the rest of a cut character, all bytes are UTF-8
pub is_utf8_so_far : (n : ℕ) (bytes : List ℕ) → IsUtf8 (take n bytes) → IsCutCharacter (drop n bytes)
    → IsUtf8SoFar bytes
is_utf8_so_far n bytes front (c, rest, scalar, some, is) =
    let same : take n bytes ++ (drop n bytes ++ rest) ≡ bytes ++ rest =
    sym (append_assoc (take n bytes) (drop n bytes) rest)
    ∙ ap (λ (bs : List ℕ). bs ++ rest) (take-append-drop n bytes) in (
      rest,
      subst IsUtf8 same
          (IsUtf8-append (take n bytes) (drop n bytes ++ rest) front (subst IsUtf8 (sym is) (IsUtf8-encode c scalar))),
    )

-- so is a text
pub text_is_utf8_so_far : (text : List ℕ) → IsUtf8 text → IsUtf8SoFar text
text_is_utf8_so_far text utf8 = ([], subst IsUtf8 (sym (append-nil text)) utf8)
