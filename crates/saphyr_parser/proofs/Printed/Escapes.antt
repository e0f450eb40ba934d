-- Scalars' texts, written in pieces.
use Rattle.std.proofs.Common.{◌≡◌, ℕ, ◌+◌, ◌<◌, List, [], ◌∷◌, ◌++◌, length, take, slice_index, Option, refl, sym, ap, ◌∙◌, append_assoc, append-nil}
use Rattle.std.proofs.lemmas.List.{take_more}
use Rattle.std.specs.Io.KnownBytes.{Appends}
use Rattle.saphyr_parser.specs.Printed.{printed_byte, printed_bytes}
use Rattle.saphyr_parser.specs.Written.{TakesSome, TakesUpTo}
use Rattle.saphyr_parser.proofs.Printed.Written.{takes_piece, loses_piece}

pub escaped-append : (xs ys : List ℕ) → printed_bytes (xs ++ ys) ≡ printed_bytes xs ++ printed_bytes ys
escaped-append [] ys = refl
escaped-append (x ∷ xs) ys =
    ap (λ l. printed_byte x ++ l) (escaped-append xs ys)
    ∙ sym (append_assoc (printed_byte x) (printed_bytes xs) (printed_bytes ys))

pub plain_more : (xs : List ℕ) (i : ℕ) → i < length xs → printed_byte (slice_index xs i) ≡ slice_index xs i ∷ []
    → printed_bytes (take i xs) ≡ take i xs → printed_bytes (take (i + 1) xs) ≡ take (i + 1) xs
plain_more xs i l e p =
    let t : take (i + 1) xs ≡ take i xs ++ (slice_index xs i ∷ []) = take_more xs i 0 l in
    rw t (escaped-append (take i xs) (slice_index xs i ∷ []) ∙ ap (λ k. k ++ (printed_byte (slice_index xs i) ++ [])) p
    ∙ ap (λ k. take i xs ++ k) (append-nil (printed_byte (slice_index xs i)) ∙ e))

-- what is still to be written begins with bytes that need no escape
printed_behind_plain : (rest plain others : List ℕ) → rest ≡ plain ++ others → printed_bytes plain ≡ plain
    → printed_bytes rest ≡ plain ++ printed_bytes others
printed_behind_plain rest plain others e p =
    ap printed_bytes e ∙ escaped-append plain others ∙ ap (λ l. l ++ printed_bytes others) p

pub plain_written : (a b c : Option (List ℕ)) (text rest plain others : List ℕ) → rest ≡ plain ++ others
    → printed_bytes plain ≡ plain → TakesUpTo a b (printed_bytes text) (printed_bytes rest) → Appends b c plain
    → TakesUpTo a c (printed_bytes text) (printed_bytes others)
plain_written a b c text rest plain others e p up q =
    takes_piece a b c _ _ _ _ (printed_behind_plain rest plain others e p) up q

pub plain_lost : (a b c : Option (List ℕ)) (text rest plain others : List ℕ) → rest ≡ plain ++ others
    → printed_bytes plain ≡ plain → TakesUpTo a b (printed_bytes text) (printed_bytes rest) → TakesSome b c plain
    → TakesSome a c (printed_bytes text)
plain_lost a b c text rest plain others e p up q =
    loses_piece a b c _ _ _ _ (printed_behind_plain rest plain others e p) up q

-- the first of them is escaped
first_escaped : (byte : ℕ) (behind others : List ℕ) → others ≡ byte ∷ behind
    → printed_bytes others ≡ printed_byte byte ++ printed_bytes behind
first_escaped byte behind others e = ap printed_bytes e

pub escape_written : (a b c : Option (List ℕ)) (text others behind : List ℕ) (byte : ℕ) → others ≡ byte ∷ behind
    → TakesUpTo a b (printed_bytes text) (printed_bytes others) → Appends b c (printed_byte byte)
    → TakesUpTo a c (printed_bytes text) (printed_bytes behind)
escape_written a b c text others behind byte e up q =
    takes_piece a b c _ _ _ _ (first_escaped byte behind others e) up q

pub escape_lost : (a b c : Option (List ℕ)) (text others behind : List ℕ) (byte : ℕ) → others ≡ byte ∷ behind
    → TakesUpTo a b (printed_bytes text) (printed_bytes others) → TakesSome b c (printed_byte byte)
    → TakesSome a c (printed_bytes text)
escape_lost a b c text others behind byte e up q = loses_piece a b c _ _ _ _ (first_escaped byte behind others e) up q
