-- The characters of a URI that begin no escape, taken off in one piece.
use Rattle.saphyr_scalar.proofs.Common.{◌≡◌, ℕ, suc, ◌+◌, ◌≤◌, true, false, List, [], ◌∷◌, ◌++◌, length, take, drop, slice_index, Result, Ok, refl, ap, ◌∙◌, arith, encode_utf8_all, encode_utf8, prefix_len, nat_tests, percent_sign, Marker, Refusal, UriSet, Cursor, along, by_test, drop_shorter}
use Rattle.saphyr_input.proofs.WordRuns.{run_ends}
use Rattle.saphyr_scalar.specs.Steps.Quoted.{with_front, with_front_run}
use Rattle.saphyr_scalar.specs.Steps.Sets.{is_bare}
use Rattle.saphyr_scalar.specs.Steps.Tag.{is_in_set, percent_escape, uri_character, decoded_characters, decoded_at}
use Rattle.saphyr_scalar.proofs.Moving.{along_none, along_more}
use Rattle.saphyr_scalar.proofs.Quoted.Inside.{front_twice, no_front}

bare_passed : (set : UriSet) (start m : Marker) (c : ℕ) (cs : List ℕ) → is_bare set c ≡ true
    → decoded_characters set start 0 m (c ∷ cs) ≡ with_front (encode_utf8 c) (decoded_characters set start 0
    (along m 1) cs)
unfolding decoded_characters uri_character
bare_passed set start m c cs h = grind arith

abbrev DecodedPiece : UriSet → Marker → Marker → List ℕ → ℕ → Type 0
DecodedPiece set start m xs n = decoded_characters set start 0 m xs ≡ with_front (encode_utf8_all (take n xs))
    (decoded_characters set start 0 (along m n) (drop n xs))

no_piece : (set : UriSet) (start m : Marker) (xs : List ℕ) → DecodedPiece set start m xs 0
no_piece set start m xs = cc (no_front _, along_none m)

run_piece : (set : UriSet) (start m : Marker) (xs : List ℕ) → DecodedPiece set start m xs (prefix_len (is_bare set) xs)
run_piece set start m [] = no_piece set start m []
run_piece set start m (c ∷ cs) =
    let n = prefix_len (is_bare set) cs in
    let one : 1 + n ≡ suc n = omega arith in
    by_test (is_bare set c) (1 + n) 0 (DecodedPiece set start m (c ∷ cs))
    (λ h. rw one (bare_passed set start m c cs h ∙ ap (with_front (encode_utf8 c)) (run_piece set start (along m 1) cs)
    ∙ front_twice (encode_utf8 c) (encode_utf8_all (take n cs)) _
    ∙ ap (λ x. with_front (encode_utf8 c ++ encode_utf8_all (take n cs)) (decoded_characters set start 0 x (drop n cs)))
    (along_more m 1 n (suc n) (omega arith)))) (λ _. no_piece set start m (c ∷ cs))

-- characters that begin no escape were moved, and c comes next
pub record BareTurn (set : UriSet) (start : Marker) (text grown : List ℕ) (s t : Cursor) (c : ℕ) : Type 0 where
  pub reached : with_front grown (decoded_at set start t) ≡ with_front text (decoded_at set start s)
  pub read : c ≡ slice_index t.rest 0
  pub stops : (c ≡ percent_sign → ⊥) → is_in_set set (slice_index t.rest 0) ≡ false
  pub no_longer : length t.rest ≤ length s.rest

pub bare_turn : (set : UriSet) (start : Marker) (text grown : List ℕ) (s u t : Cursor) (c : ℕ)
    → ◌≡◌ {A = Result (List ℕ × Cursor) Refusal} (Ok (with_front_run (is_bare set) text s)) (Ok (grown, u))
    → c ≡ slice_index u.rest 0 → t ≡ u → BareTurn set start text grown s t c
bare_turn set start text grown s u t c moved read same =
    grind (arith, run_ends, run_piece, front_twice, drop_shorter, nat_tests)

-- an escape stands for a character of the set
pub escape_in_set : (set : UriSet) (c : ℕ) → c ≡ percent_sign → is_in_set set c ≡ true
escape_in_set set c e = grind arith

pub escape_is_character : (start : Marker) (s : Cursor) → slice_index s.rest 0 ≡ percent_sign
    → uri_character start s ≡ percent_escape start s
unfolding uri_character
escape_is_character start s h = rw h refl
