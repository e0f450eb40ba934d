-- Where no word of a plain scalar begins after white space, no plain scalar goes on: what is there tells it, or its
-- place.
use Rattle.saphyr_scalar.proofs.Common.{◌≡◌, ◌⊎◌, ℕ, Bool, true, false, List, slice_index, Result, Ok, Err, refl, ap, arith, inl, inr, eqb-true, ◌||◌, ◌&&◌, ◌==◌, not, nat_lt, is_blank, is_break, is_flow, can_be_plain, is_document_indicator, Refusal, Cursor, by_test, either, and_true_left, and_true_right}
use Rattle.std.specs.List.{list_any}
use Rattle.std.proofs.lemmas.Bool.{ltb-true}
use Rattle.saphyr_scalar.specs.Steps.Plain.{is_in_word, word_starts, next_word_starts}
use Rattle.saphyr_scalar.specs.Reading.Plain.{IsPlainEnd}
use Rattle.saphyr_scalar.proofs.Plain.Runs.{IsNonSpace}

by_next : (a b z p : Bool) → (a || b) ≡ false → (not (a || (b || z)) && p) ≡ false → (z ≡ true) ⊎ (p ≡ false)
by_next a b true p e h = inl refl
by_next a b false p e h = inr (grind arith)

in_no_word : (f : Bool) (i : ℕ) (white : List ℕ) (s : Cursor) → IsNonSpace (slice_index s.rest 0)
    → is_in_word f s.rest ≡ false → IsPlainEnd f i white s
unfolding is_in_word
in_no_word f i white s non_space e =
    let x = slice_index s.rest 0 in
    by (by_next (is_blank x) (is_break x) (x == 0) (can_be_plain f s.rest) non_space e)
  where
    by : ((slice_index s.rest 0 == 0) ≡ true) ⊎ (can_be_plain f s.rest ≡ false) → IsPlainEnd f i white s
    by (inl z) = (non_space, inl (eqb-true (slice_index s.rest 0) 0 z))
    by (inr p) = (non_space, inr (inr (inl p)))

at_mark : (f : Bool) (i : ℕ) (white : List ℕ) (s : Cursor) → IsNonSpace (slice_index s.rest 0)
    → ((slice_index s.rest 0 == 35) || ((s.mark.col == 0) && is_document_indicator s.rest)) ≡ true
    → IsPlainEnd f i white s
at_mark f i white s non_space h = either (slice_index s.rest 0 == 35) _ (IsPlainEnd f i white s) h
    (λ e. (non_space, inr (inl (eqb-true (slice_index s.rest 0) 35 e))))
    (λ e. let column = eqb-true s.mark.col 0 (and_true_left (s.mark.col == 0) _ e) in
    (non_space, inr (inr (inr (inl (column, and_true_right (s.mark.col == 0) _ e))))))

abbrev WordAnswer : Type 0
WordAnswer = Result (Bool × Cursor) Refusal

abbrev answered : WordAnswer → Bool
answered (Ok b) = b.0
answered (Err e) = true

no_word : (f : Bool) (i : ℕ) (white : List ℕ) (s u : Cursor) → IsNonSpace (slice_index s.rest 0)
    → word_starts f s ≡ Ok (false, u) → IsPlainEnd f i white s
unfolding word_starts
no_word f i white s u non_space =
    let other : WordAnswer = Ok (is_in_word f s.rest, s) in
    let Ends : WordAnswer → Type 0 = λ r. r ≡ Ok (false, u) → IsPlainEnd f i white s in
    by_test ((slice_index s.rest 0 == 35) || ((s.mark.col == 0) && is_document_indicator s.rest)) _ _ Ends
    (λ h _. at_mark f i white s non_space h)
    (λ _. by_test (f && (slice_index s.rest 0 == 45) && is_flow (slice_index s.rest 1)) _ other Ends
    (λ _ e. absurd (cc)) (λ _ e. in_no_word f i white s non_space (ap answered e)))

left_of : (b f l : Bool) → (b && not f && l) ≡ true → (f ≡ false) × (b ≡ true) × (l ≡ true)
left_of b f l h = grind arith

pub no_word_behind : (f : Bool) (i : ℕ) (white : List ℕ) (s u : Cursor) → next_word_starts f i s ≡ Ok (false, u)
    → IsNonSpace (slice_index s.rest 0) → (s.blank_so_far ≡ true → list_any is_break white ≡ true)
    → IsPlainEnd f i white s
unfolding next_word_starts
no_word_behind f i white s u e non_space broken =
    by_test (s.blank_so_far && not f && nat_lt s.mark.col i) _ _
    (λ (r : WordAnswer). r ≡ Ok (false, u) → IsPlainEnd f i white s)
    (λ h _. let l = left_of s.blank_so_far f (nat_lt s.mark.col i) h in
    (non_space, inr (inr (inr (inr (l.0, broken l.1, ltb-true s.mark.col i l.2))))))
    (λ _ e. no_word f i white s u non_space e) e
