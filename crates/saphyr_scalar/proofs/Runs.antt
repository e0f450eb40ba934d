-- A run that was put after a text.
use Rattle.saphyr_scalar.proofs.Common.{◌≡◌, ℕ, suc, ◌+◌, ◌<◌, Bool, false, List, [], ◌∷◌, ◌++◌, length, take, get_or, slice_index, arith, add-zero, encode_utf8_all, IsSplitPoint, prefix_len, take-append_seam, drop-append_seam, encode_ascii, is_blank, run_stops, Marker, along, by_test, blank_cases}
use Rattle.std.proofs.lemmas.List.{length-append, get_or-append-add}
use Rattle.saphyr_scalar.specs.Spelling.Tag.{AreIn}
use Rattle.saphyr_scalar.specs.Steps.Quoted.{mid_line, with_run}

-- a spelled run, before a character that ends it
pub run_len : (p : ℕ → Bool) (w y : List ℕ) → AreIn p w → p (slice_index y 0) ≡ false → prefix_len p (w ++ y) ≡ length w
run_len p [] y are ends = run_stops p y ends
run_len p (c ∷ w) y (is, are) ends = rw (is, run_len p w y are ends) (omega arith)

pub run_read : (p : ℕ → Bool) (m : Marker) (w y : List ℕ) → AreIn p w → p (slice_index y 0) ≡ false
    → with_run p [] (mid_line m (w ++ y)) ≡ (encode_utf8_all w, mid_line (along m (length w)) y)
run_read p m w y are ends = grind (arith, encode_utf8_all, take, run_len, take-append_seam, drop-append_seam)

-- what is taken as a run is one
pub run_is_in : (p : ℕ → Bool) (xs : List ℕ) → AreIn p (take (prefix_len p xs) xs)
run_is_in p [] = tt
run_is_in p (c ∷ cs) =
    let one : 1 + prefix_len p cs ≡ suc (prefix_len p cs) = omega arith in
    by_test (p c) (1 + prefix_len p cs) 0 (λ n. AreIn p (take n (c ∷ cs))) (λ h. rw one (h, run_is_in p cs)) (λ _. tt)

-- Where a text is cut again: before what begins with ASCII, such as blanks.

pub cuts_before : (text more : List ℕ) → slice_index more 0 < 128 → IsSplitPoint (text ++ more) (length text)
cuts_before text more low = grind (arith, slice_index, get_or, add-zero, get_or-append-add, length-append)

first_low : (c : ℕ) (ys : List ℕ) → c < 128 → slice_index (encode_utf8_all (c ∷ ys)) 0 < 128
first_low c ys low = rw (encode_ascii c low) low

pub blanks_low : (xs : List ℕ) → slice_index (encode_utf8_all (take (prefix_len is_blank xs) xs)) 0 < 128
blanks_low u0 = grind (arith, by_test, slice_index, encode_utf8_all, take, first_low, blank_cases)

pub cuts_before_blanks : (text xs : List ℕ)
    → IsSplitPoint (text ++ encode_utf8_all (take (prefix_len is_blank xs) xs)) (length text)
cuts_before_blanks text xs = cuts_before text _ (blanks_low xs)
