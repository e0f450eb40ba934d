-- Texts as lists of numbers: what comes first, what is left after some, and runs. Std has the others, in
-- `lemmas.List`.
use Rattle.std.proofs.Common.{◌≡◌, ◌≢◌, ℕ, suc, ◌+◌, ◌<◌, ◌≤◌, Bool, false, List, [], ◌∷◌, length, drop, slice_index, refl, ◌∙◌, arith}
use Rattle.std.specs.List.{prefix_len}
use Rattle.std.proofs.lemmas.Grind.{get_or_after_one}
use Rattle.std.proofs.lemmas.List.{length-drop}
use Rattle.saphyr_input.proofs.Basics.Booleans.{by_test}

pub cons_not_empty : (c : ℕ) (cs : List ℕ) → c ∷ cs ≡ [] → ⊥
cons_not_empty c cs e = cc

pub some_length : (xs : List ℕ) → xs ≢ [] → 0 < length xs
some_length [] h = absurd (h refl)
some_length (c ∷ cs) h = omega arith

-- a place that shows no NUL is a character
pub some_left : (xs : List ℕ) → (slice_index xs 0 ≡ 0 → ⊥) → 0 < length xs
some_left [] h = absurd (h refl)
some_left (c ∷ cs) h = omega arith

-- a place that shows what NUL is not is a character
pub shows_character : (xs : List ℕ) (p : ℕ → Bool) (b : Bool) → p (slice_index xs 0) ≡ b → (p 0 ≡ b → ⊥) → 1 ≤ length xs
shows_character [] p b e h = absurd (h e)
shows_character (c ∷ cs) p b e h = omega arith

pub first_and_rest : (xs : List ℕ) → 0 < length xs → xs ≡ slice_index xs 0 ∷ drop 1 xs
first_and_rest [] h = absurd (omega (arith, h))
first_and_rest (c ∷ cs) h = refl

pub drop_shorter : (n : ℕ) (xs : List ℕ) → length (drop n xs) ≤ length xs
drop_shorter n xs = let l = length-drop n xs in omega (arith, l)

pub drop_one_shorter : (xs : List ℕ) → 0 < length xs → length (drop 1 xs) < length xs
drop_one_shorter xs h = let l = length-drop 1 xs in omega (arith, l, h)

pub second_is : (xs : List ℕ) → slice_index (drop 1 xs) 0 ≡ slice_index xs 1
second_is xs = get_or_after_one xs 0 0

pub third_is : (xs : List ℕ) → slice_index (drop 1 (drop 1 xs)) 0 ≡ slice_index xs 2
third_is xs = get_or_after_one (drop 1 xs) 0 0 ∙ get_or_after_one xs 1 0

-- after a run is what is not in it
pub run_ends : (p : ℕ → Bool) (xs : List ℕ) → p 0 ≡ false → p (slice_index (drop (prefix_len p xs) xs) 0) ≡ false
run_ends p [] z = z
run_ends p (c ∷ cs) z =
    by_test (p c) (1 + prefix_len p cs) 0 (λ n. p (slice_index (drop n (c ∷ cs)) 0) ≡ false)
    (λ _. let one : 1 + prefix_len p cs ≡ suc (prefix_len p cs) = omega arith in rw one (run_ends p cs z)) (λ h. h)
