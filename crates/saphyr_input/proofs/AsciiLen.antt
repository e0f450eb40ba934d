-- How long a run at the front is, counted a byte at a time. These are lemmas on their own since a tactic reads little
-- here, and much at a goal.
use Rattle.std.proofs.Common.{◌≡◌, ℕ, ◌+◌, ◌-◌, ◌<◌, ◌≤◌, Bool, true, false, List, [], ◌∷◌, length, length-drop, drop, get_or, ap, ◌∙◌, arith, add-zero}
use Rattle.std.specs.List.{prefix_len}
use Rattle.std.proofs.lemmas.List.{drop-drop, get_or-drop}
use Rattle.saphyr_input.proofs.Runs.{run_stops}

-- n bytes of the run of p were counted
pub record Counted (p : ℕ → Bool) (bs : List ℕ) (n : ℕ) : Type 0 where
  pub within : n ≤ length bs
  pub run : n + prefix_len p (drop n bs) ≡ prefix_len p bs

first_left : (p : ℕ → Bool) (xs : List ℕ) → 0 < length xs → p (get_or xs 0 0) ≡ true
    → prefix_len p xs ≡ prefix_len p (drop 1 xs) + 1
first_left p [] some h = absurd (omega (arith, some))
first_left p (x ∷ xs) some h = rw h (omega arith)

shown : (p : ℕ → Bool) (bs : List ℕ) (n : ℕ) (b : Bool) → p (get_or bs n 0) ≡ b → p (get_or (drop n bs) 0 0) ≡ b
shown p bs n b h = ap p (get_or-drop n bs 0 0 ∙ ap (λ (i : ℕ). get_or bs i 0) (add-zero n)) ∙ h

pub counts_on : (p : ℕ → Bool) (bs : List ℕ) (n : ℕ) → Counted p bs n → n < length bs → p (get_or bs n 0) ≡ true
    → Counted p bs (n + 1)
counts_on p bs n w room h =
    let some : 0 < length (drop n bs) = rw length-drop (omega arith) in
    let one = first_left p (drop n bs) some (shown p bs n true h) in
    let behind : drop 1 (drop n bs) ≡ drop (n + 1) bs = drop-drop 1 n bs in
    record { within = omega arith; run = rw (← behind) (omega (arith, w.run, one)) }

pub stops_at : (p : ℕ → Bool) (bs : List ℕ) (n : ℕ) → Counted p bs n → p (get_or bs n 0) ≡ false
    → n ≡ prefix_len p bs
stops_at p bs n w h = omega (arith, w.run, run_stops p (drop n bs) (shown p bs n false h))

-- Where four bytes are left: each of them is there, and those before it are counted.

pub first_of_4 : (n all : ℕ) → 4 ≤ all - n → n < all
first_of_4 n all left = omega arith

pub second_of_4 : (n all : ℕ) → 4 ≤ all - n → n + 1 < all
second_of_4 n all left = omega arith

pub third_of_4 : (n all : ℕ) → 4 ≤ all - n → n + 1 + 1 < all
third_of_4 n all left = omega arith

pub fourth_of_4 : (n all : ℕ) → 4 ≤ all - n → n + 1 + 1 + 1 < all
fourth_of_4 n all left = omega arith

pub four_fewer : (n all : ℕ) → 4 ≤ all - n → all - (n + 1 + 1 + 1 + 1) < all - n
four_fewer n all left = omega arith

pub counts_1 : (p : ℕ → Bool) (bs : List ℕ) (n : ℕ) → 4 ≤ length bs - n → Counted p bs n
    → p (get_or bs n 0) ≡ true → Counted p bs (n + 1)
counts_1 p bs n left w a = counts_on p bs n w (first_of_4 n (length bs) left) a

pub counts_2 : (p : ℕ → Bool) (bs : List ℕ) (n : ℕ) → 4 ≤ length bs - n → Counted p bs n
    → p (get_or bs n 0) ≡ true → p (get_or bs (n + 1) 0) ≡ true → Counted p bs (n + 1 + 1)
counts_2 p bs n left w a b =
    counts_on p bs (n + 1) (counts_1 p bs n left w a) (second_of_4 n (length bs) left) b

pub counts_3 : (p : ℕ → Bool) (bs : List ℕ) (n : ℕ) → 4 ≤ length bs - n → Counted p bs n
    → p (get_or bs n 0) ≡ true → p (get_or bs (n + 1) 0) ≡ true → p (get_or bs (n + 1 + 1) 0) ≡ true
    → Counted p bs (n + 1 + 1 + 1)
counts_3 p bs n left w a b c =
    counts_on p bs (n + 1 + 1) (counts_2 p bs n left w a b) (third_of_4 n (length bs) left) c

pub counts_4 : (p : ℕ → Bool) (bs : List ℕ) (n : ℕ) → 4 ≤ length bs - n → Counted p bs n
    → p (get_or bs n 0) ≡ true → p (get_or bs (n + 1) 0) ≡ true → p (get_or bs (n + 1 + 1) 0) ≡ true
    → p (get_or bs (n + 1 + 1 + 1) 0) ≡ true → Counted p bs (n + 1 + 1 + 1 + 1)
counts_4 p bs n left w a b c d =
    counts_on p bs (n + 1 + 1 + 1) (counts_3 p bs n left w a b c) (fourth_of_4 n (length bs) left) d
