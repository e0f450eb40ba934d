-- The longest run from the front, taken off a character at a time.
use Rattle.std.proofs.Common.{◌≡◌, ℕ, ◌+◌, ◌^◌, ◌<◌, ◌≤◌, Bool, true, false, List, [], ◌∷◌, ◌++◌, length, take, drop, get_or, max, min, refl, ap, ◌∙◌, arith, add-one, add-zero, encode_utf8_all, append_assoc}
use Rattle.std.specs.Prelude.{encode_utf8}
use Rattle.std.specs.List.{prefix_len}
use Rattle.std.proofs.lemmas.List.{drop-drop, get_or-drop, append-nil}
use Rattle.std.proofs.Math.Seq.{take-suc}
use Rattle.std.proofs.lemmas.Str.{encodes-append}
use Rattle.saphyr_input.specs.Places.{TransfersRun}

-- n characters of the run of p at the start were taken off, and `now` is left
pub record Ran (p : ℕ → Bool) (start now : List ℕ) (n : ℕ) : Type 0 where
  pub run : n + prefix_len p now ≡ prefix_len p start
  pub left : now ≡ drop n start
  pub total : n + length now ≡ length start

-- a place that passes is a character, where NUL doesn't pass
pub record Goes (p : ℕ → Bool) (xs : List ℕ) : Type 0 where
  pub run : prefix_len p xs ≡ prefix_len p (drop 1 xs) + 1
  pub total : length xs ≡ length (drop 1 xs) + 1
  pub cut : xs ≡ get_or xs 0 0 ∷ drop 1 xs

pub goes : (p : ℕ → Bool) (xs : List ℕ) → p 0 ≡ false → p (get_or xs 0 0) ≡ true → Goes p xs
goes p [] n h = absurd (cc)
goes p (x ∷ xs) n h = record { run = rw h (omega arith); total = omega arith; cut = refl }

pub run_stops : (p : ℕ → Bool) (xs : List ℕ) → p (get_or xs 0 0) ≡ false → prefix_len p xs ≡ 0
run_stops p [] h = refl
run_stops p (x ∷ xs) h = rw h refl

pub ran_more : (p : ℕ → Bool) (start now after : List ℕ) (n : ℕ) → p 0 ≡ false → p (get_or now 0 0) ≡ true
    → after ≡ drop 1 now → Ran p start now n → Ran p start after (n + 1)
ran_more p start now after n z h e r =
    let one = goes p now z h in
    record {
      run = rw e (omega (arith, one.run, r.run));
      left = e ∙ ap (drop 1) r.left ∙ drop-drop 1 n start;
      total = rw e (omega (arith, one.total, r.total));
    }

-- a place that fails ends the run
pub ran_all : (p : ℕ → Bool) (start now : List ℕ) (n : ℕ) → p (get_or now 0 0) ≡ false → Ran p start now n
    → n ≡ prefix_len p start
ran_all p start now n h r = omega (arith, run_stops p now h, r.run)

-- the text grows by each character that is taken off
pub text_on : (start now text grown pushed : List ℕ) (n : ℕ) → now ≡ drop n start → n < length start
    → grown ≡ text ++ encode_utf8_all (take n start) → pushed ≡ grown ++ encode_utf8 (get_or now 0 0)
    → pushed ≡ text ++ encode_utf8_all (take (n + 1) start)
text_on start now text grown pushed n left lt e f =
    let same : get_or now 0 0 ≡ get_or start n 0 = ap (λ (xs : List ℕ). get_or xs 0 0) left ∙ get_or-drop n start 0 0
    ∙ ap (λ (i : ℕ). get_or start i 0) (add-zero n) in
    let more : take (n + 1) start ≡ take n start ++ (get_or now 0 0 ∷ []) =
    rw (add-one, same) (take-suc start n 0 lt) in
    f ∙ rw (e, more, encodes-append) (simp (append_assoc, append-nil))

-- a loop that takes off the run of p: c is read, and the text that it began at can be counted
pub record TakesRun (p : ℕ → Bool) (start now : List ℕ) (n c loaded : ℕ) : Type 0 where
  pub ran : Ran p start now n
  pub read : c ≡ get_or now 0 0
  pub ready : 1 ≤ loaded
  pub countable : length start < 2 ^ 64

pub runs_more : (p : ℕ → Bool) (start now after : List ℕ) (n c d loaded more : ℕ) → p 0 ≡ false → p c ≡ true
    → TakesRun p start now n c loaded → after ≡ drop 1 now → d ≡ get_or after 0 0 → 1 ≤ more
    → TakesRun p start after (n + 1) d more
runs_more p start now after n c d loaded more z h r e read ready =
    let here : p (get_or now 0 0) ≡ true = rw (← r.read) h in
    record { ran = ran_more p start now after n z here e r.ran; read = read; ready = ready; countable = r.countable }

-- a character that fails ends the loop
pub runs_all : (p : ℕ → Bool) (start now : List ℕ) (n c loaded : ℕ) → p c ≡ false → TakesRun p start now n c loaded
    → n ≡ prefix_len p start
runs_all p start now n c loaded h r = ran_all p start now n (rw (← r.read) h) r.ran

pub runs_text : (p : ℕ → Bool) (start now text grown pushed : List ℕ) (n c loaded : ℕ) → p 0 ≡ false → p c ≡ true
    → TakesRun p start now n c loaded
    → grown ≡ text ++ encode_utf8_all (take n start) → pushed ≡ grown ++ encode_utf8 c
    → pushed ≡ text ++ encode_utf8_all (take (n + 1) start)
runs_text p start now text grown pushed n c loaded z h r e f =
    let one = goes p now z (rw (← r.read) h) in
    text_on start now text grown pushed n r.ran.left (omega (arith, one.total, r.ran.total)) e (rw (← r.read) f)

-- where the loop ends, the run was moved to the text
pub transfers_all : (p : ℕ → Bool) (start now text grown : List ℕ) (n c loaded : ℕ) → p c ≡ false
    → TakesRun p start now n c loaded → grown ≡ text ++ encode_utf8_all (take n start)
    → TransfersRun p n start now text grown
transfers_all p start now text grown n c loaded h r e =
    record { count = runs_all p start now n c loaded h r; transfers = record { taken = r.ran.left; appended = e } }

-- A turn of such a loop. These are lemmas on their own since a tactic reads little here, and much at a goal.

pub run_counts : (p : ℕ → Bool) (start now : List ℕ) (n c loaded : ℕ) → p 0 ≡ false → p c ≡ true
    → TakesRun p start now n c loaded → n + 1 < 2 ^ 64
run_counts p start now n c loaded z h r =
    let one = goes p now z (rw (← r.read) h) in
    omega (arith, one.total, r.ran.total, r.countable)

pub run_shorter : (p : ℕ → Bool) (start now after : List ℕ) (n c loaded : ℕ) → p 0 ≡ false → p c ≡ true
    → TakesRun p start now n c loaded → after ≡ drop 1 now → length after < length now
run_shorter p start now after n c loaded z h r taken =
    let one = goes p now z (rw (← r.read) h) in
    rw taken (omega (arith, one.total))

-- what is left where more was taken off
pub left_on : (start now after : List ℕ) (n k : ℕ) → now ≡ drop n start → after ≡ drop k now
    → after ≡ drop (n + k) start
left_on start now after n k left more = more ∙ ap (drop k) left ∙ drop-drop k n start

pub one_ready : (more loaded : ℕ) → more ≡ max 1 loaded → 1 ≤ more
one_ready more loaded is = omega arith

-- a run that is taken off up to a number of characters

pub first_shorter : (p : ℕ → Bool) (now seen after : List ℕ) → p 0 ≡ false → p (get_or now 0 0) ≡ true → seen ≡ now
    → after ≡ drop 1 seen → length after < length now
first_shorter p now seen after z h same taken =
    let one = goes p now z h in
    rw (taken, same) (omega (arith, one.total))

pub one_within : (n most : ℕ) → n < most → n + 1 ≤ most
one_within n most less = omega arith

pub most_ran : (p : ℕ → Bool) (start now : List ℕ) (n most : ℕ) → Ran p start now n → n ≤ most → most ≤ n
    → n ≡ min most (prefix_len p start)
most_ran p start now n most r limit least = omega (arith, r.run)

pub all_ran : (p : ℕ → Bool) (start now : List ℕ) (n most : ℕ) → Ran p start now n → n ≤ most
    → p (get_or now 0 0) ≡ false → n ≡ min most (prefix_len p start)
all_ran p start now n most r limit stops = omega (arith, ran_all p start now n stops r)
