-- The worst of statuses.
use Rattle.std.proofs.Common.{◌≡◌, ◌⊎◌, ℕ, zero, suc, Bool, true, false, ◌+◌, ◌<◌, ◌≤◌, max, List, [], ◌∷◌, ◌++◌, length, take, get_or, refl, ap, ◌∙◌, Result, Ok, Err, inl, inr, arith}
use Rattle.std.proofs.lemmas.List.{take_more}
use Rattle.std.proofs.Math.Seq.{take-length}
use Rattle.yaml_check.specs.declared.run.CheckFault.{CheckFault}
use Rattle.yaml_check.specs.declared.finding.Verdict.{Verdict}
use Rattle.yaml_check.specs.declared.finding.Verdict.TheVariants as verdict
use Rattle.yaml_check.specs.Statuses.{status_of_one, worst_status, AllPass, IsLetPass, IsUnchecked, OneUnchecked}

abbrev pub Answer : Type 0
Answer = Result Verdict CheckFault

one_more : (strict : Bool) (answers : List Answer) (a : Answer) → worst_status strict (answers
    ++ a ∷ []) ≡ max (status_of_one strict a) (worst_status strict answers)
one_more strict [] a = refl
one_more strict (b ∷ answers) a = let ih = one_more strict answers a in omega arith

pub worst_more : (strict : Bool) (answers : List Answer) (i : ℕ) (d : Answer) → i < length answers
    → worst_status strict (take (i + 1) answers)
    ≡ max (status_of_one strict (get_or answers i d)) (worst_status strict (take i answers))
worst_more strict answers i d within =
    rw (take_more answers i d within) (one_more strict (take i answers) (get_or answers i d))

one_is_small : (strict : Bool) (a : Answer) → status_of_one strict a ≤ 2
one_is_small strict (Ok verdict.Right) = omega arith
one_is_small true (Ok verdict.Warned) = omega arith
one_is_small false (Ok verdict.Warned) = omega arith
one_is_small strict (Ok verdict.Wrong) = omega arith
one_is_small strict (Err f) = omega arith

pub worst_is_one : (strict : Bool) (answers : List Answer) → worst_status strict answers ≤ 2
worst_is_one strict [] = omega arith
worst_is_one strict (a ∷ answers) =
    let ih = worst_is_one strict answers in let small = one_is_small strict a in omega arith

-- ## The status 0

passed_one : (strict : Bool) (a : Answer) → status_of_one strict a ≡ 0 → IsLetPass strict a
passed_one strict (Ok verdict.Right) h = tt
passed_one true (Ok verdict.Warned) h = absurd (omega arith)
passed_one false (Ok verdict.Warned) h = refl
passed_one strict (Ok verdict.Wrong) h = absurd (omega arith)
passed_one strict (Err f) h = absurd (omega arith)

one_passed : (strict : Bool) (a : Answer) → IsLetPass strict a → status_of_one strict a ≡ 0
one_passed strict (Ok verdict.Right) h = refl
one_passed true (Ok verdict.Warned) h = absurd (cc)
one_passed false (Ok verdict.Warned) h = refl
one_passed strict (Ok verdict.Wrong) h = absurd h
one_passed strict (Err f) h = absurd h

pub passed_status : (strict : Bool) (answers : List Answer) → worst_status strict answers ≡ 0
    → AllPass strict answers
passed_status strict [] h = tt
passed_status strict (a ∷ answers) h =
    (passed_one strict a (omega arith), passed_status strict answers (omega arith))

pub status_passed : (strict : Bool) (answers : List Answer) → AllPass strict answers
    → worst_status strict answers ≡ 0
status_passed strict [] h = refl
status_passed strict (a ∷ answers) h =
    let ih = status_passed strict answers h.1 in let one = one_passed strict a h.0 in omega arith

-- ## The status 2

unchecked_one : (strict : Bool) (a : Answer) → status_of_one strict a ≡ 2 → IsUnchecked a
unchecked_one strict (Ok verdict.Right) h = absurd (omega arith)
unchecked_one true (Ok verdict.Warned) h = absurd (omega arith)
unchecked_one false (Ok verdict.Warned) h = absurd (omega arith)
unchecked_one strict (Ok verdict.Wrong) h = absurd (omega arith)
unchecked_one strict (Err f) h = tt

one_unchecked : (strict : Bool) (a : Answer) → IsUnchecked a → status_of_one strict a ≡ 2
one_unchecked strict (Ok v) h = absurd h
one_unchecked strict (Err f) h = refl

is_max : (m n : ℕ) → m ≤ 2 → n ≤ 2 → max m n ≡ 2 → (m ≡ 2) ⊎ (n ≡ 2)
is_max zero n low bound h = inr (omega arith)
is_max (suc zero) n low bound h = inr (omega arith)
is_max (suc (suc m)) n low bound h = inl (omega arith)

pub unchecked_status : (strict : Bool) (answers : List Answer) → worst_status strict answers ≡ 2
    → OneUnchecked answers
unchecked_status strict [] h = absurd (omega arith)
unchecked_status strict (a ∷ answers) h = by (λ others. unchecked_status strict answers others)
    (is_max _ _ (one_is_small strict a) (worst_is_one strict answers) h)
  where
    by : (worst_status strict answers ≡ 2 → OneUnchecked answers)
        → (status_of_one strict a ≡ 2) ⊎ (worst_status strict answers ≡ 2) → OneUnchecked (a ∷ answers)
    by rest (inl one) = inl (unchecked_one strict a one)
    by rest (inr others) = inr (rest others)

pub status_unchecked : (strict : Bool) (answers : List Answer) → OneUnchecked answers
    → worst_status strict answers ≡ 2
status_unchecked strict [] h = absurd h
status_unchecked strict (a ∷ answers) (inl h) =
    let one = one_unchecked strict a h in let most = worst_is_one strict answers in omega arith
status_unchecked strict (a ∷ answers) (inr h) =
    let ih = status_unchecked strict answers h in let small = one_is_small strict a in omega arith

-- ## The loop over the answers

pub worst_step : (strict : Bool) (answers : List Answer) (i : ℕ) (d : Answer) (status one next : ℕ)
    → i < length answers → status ≡ worst_status strict (take i answers)
    → one ≡ status_of_one strict (get_or answers i d) → next ≡ max one status
    → next ≡ worst_status strict (take (i + 1) answers)
worst_step strict answers i d status one next within so_far this is =
    let e = worst_more strict answers i d within in cc

pub worst_whole : (strict : Bool) (answers : List Answer) (i status : ℕ) → i ≤ length answers → length answers ≤ i
    → status ≡ worst_status strict (take i answers) → status ≡ worst_status strict answers
worst_whole strict answers i status within whole so_far =
    so_far ∙ ap (λ n. worst_status strict (take n answers)) (omega arith)
    ∙ ap (worst_status strict) (take-length answers)
