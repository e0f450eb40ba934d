-- Numbers, digit after digit.
use Rattle.std.proofs.Common.{◌≡◌, ℕ, ◌+◌, ◌/◌, ◌%◌, ◌^◌, ◌<◌, ◌≤◌, List, [], ◌∷◌, ◌++◌, Option, Result, codes, lit<, append_assoc, ap, sym, refl, ◌∙◌, arith}
use Rattle.std.specs.Fmt.{decimal}
use Rattle.std.proofs.lemmas.Fmt.{decimal_digit, decimal_step_wide}
use Rattle.std.specs.Io.KnownBytes.{Appends}
use Rattle.saphyr_parser.specs.declared.printing.writing.Unwritten.{Unwritten}
use Rattle.saphyr_parser.specs.Written.{Takes, TakesSome}
use Rattle.saphyr_parser.proofs.Printed.Written.{takes_more, takes_less}

decimal_by_tens : (n : ℕ) → 10 ≤ n → n < 2 ^ 128 → decimal n ≡ decimal (n / 10) ++ ((48 + n % 10) ∷ [])
decimal_by_tens n l b = let most : 2 ^ 128 < 10 ^ 64 = lit< tt in decimal_step_wide n l (omega arith)

pub one_digit : (r : Result (Unit {0}) Unwritten) (a b : Option (List ℕ)) (n : ℕ) → n < 10
    → Takes r a b ((48 + n % 10) ∷ []) → Takes r a b (decimal n)
one_digit r a b n l p = let e : n % 10 ≡ n = omega arith in rw (decimal_digit n l) (rw e at p)

pub last_digit : (r : Result (Unit {0}) Unwritten) (a b c : Option (List ℕ)) (n : ℕ) → 10 ≤ n → n < 2 ^ 128
    → Appends a b (decimal (n / 10)) → Takes r b c ((48 + n % 10) ∷ []) → Takes r a c (decimal n)
last_digit r a b c n l m p q = rw (decimal_by_tens n l m) (takes_more r a b c _ _ p q)

pub lost_digit : (a b : Option (List ℕ)) (n : ℕ) → 10 ≤ n → n < 2 ^ 128 → TakesSome a b (decimal (n / 10))
    → TakesSome a b (decimal n)
lost_digit a b n l m p = rw (decimal_by_tens n l m) (takes_less a b _ _ p)

-- ## Two digits at a time

decimal_by_hundreds : (n : ℕ) → 100 ≤ n → n < 2 ^ 64
    → decimal n ≡ decimal (n / 100) ++ ((48 + n / 10 % 10) ∷ ((48 + n % 10) ∷ []))
decimal_by_hundreds n l b =
    let most : 2 ^ 64 < 2 ^ 128 = lit< tt in
    let tens : n / 10 / 10 ≡ n / 100 = omega arith in
    decimal_by_tens n (omega arith) (omega arith)
    ∙ ap (λ ds. ds ++ ((48 + n % 10) ∷ [])) (decimal_by_tens (n / 10) (omega arith) (omega arith))
    ∙ append_assoc (decimal (n / 10 / 10)) ((48 + n / 10 % 10) ∷ []) ((48 + n % 10) ∷ [])
    ∙ ap (λ k. decimal k ++ ((48 + n / 10 % 10) ∷ ((48 + n % 10) ∷ []))) tens

decimal_of_two : (n : ℕ) → 10 ≤ n → n < 100 → decimal n ≡ (48 + n / 10 % 10) ∷ ((48 + n % 10) ∷ [])
decimal_of_two n l m =
    let most : 100 < 2 ^ 128 = lit< tt in
    let first : n / 10 % 10 ≡ n / 10 = omega arith in
    decimal_by_tens n l (omega arith)
    ∙ ap (λ ds. ds ++ ((48 + n % 10) ∷ []))
    (decimal_digit (n / 10) (omega arith) ∙ ap (λ k. (48 + k) ∷ []) (sym first))

pub two_digits : (r : Result (Unit {0}) Unwritten) (a b : Option (List ℕ)) (n : ℕ) → 10 ≤ n → n < 100 → n < 2 ^ 64
    → Takes r a b ((48 + n / 10 % 10) ∷ ((48 + n % 10) ∷ [])) → Takes r a b (decimal n)
two_digits r a b n l m f p = rw (decimal_of_two n l m) p

pub last_two_digits : (r : Result (Unit {0}) Unwritten) (a b c : Option (List ℕ)) (n : ℕ) → 100 ≤ n → n < 2 ^ 64
    → Appends a b (decimal (n / 100)) → Takes r b c ((48 + n / 10 % 10) ∷ ((48 + n % 10) ∷ []))
    → Takes r a c (decimal n)
last_two_digits r a b c n l m p q = rw (decimal_by_hundreds n l m) (takes_more r a b c _ _ p q)

pub lost_two_digits : (a b : Option (List ℕ)) (n : ℕ) → 100 ≤ n → n < 2 ^ 64 → TakesSome a b (decimal (n / 100))
    → TakesSome a b (decimal n)
lost_two_digits a b n l m p = rw (decimal_by_hundreds n l m) (takes_less a b _ _ p)

-- the line of an alias with one digit
pub alias_digit : (n : ℕ) → n < 10
    → 61 ∷ (65 ∷ (76 ∷ (73 ∷ (32 ∷ (42 ∷ ((48 + n % 10) ∷ (10 ∷ [])))))))
    ≡ codes "=ALI *" ++ (decimal n ++ codes "\n")
alias_digit n l =
    let e : n % 10 ≡ n = omega arith in
    rw (decimal_digit n l) (rw e refl)
