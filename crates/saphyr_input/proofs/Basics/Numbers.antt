-- Numbers and their tests. Std has the others, in `lemmas.Bool` and `lemmas.Nat`.
use Rattle.std.proofs.Common.{◌≡◌, ℕ, suc, ◌+◌, ◌≤◌, true, false, nat_lt, nat_le, arith}
use Rattle.std.proofs.lemmas.Bool.Decides.{nat_tests}

pub one_and : (n : ℕ) → 1 + n ≡ suc n
one_and n = omega arith

pub le_next : (a b : ℕ) → a ≤ b → a ≤ b + 1
le_next a b h = omega (arith, h)

pub zero_below_next : (n : ℕ) → nat_lt 0 (n + 1) ≡ true
zero_below_next n = grind (arith, nat_tests)

pub next_not_within : (i n : ℕ) → i ≡ n + 1 → nat_le i n ≡ false
next_not_within i n e = grind (arith, nat_tests)
