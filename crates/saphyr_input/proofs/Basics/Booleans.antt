-- Tests, and what `&&`, `||` and `not` tell of their parts. Std has the others, in `lemmas.Bool` and `Math.Bool`.
use Rattle.std.proofs.Common.{◌≡◌, ℕ, Bool, true, false, not, nat_eq, refl, sym, ◌∙◌, arith, subst}
use Rattle.std.specs.Prelude.{◌||◌, ◌&&◌}
use Rattle.std.proofs.Math.Bool.{or_comm}
use Rattle.std.proofs.lemmas.Bool.{and_parts, false≢true, false_from_ne_true, or_parts}
use Rattle.std.proofs.lemmas.Bool.Decides.{nat_tests}
pub use Rattle.std.proofs.Math.Bool.{and-false as and_false, or_assoc}
pub use Rattle.std.proofs.lemmas.Bool.{cond_both as by_test}

-- a test does not both pass and fail
pub clash : {X : Type 0} (b : Bool) → b ≡ true → b ≡ false → X
clash true pass fail = absurd (cc)
clash false pass fail = absurd (cc)

pub and_true_left : (a b : Bool) → (a && b) ≡ true → a ≡ true
and_true_left a b h = (and_parts a b h).0

pub and_true_right : (a b : Bool) → (a && b) ≡ true → b ≡ true
and_true_right a b h = (and_parts a b h).1

pub and_or_false : (a b c : Bool) → (a && (b || c)) ≡ false → ((a && b) ≡ false) × ((a && c) ≡ false)
and_or_false a b c e = grind arith

pub or_false_left : (a b : Bool) → (a || b) ≡ false → a ≡ false
or_false_left a b h = (or_parts a b h).0

pub or_false_right : (a b : Bool) → (a || b) ≡ false → b ≡ false
or_false_right a b h = (or_parts a b h).1

pub or_true_swap : (a b : Bool) → (a || b) ≡ true → (b || a) ≡ true
or_true_swap a b h = or_comm b a ∙ h

-- by the one that passes
pub either : (a b : Bool) (P : Type 0) → (a || b) ≡ true → (a ≡ true → P) → (b ≡ true → P) → P
either true b P h left right = left refl
either false b P h left right = right h

pub neither_parts : (a b : Bool) → (not a && not b) ≡ true → (a ≡ false) × (b ≡ false)
neither_parts a b h = grind arith

pub none_of_three : (a b c : Bool) → (not a && not b && not c) ≡ true → (a ≡ false) × (b ≡ false) × (c ≡ false)
none_of_three a b c h = grind arith

-- a test that fails at one number fails at a number that passes it
pub other_than : (p : ℕ → Bool) (n c : ℕ) → p n ≡ false → p c ≡ true → nat_eq c n ≡ false
other_than p n c fails passes =
    false_from_ne_true (nat_eq c n)
    (λ e. let is : c ≡ n = grind (arith, nat_tests) in
    let k : false ≡ true = sym fails ∙ subst (λ x. p x ≡ true) is passes in absurd (false≢true k))
