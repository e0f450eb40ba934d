-- Each test of a list of characters decides membership, and so do tests put together.
use Rattle.std.proofs.Common.{◌≡◌, ◌↔◌, ℕ, Bool, true, false, List, IsTrue, refl, sym, ◌∙◌, nat_eq, subst, arith, ◌⊎◌, inl, inr}
use Rattle.std.specs.Prelude.{Contains, not, ◌==◌}
use Rattle.std.proofs.lemmas.Map.Views.{Contains-from_any, list_any-from_Contains}
use Rattle.std.proofs.lemmas.Cmp.{nat_eq_equiv}
use Rattle.std.proofs.lemmas.Bool.{false≢true}
use Rattle.std.proofs.lemmas.Bool.Decides.{nat_tests}
use Rattle.saphyr_input.specs.Classes as spec

pub one_of_set : (set : List ℕ) (c : ℕ) → IsTrue (spec.is_one_of set c) ↔ Contains set c
one_of_set set c = (λ t. Contains-from_any nat_eq_same c set t, λ h. list_any-from_Contains nat_eq_equiv c set h)
  where
    nat_eq_same : (x y : ℕ) → nat_eq x y ≡ true → x ≡ y
    nat_eq_same x y e = grind (arith, nat_tests)

pub decided : (test : Bool) (set : List ℕ) (c : ℕ) → test ≡ spec.is_one_of set c → IsTrue test ↔ Contains set c
decided test set c e = subst (λ (b : Bool). IsTrue b ↔ Contains set c) (sym e) (one_of_set set c)

pub is_char : (c d : ℕ) → IsTrue (c == d) ↔ (c ≡ d)
is_char c d = (λ t. grind (arith, nat_tests), λ h. grind (arith, nat_tests))

pub or_first : (test : Bool) (P Q : Type 0) → test ≡ true → P → IsTrue test ↔ (P ⊎ Q)
or_first test P Q is p = (λ _. inl p, λ _. is)

pub or_else : (test : Bool) (P Q : Type 0) → ¬ P → IsTrue test ↔ Q → IsTrue test ↔ (P ⊎ Q)
or_else test P Q no_p q = (λ t. inr (q.0 t), elim [ inl p ↦ absurd (no_p p) | inr h ↦ q.1 h ])

pub and_not : (test : Bool) (P Q : Type 0) → P → IsTrue test ↔ Q → IsTrue (not test) ↔ (P × ¬ Q)
and_not true P Q p q = (λ t. absurd (cc), λ h. absurd (h.1 (q.0 refl)))
and_not false P Q p q = (λ t. (p, λ h. let u = q.1 h in absurd (cc)), λ h. refl)

pub and_first : (test : Bool) (P Q : Type 0) → test ≡ false → (P → IsTrue test) → IsTrue test ↔ (P × Q)
and_first test P Q fails is = (λ t. absurd (false≢true (sym fails ∙ t)), λ h. is h.0)
