-- Two readers that give the same, step after step.
use Rattle.scalar_laws.proofs.Common.{◌≡◌, ℕ, Bool, true, false, List, slice_index, refl, subst, Result, Ok, Err, cond, Marker, Refusal, Cursor, ◌>>=◌, refuse_open, pass, both_by, AreAlike, GiveAlike, AreSame}
use Rattle.saphyr_scalar.specs.declared.scalar.fault.FaultText.{FaultText}
pub use Rattle.saphyr_scalar.proofs.Lengths.{by_ends}
use Rattle.scalar_laws.proofs.Breaks.Sides.{first_in, first_same, normal_of, no_break_in, one_passed}

-- Both give something, and what they give is in a relation, or both refuse for the same reason.
pub record Both {X : Type 0} (R : X → X → Type 0) (r q : Result X Refusal) : Type 0 where
  pub are : GiveAlike R r q

module _ {X : Type 0} {R : X → X → Type 0} where
  pub gives : {x y : X} → R x y → Both R (Ok x) (Ok y)
  gives h = record { are = h }

  pub both_of : {r q : Result X Refusal} → GiveAlike R r q → Both R r q
  both_of h = record { are = h }

  pub refused : {f : FaultText} {m n : Marker} {a b : Bool} → Both R (refuse_open a f m) (refuse_open b f n)
  refused = record { are = refl }

  -- a choice by tests that come out alike
  pub choose_same : (a b : Bool) {x y z w : Result X Refusal} → a ≡ b → (a ≡ true → Both R x z)
      → (a ≡ false → Both R y w) → Both R (cond a x y) (cond b z w)
  choose_same a b e then else = both_by a b _ _ _ _ (Both R) e (λ h _. then h) (λ h _. else h)

  pub choose : (a : Bool) {x y z w : Result X Refusal} → (a ≡ true → Both R x z) → (a ≡ false → Both R y w)
      → Both R (cond a x y) (cond a z w)
  choose a then else = choose_same a a refl then else

  module _ {text : List ℕ} {s t : Cursor} (p : ℕ → Bool) {x y z w : Result X Refusal} where
    -- by the first character, where it does not tell breaks apart
    pub choose_first : p 13 ≡ p 10 → AreAlike text s t → (p (slice_index s.rest 0) ≡ true → Both R x z)
        → (p (slice_index s.rest 0) ≡ false → Both R y w)
        → Both R (cond (p (slice_index s.rest 0)) x y) (cond (p (slice_index t.rest 0)) z w)
    choose_first same e then else =
        choose_same (p (slice_index s.rest 0)) (p (slice_index t.rest 0)) (first_in p same (normal_of e)) then else

    -- by whether it is in a class without breaks: so it may be passed
    pub choose_in : p 13 ≡ false → p 10 ≡ false → AreAlike text s t
        → (slice_index s.rest 0 ≡ slice_index t.rest 0 → AreAlike text (pass 1 s) (pass 1 t) → Both R x z) → Both R y w
        → Both R (cond (p (slice_index s.rest 0)) x y) (cond (p (slice_index t.rest 0)) z w)
    choose_in a b e then else = choose_first (rw (a, b) refl) e (λ h. let safe = no_break_in p b a s.rest h in
        then (first_same safe (normal_of e)) (one_passed safe e)) (λ _. else)

-- ## One step after another

pub and_known : {X Y : Type 0} {R : X → X → Type 0} {Q : Y → Y → Type 0} {r q : Result X Refusal}
    {f g : X → Result Y Refusal} → Both R r q
    → ((x y : X) → r ≡ Ok x → q ≡ Ok y → R x y → Both Q (f x) (g y)) → Both Q (r >>= f) (q >>= g)
and_known {r = Ok x} {q = Ok y} h next = next x y refl refl h.are
and_known {r = Err d} {q = Err e} h next = record { are = h.are }
and_known {r = Ok x} {q = Err e} h next = absurd h.are
and_known {r = Err d} {q = Ok y} h next = absurd h.are

pub and_then : {X Y : Type 0} {R : X → X → Type 0} {Q : Y → Y → Type 0} {r q : Result X Refusal}
    {f g : X → Result Y Refusal} → Both R r q → ((x y : X) → R x y → Both Q (f x) (g y)) → Both Q (r >>= f) (q >>= g)
and_then h next = and_known h (λ x y _ _ is. next x y is)

module _ {X Y : Type 0} {text : List ℕ} {Q : Y → Y → Type 0} (f g : X × Cursor → Result Y Refusal) where
  -- after the same value
  pub with_same : {x y : X × Cursor} → AreSame text x y
      → ((v : X) (s t : Cursor) → AreAlike text s t → Both Q (f (v, s)) (g (v, t))) → Both Q (f x) (g y)
  with_same {x} {y} is next = subst (λ v. Both Q (f x) (g (v, y.1))) is.0 (next x.0 x.1 y.1 is.1)

  pub and_same : {r q : Result (X × Cursor) Refusal} → Both (AreSame text) r q
      → ((v : X) (s t : Cursor) → AreAlike text s t → Both Q (f (v, s)) (g (v, t))) → Both Q (r >>= f) (q >>= g)
  and_same h next = and_then h (λ x y is. with_same is next)
