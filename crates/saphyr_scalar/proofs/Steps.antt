-- Steps that gave something, and choices between something and a refusal.
use Rattle.saphyr_scalar.proofs.Common.{◌≡◌, Bool, true, false, cond, Result, Ok, Err, refl, Refusal, ◌>>=◌}

pub no_result : {A E : Type 0} (e : E) (x : A) (P : Type 0) → Err e ≡ Ok x → P
no_result e x P h = absurd (cc)

pub record Bound {A B : Type 0} (r : Result A Refusal) (f : A → Result B Refusal) (y : B) : Type 0 where
  pub given : A
  pub first : r ≡ Ok given
  pub next : f given ≡ Ok y

pub bind_ok : {A B : Type 0} (r : Result A Refusal) (f : A → Result B Refusal) (y : B) → (r >>= f) ≡ Ok y → Bound r f y
bind_ok (Ok x) f y h = record { given = x; first = refl; next = h }
bind_ok (Err e) f y h = no_result e y (Bound (Err e) f y) h

pub record Chosen {A : Type 0} (t : Bool) (z y : A) : Type 0 where
  pub test : t ≡ true
  pub same : z ≡ y

pub ok_same : {A : Type 0} (z y : A) → (let r : Result A Refusal = Ok z in r ≡ Ok y) → z ≡ y
ok_same z y h = cc

-- a choice between something and a refusal
pub cond_ok : {A : Type 0} (t : Bool) (z y : A) (e : Refusal)
    → (let r : Result A Refusal = cond t (Ok z) (Err e) in r ≡ Ok y) → Chosen t z y
cond_ok true z y e h = record { test = refl; same = ok_same z y h }
cond_ok false z y e h = no_result e y (Chosen false z y) h

pub record Otherwise {A : Type 0} (t : Bool) (r : Result A Refusal) (y : A) : Type 0 where
  pub test : t ≡ false
  pub same : r ≡ Ok y

pub cond_not : {A : Type 0} (t : Bool) (r : Result A Refusal) (y : A) (e : Refusal) → cond t (Err e) r ≡ Ok y
    → Otherwise t r y
cond_not true r y e h = no_result e y (Otherwise true r y) h
cond_not false r y e h = record { test = refl; same = h }

pub record Then {A : Type 0} (t : Bool) (r : Result A Refusal) (y : A) : Type 0 where
  pub test : t ≡ true
  pub same : r ≡ Ok y

pub cond_then : {A : Type 0} (t : Bool) (r : Result A Refusal) (y : A) (e : Refusal) → cond t r (Err e) ≡ Ok y
    → Then t r y
cond_then true r y e h = record { test = refl; same = h }
cond_then false r y e h = no_result e y (Then false r y) h
