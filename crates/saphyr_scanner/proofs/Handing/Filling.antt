-- Tokens are read until the first of the queue can be handed out.
use Rattle.std.proofs.Common.{◌≡◌, ℕ, zero, suc, ◌<◌, Bool, true, false, Result, Ok, refl, arith}
use Rattle.std.specs.Prelude.{◌&&◌, not, None}
use Rattle.saphyr_scalar.specs.declared.scalar.fault.Refusal.{Refusal}
use Rattle.saphyr_scalar.specs.Views.Cursor.{◌>>=◌}
use Rattle.saphyr_scanner.specs.Steps.Core.{Core, drop_far_key}
use Rattle.saphyr_scanner.specs.Steps.State.{State, on_core}
use Rattle.saphyr_scanner.specs.Steps.Fetch.{size, fetch_within, without_far_key, needs_token, fill_in, fill}
use Rattle.saphyr_scanner.proofs.Effects.Readers.{Readers}
use Rattle.saphyr_scanner.proofs.Effects.Fetch.{Fetched, read_fetched}
use Rattle.saphyr_scalar.proofs.Given.{given_of, bind_ok}

pub going : (ended b : Bool) → (not ended && b) ≡ true → ended ≡ false
going ended b e = grind arith

-- the next token is read, and a candidate that is too far is dropped
abbrev pub read : ℕ → State → Result State Refusal
read limit s = fetch_within limit s >>= without_far_key

pub read_is : (limit : ℕ) (s t u : State) → fetch_within limit s ≡ Ok t → without_far_key t ≡ Ok u → read limit s ≡ Ok u
read_is limit s t u e f = rw e f

pub smaller_read : Readers → (limit : ℕ) (s u : State) → needs_token s ≡ true → read limit s ≡ Ok u
    → size u.core < size s.core
smaller_read laws limit s u needs e =
    (given_of (Fetched s) (read limit s) u (read_fetched limit s (going s.core.ended _ needs)) e).smaller laws

pub same_bind : {X Y : Type 0} → (r : Result X Refusal) (f g : X → Result Y Refusal) → ((x : X) → r ≡ Ok x → f x ≡ g x)
    → (r >>= f) ≡ (r >>= g)
same_bind r f g h = grind arith

pub enough : Readers → (limit n m : ℕ) (s : State) → size s.core < n → size s.core < m
    → fill_in n limit s ≡ fill_in m limit s
enough laws limit zero m s a b = absurd (omega (arith, a))
enough laws limit (suc n) zero s a b = absurd (omega (arith, b))
enough laws limit (suc n) (suc m) s a b =
    go (needs_token s) refl (λ u less. enough laws limit n m u (omega (arith, less, a)) (omega (arith, less, b)))
  where
    go : (t : Bool) → needs_token s ≡ t
        → ((u : State) → size u.core < size s.core → fill_in n limit u ≡ fill_in m limit u)
        → fill_in (suc n) limit s ≡ fill_in (suc m) limit s
    go true e h = rw e (same_bind (read limit s) _ _ (λ u q. h u (smaller_read laws limit s u e q)))
    go false e h = rw e refl

-- one token more
pub fetched_is_one_more : Readers → (limit : ℕ) (s u : State) → needs_token s ≡ true → read limit s ≡ Ok u
    → fill_in (suc (size u.core)) limit u ≡ fill_in (suc (size s.core)) limit s
fetched_is_one_more laws limit s u needs e = grind (arith, smaller_read, enough)

-- ## Where there is no candidate, none is too far

pub no_key_settles : (s : State) → s.core.level.key ≡ None → without_far_key s ≡ Ok s
unfolding drop_far_key
no_key_settles s e = grind arith

-- ## A candidate that was dropped stays so

not_twice : (c d : Core) → drop_far_key c ≡ Ok d → drop_far_key d ≡ Ok d
unfolding drop_far_key
not_twice c d = grind arith

-- what no candidate is too far in
abbrev pub IsSettled : State → Type 0
IsSettled s = drop_far_key s.core ≡ Ok s.core

core_of_on_core : (r : Result Core Refusal) (s t : State) → on_core r s.queue ≡ Ok t → r ≡ Ok t.core
core_of_on_core r s t e = grind arith

pub settled_once : (s t : State) → without_far_key s ≡ Ok t → IsSettled t
settled_once s t e = not_twice s.core t.core (core_of_on_core (drop_far_key s.core) s t e)

pub read_settles : (limit : ℕ) (s u : State) → read limit s ≡ Ok u → IsSettled u
read_settles limit s u e = let b = bind_ok (fetch_within limit s) without_far_key u e in settled_once b.0 u b.2

pub less_read : Readers → (limit : ℕ) (s u : State) → s.core.ended ≡ false → read limit s ≡ Ok u
    → size u.core < size s.core
less_read laws limit s u over e = (given_of (Fetched s) (read limit s) u (read_fetched limit s over) e).smaller laws

pub still_settled : (s t : State) → without_far_key s ≡ Ok t → without_far_key t ≡ Ok t
still_settled s t e = rw (settled_once s t e) refl

-- where no candidate is too far
pub settled_fill : (limit : ℕ) (s : State) → without_far_key s ≡ Ok s
    → fill_in (suc (size s.core)) limit s ≡ fill limit s
unfolding fill
settled_fill limit s e = rw e refl

pub filled_in_at_once : (limit : ℕ) (s : State) → needs_token s ≡ false → fill_in (suc (size s.core)) limit s ≡ Ok s
filled_in_at_once limit s none = rw none refl
