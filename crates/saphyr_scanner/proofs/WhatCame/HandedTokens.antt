-- What a scanner has handed out, with the tokens still to come, is all tokens of its text.
use Rattle.std.proofs.Common.{◌≡◌, ℕ, true, false, List, [], ◌∷◌, ◌++◌, Option, Some, Ok, Err, refl, ap, subst, arith}
use Rattle.std.proofs.lemmas.Bool.{cond-true, cond-false}
use Rattle.std.proofs.lemmas.List.{append_assoc}
use Rattle.saphyr_scalar.specs.declared.scalar.fault.Refusal.{Refusal}
use Rattle.saphyr_scanner.specs.Views.Tokens.{Piece, Remaining, before, refusal_alone}
use Rattle.saphyr_scanner.specs.Steps.Queue.{Place}
use Rattle.saphyr_scanner.specs.Steps.Core.{drop_far_key}
use Rattle.saphyr_scanner.specs.Steps.State.{State, start}
use Rattle.saphyr_scanner.specs.Steps.Fetch.{needs_token, take_token}
use Rattle.saphyr_scanner.specs.Steps.Remaining.{hand_out, remaining, scan}
use Rattle.saphyr_scanner.proofs.Effects.Readers.{Readers}
use Rattle.saphyr_scanner.proofs.Handing.Filling.{read, going, smaller_read, IsSettled, read_settles}
use Rattle.saphyr_scanner.proofs.Handing.Turns.{TakesToken, first_taken}
use Rattle.saphyr_scanner.proofs.Handing.Unroll.{enough, rest, remaining_is, settled_is}
use Rattle.saphyr_scanner.specs.Longer.{ScansTo, starts, reads, takes, before_all}

-- one token more before others
regrouped : (front : List Piece) (x : Piece) (r : Remaining)
    → before_all (front ++ x ∷ []) r ≡ before_all front (before x r)
regrouped front x r = cc (append_assoc front (x ∷ []) r.pieces)

-- ## A token is read, or taken off

none_first : (ps : List Place) (go : State → Remaining) (s : State) → needs_token s ≡ true → hand_out ps go s ≡ go s
none_first [] go s needs = refl
none_first (p ∷ ps) go s needs = cond-true (needs_token s) _ _ needs

read_first : Readers → (limit : ℕ) (s u : State) → needs_token s ≡ true → read limit s ≡ Ok u
    → rest limit s ≡ rest limit u
read_first laws limit s u needs e = grind (arith, none_first, cond-false, going, enough, smaller_read)

-- ## All tokens

start_settled : (text : List ℕ) → IsSettled (start text)
unfolding drop_far_key
start_settled text = refl

first : (limit : ℕ) (s u : State) (x : Piece) → needs_token s ≡ false → take_token s ≡ (Some x, u)
    → rest limit s ≡ before x (rest limit u)
first limit s u x ready e = subst (λ (r : Option Piece × State). TakesToken limit s r) e
    (first_taken limit s.core s.queue.places s.queue.handed ready)

settled_taken : (s u : State) (x : Piece) → take_token s ≡ (Some x, u) → IsSettled s → IsSettled u
settled_taken s u x e h = rw (ap (λ (y : Option Piece × State). y.1.core) e) at h

handed : Readers → (limit : ℕ) (text : List ℕ) (ts : List Piece) (s : State) → ScansTo limit text ts s
    → IsSettled s × (scan limit text ≡ before_all ts (rest limit s))
handed laws limit text _ _ starts =
    let h = start_settled text in (h, remaining_is limit (start text) (start text) (settled_is (start text) h))
handed laws limit text _ _ (reads ts s u h needs e known) = (
  read_settles limit s u e,
  cc ((handed laws limit text ts s h).1, read_first laws limit s u needs e),
)
handed laws limit text _ _ (takes ts s u x h ready e) =
    let w = handed laws limit text ts s h in (
      settled_taken s u x e w.0,
      cc (first limit s u x ready e, regrouped ts x (rest limit u)),
    )

pub all_tokens : Readers → (limit : ℕ) (text : List ℕ) (ts : List Piece) (s : State)
    → ScansTo limit text ts s → scan limit text ≡ before_all ts (remaining limit s)
all_tokens laws limit text ts s h =
    let w = handed laws limit text ts s h in cc (remaining_is limit s s (settled_is s w.0))

pub refusal_ends : Readers → (limit : ℕ) (text : List ℕ) (ts : List Piece) (s : State) (e : Refusal)
    → ScansTo limit text ts s → needs_token s ≡ true → read limit s ≡ Err e
    → scan limit text ≡ before_all ts (refusal_alone e)
refusal_ends laws limit text ts s e h needs is = grind (arith, handed, none_first, cond-false, going)
