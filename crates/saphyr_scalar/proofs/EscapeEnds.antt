-- Where an escape ends: the place n characters further, if anything is read.
use Rattle.saphyr_scalar.proofs.Common.{◌≡◌, ℕ, List, drop, Result, Ok, Err, refl, sym, ap, Marker, Refusal, Cursor, ◌>>=◌, along}
use Rattle.saphyr_scalar.specs.Steps.Quoted.{mid_line}

abbrev pub EscapeEnds : Marker → List ℕ → ℕ → Result (ℕ × Cursor) Refusal → Type 0
EscapeEnds m xs n r = (e : ℕ × Cursor) → r ≡ Ok e → e.1 ≡ mid_line (along m n) (drop n xs)

pub refused_ends : (m : Marker) (xs : List ℕ) (n : ℕ) (r : Refusal) → EscapeEnds m xs n (Err r)
refused_ends m xs n r e is = absurd (cc)

pub read : (m : Marker) (xs : List ℕ) (n v : ℕ) → EscapeEnds m xs n (Ok (v, mid_line (along m n) (drop n xs)))
read m xs n v e is = let pair : (v, mid_line (along m n) (drop n xs)) ≡ e = cc in sym
    (ap (λ (x : ℕ × Cursor). x.1) pair)

pub then_ends : (m : Marker) (xs : List ℕ) (n : ℕ) (r : Result (ℕ × Cursor) Refusal)
    (f : ℕ × Cursor → Result (ℕ × Cursor) Refusal)
    → ((x : ℕ × Cursor) → r ≡ Ok x → EscapeEnds m xs n (f x)) → EscapeEnds m xs n (r >>= f)
then_ends m xs n (Ok x) f h = h x refl
then_ends m xs n (Err r) f h = refused_ends m xs n r
