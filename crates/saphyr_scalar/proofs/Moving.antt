-- Moving along a line, and choices.
use Rattle.saphyr_scalar.proofs.Common.{◌≡◌, ℕ, ◌+◌, List, drop, Result, Ok, refl, sym, ap, ◌∙◌, arith, add-zero, drop-drop, Marker, ◌>>=◌, along}

pub along_none : (m : Marker) → along m 0 ≡ m
along_none m = rw (add-zero m.index, add-zero m.col) refl

pub along_more : (m : Marker) (a b n : ℕ) → n ≡ a + b → along (along m a) b ≡ along m n
along_more m a b n e = grind arith

pub drop_more : (a b n : ℕ) (xs : List ℕ) → n ≡ b + a → drop a (drop b xs) ≡ drop n xs
drop_more a b n xs e = drop-drop a b xs ∙ ap (λ k. drop k xs) (sym e)

pub bind_same : {A B E : Type 0} (r : Result A E) (f g : A → Result B E) → ((x : A) → r ≡ Ok x → f x ≡ g x)
    → (r >>= f) ≡ (r >>= g)
bind_same r f g h = grind arith
