-- The first character of a text, and sets that all characters of a text are in.
use Rattle.scalar_laws.proofs.Common.{◌≡◌, ℕ, Bool, List, [], ◌∷◌, ◌++◌, sym, ap, slice_index, AreIn}

abbrev pub behind_first : List ℕ → List ℕ
behind_first [] = []
behind_first (c ∷ cs) = cs

pub heads : (a b : ℕ) (s t : List ℕ) → a ∷ s ≡ b ∷ t → b ≡ a
heads a b s t e = let f : a ≡ b = ap (λ x. slice_index x 0) e in sym f

pub tails : (a b : ℕ) (s t : List ℕ) → a ∷ s ≡ b ∷ t → s ≡ t
tails a b s t e = ap (λ x. behind_first x) e

-- ## Sets of characters

pub front_in : (set : ℕ → Bool) (a b : List ℕ) → AreIn set (a ++ b) → AreIn set a
front_in set [] b h = tt
front_in set (c ∷ cs) b (h, hs) = (h, front_in set cs b hs)

pub back_in : (set : ℕ → Bool) (a b : List ℕ) → AreIn set (a ++ b) → AreIn set b
back_in set [] b h = h
back_in set (c ∷ cs) b (h, hs) = back_in set cs b hs

pub both_in : (set : ℕ → Bool) (a b : List ℕ) → AreIn set a → AreIn set b → AreIn set (a ++ b)
both_in set [] b h k = k
both_in set (c ∷ cs) b h k = (h.0, both_in set cs b h.1 k)
