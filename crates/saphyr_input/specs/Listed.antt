-- An iterator over characters whose calls of `next` give the items of one list, up to the first `None`.
-- `can` holds of the states at which `next` may be called, and `gives` of a state, what `next` gives there and the
-- state after it.
use Rattle.std.specs.Prelude.{◌≡◌, ℕ, suc, zero, List, [], ◌∷◌, take, Option, Some, None, refl}
use Rattle.std.proofs.Common.{sym, ◌∙◌, ap, subst}
use Rattle.std.proofs.Props.{props}
use Rattle.std.proofs.Math.Logic.{∥∥₁_elim}
use Rattle.std.specs.Coded.{×_prop}
use mathlib.Core.HLevel.{Σ_prop_path}
use mathlib.Core.HProp.{IsProp-prop}

-- the character that came, or 0 where none did
abbrev item : Option ℕ → ℕ
item None = 0
item (Some c) = c

abbrev Came : Option ℕ → Type 0
Came None = ⊥
Came (Some c) = Unit {0}

came_not : {A : Type 0} (c : ℕ) → None ≡ Some c → A
came_not c e = absurd (subst Came (sym e) tt)

module _ {S : Type 0} (can : S → Type 0) (gives : S → Option ℕ → S → Type 0) where
  -- `next` may be called, which is a fact with one proof
  abbrev pub IsCallable : S → Type 0
  IsCallable s = IsProp (can s) × can s

  IsCallable-prop : (s : S) → IsProp (IsCallable s)
  IsCallable-prop s = λ u v. ×_prop IsProp-prop u.0 u v

  -- a call of `next` can give r, and gives nothing else
  abbrev pub GivesOnly : S → Option ℕ → Type 0
  GivesOnly s r = ∥ ((t : S) × gives s r t) ∥₁ × ((q : Option ℕ) (t : S) → gives s q t → q ≡ r)

  -- the calls of `next` give the items of the list, and then `None`
  abbrev pub Lists : S → List ℕ → Type 0
  Lists s [] = IsCallable s × GivesOnly s None
  Lists s (x ∷ xs) = IsCallable s × GivesOnly s (Some x) × ((t : S) → gives s (Some x) t → Lists t xs)

  pub Lists-prop : (s : S) (xs : List ℕ) → IsProp (Lists s xs)
  Lists-prop s [] = hlevel (props, IsCallable-prop s)
  Lists-prop s (x ∷ xs) = hlevel (props, IsCallable-prop s, λ (t : S). Lists-prop t xs)

  pub Lists-one : (s : S) (xs ys : List ℕ) → Lists s xs → Lists s ys → xs ≡ ys
  Lists-one s [] [] a b = refl
  Lists-one s [] (y ∷ ys) a b =
      ∥∥₁_elim b.1.0 (hlevel props) (λ (p : (t : S) × gives s (Some y) t). came_not y (sym (a.1.1 (Some y) p.0 p.1)))
  Lists-one s (x ∷ xs) [] a b =
      ∥∥₁_elim a.1.0 (hlevel props) (λ (p : (t : S) × gives s (Some x) t). came_not x (sym (b.1.1 (Some x) p.0 p.1)))
  Lists-one s (x ∷ xs) (y ∷ ys) a b =
      ∥∥₁_elim b.1.0 (hlevel props)
      (λ (p : (t : S) × gives s (Some y) t).
      let same : Some y ≡ Some x = a.1.1 (Some y) p.0 p.1 in
      let before : gives s (Some x) p.0 = subst (λ (r : Option ℕ). gives s r p.0) same p.1 in
      let rest : xs ≡ ys = Lists-one p.0 xs ys (a.2 p.0 before) (b.2 p.0 p.1) in
      ap (λ (c : ℕ). c ∷ xs) (sym (ap item same)) ∙ ap (λ (zs : List ℕ). y ∷ zs) rest)

  abbrev pub Listed : S → Type 0
  Listed s = (xs : List ℕ) × Lists s xs

  pub Listed-prop : (s : S) → IsProp (Listed s)
  Listed-prop s = λ u v. Σ_prop_path (Lists-prop s) (Lists-one s u.0 v.0 u.1 v.1)

  -- where some items may still be taken, the calls of `next` give a list
  abbrev pub Pending : ℕ → S → Type 0
  Pending zero s = Unit {0}
  Pending (suc left) s = Listed s

  pub Pending-prop : (left : ℕ) (s : S) → IsProp (Pending left s)
  Pending-prop zero s = hlevel props
  Pending-prop (suc left) s = Listed-prop s

  -- the items that will be taken
  abbrev pub pending : (left : ℕ) (s : S) → Pending left s → List ℕ
  pending zero s _ = []
  pending (suc left) s p = take (suc left) p.0
