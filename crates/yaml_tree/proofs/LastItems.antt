-- The last item of a list, and one inside.
use Rattle.std.proofs.Common.{◌≡◌, List, [], ◌∷◌, ◌++◌, length, Some, refl, ap}
use Rattle.std.specs.List.{slice_get, slice_set}

pub nothing_before : {X : Type 0} (xs ys : List X) (y : X) → [] ≡ xs ++ (y ∷ ys) → ⊥
nothing_before [] ys y e = cc
nothing_before (x ∷ xs) ys y e = cc

pub none_is_last : {X : Type 0} (xs : List X) (x : X) → xs ++ x ∷ [] ≡ [] → ⊥
none_is_last [] x e = cc
none_is_last (y ∷ xs) x e = cc

pub same_last : {X : Type 0} (xs ys : List X) (x y : X) → xs ++ x ∷ [] ≡ ys ++ y ∷ [] → (xs ≡ ys) × (x ≡ y)
same_last [] [] x y e = (refl, cc)
same_last [] (z ∷ ys) x y e = let none : ys ++ y ∷ [] ≡ [] = cc in absurd (none_is_last ys y none)
same_last (z ∷ xs) [] x y e = let none : xs ++ x ∷ [] ≡ [] = cc in absurd (none_is_last xs x none)
same_last (z ∷ xs) (w ∷ ys) x y e =
    let inner : xs ++ x ∷ [] ≡ ys ++ y ∷ [] = cc in
    let same : z ≡ w = cc in
    let front = (same_last xs ys x y inner).0 in
    (cc, (same_last xs ys x y inner).1)

pub get_seam : {X : Type 0} (xs : List X) (y : X) (ys : List X) → slice_get (xs ++ (y ∷ ys)) (length xs) ≡ Some y
get_seam [] y ys = refl
get_seam (x ∷ xs) y ys = get_seam xs y ys

pub set_seam : {X : Type 0} (xs : List X) (y z : X) (ys : List X)
    → slice_set (xs ++ (y ∷ ys)) (length xs) z ≡ xs ++ (z ∷ ys)
set_seam [] y z ys = refl
set_seam (x ∷ xs) y z ys = ap (λ l. x ∷ l) (set_seam xs y z ys)
