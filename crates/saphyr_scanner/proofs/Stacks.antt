-- A stack whose top is the last item of a vector.
use Rattle.std.proofs.Common.{◌≡◌, List, [], ◌∷◌, ◌++◌, refl}
use Rattle.std.specs.Prelude.{reverse}
use Rattle.std.proofs.lemmas.List.{reverse-append}

pub top_off : {X : Type 0} → (before after : List X) (x : X) → before ≡ after ++ x ∷ []
    → reverse before ≡ x ∷ reverse after
top_off before after x e = rw (e, reverse-append) refl
