-- Refusals at places on the way from one place to another.
use Rattle.saphyr_scalar.proofs.Common.{◌≡◌, ℕ, List, ◌∷◌, false, is_break, Refusal, Marker, Cursor, along}
use Rattle.saphyr_scalar.specs.Passing.{IsPassed, nothing, character}
use Rattle.saphyr_scalar.specs.RefusedInside.{IsRefusedInside}
use Rattle.saphyr_scalar.proofs.Block.PlacedHeaders.{passed_passed}

-- what is refused inside from a place on the way
pub inside_from : (s t : Cursor) (e : Refusal) → IsPassed s.mark s.rest t.mark t.rest → IsRefusedInside t e
    → IsRefusedInside s e
inside_from s t e p (behind, q) = (behind, passed_passed s.mark s.rest t.mark t.rest e.mark behind p q)

pub refused_there : (s t : Cursor) → IsPassed s.mark s.rest t.mark t.rest → (e : Refusal) → e.mark ≡ t.mark
    → IsRefusedInside s e
refused_there s t p e is = (t.rest, rw is p)

pub inside_start : (s : Cursor) (e : Refusal) → e.mark ≡ s.mark → IsRefusedInside s e
inside_start s e is = refused_there s s (nothing s.mark s.rest) e is

-- a character more is passed
pub one_more_passed : (s : Cursor) (m : Marker) (c : ℕ) (cs : List ℕ) → IsPassed s.mark s.rest m (c ∷ cs)
    → is_break c ≡ false → IsPassed s.mark s.rest (along m 1) cs
one_more_passed s m c cs p e =
    passed_passed s.mark s.rest m (c ∷ cs) (along m 1) cs p (character m c cs (along m 1) cs e (nothing (along m 1) cs))
