-- A status is told as one of C's numbers.
use Rattle.std.proofs.Common.{◌≡◌, ◌∙◌, ℤ, ap, refl, subst, of_z, to_z, w32}
use mathlib.Core.Option.{Option, some}
use Rattle.saphyr_parser_c.specs.declared.inner.Inner.{Inner}
use Rattle.saphyr_parser_c.specs.declared.status.Status.{Status}
use Rattle.saphyr_parser_c.specs.declared.status.Status.TheVariants as status
use Rattle.saphyr_parser_c.specs.Status.{code_of}

fits : (s : Status) → to_z w32 (of_z w32 (code_of s)) ≡ code_of s
fits status.Done = refl
fits _ = refl

pub code_kept : (s : Status) (z : ℤ) → z ≡ code_of s → to_z w32 (of_z w32 z) ≡ code_of s
code_kept s z e = ap (λ (y : ℤ). to_z w32 (of_z w32 y)) e ∙ fits s

-- a parser that was taken out of its handle is put back, and what it did is told
pub put_back : (acts : Inner → Status → Inner → Type 0) (old mid new : Inner) (s : Status) (held : Option Inner)
    (code : ℤ) → mid ≡ old → held ≡ some new → code ≡ code_of s → acts mid s new
    → (inner : Inner) × (t : Status) × (held ≡ some inner) × (to_z w32 (of_z w32 code) ≡ code_of t) × acts old t inner
put_back acts old mid new s held code is back told acted =
    (new, s, back, code_kept s code told, subst (λ (m : Inner). acts m s new) is acted)
