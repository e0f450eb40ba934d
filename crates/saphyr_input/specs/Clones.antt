-- A clone of the characters of a text gives the same characters.
use Rattle.std.specs.Prelude.{◌≡◌, ℕ, ◌<◌, List, [], ◌∷◌, ◌++◌, length, slice_get, Option, Some, None, IsSome, encode_utf8, ⊤, refl}
use Rattle.std.proofs.Common.{sym, subst}
use Rattle.std.proofs.Math.Logic.{∥∥₁_elim, ∥∥₁_prop}
use Rattle.std.specs.Str.{chars}
use Rattle.std.specs.Str.Iter.{chars_rest, chars_steps}
use Rattle.std.specs.declared.str.Chars.{Chars}
use Rattle.saphyr_input.specs.Listed.{Lists, GivesOnly}

some_step : (s t u : Chars) (c : ℕ) → chars_rest s ≡ chars_rest t → chars_steps s (Some c) u → chars_steps t (Some c) u
some_step s t u c e h =
    subst (λ (b : List ℕ). (b ≡ encode_utf8 c ++ chars_rest u) × (0 < length b → IsSome (Some c))
    × (Some c ≡ slice_get (chars b) 0)) e h

none_step : (s t u : Chars) → chars_rest s ≡ chars_rest t → chars_steps s None u → chars_steps t None t
none_step s t u e h =
    let nothing : Option ℕ = None in (
      (subst (λ (b : List ℕ). length b ≡ 0) e h.0.0, refl),
      subst (λ (b : List ℕ). 0 < length b → IsSome nothing) e h.1,
      subst (λ (b : List ℕ). nothing ≡ slice_get (chars b) 0) e h.2,
    )

step : (s t u : Chars) (r : Option ℕ) → chars_rest s ≡ chars_rest t → chars_steps s r u
    → (v : Chars) × chars_steps t r v
step s t u None e h = (t, none_step s t u e h)
step s t u (Some c) e h = (u, some_step s t u c e h)

gives_only : (s t : Chars) (r : Option ℕ) → chars_rest t ≡ chars_rest s → GivesOnly (λ _. ⊤) chars_steps s r
    → GivesOnly (λ _. ⊤) chars_steps t r
gives_only s t r e h = (
  ∥∥₁_elim h.0 ∥∥₁_prop (λ (p : (u : Chars) × chars_steps s r u). ∣ step s t p.0 r (sym e) p.1 ∣₁),
  λ (q : Option ℕ) (v : Chars) (g : chars_steps t q v). let back = step t s v q e g in h.1 q back.0 back.1,
)

pub chars_faithful : (s t : Chars) → chars_rest t ≡ chars_rest s → (xs : List ℕ) → Lists (λ _. ⊤) chars_steps s xs
    → Lists (λ _. ⊤) chars_steps t xs
chars_faithful s t e [] h = (h.0, gives_only s t None e h.1)
chars_faithful s t e (x ∷ xs) h = (h.0, gives_only s t (Some x) e h.1, λ u g. h.2 u (some_step t s u x e g))
