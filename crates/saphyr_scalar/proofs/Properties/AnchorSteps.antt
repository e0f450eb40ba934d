-- The name of an anchor or an alias, read behind a text.
use Rattle.saphyr_scalar.proofs.Common.{◌≡◌, ℕ, List, [], ◌∷◌, ◌++◌, length, Ok, refl, ap, arith, is_anchor_char, Marker, Cursor, is_missing, refuse_open, pass}
use Rattle.std.proofs.Math.Dec.{eqb-suc-zero}
use Rattle.std.proofs.lemmas.List.{append-nil, length-append}
use Rattle.saphyr_scalar.specs.declared.scalar.fault.FaultText.TheVariants as fault
use Rattle.saphyr_scalar.specs.Steps.Anchor.{anchor, anchor_name_of}
use Rattle.saphyr_scalar.specs.Steps.Quoted.{TextRead, with_front, with_run}

-- a name that was put behind a text
some_name : (m : Marker) (before name : List ℕ) (t : Cursor) → (length (before ++ name) ≡ length before → ⊥)
    → with_front before (anchor_name_of m (name, t)) ≡ Ok (before ++ name, t)
unfolding anchor_name_of
some_name m before [] t some = absurd (some (ap length (append-nil before)))
some_name m before (c ∷ cs) t some = rw (eqb-suc-zero (length cs)) refl

no_name : (m : Marker) (before name : List ℕ) (t : Cursor) → length (before ++ name) ≡ length before
    → with_front before (anchor_name_of m (name, t)) ≡ refuse_open (is_missing 0 t.rest) fault.AnchorNameExpected m
unfolding anchor_name_of
no_name m before u0 t none = grind (arith, length-append)

-- where its run was put there
pub anchor_behind : (s here there : Cursor) (before grown : List ℕ) → here ≡ pass 1 s
    → ◌≡◌ {A = TextRead} (Ok (with_run is_anchor_char before here)) (Ok (grown, there))
    → (length grown ≡ length before → ⊥) → with_front before (anchor s) ≡ Ok (grown, there)
unfolding anchor
anchor_behind s here there before grown first run some = grind (arith, some_name)

pub no_anchor_behind : (s here there : Cursor) (before grown : List ℕ) → here ≡ pass 1 s
    → ◌≡◌ {A = TextRead} (Ok (with_run is_anchor_char before here)) (Ok (grown, there))
    → length grown ≡ length before
    → with_front before (anchor s) ≡ refuse_open (is_missing 0 there.rest) fault.AnchorNameExpected s.mark
unfolding anchor
no_anchor_behind s here there before grown first run none = grind (arith, no_name)
