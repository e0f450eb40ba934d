-- Where neither a blank nor a comment nor a byte order mark is, nothing separates.
use Rattle.saphyr_scalar.proofs.Common.{◌≡◌, ℕ, Bool, false, List, [], ◌∷◌, slice_index, Ok, refl, arith, ◌==◌, prefix_len, number_sign, is_bom, is_skipped, SkipTabs}
use Rattle.saphyr_input.specs.declared.input.SkipTabs.TheVariants.{Result}
use Rattle.saphyr_scalar.specs.Views.Cursor.{Cursor, separation, behind_separation}

-- no character comes first that a test lets through
pub no_run : (p : ℕ → Bool) (xs : List ℕ) → p (slice_index xs 0) ≡ false → prefix_len p xs ≡ 0
no_run p [] h = refl
no_run p (c ∷ cs) h = rw h refl

pub nothing_separates : (tabs : SkipTabs) (s t : Cursor) (c : ℕ) → c ≡ slice_index s.rest 0 → t ≡ s
    → is_skipped tabs c ≡ false → (c == number_sign) ≡ false → is_bom c ≡ false
    → separation tabs s ≡ Ok (Result false false, t)
unfolding separation behind_separation
nothing_separates tabs s t c first same skipped comment mark = grind arith
