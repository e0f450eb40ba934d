-- Classes of characters: one excludes another, or holds it.
use Rattle.std.proofs.Common.{◌≡◌, ℕ, Bool, true, false, not, List, ◌∷◌, nat_eq, refl, arith, subst, IsTrue}
use Rattle.std.specs.Prelude.{◌&&◌, ◌==◌}
use Rattle.std.proofs.lemmas.Bool.Decides.{nat_tests}
use Rattle.saphyr_input.specs.Breaks.{normalized}
use Rattle.saphyr_input.specs.Classes.{line_feed, is_z, is_break, is_breakz, is_blank, is_yaml_non_break, carriage_return}
use Rattle.saphyr_input.proofs.Basics.Booleans.{either}

pub z_is_nul : (c : ℕ) → is_z c ≡ true → c ≡ 0
z_is_nul c h = grind (arith, nat_tests)

pub blank_cases : (c : ℕ) → is_blank c ≡ true → (P : ℕ → Type 0) → P 32 → P 9 → P c
blank_cases c h P space tab = either (nat_eq c 32) (nat_eq c 9) (P c) h
    (λ is. let e : 32 ≡ c = grind (arith, nat_tests) in subst P e space)
    (λ is. let e : 9 ≡ c = grind (arith, nat_tests) in subst P e tab)

pub blank_no_break : (c : ℕ) → is_blank c ≡ true → is_break c ≡ false
blank_no_break c h = blank_cases c h (λ x. is_break x ≡ false) refl refl

pub blank_no_feed : (c : ℕ) → IsTrue (is_blank c) → IsTrue (not (c == line_feed))
blank_no_feed c h = grind (arith, nat_tests)

pub no_blank_no_tab : (c : ℕ) → is_blank c ≡ false → (c == 9) ≡ false
no_blank_no_tab c h = grind (arith, nat_tests)

pub non_break_no_break : (c : ℕ) → is_yaml_non_break c ≡ true → is_break c ≡ false
non_break_no_break c h = grind (arith, nat_tests)

pub non_break_no_feed : (c : ℕ) → IsTrue (is_yaml_non_break c) → IsTrue (not (c == line_feed))
non_break_no_feed c h = grind (arith, nat_tests)

pub non_break_feed_fails : (c : ℕ) → is_yaml_non_break c ≡ true → (c == line_feed) ≡ false
non_break_feed_fails c h = grind (arith, nat_tests)

pub no_break_no_feed : (c : ℕ) → is_break c ≡ false → IsTrue (not (c == line_feed))
no_break_no_feed c h = grind (arith, nat_tests)

pub breakz_no_non_break : (c : ℕ) → is_breakz c ≡ true → is_yaml_non_break c ≡ false
breakz_no_non_break c h = rw h refl

pub no_return : (c : ℕ) → is_break c ≡ false → (c == carriage_return) ≡ false
no_return c h = grind (arith, nat_tests)

pub return_breaks : (c : ℕ) (b : Bool) → ((c == carriage_return) && b) ≡ true → is_break c ≡ true
return_breaks c true h = grind (arith, nat_tests)
return_breaks c false h = absurd (none (c == 13) h)
  where
    none : (a : Bool) → (a && false) ≡ true → ⊥
    none true e = cc
    none false e = cc

pub normalized_other : (c : ℕ) (cs : List ℕ) → (c == carriage_return) ≡ false → normalized (c ∷ cs) ≡ c ∷ normalized cs
normalized_other c cs h = rw h refl
