-- How long white space and its comment are, told at the end of the white space.
use Rattle.std.proofs.Common.{◌≡◌, ℕ, ◌+◌, ◌<◌, ◌^◌, Bool, true, false, List, length, take, drop, get_or, refl, sym, ap, ◌∙◌, cond, arith, nat_eq, ◌||◌, add-zero}
use Rattle.std.specs.Prelude.{◌==◌}
use Rattle.std.specs.List.{prefix_len, list_any}
use Rattle.std.proofs.lemmas.List.{get_or-drop}
use Rattle.std.proofs.lemmas.List.Folds.{list_any_more}
use Rattle.std.proofs.lemmas.List.Sums.{prefix_len-le-length}
use Rattle.std.proofs.lemmas.Bool.{eqb-true}
use Rattle.std.proofs.lemmas.Bool.Decides.{nat_tests}
use Rattle.saphyr_input.specs.Indicators.{number_sign}
use Rattle.saphyr_input.specs.Classes as class
use Rattle.saphyr_input.specs.Separation as separation
use Rattle.saphyr_input.specs.declared.input.SkipTabs.{SkipTabs}
use Rattle.saphyr_input.specs.declared.input.SkipTabs.TheVariants.{Yes, No, Result}
use Rattle.saphyr_input.proofs.Basics.Booleans.{and_true_left, and_true_right}
use Rattle.saphyr_input.proofs.Runs.{TakesRun, goes, runs_all}

-- nothing skips NUL
pub skips_no_nul : (tabs : SkipTabs) → separation.is_skipped tabs 0 ≡ false
skips_no_nul Yes = refl
skips_no_nul No = refl
skips_no_nul (Result _ _) = refl

-- whether one was met, with one character more
pub met_more : (p test : ℕ → Bool) (start now : List ℕ) (n c loaded : ℕ) (met : Bool) → p 0 ≡ false → p c ≡ true
    → TakesRun p start now n c loaded → met ≡ list_any test (take n start)
    → (met || test c) ≡ list_any test (take (n + 1) start)
met_more p test start now n c loaded met z h r e =
    let here : p (get_or now 0 0) ≡ true = rw (← r.read) h in
    let one = goes p now z here in
    let lt : n < length start = omega (arith, one.total, r.ran.total) in
    let same : c ≡ get_or start n 0 = r.read ∙ ap (λ (xs : List ℕ). get_or xs 0 0) r.ran.left
    ∙ get_or-drop n start 0 0 ∙ ap (λ (i : ℕ). get_or start i 0) (add-zero n) in
    rw (e, same) (sym (list_any_more test start n 0 lt))

module _ (tabs : SkipTabs) (start now : List ℕ) (n c loaded : ℕ)
    (runs : TakesRun (separation.is_skipped tabs) start now n c loaded)
    (stops : separation.is_skipped tabs c ≡ false) where
  ended : n ≡ separation.blank_len tabs start
  ended = runs_all (separation.is_skipped tabs) start now n c loaded stops runs

  known : separation.separation_len tabs start
      ≡ cond (nat_eq n 0) 0 (n + cond (nat_eq c 35) (prefix_len class.is_yaml_non_break now) 0)
  known = rw (← ended, ← runs.ran.left, ← runs.read) refl

  -- a comment after the white space
  pub with_comment : (m : ℕ) → (n ≡ 0 → ⊥) → c ≡ number_sign → m ≡ prefix_len class.is_yaml_non_break now
      → n + m ≡ separation.separation_len tabs start
  with_comment m some hash e =
      let many : nat_eq n 0 ≡ false = grind (arith, nat_tests) in
      let is : nat_eq c 35 ≡ true = rw hash refl in
      rw (known, many, is, e) refl

  -- no comment after the white space
  pub without_comment : (c ≡ number_sign → ⊥) → n ≡ separation.separation_len tabs start
  without_comment none =
      let other : nat_eq c 35 ≡ false = grind (arith, nat_tests) in
      rw (known, other) (none_added n)
    where
      none_added : (k : ℕ) → k ≡ cond (nat_eq k 0) 0 (k + 0)
      none_added k = grind (arith, nat_tests)

  -- the blanks that were met
  pub blanks_met : (test : ℕ → Bool) (met : Bool) → met ≡ list_any test (take n start)
      → met ≡ list_any test (take (separation.blank_len tabs start) start)
  blanks_met test met e = rw (← ended) e

  -- all of it is in the text
  pub within : (m : ℕ) → m ≡ prefix_len class.is_yaml_non_break now → n + m < 2 ^ 64
  within m e = omega (arith, runs.ran.total, runs.countable, prefix_len-le-length class.is_yaml_non_break now, e)

  -- where nothing is skipped

  pub still_there : n ≡ 0 → now ≡ drop 0 start
  still_there none = runs.ran.left ∙ ap (λ (k : ℕ). drop k start) none

  first_is : n ≡ 0 → c ≡ get_or start 0 0
  first_is none = runs.read ∙ ap (λ (xs : List ℕ). get_or xs 0 0) (still_there none)

  pub none_long : n ≡ 0 → 0 ≡ separation.separation_len tabs start
  none_long none =
      let len : separation.blank_len tabs start ≡ 0 = sym ended ∙ none in
      rw len refl

  pub bare_is : n ≡ 0 → c ≡ number_sign → separation.is_bare_comment tabs start ≡ true
  bare_is none hash =
      let len : separation.blank_len tabs start ≡ 0 = sym ended ∙ none in
      let first : get_or start 0 0 ≡ 35 = sym (first_is none) ∙ hash in
      rw (len, first) refl

  pub bare_says : separation.is_bare_comment tabs start ≡ true → (n ≡ 0) × (c ≡ number_sign)
  bare_says h =
      let a = separation.blank_len tabs start == 0 in
      let b = get_or start 0 0 == 35 in
      let none : n ≡ 0 = ended ∙ eqb-true _ 0 (and_true_left a b h) in (
        none,
        first_is none ∙ eqb-true _ 35 (and_true_right a b h),
      )
