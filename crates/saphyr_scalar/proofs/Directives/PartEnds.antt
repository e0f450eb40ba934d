-- What ends a part of a directive, and the blanks before a part.
use Rattle.saphyr_scalar.proofs.Common.{◌≡◌, ◌≢◌, ℕ, Bool, true, false, List, [], ◌∷◌, ◌++◌, length, slice_index, nat_eq, Result, Ok, refl, ap, ◌∙◌, arith, subst, drop-append_seam, nat_tests, is_digit, is_uri_char, is_blank, is_breakz, is_blank_or_breakz, is_yaml_non_space, Marker, Refusal, Cursor, along, pass_blanks, pass_all_blanks, either}
use Rattle.saphyr_scalar.specs.Spelling.Directive.{ReadDirective}
use Rattle.saphyr_scalar.specs.Steps.Quoted.{mid_line}
use Rattle.saphyr_scalar.specs.Spelling.Tag.{AreIn}
use Rattle.saphyr_scalar.proofs.Runs.{run_len}

pub record EndsPart (c : ℕ) : Type 0 where
  pub no_uri : is_uri_char c ≡ false
  pub no_digit : is_digit c ≡ false
  pub no_name : is_yaml_non_space c ≡ false

same_as : (c n : ℕ) → nat_eq c n ≡ true → EndsPart n → EndsPart c
same_as c n h is = let e : n ≡ c = grind (arith, nat_tests) in subst EndsPart e is

ends_blank : (c : ℕ) → is_blank c ≡ true → EndsPart c
ends_blank c h = grind (arith, either, nat_eq, same_as)

ends_breakz : (c : ℕ) → is_breakz c ≡ true → EndsPart c
ends_breakz c h = grind (arith, either, nat_eq, same_as)

pub ends_at : (c : ℕ) → is_blank_or_breakz c ≡ true → EndsPart c
ends_at c h = either (is_blank c) (is_breakz c) (EndsPart c) h (ends_blank c) (ends_breakz c)

pub first_of : (p : ℕ → Bool) (w y : List ℕ) → w ≢ [] → AreIn p w → p (slice_index (w ++ y) 0) ≡ true
first_of p [] y some are = absurd (some refl)
first_of p (c ∷ w) y some (is, are) = is

abbrev pub blanks_passed : ℕ → Marker → List ℕ → Cursor
blanks_passed n m xs = pass_blanks n (mid_line m xs)

pub blanks_read : (m : Marker) (gap y : List ℕ) → AreIn is_blank gap → is_blank (slice_index y 0) ≡ false
    → pass_all_blanks (mid_line m (gap ++ y)) ≡ mid_line (along m (length gap)) y
blanks_read m gap y are ends =
    ap (λ n. blanks_passed n m (gap ++ y)) (run_len is_blank gap y are ends) ∙ rw (drop-append_seam gap y) refl

abbrev pub said : ReadDirective → Cursor → Result (ReadDirective × Cursor) Refusal
said d s = Ok (d, s)
