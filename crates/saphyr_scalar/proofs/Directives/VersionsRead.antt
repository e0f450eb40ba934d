-- Each spelled version directive is read.
use Rattle.saphyr_scalar.proofs.Common.{◌≡◌, ℕ, suc, ◌+◌, ◌-◌, ◌*◌, ◌<◌, ◌≤◌, true, false, List, [], ◌∷◌, ◌++◌, length, add-zero, slice_index, nat_eq, Result, Ok, refl, ap, ◌∙◌, arith, lt-ltb, nat_tests, full_stop, is_digit, is_blank, Marker, Refusal, Cursor, ◌>>=◌, along, other_than, some_length}
use Rattle.saphyr_scalar.specs.Steps.Directive.{number_end, number_from, number, behind_major, version_directive}
use Rattle.saphyr_scalar.specs.Spelling.Directive.{ReadDirective, version, AreSomeBlanks, decimal_from, IsVersionNumber}
use Rattle.saphyr_scalar.specs.Steps.Quoted.{mid_line}
use Rattle.saphyr_scalar.specs.Spelling.Tag.{AreIn}
use Rattle.saphyr_scalar.proofs.Moving.{along_none, along_more}
use Rattle.saphyr_scalar.proofs.Places.{along_four}
use Rattle.saphyr_scalar.proofs.Directives.PartEnds.{first_of, blanks_read, said}

digits_read : (start : Marker) (n v : ℕ) (m : Marker) (ds y : List ℕ) → n + length ds ≤ 9 → AreIn is_digit ds
    → is_digit (slice_index y 0) ≡ false
    → number_from start n v m (ds ++ y)
    ≡ number_end start (n + length ds) (decimal_from v ds) (mid_line (along m (length ds)) y)
unfolding number_from
digits_read start n v m [] [] few are ends = rw (along_none m, add-zero n) refl
digits_read start n v m [] (c ∷ y) few are ends = rw (along_none m, ends, add-zero n) refl
digits_read start n v m (d ∷ ds) y few (is, are) ends =
    let grown = v * 10 + (d - 48) in
    rw (is, lt-ltb n 9 (omega arith)) (digits_read start (suc n) grown (along m 1) ds y (omega arith) are ends
    ∙ ap (λ k. number_end start k (decimal_from grown ds) (mid_line (along (along m 1) (length ds)) y)) (omega arith)
    ∙ ap (λ k. number_end start (n + suc (length ds)) (decimal_from grown ds) (mid_line k y))
    (along_more m 1 (length ds) (suc (length ds)) (omega arith)))

number_ends : (start : Marker) (n v : ℕ) (s : Cursor) → 0 < n → number_end start n v s ≡ Ok (v, s)
unfolding number_end
number_ends start n v s some = let no : nat_eq n 0 ≡ false = grind (arith, nat_tests) in rw no refl

number_read : (start m : Marker) (v : ℕ) (ds y : List ℕ) → IsVersionNumber v ds → is_digit (slice_index y 0) ≡ false
    → number start (mid_line m (ds ++ y)) ≡ Ok (v, mid_line (along m (length ds)) y)
number_read start m v ds y u0 ends = grind (arith, digits_read, number_ends, some_length)

digit_no_blank : (c : ℕ) → is_digit c ≡ true → is_blank c ≡ false
digit_no_blank c h = rw (other_than is_digit 32 c refl h, other_than is_digit 9 c refl h) refl

abbrev then_major : Marker → Result (ℕ × Cursor) Refusal → Result (ReadDirective × Cursor) Refusal
then_major start r = r >>= λ x. behind_major start x

abbrev then_minor : ℕ → Result (ℕ × Cursor) Refusal → Result (ReadDirective × Cursor) Refusal
then_minor major r = r >>= λ y. Ok (version major y.0, y.1)

pub version_read : (start m : Marker) (major minor : ℕ) (gap high low y : List ℕ) → AreSomeBlanks gap
    → IsVersionNumber major high → IsVersionNumber minor low → is_digit (slice_index y 0) ≡ false
    → version_directive start (mid_line m (gap ++ (high ++ (full_stop ∷ (low ++ y)))))
    ≡ Ok (version major minor, mid_line (along m (length gap + length high + 1 + length low)) y)
unfolding version_directive behind_major
version_read start m major minor gap high low y blanks first second ends =
    let there = along m (length gap) in
    ap (λ s. then_major start (number start s)) (blanks_read m gap (high ++ (46 ∷ (low ++ y))) blanks.1
    (digit_no_blank (slice_index (high ++ (46 ∷ (low ++ y))) 0)
    (first_of is_digit high (46 ∷ (low ++ y)) first.0 first.2)))
    ∙ ap (then_major start) (number_read start there major high (46 ∷ (low ++ y)) first refl)
    ∙ ap (then_minor major) (number_read start (along (along there (length high)) 1) minor low y second ends)
    ∙ ap (λ k. said (version major minor) (mid_line k y))
    (along_four m (length gap) (length high) 1 (length low) (length gap + length high + 1 + length low) refl)
