-- An escape that is spelled is read, without a fault, and gives its character.
use Rattle.saphyr_scalar.proofs.Common.{◌≡◌, ℕ, suc, Bool, true, false, List, [], ◌∷◌, ◌++◌, length, Ok, refl, sym, ap, ◌∙◌, arith, none-some, Option, Some, None, backslash, is_break, is_hex, Marker, along}
use Rattle.saphyr_scalar.specs.Values.Escapes.{digit_count, short_escape}
use Rattle.saphyr_scalar.specs.Spelling.Tag.{AreIn}
use Rattle.saphyr_scalar.specs.Steps.Quoted.{digits, character, escape_by_number, escape_of, escaped_character, mid_line}
use Rattle.saphyr_scalar.specs.Spelling.OneLine as spelling
use Rattle.saphyr_scalar.proofs.Moving.{along_none, along_more}
use Rattle.saphyr_scalar.proofs.Quoted.Escapes.{simple_no_digits}
use Rattle.saphyr_scalar.proofs.Quoted.Inside.{IsQuotedContent, break_cases}

-- where digits are, they are read
digits_read : (start m : Marker) (v : ℕ) (ds t : List ℕ) → AreIn is_hex ds
    → digits start (length ds) v (mid_line m (ds ++ t)) ≡ Ok (
      spelling.hexadecimal_from v ds,
      mid_line
          (along m (length ds)) t,
    )
unfolding digits
digits_read start m v [] t h = ap (λ x. Ok (v, mid_line x t)) (sym (along_none m))
digits_read start m v (d ∷ ds) t h = rw h.0 (digits_read start (along m 1) _ ds t h.1
    ∙ ap (λ x. Ok (spelling.hexadecimal_from v (d ∷ ds), mid_line x t))
    (along_more m 1 (length ds) (suc (length ds)) (omega arith)))

-- an escape of one letter is no break
pub no_break_simple : (e c : ℕ) → short_escape e ≡ Some c → is_break e ≡ false
unfolding short_escape
no_break_simple e c h = by_test_eq (is_break e)
    (λ is. absurd (break_cases e is (λ x. short_escape x ≡ Some c → ⊥) (none-some c) (none-some c) h))
    (λ no_break. no_break)
  where
    by_test_eq : (b : Bool) → (b ≡ true → b ≡ false) → (b ≡ false → b ≡ false) → b ≡ false
    by_test_eq b yes_case no_case = grind arith

pub no_break_digits : (e n : ℕ) → digit_count e ≡ Some n → is_break e ≡ false
no_break_digits e n h = grind arith

no_letter : (e n : ℕ) (o : Option ℕ) → short_escape e ≡ o → digit_count e ≡ Some n → o ≡ None
no_letter e n (Some c) is h = let none = simple_no_digits e c is in absurd (cc)
no_letter e n None is h = refl

pub letter_read : (start m : Marker) (e c : ℕ) (t : List ℕ) → short_escape e ≡ Some c
    → escaped_character start (mid_line m (backslash ∷ e ∷ t)) ≡ Ok (c, mid_line (along m 2) t)
unfolding escaped_character escape_of
letter_read start m e c t h = rw h refl

pub number_read : (start m : Marker) (e c : ℕ) (ds t : List ℕ) → spelling.IsNumber e c ds
    → escaped_character start (mid_line m (backslash ∷ e ∷ (ds ++ t)))
    ≡ Ok (c, mid_line (along (along m 2) (length ds)) t)
unfolding escaped_character escape_of escape_by_number character
number_read start m e c ds t h = grind (arith, no_letter, digits_read)

pub escape_content : IsQuotedContent 92
escape_content = record { blank = refl; break = refl; nul = refl }
