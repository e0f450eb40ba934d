-- What is passed is counted: the index is further by as many characters as are taken off the text.
use Rattle.std.proofs.Common.{◌≡◌, ℕ, ◌+◌, ◌≤◌, List, ◌++◌, length, refl, ap, arith}
use Rattle.std.proofs.lemmas.List.{length-append}
use Rattle.saphyr_scalar.specs.Views.Cursor.{Cursor}
use Rattle.saphyr_scalar.specs.Passing.{IsPassed}
use Rattle.saphyr_scanner.specs.TokensTaken.{AreApart}
use Rattle.saphyr_scanner.proofs.Taken.Later.{apart_later, passed_later}

-- t is at the place of s or after it, and each character between them is counted
pub record Ahead (s t : Cursor) : Type 0 where
  pub later : s.mark.index ≤ t.mark.index
  pub counted : t.mark.index + length t.rest ≡ s.mark.index + length s.rest

pub stays : (s t : Cursor) → t ≡ s → Ahead s t
stays s t e = rw e (record { later = omega arith; counted = refl })

pub ahead_ahead : (s t u : Cursor) → Ahead s t → Ahead t u → Ahead s u
ahead_ahead s t u a b = grind arith

-- a text is passed
pub text_passed : (s t : Cursor) (text : List ℕ) → s.rest ≡ text ++ t.rest → t.mark.index ≡ s.mark.index + length text
    → Ahead s t
text_passed s t text r i =
    record { later = omega arith; counted = omega (arith, length-append text t.rest, ap length r) }

pub passed_over : (s t : Cursor) → IsPassed s.mark s.rest t.mark t.rest → Ahead s t
passed_over s t p =
    let l = passed_later s.mark s.rest t.mark t.rest p in record { later = l.index; counted = l.counted }

pub apart_over : (s t : Cursor) → AreApart s t → Ahead s t
apart_over s t p =
    let l = apart_later s.mark s.rest t.mark t.rest p in record { later = l.index; counted = l.counted }
