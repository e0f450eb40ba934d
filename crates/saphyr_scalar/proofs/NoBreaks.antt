-- Texts without line breaks, of which each character is passed on its line.
use Rattle.std.proofs.Common.{◌≡◌, ℕ, Bool, true, false, List, [], ◌∷◌, ◌++◌, length, refl, sym, arith, subst, encode_utf8}
use Rattle.saphyr_scalar.proofs.Common.{◌||◌, ◌==◌, is_break, is_tag_char, is_uri_char, IsHex, Marker, along, Quote}
use Rattle.saphyr_scalar.specs.Values.Flow as flow
use Rattle.saphyr_scalar.specs.Spelling.Directive.{ReadDirective, IsReadDirective}
use Rattle.saphyr_scalar.specs.Passing.{IsPassed, nothing, character}
use Rattle.saphyr_scalar.specs.Spelling.Tag.{AreIn, IsByteEscape, AreByteEscapes, IsCharacter, IsDecoded, IsHandleText, IsPrefix}
use Rattle.saphyr_scalar.proofs.Moving.{along_none, along_more}

abbrev pub NoBreaks : List ℕ → Type 0
NoBreaks [] = Unit {0}
NoBreaks (c ∷ cs) = (is_break c ≡ false) × NoBreaks cs

-- a class without the two breaks
pub class_no_break : (p : ℕ → Bool) → p 10 ≡ false → p 13 ≡ false → (c : ℕ) → p c ≡ true → is_break c ≡ false
class_no_break p feed return c h = grind arith

pub no_breaks_both : (a b : List ℕ) → NoBreaks a → NoBreaks b → NoBreaks (a ++ b)
no_breaks_both [] b h k = k
no_breaks_both (c ∷ a) b h k = (h.0, no_breaks_both a b h.1 k)

pub no_breaks_in : (p : ℕ → Bool) → p 10 ≡ false → p 13 ≡ false → (t : List ℕ) → AreIn p t → NoBreaks t
no_breaks_in p feed return [] h = tt
no_breaks_in p feed return (c ∷ cs) h = (class_no_break p feed return c h.0, no_breaks_in p feed return cs h.1)

pub no_breaks_passed : (m : Marker) (t u : List ℕ) → NoBreaks t → IsPassed m (t ++ u) (along m (length t)) u
no_breaks_passed m [] u h = rw (along_none m) (nothing m u)
no_breaks_passed m (c ∷ cs) u h = character m c (cs ++ u) (along m (length (c ∷ cs))) u h.0
    (rw (along_more m 1 (length cs) (length (c ∷ cs)) (omega arith)) at (no_breaks_passed (along m 1) cs u h.1))

-- ## Tags' parts

hex_no_break : (c : ℕ) → IsHex c → is_break c ≡ false
hex_no_break c h = grind arith

escape_no_break : (byte : ℕ) (t : List ℕ) → IsByteEscape byte t → NoBreaks t
escape_no_break byte t (high, low, is_high, is_low, value, text) =
    subst NoBreaks (sym text) (refl, (hex_no_break high is_high, (hex_no_break low is_low, tt)))

escapes_no_break : (bytes t : List ℕ) → AreByteEscapes bytes t → NoBreaks t
escapes_no_break [] t text = subst NoBreaks (sym text) tt
escapes_no_break (byte ∷ bytes) t (escape, more, first, others, text) = subst NoBreaks (sym text)
    (no_breaks_both escape more (escape_no_break byte escape first) (escapes_no_break bytes more others))

character_no_break : (p : ℕ → Bool) → p 10 ≡ false → p 13 ≡ false → (c : ℕ) (t : List ℕ) → IsCharacter p c t
    → NoBreaks t
character_no_break p feed return c t u0 = grind (arith, class_no_break, escapes_no_break, encode_utf8)

pub decoded_no_break : (p : ℕ → Bool) → p 10 ≡ false → p 13 ≡ false → (value t : List ℕ) → IsDecoded p value t
    → NoBreaks t
decoded_no_break p feed return [] t text = subst NoBreaks (sym text) tt
decoded_no_break p feed return (c ∷ value) t (first, more, is, others, text) = subst NoBreaks (sym text)
    (no_breaks_both first more (character_no_break p feed return c first is)
    (decoded_no_break p feed return value more others))

pub handle_no_break : (t : List ℕ) → IsHandleText t → NoBreaks t
handle_no_break t u0 = grind (arith, no_breaks_both, no_breaks_in)

prefix_no_break : (value t : List ℕ) → IsPrefix value t → NoBreaks t
prefix_no_break [] t is = absurd is
prefix_no_break (c ∷ value) t (first, more, is, others, text) = subst NoBreaks (sym text)
    (no_breaks_both first more (character_no_break (λ x. is_tag_char x || (x == 33)) refl refl c first is)
    (decoded_no_break is_uri_char refl refl value more others))

-- ## Directives

pub directive_no_break : (d : ReadDirective) (t : List ℕ) → IsReadDirective d t → NoBreaks t
directive_no_break u0 t u1 = grind (arith, no_breaks_both, no_breaks_in, handle_no_break, prefix_no_break)

pub mark_no_break : (q : Quote) → is_break (flow.mark q) ≡ false
mark_no_break q = grind arith

pub mark_no_nul : (q : Quote) → 0 ≡ flow.mark q → ⊥
mark_no_nul q h = grind arith
