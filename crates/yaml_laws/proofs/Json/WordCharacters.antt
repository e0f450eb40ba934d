-- The characters of a word of JSON: each goes on with a plain scalar, and the first may begin one.
use Rattle.yaml_laws.proofs.Common.{Bool, not, ◌&&◌, ◌==◌, is_blank_or_breakz, is_bom, is_flow, colon, IsTrue, List, [], arith, codes, inl, inr, refl, ℕ, ◌++◌, ◌∷◌, ◌≡◌, ◌⊎◌, nat_tests, hyphen, IsDigit, AreIn, AreAll, IsInteger, IsFraction, IsExponent, IsJsonNumber, IsWord}

-- ## A word's characters

-- a character that goes on with a word whatever follows it, inside flow and outside
abbrev pub is_always_plain : ℕ → Bool
is_always_plain c = not (is_blank_or_breakz c) && not (c == colon) && not (is_bom c) && not (is_flow c)

digit_safe : (c : ℕ) → IsDigit c → IsTrue (is_always_plain c)
digit_safe c h = grind (arith, nat_tests)

safe_append : (a b : List ℕ) → AreIn is_always_plain a → AreIn is_always_plain b → AreIn is_always_plain (a ++ b)
safe_append [] b s t = t
safe_append (c ∷ a) b s t = (s.0, safe_append a b s.1 t)

digits_safe : (t : List ℕ) → AreAll IsDigit t → AreIn is_always_plain t
digits_safe [] h = tt
digits_safe (c ∷ t) h = (digit_safe c h.0, digits_safe t h.1)

minus_safe : (t : List ℕ) → (t ≡ []) ⊎ (t ≡ codes "-") → AreIn is_always_plain t
minus_safe t (inl e) = rw e tt
minus_safe t (inr e) = rw e (refl, tt)

integer_safe : (t : List ℕ) → IsInteger t → AreIn is_always_plain t
integer_safe t (inl e) = rw e (refl, tt)
integer_safe t (inr h) = rw h.4 (digit_safe h.0 (omega (arith, h.2), omega (arith, h.2)), digits_safe h.1 h.3)

fraction_safe : (t : List ℕ) → (t ≡ []) ⊎ IsFraction t → AreIn is_always_plain t
fraction_safe t (inl e) = rw e tt
fraction_safe t (inr h) = rw h.2 (refl, digits_safe h.0 h.1.1)

exponent_safe : (t : List ℕ) → (t ≡ []) ⊎ IsExponent t → AreIn is_always_plain t
exponent_safe t (inl e) = rw e tt
exponent_safe t (inr h) = grind (arith, digits_safe)

number_safe : (t : List ℕ) → IsJsonNumber t → AreIn is_always_plain t
number_safe t h =
    rw h.8 (safe_append h.0 (h.1 ++ (h.2 ++ h.3)) (minus_safe h.0 h.4)
    (safe_append h.1 (h.2 ++ h.3) (integer_safe h.1 h.5)
    (safe_append h.2 h.3 (fraction_safe h.2 h.6) (exponent_safe h.3 h.7))))

-- each character of a word goes on with a plain scalar, whatever follows it
pub word_safe : (t : List ℕ) → IsWord t → AreIn is_always_plain t
word_safe t h = grind (arith, number_safe)

-- ## A word's first character

abbrev pub BeginsWithDigit : List ℕ → Type 0
BeginsWithDigit t = (first : ℕ) × (others : List ℕ) × (t ≡ first ∷ others) × IsDigit first

-- a word begins with a character other than `#`, `-` and `.`, or with a dash before a digit
pub record BeginsWord (t : List ℕ) : Type 0 where
  pub first : ℕ
  pub others : List ℕ
  pub is : t ≡ first ∷ others
  pub kind : (first ≡ hyphen) ⊎ IsDigit first ⊎ (first ≡ 116) ⊎ (first ≡ 102) ⊎ (first ≡ 110)
  pub dash : first ≡ hyphen → BeginsWithDigit others

pub word_begins : (t : List ℕ) → IsWord t → BeginsWord t
word_begins t h = grind arith
