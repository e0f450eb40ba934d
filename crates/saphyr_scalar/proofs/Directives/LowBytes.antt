-- Bytes below 128 are the UTF-8 of one text alone.
use Rattle.std.proofs.Common.{◌≡◌, ◌≢◌, ℕ, ◌+◌, ◌/◌, ◌%◌, ◌<◌, ◌≤◌, true, false, List, [], ◌∷◌, ◌++◌, nat_lt, refl, sym, ap, ◌∙◌, arith, encode_utf8_all}
use Rattle.saphyr_scalar.proofs.Common.{bytes_eq, false≢true, false_from_ne_true, le-ltb, nat_tests, encode_ascii, bytes_eq-Decides, by_test}
use Rattle.std.proofs.Math.Utf8.{encode}
use Rattle.saphyr_scalar.specs.Steps.Directive.{name}
use Rattle.saphyr_scalar.proofs.Properties.TagsRead.{some_bytes}

-- UTF-8 that begins with a byte below 128 begins with that character
pub record BeginsHigh (c : ℕ) : Type 0 where
  pub first : ℕ
  pub others : List ℕ
  pub is : encode c ≡ first ∷ others
  pub high : 192 ≤ first

begins_high : (c : ℕ) → 128 ≤ c → BeginsHigh c
unfolding encode
begins_high c h = by_test {A = Unit {0}} (nat_lt c 0x800) tt tt (λ _. BeginsHigh c)
    (λ e. record {
      first = 192 + c / 64;
      others = (128 + c % 64) ∷ [];
      is = rw (le-ltb c 0x80 h, e) refl;
      high = omega arith;
    })
    (λ e. by_test {A = Unit {0}} (nat_lt c 0x1_0000) tt tt (λ _. BeginsHigh c)
    (λ f. record {
      first = 224 + c / 4096;
      others = (128 + c / 64 % 64) ∷ (128 + c % 64) ∷ [];
      is = rw (le-ltb c 0x80 h, e, f) refl;
      high = omega arith;
    })
    (λ f. record {
      first = 240 + c / 262144;
      others = (128 + c / 4096 % 64) ∷ (128 + c / 64 % 64) ∷ (128 + c % 64) ∷ [];
      is = rw (le-ltb c 0x80 h, e, f) refl;
      high = omega arith;
    }))

begins_not_low : (c b : ℕ) (bs others : List ℕ) → BeginsHigh c → encode c ++ bs ≡ b ∷ others → b < 128 → ⊥
begins_not_low c b bs others h e lt =
    let first : h.first ≡ b = cc in absurd (omega (arith, h.high))

abbrev pub SameStart : ℕ → List ℕ → ℕ → List ℕ → Type 0
SameStart c bs b others = (c ≡ b) × (bs ≡ others)

begins_low : (c b : ℕ) (bs others : List ℕ) → c < 128 → encode c ++ bs ≡ b ∷ others → SameStart c bs b others
begins_low c b bs others lt e =
    let is : c ∷ bs ≡ b ∷ others = sym (ap (λ u. u ++ bs) (encode_ascii c lt)) ∙ e in (cc, cc)

pub begins : (c b : ℕ) (bs others : List ℕ) → encode c ++ bs ≡ b ∷ others → b < 128 → SameStart c bs b others
begins c b bs others e lt = by_test {A = Unit {0}} (nat_lt c 128) tt tt (λ _. SameStart c bs b others)
    (λ h. begins_low c b bs others (grind (arith, nat_tests)) e)
    (λ h. absurd (begins_not_low c b bs others (begins_high c (grind (arith, nat_tests))) e lt))

abbrev pub AreLow : List ℕ → Type 0
AreLow [] = Unit {0}
AreLow (b ∷ bs) = (b < 128) × AreLow bs

-- bytes below 128 are the UTF-8 of one text alone
pub low_unique : (cs bs : List ℕ) → AreLow bs → encode_utf8_all cs ≡ bs → cs ≡ bs
low_unique [] [] low e = refl
low_unique [] (b ∷ bs) low e = absurd (cc)
low_unique (c ∷ cs) [] low e =
    let k : false ≡ true = cc (some_bytes (c ∷ cs) (λ e. cc)) in absurd (false≢true k)
low_unique (c ∷ cs) (b ∷ bs) (lt, low) e =
    let is = begins c b (encode_utf8_all cs) bs e lt in rw (is.0, low_unique cs bs low is.1) refl

pub not_text : (name text : List ℕ) → AreLow text → name ≢ text → bytes_eq (encode_utf8_all name) text ≡ false
not_text name text low other = false_from_ne_true (bytes_eq (encode_utf8_all name) text)
    (λ e. other (low_unique name text low ((bytes_eq-Decides (encode_utf8_all name) text).0 e)))
