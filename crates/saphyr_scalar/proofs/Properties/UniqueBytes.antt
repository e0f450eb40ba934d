-- The bytes that are read for a character are its UTF-8.
use Rattle.std.proofs.Common.{◌≡◌, ℕ, suc, ◌+◌, ◌-◌, ◌*◌, ◌<◌, ◌≤◌, true, List, [], ◌∷◌, length, nat_lt, arith, inl, inr}
use Rattle.saphyr_scalar.proofs.Common.{◌&&◌, nat_le, encode_utf8, len_utf8, nat_tests, encode_ascii, either}
use Rattle.std.proofs.Math.Utf8.{encode}
use Rattle.saphyr_scalar.specs.Values.Escapes.{IsScalarValue, is_scalar_value}
use Rattle.saphyr_scalar.specs.Steps.Tag.{utf8_width, leading_bits, is_trailing, is_encoded}
use Rattle.saphyr_scalar.proofs.Properties.EscapedBytes.{AreTrailing, joined_bytes, bits_one, bits_two, bits_three, bits_four}

pub scalar_is : (c : ℕ) → is_scalar_value c ≡ true → IsScalarValue c
scalar_is c h = either (nat_lt c 0xD800) (nat_le 0xE000 c && nat_le c 0x10FFFF) (IsScalarValue c) h
    (λ e. inl (grind (arith, nat_tests))) (λ e. inr (grind (arith, nat_tests), grind (arith, nat_tests)))

len_of : (n c : ℕ) → is_encoded n c ≡ true → len_utf8 c ≡ n
len_of n c h = grind (arith, nat_tests)

long_two : (c : ℕ) → len_utf8 c ≡ 2 → 0x80 ≤ c
long_two c h = grind (arith, nat_tests)

long_three : (c : ℕ) → len_utf8 c ≡ 3 → 0x800 ≤ c
long_three c h = grind (arith, nat_tests)

long_four : (c : ℕ) → len_utf8 c ≡ 4 → 0x1_0000 ≤ c
long_four c h = grind (arith, nat_tests)

tail_low : (b : ℕ) → is_trailing b ≡ true → 0x80 ≤ b
tail_low b h = grind (arith, nat_tests)

tail_high : (b : ℕ) → is_trailing b ≡ true → b < 0xC0
tail_high b h = grind (arith, nat_tests)

unique_one : (b c : ℕ) → b < 0x80 → leading_bits b ≡ c → encode_utf8 c ≡ b ∷ []
unique_one b c lt says = rw (← says, bits_one b lt) (encode_ascii b lt)

unique_two : (b x c : ℕ) → 0xC0 ≤ b → b < 0xE0 → is_trailing x ≡ true → leading_bits b * 64 + (x - 0x80) ≡ c
    → is_encoded 2 c ≡ true → encode_utf8 c ≡ b ∷ x ∷ []
unfolding encode
unique_two b x c h lt tail says shortest = grind (arith, tail_low, tail_high, bits_two, long_two, len_of)

unique_three : (b x y c : ℕ) → 0xE0 ≤ b → b < 0xF0 → is_trailing x ≡ true → is_trailing y ≡ true
    → (leading_bits b * 64 + (x - 0x80)) * 64 + (y - 0x80) ≡ c → is_encoded 3 c ≡ true → encode_utf8 c ≡ b ∷ x ∷ y ∷ []
unfolding encode
unique_three b x y c h lt tail tail2 says shortest =
    grind (arith, tail_low, tail_high, bits_three, long_three, len_of)

unique_four : (b x y z c : ℕ) → 0xF0 ≤ b → is_trailing x ≡ true → is_trailing y ≡ true → is_trailing z ≡ true
    → ((leading_bits b * 64 + (x - 0x80)) * 64 + (y - 0x80)) * 64 + (z - 0x80) ≡ c → is_encoded 4 c ≡ true
    → encode_utf8 c ≡ b ∷ x ∷ y ∷ z ∷ []
unfolding encode
unique_four b x y z c h tail tail2 tail3 says shortest =
    grind (arith, tail_low, tail_high, bits_four, long_four, len_of)

width_cases : (b : ℕ) (P : ℕ → Type 0) → (b < 0x80 → P 1) → (0xC0 ≤ b → b < 0xE0 → P 2) → (0xE0 ≤ b → b < 0xF0 → P 3)
    → (0xF0 ≤ b → P 4) → P 0 → P (utf8_width b)
unfolding utf8_width
width_cases b P one two three four none = grind (arith, nat_tests)

-- the bytes, by how many there are
abbrev BytesStand : ℕ → ℕ → ℕ → List ℕ → Type 0
BytesStand w b c bs = w ≡ suc (length bs) → AreTrailing bs → joined_bytes (leading_bits b) bs ≡ c
    → is_encoded (suc (length bs)) c ≡ true → encode_utf8 c ≡ b ∷ bs

pub bytes_unique : (b c : ℕ) (bs : List ℕ) → BytesStand (utf8_width b) b c bs
bytes_unique b c [] = width_cases b (λ w. BytesStand w b c []) (λ lt e tails says shortest. unique_one b c lt says)
    (λ _ _ e. absurd (omega arith)) (λ _ _ e. absurd (omega arith)) (λ _ e. absurd (omega arith))
    (λ e. absurd (omega arith))
bytes_unique b c (x ∷ []) = width_cases b (λ w. BytesStand w b c (x ∷ [])) (λ _ e. absurd (omega arith))
    (λ h lt e tails says shortest. unique_two b x c h lt tails.0 says shortest)
    (λ _ _ e. absurd (omega arith)) (λ _ e. absurd (omega arith)) (λ e. absurd (omega arith))
bytes_unique b c (x ∷ y ∷ []) =
    width_cases b (λ w. BytesStand w b c (x ∷ y ∷ [])) (λ _ e. absurd (omega arith)) (λ _ _ e. absurd (omega arith))
    (λ h lt e tails says shortest. unique_three b x y c h lt tails.0 tails.1.0 says shortest)
    (λ _ e. absurd (omega arith)) (λ e. absurd (omega arith))
bytes_unique b c (x ∷ y ∷ z ∷ []) =
    width_cases b (λ w. BytesStand w b c (x ∷ y ∷ z ∷ [])) (λ _ e. absurd (omega arith)) (λ _ _ e. absurd (omega arith))
    (λ _ _ e. absurd (omega arith))
    (λ h e tails says shortest. unique_four b x y z c h tails.0 tails.1.0 tails.1.1.0 says shortest)
    (λ e. absurd (omega arith))
bytes_unique b c (x ∷ y ∷ z ∷ v ∷ bs) =
    width_cases b (λ w. BytesStand w b c (x ∷ y ∷ z ∷ v ∷ bs)) (λ _ e. absurd (omega arith))
    (λ _ _ e. absurd (omega arith))
    (λ _ _ e. absurd (omega arith)) (λ _ e. absurd (omega arith)) (λ e. absurd (omega arith))
