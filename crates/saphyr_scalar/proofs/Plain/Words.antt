-- The words of a plain scalar.
use Rattle.saphyr_scalar.proofs.Common.{◌≡◌, ◌≢◌, ℕ, ◌+◌, ◌<◌, Bool, true, false, List, [], ◌∷◌, length, drop, slice_index, refl, sym, ◌∙◌, arith, ◌==◌, ◌&&◌, ◌||◌, not, nat_tests, is_blank_or_breakz, is_bom, is_flow, colon, if◌then◌else◌}
use Rattle.saphyr_scalar.specs.Steps.Plain.{is_in_word}

-- how many characters a word has from here on
abbrev pub word_len : Bool → List ℕ → ℕ
word_len in_flow [] = 0
word_len in_flow (c ∷ cs) = if is_in_word in_flow (c ∷ cs) then 1 + word_len in_flow cs else 0

pub word_left : (f : Bool) (xs : List ℕ) → is_in_word f xs ≡ true → 0 < length xs
unfolding is_in_word
word_left f [] h = absurd (cc)
word_left f (c ∷ cs) h = omega arith

pub word_len_more : (f : Bool) (xs : List ℕ) → is_in_word f xs ≡ true → word_len f xs ≡ 1 + word_len f (drop 1 xs)
word_len_more f [] h = absurd (omega (arith, word_left f [] h))
word_len_more f (c ∷ cs) h = rw h refl

-- what the tests of the first character, `c`, say of a word
pub colon_in_word : (f : Bool) (xs : List ℕ) (c next : ℕ) (b : Bool) → c ≡ slice_index xs 0 → c ≡ colon
    → next ≡ slice_index xs 1 → b ≡ not (is_blank_or_breakz next || (f && is_flow next)) → b ≡ is_in_word f xs
unfolding is_in_word
colon_in_word f xs c next b first is second e = rw (sym first ∙ is, ← second) e

pub plain_in_word : (f : Bool) (xs : List ℕ) (c : ℕ) (b : Bool) → c ≡ slice_index xs 0 → c ≢ colon
    → b ≡ (not (is_blank_or_breakz c) && not (is_bom c || (f && is_flow c))) → b ≡ is_in_word f xs
unfolding is_in_word
plain_in_word f xs c b first other e =
    let off : (c == 58) ≡ false = grind (arith, nat_tests) in rw (← first) (rw off e)
