-- The words of JSON are plain scalars of YAML's grammar, of one word.
use Rattle.yaml_laws.proofs.Common.{Bool, List, [], ap, append-nil, arith, codes, false, inl, inr, refl, slice_index, subst, sym, true, ℕ, ◌++◌, ◌∙◌, ◌∷◌, ◌≡◌, ◌≢◌, ◌⊎◌, not, ◌&&◌, ◌==◌, nat_tests, IsDigit, is_blank, is_blank_or_breakz, is_bom, is_flow, hyphen, number_sign, is_document_indicator, AreIn, plain_value, ArePlainSafe, IsWordIn, is_plain_safe, IsFirstWord, IsFlowScalar, begins_plain, Plain, IsWord}
use Rattle.yaml_laws.proofs.Json.WordCharacters.{BeginsWithDigit, is_always_plain, word_safe, word_begins}
use Rattle.yaml_laws.proofs.Json.Calm.{IsCalm, is_no_break, calm_line}

-- ## Words

always_safe : (in_flow : Bool) (c : ℕ) → is_always_plain c ≡ true → is_plain_safe in_flow c ≡ true
always_safe in_flow c h = by_tests (is_blank_or_breakz c) (c == 58) (is_bom c) (is_flow c) in_flow h
  where
    by_tests : (a b m f d : Bool) → (not a && not b && not m && not f) ≡ true → (not a && not m && not (d && f)) ≡ true
    by_tests true b m f d h = absurd (cc)
    by_tests false true m f d h = absurd (cc)
    by_tests false false true f d h = absurd (cc)
    by_tests false false false true d h = absurd (cc)
    by_tests false false false false true h = refl
    by_tests false false false false false h = refl

safe_no_break : (c : ℕ) → is_always_plain c ≡ true → is_no_break c ≡ true
safe_no_break c h = grind (arith, nat_tests)

safe_raw : (c : ℕ) → is_always_plain c ≡ true → ((c == 10) ≡ false) × (is_blank c ≡ false)
safe_raw c h = (grind (arith, nat_tests), grind (arith, nat_tests))

words_safe : (in_flow : Bool) (t : List ℕ) → AreIn is_always_plain t → ArePlainSafe in_flow t
words_safe in_flow [] h = tt
words_safe in_flow (c ∷ cs) h = (
  always_safe in_flow c h.0,
  (λ e. absurd (absurd (let f : is_always_plain 58 ≡ true = rw e at h.0 in cc))),
  words_safe in_flow cs h.1,
)

pub word_no_break : (t : List ℕ) → AreIn is_always_plain t → AreIn is_no_break t
word_no_break [] h = tt
word_no_break (c ∷ cs) h = (safe_no_break c h.0, word_no_break cs h.1)

-- a word stands for itself
word_value : (t : List ℕ) → AreIn is_always_plain t → t ≡ plain_value t
word_value [] h = refl
word_value (c ∷ cs) h =
    let r = safe_raw c h.0 in rw (r.0, r.1) (cc (word_value cs h.1))

-- a word's first character
abbrev IsFirst : ℕ → Type 0
IsFirst c = (c ≡ hyphen) ⊎ IsDigit c ⊎ (c ≡ 116) ⊎ (c ≡ 102) ⊎ (c ≡ 110)

first_begins : (c : ℕ) → IsFirst c → begins_plain c ≡ true
first_begins c (inl e) = rw e refl
first_begins c (inr (inl h)) = grind (arith, nat_tests)
first_begins c (inr (inr (inl e))) = rw e refl
first_begins c (inr (inr (inr (inl e)))) = rw e refl
first_begins c (inr (inr (inr (inr e)))) = rw e refl

first_other : (c : ℕ) → IsFirst c → (c ≢ number_sign) × (c ≢ 63) × (c ≢ 58) × (c ≢ 46)
first_other c h = (grind arith, grind arith, grind arith, grind arith)

first_of : (c d : ℕ) (cs ds : List ℕ) → c ∷ cs ≡ d ∷ ds → c ≡ d
first_of c d cs ds e = ap (λ (x : List ℕ). slice_index x 0) e

no_lone_dash : (c : ℕ) (cs : List ℕ) → (c ≡ hyphen → BeginsWithDigit cs) → c ∷ cs ≢ codes "-"
no_lone_dash c cs h e =
    let d = h (first_of c 45 cs [] e) in
    absurd (let f : c ∷ d.0 ∷ d.1 ≡ 45 ∷ [] = ap (λ (x : List ℕ). c ∷ x) (sym d.2) ∙ e in cc)

word_in : (in_flow : Bool) (c : ℕ) (cs : List ℕ) → AreIn is_always_plain (c ∷ cs) → IsFirst c
    → (c ≡ hyphen → BeginsWithDigit cs) → IsWordIn in_flow (c ∷ cs)
word_in in_flow c cs safe first dash = record {
  some = λ e. absurd (cc);
  safe = words_safe in_flow (c ∷ cs) safe;
  no_comment = (first_other c first).0;
  no_lone_dash = λ _. no_lone_dash c cs dash;
}

first_word : (in_flow : Bool) (c : ℕ) (cs : List ℕ) → AreIn is_always_plain (c ∷ cs) → IsFirst c
    → (c ≡ hyphen → BeginsWithDigit cs) → IsFirstWord in_flow (c ∷ cs)
first_word in_flow c cs safe first dash =
    let n = first_other c first in (
      word_in in_flow c cs safe first dash,
      first_begins c first,
      no_lone_dash c cs dash,
      (λ e. n.1 (first_of c 63 cs [] e)),
      (λ e. n.2 (first_of c 58 cs [] e)),
    )

-- A word of JSON is a plain scalar of one word.
pub word_plain : (in_flow : Bool) (indent : ℕ) (t : List ℕ) → IsWord t → IsFlowScalar Plain t in_flow indent t
word_plain in_flow indent t h =
    let b = word_begins t h in
    let safe = word_safe t h in
    let first = subst (IsFirstWord in_flow) (sym b.is)
    (first_word in_flow b.first b.others (rw b.is at safe) b.kind b.dash) in
    ((t, [], first, ([], tt, refl), sym (append-nil t)), word_value t safe)

-- no document marker begins with it
no_marker : (c : ℕ) (cs : List ℕ) → IsFirst c → (c ≡ hyphen → BeginsWithDigit cs) → (rest : List ℕ)
    → is_document_indicator (c ∷ (cs ++ rest)) ≡ false
no_marker c cs (inl e) dash rest =
    let d = dash e in
    rw (e, d.2) (by_second d.0 (d.1 ++ rest) d.3)
  where
    by_second : (d : ℕ) (ds : List ℕ) → IsDigit d → is_document_indicator (45 ∷ d ∷ ds) ≡ false
    by_second d ds h = let n : (d == 45) ≡ false = grind (arith, nat_tests) in rw n refl
no_marker c cs (inr h) dash rest =
    let n : (c == 45) ≡ false = grind (arith, nat_tests) in
    let m : (c == 46) ≡ false = grind (arith, nat_tests) in rw (n, m) refl

pub word_calm : (t : List ℕ) → IsWord t → IsCalm t
word_calm t h =
    let b = word_begins t h in
    rw b.is (calm_line b.first b.others (rw b.is at (word_no_break t (word_safe t h)))
    (no_marker b.first b.others b.kind b.dash))
