-- How the pieces that plain scalars are read from are spelled.
use Rattle.saphyr_scalar.proofs.Common.{◌≡◌, ◌≢◌, ℕ, suc, ◌+◌, ◌<◌, Bool, true, false, List, [], ◌∷◌, ◌++◌, take, drop, slice_index, Result, Ok, refl, sym, ap, ◌∙◌, arith, subst, IsTrue, append_assoc, if◌then◌else◌, IsFalse, nat_tests, take-append-drop, is_flow, is_blank_or_breakz, is_blank_or_break, is_document_indicator, Marker, Refusal, Cursor, along, next_line, false≢true, eqb-true, colon, number_sign, by_test, blank_cases}
use Rattle.saphyr_scalar.specs.Spelling.Tag.{AreIn}
use Rattle.saphyr_scalar.specs.Steps.Plain.{is_in_word, word_starts, next_word_starts, ends_line}
use Rattle.saphyr_scalar.specs.Reading.Plain.{end_of_text, IsSpelledPlain, IsSafeInFlow, ends_piece}
use Rattle.saphyr_scalar.proofs.Moving.{along_none, along_more}
use Rattle.saphyr_scalar.proofs.Quoted.Inside.{break_cases}
use Rattle.saphyr_scalar.proofs.Quoted.Words.{both_true}
use Rattle.saphyr_scalar.proofs.Plain.Words.{word_left, word_len}
use Rattle.saphyr_scalar.proofs.Plain.Runs.{IsNonSpace, AreNonSpace, NoFeed, same_ends}

-- a word's characters

record WordCharacter (f : Bool) (c : ℕ) (cs : List ℕ) : Type 0 where
  no_nul : c ≢ 0
  no_mark : c ≢ 65279
  colon : c ≡ 58 → IsFalse (is_blank_or_breakz (slice_index cs 0))
  non_space : IsNonSpace c

word_character : (f : Bool) (c : ℕ) (cs : List ℕ) → is_in_word f (c ∷ cs) ≡ true → WordCharacter f c cs
unfolding is_in_word
word_character f c cs h = grind (arith, nat_tests, both_true, false≢true)

-- one character more of a word
one_spelled : (f : Bool) (m : Marker) (apart : Bool) (c : ℕ) (cs behind all : List ℕ) → cs ++ behind ≡ all
    → WordCharacter f c all → (IsTrue apart → c ≢ number_sign) → (m.col ≡ 0 → IsFalse (is_document_indicator (c ∷ all)))
    → IsSpelledPlain (along m 1) false cs behind → IsSpelledPlain m apart (c ∷ cs) behind
one_spelled f m apart c cs behind all is w comment marker more = grind arith

taken_and_left : (xs y behind : List ℕ) (n : ℕ) → drop n xs ≡ y ++ behind → (take n xs ++ y) ++ behind ≡ xs
taken_and_left xs y behind n e = cc (append_assoc (take n xs) y behind, take-append-drop n xs)

word_tail : (f : Bool) (m : Marker) (xs y behind : List ℕ) → 0 < m.col → drop (word_len f xs) xs ≡ y ++ behind
    → IsSpelledPlain (along m (word_len f xs)) false y behind
    → IsSpelledPlain m false (take (word_len f xs) xs ++ y) behind
word_tail f m [] y behind some = λ e h. rw (along_none m) at h
word_tail f m (c ∷ cs) y behind some = by_test (is_in_word f (c ∷ cs)) (1 + word_len f cs) 0
    (λ n. drop n (c ∷ cs) ≡ y ++ behind → IsSpelledPlain (along m n) false y behind
    → IsSpelledPlain m false (take n (c ∷ cs) ++ y) behind) (λ goes.
    let n = word_len f cs in
    let Goal : ℕ → Type 0 = λ k. drop k (c ∷ cs) ≡ y ++ behind → IsSpelledPlain (along m k) false y behind
    → IsSpelledPlain m false (take k (c ∷ cs) ++ y) behind in
    let next : Goal (suc n) = λ e h.
    one_spelled f m false c (take n cs ++ y) behind cs (taken_and_left cs y behind n e) (word_character f c cs goes)
    (λ t. absurd (false≢true t)) (λ t. absurd (omega arith)) (word_tail f (along m 1) cs y behind (omega arith) e
    (rw (along_more m 1 n (suc n) (omega arith)) h)) in
    subst Goal (sym (omega arith)) next) (λ _ e h. rw (along_none m) at h)

-- where a word may begin
pub record Begins (m : Marker) (xs : List ℕ) : Type 0 where
  pub comment : slice_index xs 0 ≢ number_sign
  pub marker : m.col ≡ 0 → IsFalse (is_document_indicator xs)

pub word_spelled : (f : Bool) (m : Marker) (xs y behind : List ℕ) → is_in_word f xs ≡ true → Begins m xs
    → drop (word_len f xs) xs ≡ y ++ behind → IsSpelledPlain (along m (word_len f xs)) false y behind
    → IsSpelledPlain m true (take (word_len f xs) xs ++ y) behind
word_spelled f m [] y behind goes b = let none = word_left f [] goes in absurd (omega arith)
word_spelled f m (c ∷ cs) y behind goes b =
    let n = word_len f cs in
    let here : word_len f (c ∷ cs) ≡ suc n = rw goes (omega arith) in
    let Goal : ℕ → Type 0 = λ k. drop k (c ∷ cs) ≡ y ++ behind → IsSpelledPlain (along m k) false y behind
    → IsSpelledPlain m true (take k (c ∷ cs) ++ y) behind in
    let next : Goal (suc n) = λ e h.
    one_spelled f m true c (take n cs ++ y) behind cs (taken_and_left cs y behind n e) (word_character f c cs goes)
    (λ _. b.comment) b.marker (word_tail f (along m 1) cs y behind (omega arith) e
    (subst (λ x. IsSpelledPlain x false y behind) (sym (along_more m 1 n (suc n) (omega arith))) h)) in
    subst Goal (sym here) next

-- blanks and breaks between words

record WhiteCharacter (c : ℕ) (cs : List ℕ) : Type 0 where
  no_nul : c ≢ 0
  no_mark : c ≢ 65279
  no_comment : c ≢ number_sign
  no_colon : c ≢ 58
  no_marker : IsFalse (is_document_indicator (c ∷ cs))

white_character : (c : ℕ) (cs : List ℕ) → IsTrue (is_blank_or_break c) → WhiteCharacter c cs
white_character c cs h = grind (arith, nat_tests, blank_cases, break_cases)

spelled_apart_or_not : (m : Marker) (apart : Bool) (cs behind : List ℕ) → IsSpelledPlain m true cs behind
    → IsSpelledPlain m apart cs behind
spelled_apart_or_not m apart [] behind h = tt
spelled_apart_or_not m apart (c ∷ cs) behind h = (h.0, h.1, λ _. h.2 refl, h.3, h.4, h.5)

pub white_spelled : (m : Marker) (apart : Bool) (v next behind : List ℕ) → AreIn is_blank_or_break v
    → NoFeed (next ++ behind)
    → IsSpelledPlain (end_of_text m v) true next behind → IsSpelledPlain m apart (v ++ next) behind
white_spelled m apart [] next behind are none h = spelled_apart_or_not m apart next behind h
white_spelled m apart (c ∷ v) next behind are none h =
    let w = white_character c ((v ++ next) ++ behind) are.0 in
    let line : ends_line c ((v ++ next) ++ behind) ≡ ends_line c v =
    ap (ends_line c) (append_assoc v next behind) ∙ same_ends c v (next ++ behind) none in (
      w.no_nul,
      w.no_mark,
      λ _. w.no_comment,
      λ e. absurd (w.no_colon e),
      λ _. w.no_marker,
      rw line (white_spelled (if ends_line c v then next_line m 1 else along m 1) (is_blank_or_break c) v next behind
          are.1
          none h),
    )

-- inside flow

flow_character : (c : ℕ) (cs : List ℕ) → is_in_word true (c ∷ cs) ≡ true
    → IsFalse (is_flow c) × (c ≡ colon → IsFalse (is_flow (slice_index cs 0)))
unfolding is_in_word
flow_character c cs h = grind (arith, nat_tests, eqb-true)

pub word_safe : (xs y behind : List ℕ) → drop (word_len true xs) xs ≡ y ++ behind → IsSafeInFlow y behind
    → IsSafeInFlow (take (word_len true xs) xs ++ y) behind
word_safe [] y behind = λ e h. h
word_safe (c ∷ cs) y behind = by_test (is_in_word true (c ∷ cs)) (1 + word_len true cs) 0
    (λ n. drop n (c ∷ cs) ≡ y ++ behind → IsSafeInFlow y behind → IsSafeInFlow (take n (c ∷ cs) ++ y) behind) (λ goes.
    let n = word_len true cs in
    let one : 1 + n ≡ suc n = omega arith in
    let Goal : ℕ → Type 0 = λ k. drop k (c ∷ cs) ≡ y ++ behind → IsSafeInFlow y behind
    → IsSafeInFlow (take k (c ∷ cs) ++ y) behind in
    let next : Goal (suc n) = λ e h.
    let w = flow_character c cs goes in (
      w.0,
      λ k. rw (taken_and_left cs y behind n e) (w.1 k),
      word_safe cs y behind e h,
    ) in
    subst Goal (sym one) next) (λ _ e h. h)

pub white_safe : (v next behind : List ℕ) → AreIn is_blank_or_break v → IsSafeInFlow next behind
    → IsSafeInFlow (v ++ next) behind
white_safe [] next behind are h = h
white_safe (c ∷ v) next behind are h =
    grind (arith, nat_tests, white_character, white_safe v next behind are.1 h, blank_cases, break_cases)

-- what comes after a word
pub word_follows : (f : Bool) (xs : List ℕ) → is_in_word f xs ≡ false → IsTrue (ends_piece (slice_index xs 0))
unfolding is_in_word
word_follows f xs h = grind (arith, nat_tests)

-- the last character of a word
pub record Closes (text : List ℕ) : Type 0 where
  pub front : List ℕ
  pub last : ℕ
  pub is : text ≡ front ++ last ∷ []
  pub non_space : IsNonSpace last

pub word_closes : (c : ℕ) (cs : List ℕ) → AreNonSpace (c ∷ cs) → Closes (c ∷ cs)
word_closes c [] h = record { front = []; last = c; is = refl; non_space = h.0 }
word_closes c (d ∷ ds) h =
    let more = word_closes d ds h.1 in
    record { front = c ∷ more.front; last = more.last; is = ap (λ l. c ∷ l) more.is; non_space = more.non_space }

-- where a word begins
pub other_answer : (s t : Cursor) → (let x : Result (Bool × Cursor) Refusal = Ok (false, s) in x ≡ Ok (true, t)) → ⊥
other_answer s t e = let pair : ◌≡◌ {A = Bool × Cursor} (false, s) (true, t) =
    cc in absurd (false≢true (ap (λ (x : Bool × Cursor). x.0) pair))

pub starts_begins : (f : Bool) (s t : Cursor) → word_starts f s ≡ Ok (true, t) → Begins s.mark s.rest
unfolding word_starts
starts_begins f s t = grind arith

pub goes_begins : (f : Bool) (i : ℕ) (s t : Cursor) → next_word_starts f i s ≡ Ok (true, t) → Begins s.mark s.rest
unfolding next_word_starts
goes_begins f i s t = grind (arith, by_test, other_answer, starts_begins)
