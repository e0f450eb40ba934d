-- A rest that is not open shows what it is, whatever comes behind it.
use Rattle.saphyr_scalar.proofs.Common.{◌≡◌, ℕ, zero, suc, ◌+◌, Bool, true, false, List, [], ◌∷◌, ◌++◌, take, drop, slice_index, refl, sym, ap, ◌∙◌, subst, arith, cond, ◌&&◌, ◌==◌, prefix_len, nat_tests, is_blank_or_breakz, is_z, is_blank, is_flow, is_missing, next_3_are, is_document_start, is_document_end, is_document_indicator, can_be_plain, by_test}
use Rattle.std.proofs.lemmas.List.{append_assoc, take-append-drop}
use Rattle.saphyr_scalar.specs.Spelling.LineBreaks.{break_len}
use Rattle.saphyr_scalar.specs.Known.{is_open, begins_marker, may_be_open, IsRestOfText}

pub later_here : (r : List ℕ) → IsRestOfText r r
later_here r = record { front = []; is = refl }

pub later_on : {r t : List ℕ} (c : ℕ) → IsRestOfText r t → IsRestOfText r (c ∷ t)
later_on c h = record { front = c ∷ h.front; is = ap (λ u. c ∷ u) h.is }

pub later_drop : (n : ℕ) (t : List ℕ) → IsRestOfText (drop n t) t
later_drop n t = record { front = take n t; is = sym (take-append-drop n t) }

pub later_than : {r t u : List ℕ} → IsRestOfText r t → IsRestOfText t u → IsRestOfText r u
later_than {r = r} h k =
    let same = sym (append_assoc k.front h.front r) in
    record { front = k.front ++ h.front; is = k.is ∙ ap (λ x. k.front ++ x) h.is ∙ same }

-- ## A text of which a later part is not open is not open

known_one : (c : ℕ) (r : List ℕ) → is_open r ≡ false → is_open (c ∷ r) ≡ false
known_one c v1 h = grind (arith, nat_tests)

known_behind : (front r : List ℕ) → is_open r ≡ false → is_open (front ++ r) ≡ false
known_behind [] r h = h
known_behind (c ∷ front) r h = known_one c (front ++ r) (known_behind front r h)

pub known_before : {r t : List ℕ} → IsRestOfText r t → is_open r ≡ false → is_open t ≡ false
known_before {r = r} h known = ap is_open h.is ∙ known_behind h.front r known

-- ## Nor is one that begins with such a text

pub known_longer : (r more : List ℕ) → is_open r ≡ false → is_open (r ++ more) ≡ false
known_longer v0 more h = grind (arith, nat_tests)

-- ## How much has to be there

-- a character
abbrev pub is_nothing : List ℕ → Bool
is_nothing [] = true
is_nothing (c ∷ r) = false

-- where this is true, what is not open, and else a character
abbrev pub lacks : Bool → List ℕ → Bool
lacks true r = is_open r
lacks false r = is_nothing r

pub some : (r : List ℕ) → is_open r ≡ false → is_nothing r ≡ false
some [] known = absurd (cc)
some (c ∷ r) known = refl

pub some_of : (b : Bool) (r : List ℕ) → lacks b r ≡ false → is_nothing r ≡ false
some_of true r known = some r known
some_of false r known = known

pub enough_of : (b : Bool) (r : List ℕ) → is_open r ≡ false → lacks b r ≡ false
enough_of true r known = known
enough_of false r known = some r known

pub nothing_lacks : (b : Bool) → lacks b [] ≡ true
nothing_lacks true = refl
nothing_lacks false = refl

pub enough_before : (b : Bool) {r t : List ℕ} → IsRestOfText r t → lacks b r ≡ false → lacks b t ≡ false
enough_before true h known = known_before h known
enough_before false {r = r} h known = rw h.is (by h.front)
  where
    by : (front : List ℕ) → is_nothing (front ++ r) ≡ false
    by [] = known
    by (c ∷ front) = refl

pub left_enough : (a b : Bool) (r : List ℕ) → lacks a r ≡ false → lacks (a && b) r ≡ false
left_enough u0 u1 r known = grind arith

pub right_enough : (a b : Bool) (r : List ℕ) → lacks b r ≡ false → lacks (a && b) r ≡ false
right_enough true b r known = known
right_enough false b r known = some_of b r known

-- a text shows a second character, where a test of it comes out as one of NUL does not
pub shows_second : (p : ℕ → Bool) (b : Bool) (r : List ℕ) → p (slice_index r 1) ≡ b → (p 0 ≡ b → ⊥)
    → is_nothing (drop 1 r) ≡ false
shows_second p b u0 is not = grind arith

-- a text shows a character, where a test of it comes out as one of NUL does not
pub shows : (p : ℕ → Bool) (b : Bool) (r : List ℕ) → p (slice_index r 0) ≡ b → (p 0 ≡ b → ⊥) → is_nothing r ≡ false
shows p b [] is not = absurd (not is)
shows p b (c ∷ r) is not = refl

pub shows_is : (n : ℕ) (r : List ℕ) → (0 == n) ≡ false → (slice_index r 0 == n) ≡ true → is_nothing r ≡ false
shows_is n r other is = shows (λ c. c == n) true r is (λ e. absurd (cc))

-- ## What a text shows that is not open

-- by its first character
pub shown : (n : ℕ) (r : List ℕ) → is_open (n ∷ []) ≡ false → (0 == n) ≡ false → (slice_index r 0 == n) ≡ true
    → is_open r ≡ false
shown n [] known some is = absurd (cc)
shown n (c ∷ cs) known some is = let same : c ≡ n = grind (arith, nat_tests) in
    subst (λ x. is_open (x ∷ cs) ≡ false) (sym same) (known_longer (n ∷ []) cs known)

pub dash_shown : (f : Bool) (r : List ℕ) → (f && (slice_index r 0 == 45) && is_flow (slice_index r 1)) ≡ true
    → is_open r ≡ false
dash_shown f [] is = grind arith
dash_shown f (c ∷ []) is = grind arith
dash_shown f (c ∷ d ∷ cs) is = known_longer (c ∷ d ∷ []) cs (grind (arith, nat_tests))

pub blank_shown : (c : ℕ) (cs : List ℕ) → is_blank c ≡ true → is_open (c ∷ cs) ≡ false
blank_shown c cs is = known_longer (c ∷ []) cs (grind (arith, nat_tests))

pub nul_shown : (r : List ℕ) → is_z (slice_index r 0) ≡ true → is_nothing r ≡ false → is_open r ≡ false
nul_shown [] first left = absurd (cc)
nul_shown (c ∷ cs) first left = let same : c ≡ 0 = grind (arith, nat_tests) in
    subst (λ x. is_open (x ∷ cs) ≡ false) (sym same) (known_longer (0 ∷ []) cs refl)

-- by a colon and what comes behind it
pub colon_shown : (r : List ℕ) → (slice_index r 0 == 58) ≡ true → is_nothing (drop 1 r) ≡ false → is_open r ≡ false
colon_shown [] first left = absurd (cc)
colon_shown (c ∷ []) first left = absurd (cc)
colon_shown (c ∷ d ∷ cs) first left = known_longer (c ∷ d ∷ []) cs (grind (arith, nat_tests))

-- by a hyphen and the blank behind it
pub entry_shown : (r : List ℕ) → ((slice_index r 0 == 45) && is_blank_or_breakz (slice_index r 1)) ≡ true
    → is_nothing (drop 1 r) ≡ false → is_open r ≡ false
entry_shown [] is left = absurd (cc)
entry_shown (c ∷ []) is left = absurd (cc)
entry_shown (c ∷ d ∷ cs) is left = known_longer (c ∷ d ∷ []) cs (grind (arith, nat_tests))

-- by what comes behind three characters
pub four_shown : (r : List ℕ) → is_nothing (drop 3 r) ≡ false → is_open r ≡ false
four_shown u0 left = grind arith

-- by its first four characters
pub not_open : (r : List ℕ) → may_be_open r ≡ false → is_open r ≡ false
not_open v0 known = grind (arith, nat_tests)

-- and so is a longer one
pub closed_longer : (more r : List ℕ) → may_be_open r ≡ false → may_be_open (r ++ more) ≡ false
closed_longer more [] known = absurd (cc)
closed_longer more (c ∷ []) known = grind (arith, nat_tests)
closed_longer more (c ∷ d ∷ []) known = grind (arith, nat_tests)
closed_longer more (c ∷ d ∷ e ∷ []) known = grind (arith, nat_tests)
closed_longer more (c ∷ d ∷ e ∷ f ∷ r) known = known

-- ## A character that is there

pub is_there : (n : ℕ) (r : List ℕ) → is_missing n r ≡ false → is_nothing (drop n r) ≡ false
is_there zero [] there = absurd (cc)
is_there zero (c ∷ cs) there = refl
is_there (suc n) [] there = absurd (cc)
is_there (suc n) (c ∷ cs) there = is_there n cs there

-- where a fourth character is
pub some_of_four : (r : List ℕ) → is_nothing (drop 3 r) ≡ false → is_nothing r ≡ false
some_of_four [] left = left
some_of_four (c ∷ r) left = refl

pub second_of_four : (r : List ℕ) → is_nothing (drop 3 r) ≡ false → is_nothing (drop 1 r) ≡ false
second_of_four [] left = left
second_of_four (c ∷ []) left = left
second_of_four (c ∷ d ∷ r) left = refl

pub there_longer : (more : List ℕ) (n : ℕ) (r : List ℕ) → is_missing n r ≡ false → is_missing n (r ++ more) ≡ false
there_longer more zero [] there = absurd (cc)
there_longer more zero (c ∷ cs) there = there
there_longer more (suc n) [] there = absurd (cc)
there_longer more (suc n) (c ∷ cs) there = there_longer more n cs there

-- a later part of a text that is not open where this is true
abbrev pub InText : List ℕ → Bool → List ℕ → Type 0
InText text u r = IsRestOfText r text × (u ≡ true → is_open text ≡ false)

-- ## What is looked at

module _ (more : List ℕ) where
  pub first_known : (r : List ℕ) → is_nothing r ≡ false → slice_index (r ++ more) 0 ≡ slice_index r 0
  first_known [] h = absurd (cc)
  first_known (c ∷ cs) h = refl

  pub second_known : (r : List ℕ) → is_nothing (drop 1 r) ≡ false → slice_index (r ++ more) 1 ≡ slice_index r 1
  second_known u0 h = grind arith

  marker_known : (n : ℕ) (r : List ℕ) → begins_marker n ≡ true → is_open r ≡ false
      → (next_3_are (r ++ more) n n n && is_blank_or_breakz (slice_index (r ++ more) 3))
      ≡ (next_3_are r n n n && is_blank_or_breakz (slice_index r 3))
  marker_known n [] is h = absurd (cc)
  marker_known n (c ∷ []) is h = grind (arith, nat_tests)
  marker_known n (c ∷ d ∷ []) is h = grind (arith, nat_tests)
  marker_known n (c ∷ d ∷ e ∷ []) is h = grind (arith, nat_tests)
  marker_known n (c ∷ d ∷ e ∷ f ∷ cs) is h = refl

  pub start_known : (r : List ℕ) → is_open r ≡ false → is_document_start (r ++ more) ≡ is_document_start r
  start_known r = marker_known 45 r refl

  pub end_known : (r : List ℕ) → is_open r ≡ false → is_document_end (r ++ more) ≡ is_document_end r
  end_known r = marker_known 46 r refl

  pub plain_known : (f : Bool) (r : List ℕ) → is_open r ≡ false → can_be_plain f (r ++ more) ≡ can_be_plain f r
  plain_known f [] h = absurd (cc)
  plain_known f (c ∷ []) h = grind (arith, nat_tests)
  plain_known f (c ∷ d ∷ cs) h = refl

  pub indicator_known : (r : List ℕ) → is_open r ≡ false → is_document_indicator (r ++ more) ≡ is_document_indicator r
  indicator_known r known = rw (start_known r known, end_known r known)

  pub dash_known : (f : Bool) (r : List ℕ) → is_open r ≡ false
      → (f && (slice_index (r ++ more) 0 == 45) && is_flow (slice_index (r ++ more) 1))
      ≡ (f && (slice_index r 0 == 45) && is_flow (slice_index r 1))
  dash_known f [] h = absurd (cc)
  dash_known f (c ∷ []) h = grind (arith, nat_tests)
  dash_known f (c ∷ d ∷ cs) h = refl

  -- ## What is taken off

  pub drop_known : (n : ℕ) (r : List ℕ) → is_nothing (drop n r) ≡ false → drop n (r ++ more) ≡ drop n r ++ more
  drop_known zero r h = refl
  drop_known (suc n) [] h = absurd (cc)
  drop_known (suc n) (c ∷ cs) h = drop_known n cs h

  pub take_known : (n : ℕ) (r : List ℕ) → is_nothing (drop n r) ≡ false → take n (r ++ more) ≡ take n r
  take_known zero r h = refl
  take_known (suc n) [] h = absurd (cc)
  take_known (suc n) (c ∷ cs) h = ap (λ u. c ∷ u) (take_known n cs h)

  pub run_known : (p : ℕ → Bool) (r : List ℕ) → is_nothing (drop (prefix_len p r) r) ≡ false
      → prefix_len p (r ++ more) ≡ prefix_len p r
  run_known p [] h = absurd (cc)
  run_known p (c ∷ cs) h = by_test (p c) (1 + prefix_len p cs) 0
      (λ n. is_nothing (drop n (c ∷ cs)) ≡ false → cond (p c) (1 + prefix_len p (cs ++ more)) 0 ≡ n)
      (λ goes k. rw goes (ap (λ n. 1 + n) (run_known p cs (rw one at k)))) (λ stops k. rw stops refl) h
    where
      one : 1 + prefix_len p cs ≡ suc (prefix_len p cs)
      one = omega arith

  pub break_known : (r : List ℕ) → is_nothing (drop (break_len r) r) ≡ false → break_len (r ++ more) ≡ break_len r
  break_known u0 h = grind arith
