-- Words of a plain scalar, and single spaces between them, taken off in one piece.
use Rattle.saphyr_scalar.proofs.Common.{◌≡◌, ℕ, ◌<◌, Bool, true, false, List, [], ◌∷◌, length-drop, slice_index, Result, Ok, refl, sym, ap, ◌∙◌, arith, ◌&&◌, ◌||◌, ◌==◌, not, nat_lt, encode_utf8, prefix_len, nat_tests, append-nil, not-true, false_from_ne_true, full_stop, hyphen, number_sign, is_blank, is_break, is_flow, is_blank_or_breakz, ascii_in, is_document_indicator, goes_on, words_some, words_stop, Marker, Refusal, Cursor, along, and_false, by_test, clash, either}
use Rattle.saphyr_scalar.specs.Steps.Plain.{is_in_word, word_starts, next_word_starts, gap_from, gap, PlainGap, with_text, word, seen_gap, PlainWordsMoved}
use Rattle.saphyr_scalar.specs.Steps.Quoted.{mid_line, WordsMoved}
use Rattle.saphyr_scalar.specs.Steps.Sets.{in_plain, leads_plain, joins_plain, begins_any_plain}
use Rattle.saphyr_scalar.proofs.Plain.Pieces.{word_over, word_on, no_text, text_twice}
use Rattle.saphyr_scalar.proofs.Plain.Words.{word_left}
use Rattle.saphyr_scalar.proofs.Quoted.Inside.{Moved, IsQuotedContent, content_of}
use Rattle.saphyr_scalar.proofs.Quoted.Words.{both_true}
use Rattle.saphyr_scalar.proofs.TakenWords.{words_behind}

-- a character of the set goes on with a word
pub set_in_word : (f : Bool) (xs : List ℕ) → in_plain f (slice_index xs 0) ≡ true → is_in_word f xs ≡ true
unfolding is_in_word
set_in_word f xs h = grind (arith, nat_tests)

pub set_content : (f : Bool) (c : ℕ) → in_plain f c ≡ true → IsQuotedContent c
set_content f c h = grind (arith, nat_tests, content_of)

-- a word that begins after a blank
pub record LeadsWord (f : Bool) (cs : List ℕ) : Type 0 where
  pub set : in_plain f (slice_index cs 0) ≡ true
  pub hash : (slice_index cs 0 == number_sign) ≡ false
  pub dash : (slice_index cs 0 == hyphen) ≡ false

pub leads : (f : Bool) (cs : List ℕ) → leads_plain f (slice_index cs 0) ≡ true → LeadsWord f cs
leads f cs h = grind (arith, both_true, slice_index, not-true)

one_blank : (cs : List ℕ) → is_blank (slice_index cs 0) ≡ false → prefix_len is_blank (32 ∷ cs) ≡ 1
one_blank [] h = refl
one_blank (d ∷ ds) h = rw h refl

-- the space alone is moved
space_moved : (m : Marker) (cs : List ℕ) → is_blank (slice_index cs 0) ≡ false
    → Moved is_blank [] (encode_utf8 32) (mid_line m (32 ∷ cs)) (mid_line (along m 1) cs)
space_moved m cs h = grind (arith, one_blank, append-nil)

abbrev space_gap : Marker → List ℕ → PlainGap
space_gap m cs = seen_gap false (encode_utf8 32) (mid_line (along m 1) cs)

abbrev Found : Type 0
Found = Result PlainGap Refusal

gap_is_space : (f : Bool) (i : ℕ) (a m : Marker) (cs : List ℕ) → LeadsWord f cs
    → gap i a (mid_line m (32 ∷ cs)) ≡ Ok (space_gap m cs)
unfolding gap gap_from
gap_is_space f i a m cs s =
    let content = set_content f (slice_index cs 0) s.set in
    ap (λ (x : List ℕ × Cursor). gap_from i a x.0 x.1) (space_moved m cs content.blank).is
    ∙ by_test (is_break (slice_index cs 0)) _ _ (λ (r : Found). r ≡ Ok (space_gap m cs)) (λ is. absurd (cc)) (λ _. refl)

abbrev pub answer : Bool → Cursor → Result (Bool × Cursor) Refusal
answer b s = Ok (b, s)

no_second : (a b d : Bool) → b ≡ false → (a && b && d) ≡ true → ⊥
no_second a b d is h = grind arith

pub word_goes : (f : Bool) (i : ℕ) (m : Marker) (cs : List ℕ) → 0 < m.col → LeadsWord f cs
    → next_word_starts f i (mid_line m cs) ≡ answer true (mid_line m cs)
unfolding next_word_starts word_starts
word_goes f i m cs l s = grind (arith, nat_tests, no_second, set_in_word)

space_goes : (f : Bool) (i : ℕ) (m : Marker) (cs : List ℕ) → LeadsWord f cs
    → next_word_starts f i (mid_line (along m 1) cs) ≡ answer true (mid_line (along m 1) cs)
space_goes f i m cs s = word_goes f i (along m 1) cs (omega arith) s

-- Where a word begins with such a character, nothing else about the place matters.

no_marker : (xs : List ℕ) → (slice_index xs 0 == hyphen) ≡ false → (slice_index xs 0 == full_stop) ≡ false
    → is_document_indicator xs ≡ false
no_marker xs dash stop = rw (dash, stop) refl

in_any : (f : Bool) (c : ℕ) → in_plain true c ≡ true → in_plain f c ≡ true
in_any f c h = grind (arith, nat_tests)

pub any_word_begins : (f : Bool) (s t : Cursor) (c : ℕ) (b : Bool) → c ≡ slice_index t.rest 0 → t ≡ s
    → b ≡ begins_any_plain c → b ≡ true → word_starts f s ≡ answer true t
unfolding word_starts
any_word_begins f s t c b read same is goes =
    let two = both_true (nat_lt 47 c && nat_lt c 128) (in_plain true c) (sym is ∙ goes) in
    let above = both_true (nat_lt 47 c) (nat_lt c 128) two.0 in
    let first : c ≡ slice_index s.rest 0 = read ∙ ap (λ (x : Cursor). slice_index x.rest 0) same in
    let hash : (c == 35) ≡ false = grind (arith, nat_tests) in
    let dash : (c == 45) ≡ false = grind (arith, nat_tests) in
    let stop : (c == 46) ≡ false = grind (arith, nat_tests) in
    let hash_there : (slice_index s.rest 0 == 35) ≡ false = rw first at hash in
    let dash_there : (slice_index s.rest 0 == 45) ≡ false = rw first at dash in
    let marker = no_marker s.rest dash_there (rw first at stop) in
    let on = set_in_word f s.rest (rw first at (in_any f c two.1)) in
    rw (hash_there, marker, and_false (s.mark.col == 0), dash_there, and_false f, on, same) refl

-- a character is passed
abbrev pub PassesCharacter : Bool → ℕ → Marker → Marker → ℕ → List ℕ → Type 0
PassesCharacter f i a m c cs = word f i a m (c ∷ cs) ≡ with_text (encode_utf8 c) (word f i a (along m 1) cs)

space_ends : (f : Bool) (cs : List ℕ) → is_in_word f (32 ∷ cs) ≡ false
unfolding is_in_word
space_ends f cs = refl

space_passed : (f : Bool) (i : ℕ) (a m : Marker) (cs : List ℕ) → LeadsWord f cs → PassesCharacter f i a m 32 cs
space_passed f i a m cs s =
    cc (word_over f i a m (32 ∷ cs) (space_ends f cs), gap_is_space f i a m cs s, space_goes f i m cs s)

colon_in_word : (f : Bool) (cs : List ℕ)
    → is_in_word f (58 ∷ cs) ≡ not (is_blank_or_breakz (slice_index cs 0) || (f && is_flow (slice_index cs 0)))
unfolding is_in_word
colon_in_word f cs = refl

word_passed : (f : Bool) (i : ℕ) (a m : Marker) (c : ℕ) (cs : List ℕ)
    → goes_on (in_plain f) (joins_plain f) (c ∷ cs) ≡ true → PassesCharacter f i a m c cs
word_passed f i a m c cs h =
    let d = slice_index cs 0 in
    either (in_plain f c) (joins_plain f c d) (PassesCharacter f i a m c cs) h
    (λ is. word_on f i a m c cs (set_in_word f (c ∷ cs) is)) (λ is.
    either (ascii_in (leads_plain f) d && (c == 32)) _ (PassesCharacter f i a m c cs) is (λ space.
    let two = both_true (ascii_in (leads_plain f) d) (c == 32) space in
    let same : c ≡ 32 = grind (arith, nat_tests) in
    rw same (space_passed f i a m cs (leads f cs (both_true (nat_lt d 128) (leads_plain f d) two.0).1))) (λ colon.
    let two = both_true (not (is_blank_or_breakz d || (f && is_flow d))) (c == 58) colon in
    let same : c ≡ 58 = grind (arith, nat_tests) in
    rw same (word_on f i a m 58 cs (colon_in_word f cs ∙ two.0))))

-- where a word goes on, words do
in_word_goes : (f : Bool) (xs : List ℕ) → is_in_word f xs ≡ true → goes_on (in_plain f) (joins_plain f) xs ≡ true
unfolding is_in_word
in_word_goes f xs h = grind (arith, nat_tests)

pub words_moved : (f : Bool) (text grown : List ℕ) (s t : Cursor)
    → WordsMoved (in_plain f) (joins_plain f) text grown s t → PlainWordsMoved f text grown s t
words_moved f text grown s t w =
    let p = in_plain f in
    let q = joins_plain f in
    let taken = w.words.transfers.taken in
    let stop : goes_on p q t.rest ≡ false = rw (taken, w.words.count) (words_stop p q s.rest refl) in
    record {
      same = λ i a. rw w.place (words_behind p q with_text (word f i a)
          (record { none = no_text; twice = text_twice; passes = word_passed f i a }) w.count s.mark s.rest t.rest text
          grown w.words);
      on_line = w.line;
      stops = false_from_ne_true (is_in_word f t.rest)
          (λ goes. clash (goes_on p q t.rest) (in_word_goes f t.rest goes) stop);
      shorter = λ goes. (let some = word_left f s.rest goes in
          let more = words_some p q s.rest some (in_word_goes f s.rest goes) in
          rw (taken, length-drop) (omega (arith, w.words.count, more, some)));
      within = rw (taken, length-drop) (omega arith);
    }
