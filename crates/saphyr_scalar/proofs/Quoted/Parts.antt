-- What the calls that read a part of a quoted scalar leave.
use Rattle.saphyr_scalar.proofs.Common.{◌≡◌, ℕ, ◌+◌, ◌<◌, true, false, List, [], ◌∷◌, ◌++◌, length, drop, length-drop, slice_index, Result, Ok, Err, refl, sym, ap, ◌∙◌, arith, subst, IsTrue, ◌&&◌, ◌==◌, not, encode_utf8, Option, Some, None, is_blank, is_break, next_2_are, Marker, Refusal, Quote, Single, Double, Cursor, ◌>>=◌, along, pass, eqb-true, apostrophe, backslash, clash, and_true_left, and_true_right, and_false, by_test}
use Rattle.saphyr_scalar.specs.Values.Escapes.{digit_count, short_escape}
use Rattle.saphyr_scalar.proofs.Moving.{bind_same}
use Rattle.saphyr_scalar.proofs.Quoted.Escapes.{escape_place}
use Rattle.saphyr_scalar.proofs.Quoted.Inside.{front_twice, passed_over, behind_no_gap, run_blanks, Moved, slash_left}
use Rattle.saphyr_scalar.specs.Steps.Quoted.{is_literal, ends_word, hex_digit_count, escape_by_number, escape_of, escaped_character, with_front, mid_line, special, on_line, no_gap, inner_text, inner_text_at}

-- A run that was put after a text.

pub blanks_moved : (q : Quote) (indent : ℕ) (start : Marker) (bytes grown : List ℕ) (s t : Cursor)
    → Moved is_blank bytes grown s t
    → inner_text_at q indent start (on_line grown) t ≡ inner_text_at q indent start (on_line bytes) s
blanks_moved q indent start bytes grown s t m = grind (arith, run_blanks)

-- Escapes, and two single quotes.

bind_twice : {A B C E : Type 0} (r : Result A E) (f : A → B) (g : B → Result C E)
    → ((r >>= λ x. Ok (f x)) >>= g) ≡ (r >>= λ x. g (f x))
bind_twice (Ok x) f g = refl
bind_twice (Err e) f g = refl

-- an escape and what is read after it
pub at_escape : (indent : ℕ) (start m : Marker) (cs : List ℕ) → is_break (slice_index cs 0) ≡ false
    → inner_text Double indent start no_gap 0 m (backslash ∷ cs)
    ≡ (escaped_character start (mid_line m (backslash ∷ cs)) >>= λ e. with_front (encode_utf8 e.0)
    (inner_text_at Double indent start no_gap e.1))
unfolding is_literal special
at_escape indent start m cs h = grind (arith, behind_no_gap, bind_twice, bind_same, escape_place, passed_over)

pub at_two_quotes : (indent : ℕ) (start m : Marker) (cs : List ℕ)
    → inner_text Single indent start no_gap 0 m (apostrophe ∷ apostrophe ∷ cs)
    ≡ with_front (encode_utf8 39) (inner_text Single indent start no_gap 0 (along m 2) cs)
unfolding is_literal special inner_text
at_two_quotes indent start m cs = behind_no_gap Single indent start m 39 (39 ∷ cs) refl refl refl

-- where an escape is, and what follows it is no break
pub record StartsEscape (xs : List ℕ) : Type 0 where
  pub cs : List ℕ
  pub cut : xs ≡ backslash ∷ cs
  pub goes : is_break (slice_index cs 0) ≡ false

record AreTwoQuotes (xs : List ℕ) : Type 0 where
  pub cs : List ℕ
  pub cut : xs ≡ apostrophe ∷ apostrophe ∷ cs

escape_of_test : (xs : List ℕ) → ((slice_index xs 0 == backslash) && not (is_break (slice_index xs 1))) ≡ true
    → StartsEscape xs
escape_of_test [] h = absurd (cc)
escape_of_test (c ∷ cs) h = grind (arith, eqb-true, slice_index)

two_of_test : (xs : List ℕ) → next_2_are xs 39 39 ≡ true → AreTwoQuotes xs
two_of_test [] h = absurd (cc)
two_of_test (c ∷ []) h = clash ((c == 39) && false) h (and_false (c == 39))
two_of_test (c ∷ d ∷ cs) h = grind (arith, eqb-true, and_true_left, and_true_right)

numbered_same : (start : Marker) (o : Option ℕ) (s : Cursor)
    → escape_by_number start o (mid_line s.mark s.rest) ≡ escape_by_number start o s
unfolding escape_by_number
numbered_same start (Some n) s = refl
numbered_same start None s = refl

of_same : (start : Marker) (letter : ℕ) (o : Option ℕ) (s : Cursor)
    → escape_of start o letter (mid_line s.mark s.rest) ≡ escape_of start o letter s
unfolding escape_of
of_same start letter (Some c) s = refl
of_same start letter None s = numbered_same start (digit_count letter) s

escape_same : (start : Marker) (s : Cursor)
    → escaped_character start (mid_line s.mark s.rest) ≡ escaped_character start s
unfolding escaped_character
escape_same start s = of_same start (slice_index s.rest 1) (short_escape (slice_index s.rest 1)) s

-- what is read where `special` gives this
abbrev ReadsSpecial : Quote → ℕ → Marker → Cursor → Result (Option ℕ × Cursor) Refusal → Type 0
ReadsSpecial q indent start s (Ok (Some d, t)) =
    (inner_text_at q indent start no_gap s ≡ with_front (encode_utf8 d) (inner_text_at q indent start no_gap t))
    × (length t.rest < length s.rest)
ReadsSpecial q indent start s (Ok (None, t)) = t ≡ s
ReadsSpecial q indent start s (Err r) = inner_text_at q indent start no_gap s ≡ Err r

escape_on : (indent : ℕ) (start : Marker) (s : Cursor) → StartsEscape s.rest
    → inner_text_at Double indent start no_gap s
    ≡ (escaped_character start s >>= λ e. with_front (encode_utf8 e.0) (inner_text_at Double indent start no_gap e.1))
escape_on indent start s is = grind (arith, at_escape, escape_same)

escape_shorter : (start : Marker) (s t : Cursor) (c : ℕ) → StartsEscape s.rest → escaped_character start s ≡ Ok (c, t)
    → length t.rest < length s.rest
escape_shorter start s t c is e =
    let place : t ≡ mid_line (along s.mark (2 + hex_digit_count (slice_index s.rest 1)))
    (drop (2 + hex_digit_count (slice_index s.rest 1)) s.rest) =
    escape_place start s.mark s.rest (c, t) (escape_same start s ∙ e) in
    rw (place, length-drop) (omega (arith, slash_left s.rest (ap (λ xs. slice_index xs 0) is.cut)))

escape_reads : (indent : ℕ) (start : Marker) (s : Cursor) (r : Result (ℕ × Cursor) Refusal) → StartsEscape s.rest
    → escaped_character start s ≡ r → ReadsSpecial Double indent start s (r >>= λ e. Ok (Some e.0, e.1))
escape_reads indent start s (Ok e) is h = (
  escape_on indent start s is
      ∙ ap (λ r. r >>= λ e. with_front (encode_utf8 e.0) (inner_text_at Double indent start no_gap e.1)) h,
  escape_shorter
      start s e.1 e.0 is h,
)
escape_reads indent start s (Err r) is h = escape_on indent start s is
    ∙ ap (λ r. r >>= λ e. with_front (encode_utf8 e.0) (inner_text_at Double indent start no_gap e.1)) h

two_quotes_read : (indent : ℕ) (start : Marker) (s : Cursor) → AreTwoQuotes s.rest
    → ReadsSpecial Single indent start s (Ok (Some 39, pass 2 s))
two_quotes_read indent start s is = grind (arith, drop, at_two_quotes)

special_reads : (q : Quote) (indent : ℕ) (start : Marker) (s : Cursor)
    → ReadsSpecial q indent start s (special q start s)
unfolding special
special_reads Single indent start s = by_test (next_2_are s.rest 39 39) _ _ (ReadsSpecial Single indent start s)
    (λ h. two_quotes_read indent start s (two_of_test s.rest h)) (λ h. refl)
special_reads Double indent start s =
    by_test ((slice_index s.rest 0 == 92) && not (is_break (slice_index s.rest 1))) _ _
    (ReadsSpecial Double indent start s)
    (λ h. escape_reads indent start s (escaped_character start s) (escape_of_test s.rest h) refl) (λ h. refl)

-- a result whose character is told again
gives : (r : Result (Option ℕ × Cursor) Refusal) (a b : Option ℕ) (t : Cursor) → r ≡ Ok (a, t) → a ≡ b → r ≡ Ok (b, t)
gives r a b t e is = subst (λ (x : Option ℕ). r ≡ Ok (x, t)) is e

pub special_moved : (q : Quote) (indent : ℕ) (start : Marker) (text : List ℕ) (s t : Cursor) (o : Option ℕ) (d : ℕ)
    → special q start s ≡ Ok (o, t) → o ≡ Some d
    → with_front (text ++ encode_utf8 d) (inner_text_at q indent start no_gap t)
    ≡ with_front text (inner_text_at q indent start no_gap s)
special_moved q indent start text s t o d e is =
    let r = subst (ReadsSpecial q indent start s) (gives _ o (Some d) t e is) (special_reads q indent start s) in
    sym (ap (with_front text) r.0 ∙ front_twice text (encode_utf8 d) _)

pub special_shorter : (q : Quote) (start : Marker) (s t : Cursor) (o : Option ℕ) (d : ℕ) → special q start s ≡ Ok (o, t)
    → o ≡ Some d → length t.rest < length s.rest
special_shorter q start s t o d e is =
    let r = subst (ReadsSpecial q 0 start s) (gives _ o (Some d) t e is) (special_reads q 0 start s) in r.1

pub special_refused : (q : Quote) (indent : ℕ) (start : Marker) (text : List ℕ) (s : Cursor) (refusal : Refusal)
    → special q start s ≡ Err refusal → with_front text (inner_text_at q indent start no_gap s) ≡ Err refusal
special_refused q indent start text s refusal e =
    ap (with_front text) (subst (ReadsSpecial q indent start s) e (special_reads q indent start s))

word_ends : (q : Quote) (start : Marker) (s t : Cursor) → special q start s ≡ Ok (None, t)
    → is_literal q (slice_index s.rest 0) ≡ false → IsTrue (ends_word q s.rest)
unfolding special is_literal
word_ends u0 start s t = grind arith

-- where no such spelling is, nothing is taken off
pub special_ends : (q : Quote) (start : Marker) (s t : Cursor) (o : Option ℕ) → special q start s ≡ Ok (o, t) → o ≡ None
    → is_literal q (slice_index s.rest 0) ≡ false → (t ≡ s) × IsTrue (ends_word q s.rest)
special_ends q start s t o e is l =
    let none = gives _ o None t e is in
    (subst (ReadsSpecial q 0 start s) none (special_reads q 0 start s), word_ends q start s t none l)

-- what begins with another character is no such spelling

pub not_doubled : (start : Marker) (s : Cursor) (c : ℕ) → (c == apostrophe) ≡ false → c ≡ slice_index s.rest 0
    → special Single start s ≡ Ok (None, s)
unfolding special
not_doubled start s c other read =
    let first : (slice_index s.rest 0 == 39) ≡ false = ap (λ x. x == 39) (sym read) ∙ other in rw first refl

pub not_escaped : (start : Marker) (s : Cursor) (c : ℕ) → (c == backslash) ≡ false → c ≡ slice_index s.rest 0
    → special Double start s ≡ Ok (None, s)
unfolding special
not_escaped start s c other read =
    let first : (slice_index s.rest 0 == 92) ≡ false = ap (λ x. x == 92) (sym read) ∙ other in rw first refl
