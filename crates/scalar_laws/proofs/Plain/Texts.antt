-- A plain scalar of several words and lines is read, without a fault.
use Rattle.scalar_laws.proofs.Common.{◌≡◌, ◌≢◌, ℕ, suc, ◌+◌, ◌<◌, Bool, true, false, List, [], ◌∷◌, ◌++◌, length, slice_index, Ok, refl, sym, ap, ◌∙◌, arith, subst, encode_utf8_all, append_assoc, inl, prefix_len, nat_tests, take-append_seam, normalized, is_blank, is_break, is_flow, is_blank_or_break, is_document_indicator, AreIn, Marker, Cursor, along, next_line, along_none, along_more, no_text, text_twice, word_on, word_over, plain_starts, behind_blanks, past_white, reaches_tabbed, is_tabbed, EndsPlain, AreSafeBefore, IsWordBefore, has_line_end, IsPlainGap, words_text, IsNoMarker, AreFurtherWords, IsPlainText, some_length, none_of_three, or_assoc, or-false, hyphen, number_sign, cursor_at}
use Rattle.std.specs.Prelude.{◌||◌, ◌&&◌, ◌==◌, not, nat_lt, encode_utf8, if◌then◌else◌}
use Rattle.saphyr_scalar.specs.Values.Flow.{plain_value}
use Rattle.saphyr_scalar.specs.Steps.Plain.{is_in_word, word_starts, next_word_starts, comment_of, ends_line, with_text, PlainScalarRead, word, plain}
use Rattle.saphyr_scalar.specs.Reading.Plain.{end_of_text}
use Rattle.saphyr_scalar.proofs.Plain.Runs.{AreNonSpace, NoFeed, same_ends, passed_append, passed_word, passed_index}
use Rattle.saphyr_scalar.proofs.Plain.Sound.{plain_reads}
use Rattle.scalar_laws.proofs.Plain.White.{flag_on, tabbed_on, tabbed_stop, past_on, past_stop, gap_past}
use Rattle.scalar_laws.proofs.Plain.Ends.{word_ends, white_stops}

-- words

safe_in_word : (f : Bool) (c : ℕ) (cs y : List ℕ) → AreSafeBefore f (c ∷ cs) y → is_in_word f (c ∷ (cs ++ y)) ≡ true
unfolding is_in_word
safe_in_word f c cs y h = grind (arith, none_of_three, nat_tests)

read_word : (f : Bool) (i : ℕ) (a m : Marker) (w y : List ℕ) → AreSafeBefore f w y
    → word f i a m (w ++ y) ≡ with_text (encode_utf8_all w) (word f i a (along m (length w)) y)
read_word f i a m [] y h = cc (no_text _, along_none m)
read_word f i a m (c ∷ w) y h =
    cc (
      word_on f i a m c (w ++ y) (safe_in_word f c w y h),
      read_word f i a (along m 1) w y h.2,
      text_twice (encode_utf8 c) (encode_utf8_all w) _,
      along_more m 1 (length w) (suc (length w)) (omega arith),
    )

-- where a word starts

starts_so : (f : Bool) (s : Cursor) → (slice_index s.rest 0 == number_sign) ≡ false
    → ((s.mark.col == 0) && is_document_indicator s.rest) ≡ false
    → (f && (slice_index s.rest 0 == hyphen) && is_flow (slice_index s.rest 1)) ≡ false
    → is_in_word f s.rest ≡ true → word_starts f s ≡ Ok (true, s)
unfolding word_starts
starts_so f s hash marker lone goes = search

first_in : (f : Bool) (w y : List ℕ) → IsWordBefore f w y → is_in_word f (w ++ y) ≡ true
first_in f [] y h = absurd (h.some refl)
first_in f (c ∷ cs) y h = safe_in_word f c cs y h.safe

first_is : (f : Bool) (w y : List ℕ) → IsWordBefore f w y → slice_index (w ++ y) 0 ≡ slice_index w 0
first_is f [] y h = absurd (h.some refl)
first_is f (c ∷ cs) y h = refl

pub word_begins : (f : Bool) (m : Marker) (b : Bool) (w y : List ℕ) → IsWordBefore f w y → IsNoMarker m (w ++ y)
    → word_starts f (cursor_at (w ++ y) m b) ≡ Ok (true, cursor_at (w ++ y) m b)
word_begins f m b w y h marker =
    let s = cursor_at (w ++ y) m b in
    let other : slice_index (w ++ y) 0 ≢ 35 = λ e. h.no_comment (sym (first_is f w y h) ∙ e) in
    let hash : (slice_index (w ++ y) 0 == 35) ≡ false = differs (slice_index (w ++ y) 0) other in
    starts_so f s hash (grind arith) h.no_lone_dash (first_in f w y h)
  where
    differs : (c : ℕ) → (c ≢ number_sign) → (c == number_sign) ≡ false
    differs c h = grind (arith, nat_tests)

-- gaps

-- no blank and no break comes first
abbrev Dark : List ℕ → Type 0
Dark xs = is_blank_or_break (slice_index xs 0) ≡ false

non_space_of : (f : Bool) (w y : List ℕ) → AreSafeBefore f w y → AreNonSpace w
non_space_of f [] y h = tt
non_space_of f (c ∷ w) y h = grind (arith, non_space_of f w y h.2)

word_dark : (f : Bool) (w y z : List ℕ) → IsWordBefore f w z → Dark (w ++ y)
word_dark f [] y z h = absurd (h.some refl)
word_dark f (c ∷ cs) y z h = (non_space_of f (c ∷ cs) z h.safe).0

dark_no_feed : (xs : List ℕ) → Dark xs → NoFeed xs
dark_no_feed xs h = grind arith

past_gap : (m : Marker) (b : Bool) (v y : List ℕ) → AreIn is_blank_or_break v → Dark y
    → past_white m b (v ++ y) ≡ cursor_at y (end_of_text m v) (b || has_line_end v)
past_gap m b [] y are dark = cc (past_stop m b y dark, or-false b)
past_gap m b (c ∷ v) y are dark =
    cc (
      past_on m b c (v ++ y) are.0,
      same_ends c v y (dark_no_feed y dark),
      past_gap (if ends_line c v then next_line m 1 else along m 1) (b || is_break c) v y are.1 dark,
      or_assoc b (is_break c) (has_line_end v),
    )

tabbed_more : (i k : ℕ) (t : Bool) (v y : List ℕ) → Dark y → AreIn is_blank_or_break v
    → reaches_tabbed i k t (v ++ y) ≡ reaches_tabbed i k t v
tabbed_more i k t [] y dark are = tabbed_stop i k t y dark
tabbed_more i k t (c ∷ v) y dark are =
    cc (
      tabbed_on i k t c (v ++ y) are.0,
      same_ends c v y (dark_no_feed y dark),
      tabbed_more i (if ends_line c v then 0 else k + 1) (flag_on i k t c) v y dark are.1,
      tabbed_on i k t c v are.0,
    )

pub blanks_on : (c : ℕ) (cs : List ℕ) → is_blank c ≡ true → behind_blanks (c ∷ cs) ≡ behind_blanks cs
blanks_on c cs h =
    let one : prefix_len is_blank (c ∷ cs) ≡ suc (prefix_len is_blank cs) = rw h (omega arith) in cc

blanks_stop : (xs : List ℕ) → is_blank (slice_index xs 0) ≡ false → behind_blanks xs ≡ xs
blanks_stop xs h = grind arith

is_tabbed_more : (i : ℕ) (v y : List ℕ) → Dark y → AreIn is_blank_or_break v → is_tabbed i (v ++ y) ≡ is_tabbed i v
is_tabbed_more i [] y dark are = cc (blanks_stop y (grind arith), tabbed_stop i 0 false y dark)
is_tabbed_more i (c ∷ v) y dark are = test (is_blank c) refl (is_tabbed_more i v y dark are.1)
  where
    test : (b : Bool) → is_blank c ≡ b → is_tabbed i (v ++ y) ≡ is_tabbed i v
        → is_tabbed i (c ∷ (v ++ y)) ≡ is_tabbed i (c ∷ v)
    test true e more = ap (reaches_tabbed i 0 false) (blanks_on c (v ++ y) e) ∙ more ∙ sym (cc (blanks_on c v e))
    test false e more =
        cc (blanks_stop (c ∷ (v ++ y)) e, tabbed_more i 0 false (c ∷ v) y dark are, blanks_stop (c ∷ v) e)

gap_first : (v y : List ℕ) → v ≢ [] → AreIn is_blank_or_break v → is_blank_or_break (slice_index (v ++ y) 0) ≡ true
gap_first [] y some are = absurd (some refl)
gap_first (c ∷ v) y some are = are.0

-- a gap's place is not left of the scalar's indentation
not_left : (f : Bool) (i : ℕ) (m : Marker) (v : List ℕ) → IsPlainGap f i m v
    → (has_line_end v && not f && nat_lt (end_of_text m v).col i) ≡ false
not_left f i m v h = grind arith

goes_here : (f : Bool) (i : ℕ) (s : Cursor) → (s.blank_so_far && not f && nat_lt s.mark.col i) ≡ false
    → word_starts f s ≡ Ok (true, s) → next_word_starts f i s ≡ Ok (true, s)
unfolding next_word_starts
goes_here f i s h starts = rw h starts

-- a gap and the next word's start
pub record PassesWordGap (f : Bool) (i : ℕ) (a m : Marker) (v y : List ℕ) : Type 0 where
  text : List ℕ
  is : word f i a m (v ++ y) ≡ with_text text (word f i a (end_of_text m v) y)

pub gap_passes : (f : Bool) (i : ℕ) (a m : Marker) (v w z : List ℕ) → IsPlainGap f i m v → IsWordBefore f w z
    → IsNoMarker (end_of_text m v) (w ++ z) → PassesWordGap f i a m v (w ++ z)
gap_passes f i a m v w z h hw marker =
    let y = w ++ z in
    let dark = word_dark f w z z hw in
    let there = cursor_at y (end_of_text m v) (has_line_end v) in
    let clean : is_tabbed i (v ++ y) ≡ false = is_tabbed_more i v y dark h.white ∙ h.tabs in
    let gap_is = gap_past i a m (v ++ y) (inl clean) in
    let goes : next_word_starts f i there ≡ Ok (true, there) = goes_here f i there (not_left f i m v h)
    (word_begins f (end_of_text m v) (has_line_end v) w z hw marker) in
    record {
      text = gap_is.text;
      is = simp (
        word_over f i a m (v ++ y) (white_stops f (v ++ y) (gap_first v y h.some h.white)),
        gap_is.is,
        clean,
        (past_gap m false v y h.white dark),
        goes,
      );
    }

-- The whole of a scalar.

abbrev end_of : Marker → List (List ℕ × List ℕ) → Marker
end_of m [] = m
end_of m (p ∷ ps) = end_of (along (end_of_text m p.0) (length p.1)) ps

-- what is read ends there
record EndsAt (f t : Bool) (r : PlainScalarRead) (end : Marker) (behind : Cursor) : Type 0 where
  text : List ℕ
  is : r ≡ Ok (text, end, comment_of f t behind, behind)

more_text : (f t : Bool) (front : List ℕ) (q r : PlainScalarRead) (end : Marker) (behind : Cursor) → q
    ≡ with_text front r → EndsAt f t r end behind → EndsAt f t q end behind
more_text f t front q r end behind is e = record { text = front ++ e.text; is = is ∙ ap (with_text front) e.is }

words_read : (f : Bool) (i : ℕ) (a : Marker) (ps : List (List ℕ × List ℕ)) (m : Marker) (x : List ℕ) → 0 < m.col
    → AreFurtherWords f i m ps x → EndsPlain f i (end_of m ps) x
    → EndsAt f (is_tabbed i x) (word f i a m (words_text ps ++ x)) (end_of m ps) (past_white (end_of m ps) false x)
words_read f i a [] m x some h ends = record { text = []; is = word_ends f i a m x some ends }
words_read f i a (p ∷ ps) m x some h ends =
    let v = p.0 in
    let w = p.1 in
    let z = words_text ps ++ x in
    let there = end_of_text m v in
    let passes = gap_passes f i a m v w z h.0 h.1 h.2 in
    let first : 0 < (along there (length w)).col = omega (arith, some_length w h.1.some) in
    more_text f (is_tabbed i x) passes.text _ _ _ _ (ap (word f i a m)
    (cc (append_assoc v (w ++ words_text ps) x, append_assoc w (words_text ps) x)) ∙ passes.is)
    (more_text f (is_tabbed i x) (encode_utf8_all w) _ _ _ _ (read_word f i a there w z h.1.safe)
    (words_read f i a ps (along there (length w)) x first h.3 ends))

-- places
passed_words : (f : Bool) (i : ℕ) (ps : List (List ℕ × List ℕ)) (m : Marker) (x : List ℕ) → AreFurtherWords f i m ps x
    → end_of_text m (words_text ps) ≡ end_of m ps
passed_words f i [] m x h = refl
passed_words f i (p ∷ ps) m x h =
    let more = passed_words f i ps (along (end_of_text m p.0) (length p.1)) x h.3 in
    search (passed_append, dark_no_feed, word_dark, passed_word, non_space_of, more)

-- two beginnings of one length are the same
same_piece : (xs ys us vs : List ℕ) → xs ++ us ≡ ys ++ vs → length xs ≡ length ys → xs ≡ ys
same_piece xs ys us vs e n = cc (take-append_seam xs us, take-append_seam ys vs)

text_ends : (f : Bool) (i : ℕ) (s : Cursor) (text x : List ℕ) → s.rest ≡ text ++ x → IsPlainText f i s.mark text x
    → EndsAt f (is_tabbed i x) (plain f i s) (end_of_text s.mark text) (past_white (end_of_text s.mark text) false x)
text_ends f i s text x is h =
    let m = s.mark in
    let w = h.first in
    let z = words_text h.others ++ x in
    let there = along m (length w) in
    let here : s.rest ≡ w ++ z = cc (append_assoc w (words_text h.others) x) in
    let place : end_of_text m text ≡ end_of there h.others =
    cc (
      passed_word m w (words_text h.others) (non_space_of f w z h.word.safe),
      passed_words f i h.others there x h.further,
    ) in
    let marker : IsNoMarker m (w ++ z) = subst (λ (l : List ℕ). IsNoMarker m l) (sym is ∙ here) h.marker in
    let starts : word_starts f s ≡ Ok (true, s) = rw here (word_begins f m s.blank_so_far w z h.word marker) in
    let long = some_length w h.word.some in
    let ends = rw place at h.ends in
    let read = words_read f i m h.others there x (omega (arith, long)) h.further ends in
    rw place (more_text f (is_tabbed i x) (encode_utf8_all w) _ _ _ _
    (cc (plain_starts f i s s starts, read_word f i m m w z h.word.safe)) read)

pub plain_text_read : (f : Bool) (i : ℕ) (s : Cursor) (text x : List ℕ) → s.rest ≡ text ++ x
    → IsPlainText f i s.mark text x → let end = end_of_text s.mark text in let behind =
    past_white end false x in plain f i s
    ≡ Ok (encode_utf8_all (plain_value (normalized text)), end, comment_of f (is_tabbed i x) behind, behind)
plain_text_read f i s text x is h =
    let m = s.mark in
    let end = end_of_text m text in
    let behind = past_white end false x in
    let read = text_ends f i s text x is h in
    let reading = plain_reads f i s behind read.text end (comment_of f (is_tabbed i x) behind) read.is in
    let index : m.index + length reading.piece ≡ m.index + length text =
    cc (passed_index m reading.piece, passed_index m text) in
    let same : reading.piece ≡ text = same_piece reading.piece text (reading.white ++ behind.rest) x
    (sym reading.is ∙ is) (omega (arith, index)) in
    read.is ∙ ap (λ t. Ok (t, end, comment_of f (is_tabbed i x) behind, behind)) (cc)
