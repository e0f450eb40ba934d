-- Where a plain scalar ends.
use Rattle.scalar_laws.proofs.Common.{◌≡◌, ℕ, ◌<◌, Bool, true, false, List, [], slice_index, Ok, refl, arith, nat_lt, nat_tests, is_blank_or_break, is_document_indicator, Marker, Cursor, word_over, goes_not, past_white, is_tabbed, StopsPlain, EndsPlain, by_test, number_sign}
use Rattle.saphyr_scalar.specs.Steps.Plain.{is_in_word, word_starts, next_word_starts, comment_of, word}
use Rattle.scalar_laws.proofs.Plain.White.{past_stop, gap_past}

-- no word goes on with a blank or a break
pub white_stops : (f : Bool) (xs : List ℕ) → is_blank_or_break (slice_index xs 0) ≡ true → is_in_word f xs ≡ false
unfolding is_in_word
white_stops f xs h = grind arith

comment_stops : (f : Bool) (i : ℕ) (s : Cursor) → slice_index s.rest 0 ≡ number_sign
    → next_word_starts f i s ≡ Ok (false, s)
unfolding next_word_starts word_starts
comment_stops f i s h = grind (arith, by_test)

marker_stops : (f : Bool) (i : ℕ) (s : Cursor) → s.mark.col ≡ 0 → is_document_indicator s.rest ≡ true
    → next_word_starts f i s ≡ Ok (false, s)
unfolding next_word_starts word_starts
marker_stops f i s col is = grind arith

left_stops : (f : Bool) (i : ℕ) (s : Cursor) → f ≡ false → s.blank_so_far ≡ true → s.mark.col < i
    → next_word_starts f i s ≡ Ok (false, s)
unfolding next_word_starts
left_stops f i s out blank left =
    let less : nat_lt s.mark.col i ≡ true = grind (arith, nat_tests) in rw (out, blank, less) refl

pub stops_plain : (f : Bool) (i : ℕ) (s : Cursor) → StopsPlain f i s → next_word_starts f i s ≡ Ok (false, s)
stops_plain f i s h = grind (arith, goes_not, comment_stops, marker_stops, left_stops)

-- the character after the word is not of it
word_stops : (f : Bool) (i : ℕ) (e : Marker) (x : List ℕ) → 0 < e.col → EndsPlain f i e x → is_in_word f x ≡ false
word_stops f i e x some h = grind (arith, white_stops, past_stop)

-- the end of the last word, after which blanks and breaks and what ends the scalar are
pub word_ends : (f : Bool) (i : ℕ) (a e : Marker) (x : List ℕ) → 0 < e.col → EndsPlain f i e x
    → let behind = past_white e false x in word f i a e x ≡ Ok ([], e, comment_of f (is_tabbed i x) behind, behind)
word_ends f i a e x some ends =
    let behind = past_white e false x in
    let gap_is = gap_past i a e x ends.tabs in
    cc (word_over f i a e x (word_stops f i e x some ends), stops_plain f i behind ends.stops)
