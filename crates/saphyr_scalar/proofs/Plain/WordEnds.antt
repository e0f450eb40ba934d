-- Where a word of a plain scalar ends before neither a blank nor a break, the scalar ends.
use Rattle.saphyr_scalar.proofs.Common.{◌≡◌, ℕ, Bool, true, false, List, [], slice_index, Ok, refl, ap, ◌∙◌, arith, ◌==◌, not, None, or_parts, nat_tests, number_sign, is_blank_or_break, by_test, and_false, Marker, Cursor, pass}
use Rattle.saphyr_scalar.specs.Steps.Plain.{PlainGap, is_in_word, PlainWordsMoved, seen_gap, gap_from, gap, comment_of, with_text, word}
use Rattle.saphyr_scalar.proofs.NoSeparation.{no_run}
use Rattle.saphyr_scalar.proofs.Plain.Pieces.{GapMoved, goes_not, no_turn}

-- where a word has ended, no more of it is moved
pub none_moved : (f : Bool) (text : List ℕ) (s : Cursor) → is_in_word f s.rest ≡ false → s.blank_so_far ≡ false
    → PlainWordsMoved f text text s s
none_moved f text s ends line = grind arith

pub still_moved : (f : Bool) (i : ℕ) (a : Marker) (text : List ℕ) (s : Cursor) (g : PlainGap)
    → is_in_word f s.rest ≡ false → s.blank_so_far ≡ false → gap i a s ≡ Ok g → GapMoved f i a text text s s g
still_moved f i a text s g ends line is = record { moved = none_moved f text s ends line; is = is }

pub none_passed : (s : Cursor) → s.blank_so_far ≡ false → pass 0 s ≡ s
none_passed s line = grind arith

hash_in_word : (f : Bool) (xs : List ℕ) → slice_index xs 0 ≡ number_sign → is_in_word f xs ≡ true
unfolding is_in_word
hash_in_word f xs h = grind arith

no_comment : (f : Bool) (s : Cursor) → is_in_word f s.rest ≡ false → comment_of f false s ≡ None
unfolding comment_of
no_comment f s ends = by_test (slice_index s.rest 0 == 35) true false (λ _. comment_of f false s ≡ None) (λ is.
    let goes = hash_in_word f s.rest (grind (arith, nat_tests)) in absurd (cc)) (λ is. rw (is, and_false (not f)) refl)

pub scalar_ends : (f : Bool) (i : ℕ) (a : Marker) (text : List ℕ) (s : Cursor) → is_in_word f s.rest ≡ false
    → s.blank_so_far ≡ false → is_blank_or_break (slice_index s.rest 0) ≡ false
    → with_text text (word f i a s.mark s.rest) ≡ Ok (text, s.mark, None, s)
unfolding gap gap_from
scalar_ends f i a text s ends line non_space =
    no_turn f i a text text s s (seen_gap false [] s) s (still_moved f i a text s (seen_gap false [] s) ends line
    (grind (arith, or_parts, slice_index, no_run, none_passed))) (goes_not f i s ends)
    ∙ ap (λ x. Ok (text, s.mark, x, s)) (no_comment f s ends)
