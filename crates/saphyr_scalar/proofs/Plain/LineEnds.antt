-- Where a word of a plain scalar ends its line, and what is left after that.
use Rattle.saphyr_scalar.proofs.Common.{◌≡◌, ℕ, ◌-◌, ◌^◌, Bool, true, false, List, [], ◌∷◌, slice_index, Result, Ok, refl, sym, ap, ◌∙◌, arith, ◌&&◌, ◌==◌, not, None, if◌then◌else◌, append-nil, not-true, is_blank, is_break, is_blank_or_break, and_false, Marker, Refusal, Cursor, ◌>>=◌, pass_break, pass_spaces}
use Rattle.saphyr_scalar.specs.Steps.Plain.{is_in_word, plain, word_starts, PlainWordsMoved, PlainGap, seen_gap, line_front, lines, folded_gap, next_lines, gap_from, gap, next_word_starts, comment_of, with_text, word, content_behind_tab}
use Rattle.saphyr_scalar.specs.Steps.Quoted.{with_run}
use Rattle.saphyr_scalar.specs.Steps.PlainLines.{scalar_behind_line, scalar_behind_word, is_left_of_scalar, behind_break, ends_at_once}
use Rattle.saphyr_scalar.proofs.NoSeparation.{no_run}
use Rattle.saphyr_scalar.proofs.Quoted.Inside.{break_cases}
use Rattle.saphyr_scalar.proofs.Quoted.Gaps.{by_break_len}
use Rattle.saphyr_scalar.proofs.SpaceRuns.{lines_over}
use Rattle.saphyr_scalar.proofs.Plain.Pieces.{words_and_rest, plain_behind_gap, moved_behind_word, goes_says}
use Rattle.saphyr_scalar.proofs.Plain.WordEnds.{none_moved, none_passed, scalar_ends}

no_blanks : (s : Cursor) → s.blank_so_far ≡ false → is_blank (slice_index s.rest 0) ≡ false
    → with_run is_blank [] s ≡ ([], s)
no_blanks s line h = rw (no_run is_blank s.rest h, none_passed s line) refl

pub from_break : (i : ℕ) (a : Marker) (blanks : List ℕ) (s : Cursor) → is_break (slice_index s.rest 0) ≡ true
    → gap_from i a blanks s ≡ next_lines i a (pass_break s)
unfolding gap_from
from_break i a blanks s breaks = grind arith

-- a gap that a break begins
break_gap : (i : ℕ) (a : Marker) (s : Cursor) → s.blank_so_far ≡ false → is_break (slice_index s.rest 0) ≡ true
    → gap i a s ≡ next_lines i a (pass_break s)
unfolding gap
break_gap i a s line breaks = ap (λ (x : List ℕ × Cursor). gap_from i a x.0 x.1) (no_blanks s line
    (break_cases (slice_index s.rest 0) breaks (λ c. is_blank c ≡ false) refl refl)) ∙ from_break i a [] s breaks

-- after the break, and spaces after it
pub word_to_line : (f : Bool) (i : ℕ) (a : Marker) (text : List ℕ) (most : ℕ) (s v u : Cursor)
    → is_in_word f s.rest ≡ false → s.blank_so_far ≡ false → is_break (slice_index s.rest 0) ≡ true
    → v ≡ pass_break s → u ≡ pass_spaces most v
    → with_text text (scalar_behind_line f i a s.mark u) ≡ with_text text (word f i a s.mark s.rest)
word_to_line f i a text most s v u ends line breaks on spaces =
    sym (moved_behind_word f i a text text s s (none_moved f text s ends line)
    ∙ ap (λ (r : Result PlainGap Refusal). with_text text (r >>= plain_behind_gap f i a s.mark))
    (break_gap i a s line breaks ∙ ap (next_lines i a) (sym on) ∙ sym
    (ap (λ (r : Result PlainGap Refusal). r >>= λ g. Ok (folded_gap g)) (lines_over i a false [] most v u spaces))))

pub break_begins : (s : Cursor) → is_break (slice_index s.rest 0) ≡ true → (pass_break s).blank_so_far ≡ true
break_begins s breaks = rw (by_break_len s breaks) refl

all_three : (a b c : Bool) → (a && b && c) ≡ true → (a ≡ true) × (b ≡ true) × (c ≡ true)
all_three u0 u1 u2 h = grind arith

-- no white space is at a line's first place
line_there : (i : ℕ) (a m : Marker) (xs : List ℕ) → is_blank_or_break (slice_index xs 0) ≡ false
    → lines i a false [] m xs ≡ Ok (seen_gap false [] (line_front m xs))
unfolding lines content_behind_tab
line_there i a m [] h = refl
line_there i a m (c ∷ cs) h = rw h refl

same_line_front : (u : Cursor) → u.blank_so_far ≡ true → line_front u.mark u.rest ≡ u
same_line_front u blank = ap (λ b. (record { rest = u.rest; mark = u.mark; blank_so_far = b })) (sym blank)

no_comment : (f : Bool) (u : Cursor) → u.blank_so_far ≡ true → comment_of f false u ≡ None
unfolding comment_of
no_comment f u blank = rw (blank, and_false (not f && (slice_index u.rest 0 == 35))) refl

-- after a gap no word begins
pub gap_no_turn : (f : Bool) (i : ℕ) (a end : Marker) (text : List ℕ) (g : PlainGap) (u : Cursor)
    → next_word_starts f i g.behind ≡ Ok (false, u)
    → with_text text (plain_behind_gap f i a end g) ≡ Ok (text, end, comment_of f g.tabbed u, u)
gap_no_turn f i a end text g u h = grind (arith, append-nil, goes_says)

-- what is left of the indentation ends the scalar
pub left_ends : (f : Bool) (i : ℕ) (a end : Marker) (text : List ℕ) (u : Cursor) → u.blank_so_far ≡ true
    → is_left_of_scalar f i u ≡ true → with_text text (scalar_behind_line f i a end u) ≡ Ok (text, end, None, u)
unfolding next_word_starts
left_ends f i a end text u blank left =
    grind (arith, all_three, not-true, plain_behind_gap, line_there, same_line_front, gap_no_turn, no_comment)

-- Where a word ended at s, u is behind a break that comes there, and the spaces after it.

pub stays_there : (s u : Cursor) → is_break (slice_index s.rest 0) ≡ false → u ≡ behind_break s → u ≡ s
stays_there s u none at = at ∙ ap (λ (d : Bool). if d then pass_spaces (2 ^ 64 - 1) (pass_break s) else s) none

pub passes_break : (s u : Cursor) → is_break (slice_index s.rest 0) ≡ true → u ≡ behind_break s
    → u ≡ pass_spaces (2 ^ 64 - 1) (pass_break s)
passes_break s u breaks at =
    at ∙ ap (λ (d : Bool). if d then pass_spaces (2 ^ 64 - 1) (pass_break s) else s) breaks

pub blank_there : (s u : Cursor) → is_break (slice_index s.rest 0) ≡ true → u ≡ behind_break s → u.blank_so_far ≡ true
blank_there s u breaks at = ap (λ (x : Cursor). x.blank_so_far) (passes_break s u breaks at) ∙ break_begins s breaks

pub word_to_break : (f : Bool) (i : ℕ) (a : Marker) (text : List ℕ) (s u : Cursor) → is_in_word f s.rest ≡ false
    → s.blank_so_far ≡ false → is_break (slice_index s.rest 0) ≡ true → u ≡ behind_break s
    → with_text text (scalar_behind_line f i a s.mark u) ≡ with_text text (word f i a s.mark s.rest)
word_to_break f i a text s u ends line breaks at =
    word_to_line f i a text _ s (pass_break s) u ends line breaks refl (passes_break s u breaks at)

pub ended_at_once : (f : Bool) (i : ℕ) (a : Marker) (text : List ℕ) (s u : Cursor) (b : Bool)
    → is_in_word f s.rest ≡ false → s.blank_so_far ≡ false → b ≡ ends_at_once f i s → b ≡ true → u ≡ behind_break s
    → with_text text (word f i a s.mark s.rest) ≡ Ok (text, s.mark, None, u)
ended_at_once f i a text s u b ends line is over at = by_break (is_break (slice_index s.rest 0)) refl
  where
    ends_by : Bool → Bool
    ends_by d = if d then is_left_of_scalar f i (behind_break s) else not (is_blank (slice_index s.rest 0))

    left : is_break (slice_index s.rest 0) ≡ true → is_left_of_scalar f i (behind_break s) ≡ true
    left e = sym (ap ends_by e) ∙ sym is ∙ over

    non_space : is_break (slice_index s.rest 0) ≡ false → is_blank_or_break (slice_index s.rest 0) ≡ false
    non_space e = rw (e, not-true (is_blank (slice_index s.rest 0)) (sym (ap ends_by e) ∙ sym is ∙ over)) refl

    by_break : (d : Bool) → is_break (slice_index s.rest 0) ≡ d
        → with_text text (word f i a s.mark s.rest) ≡ Ok (text, s.mark, None, u)
    by_break true e = sym (word_to_break f i a text s u ends line e at)
        ∙ left_ends f i a s.mark text u (blank_there s u e at) (ap (is_left_of_scalar f i) at ∙ left e)
    by_break false e = scalar_ends f i a text s ends line (non_space e)
        ∙ ap (λ x. Ok (text, s.mark, None, x)) (sym (stays_there s u e at))

-- ## Behind the first words of a scalar

-- the lines behind them
lines_and_rest : (f : Bool) (i : ℕ) (s there end here : Cursor) (text grown whole : List ℕ)
    → word_starts f s ≡ Ok (true, there) → PlainWordsMoved f text grown there end
    → is_break (slice_index end.rest 0) ≡ true → here ≡ behind_break end → whole ≡ grown
    → with_text whole (scalar_behind_line f i s.mark end.mark here) ≡ with_text text (plain f i s)
lines_and_rest f i s there end here text grown whole starts words breaks at same =
    grind (arith, word_to_break, words_and_rest)

-- what is behind them on their line
gap_and_rest : (f : Bool) (i : ℕ) (s there end here : Cursor) (text grown whole : List ℕ)
    → word_starts f s ≡ Ok (true, there) → PlainWordsMoved f text grown there end
    → is_break (slice_index end.rest 0) ≡ false → here ≡ behind_break end → whole ≡ grown
    → with_text whole (word f i s.mark here.mark here.rest) ≡ with_text text (plain f i s)
gap_and_rest f i s there end here text grown whole starts words stops at same =
    grind (arith, words_and_rest, stays_there)

-- either of them
pub behind_and_rest : (b : Bool) (f : Bool) (i : ℕ) (s there end here : Cursor) (text grown whole : List ℕ)
    → word_starts f s ≡ Ok (true, there) → PlainWordsMoved f text grown there end
    → is_break (slice_index end.rest 0) ≡ b → here ≡ behind_break end → whole ≡ grown
    → with_text whole (scalar_behind_word b f i s.mark end.mark here) ≡ with_text text (plain f i s)
behind_and_rest true f i s there end here text grown whole starts words breaks at same =
    lines_and_rest f i s there end here text grown whole starts words breaks at same
behind_and_rest false f i s there end here text grown whole starts words breaks at same =
    gap_and_rest f i s there end here text grown whole starts words breaks at same
