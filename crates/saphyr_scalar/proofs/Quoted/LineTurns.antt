-- A turn over a line after a break inside a quoted scalar: its spaces, and then a blank or a break. Lemmas on their
-- own, since a tactic reads little here and much at a goal.
use Rattle.saphyr_scalar.proofs.Common.{◌≡◌, ℕ, ◌+◌, ◌^◌, ◌<◌, ◌≤◌, true, length, slice_index, sym, arith, subst, false≢true, is_blank, is_break, shows_character, drop_one_shorter, Cursor, pass_spaces, pass_blanks, pass_break}
use Rattle.saphyr_scalar.proofs.Lengths.{below_at_most, at_most_below}
use Rattle.saphyr_scalar.proofs.SpaceRuns.{spaces_shorter}
use Rattle.saphyr_scalar.proofs.Quoted.Lines.{break_on_shorter}

pub break_turn_shorter : (most : ℕ) (first here there behind : Cursor) → here ≡ pass_spaces most first
    → is_break (slice_index here.rest 0) ≡ true → there ≡ here → behind ≡ pass_break there
    → length behind.rest < length first.rest
break_turn_shorter most first here there behind spaces breaks same on =
    below_at_most _ _ _ (break_on_shorter here there behind breaks same on) (spaces_shorter most first here spaces)

pub blank_left : (here there : Cursor) → is_blank (slice_index here.rest 0) ≡ true → there ≡ here
    → 0 < length there.rest
blank_left here there blank same = subst (λ (s : Cursor). 0 < length s.rest) (sym same)
    (shows_character here.rest is_blank true blank (λ e. false≢true e))

pub blank_turn_shorter : (most : ℕ) (first here there behind : Cursor) → here ≡ pass_spaces most first
    → is_blank (slice_index here.rest 0) ≡ true → there ≡ here → behind ≡ pass_blanks 1 there
    → length behind.rest < length first.rest
blank_turn_shorter most first here there behind spaces blank same on =
    grind (arith, drop_one_shorter, blank_left, below_at_most, spaces_shorter)

-- the lines that are counted, and what is left, are no more than there was

pub counted_less : (k first behind all : ℕ) → k + first ≤ all → behind < first → k + 1 + behind ≤ all
counted_less k first behind all counted less = omega arith

pub counted_on : (k first behind all : ℕ) → k + first ≤ all → behind < first → k + behind ≤ all
counted_on k first behind all counted less = omega arith

pub count_fits : (k first behind all at : ℕ) → k + first ≤ all → behind < first → at + all < 2 ^ 64 → k + 1 < 2 ^ 64
count_fits k first behind all at counted less fits = omega arith

pub no_longer : (most k all : ℕ) (first here there : Cursor) → k + length first.rest ≤ all
    → here ≡ pass_spaces most first → there ≡ here → length there.rest ≤ all
no_longer most k all first here there counted spaces same = grind (arith, spaces_shorter)

-- no more lines are counted than characters before a place

pub few_over_spaces : (k most : ℕ) (first here : Cursor) → k ≤ first.mark.index → here ≡ pass_spaces most first
    → k ≤ here.mark.index
few_over_spaces k most first here few spaces = grind arith

pub few_here : (k : ℕ) (s : Cursor) → k ≤ s.mark.index → s.mark.index + length s.rest < 2 ^ 64
    → is_break (slice_index s.rest 0) ≡ true → k + 1 < 2 ^ 64
few_here k s few fits breaks =
    let some : 1 ≤ length s.rest = shows_character s.rest is_break true breaks (λ e. false≢true e) in
    omega (arith, some)

-- less is left after a break and the spaces behind it
pub break_and_spaces_shorter : (most : ℕ) (here there behind spaced : Cursor)
    → is_break (slice_index here.rest 0) ≡ true → there ≡ here → behind ≡ pass_break there
    → spaced ≡ pass_spaces most behind
    → length spaced.rest < length here.rest
break_and_spaces_shorter most here there behind spaced breaks same on spaces =
    at_most_below _ _ _ (spaces_shorter most behind spaced spaces) (break_on_shorter here there behind breaks same on)
