-- The blanks and breaks after a plain scalar's last word.
use Rattle.std.proofs.Common.{◌≡◌, ℕ, suc, ◌+◌, Bool, true, false, List, [], ◌∷◌, ◌++◌, drop, slice_index, Result, Ok, refl, sym, ap, ◌∙◌, arith, subst, ◌⊎◌, inr, cond}
use Rattle.scalar_laws.proofs.Common.{◌||◌, ◌&&◌, ◌==◌, nat_lt, if◌then◌else◌, prefix_len, is_blank, is_break, tab, line_feed, carriage_return, is_blank_or_break, Marker, Refusal, Cursor, ◌>>=◌, along, next_line, pass_break, mid_line, along_none, along_more, break_cases, behind_blanks, past_white, reaches_tabbed, is_tabbed, stands_behind_tab, or-true, or_from, run_ends, by_test, blank_no_break, cursor_at}
use Rattle.saphyr_scalar.specs.Steps.Plain.{PlainGap, ends_line, content_behind_tab, reached_gap, line_front, lines, folded_gap, gap_from, gap, seen_gap}

-- what a gap leaves
pub record LeavesGap (r : Result PlainGap Refusal) (t : Bool) (s : Cursor) : Type 0 where
  pub text : List ℕ
  pub is : r ≡ Ok (seen_gap t text s)

-- what may be reached, where a tab is in its indentation or none
abbrev pub MayStand : Bool → List ℕ → Type 0
MayStand t xs = (t ≡ false) ⊎ (stands_behind_tab xs ≡ true)

is_reached : (a : Marker) (t : Bool) (f : List ℕ) (s : Cursor) → MayStand t s.rest
    → reached_gap a t f s ≡ Ok (seen_gap t f s)
unfolding content_behind_tab
is_reached a t f s h = grind arith

-- the flag after a blank or a break
abbrev pub flag_on : ℕ → ℕ → Bool → ℕ → Bool
flag_on i k t c = is_blank c && (t || ((c == tab) && nat_lt k i))

pub tabbed_on : (i k : ℕ) (t : Bool) (c : ℕ) (cs : List ℕ) → is_blank_or_break c ≡ true
    → reaches_tabbed i k t (c ∷ cs) ≡ reaches_tabbed i (if ends_line c cs then 0 else k + 1) (flag_on i k t c) cs
tabbed_on i k t c cs white = rw white refl

pub tabbed_stop : (i k : ℕ) (t : Bool) (xs : List ℕ) → is_blank_or_break (slice_index xs 0) ≡ false
    → reaches_tabbed i k t xs ≡ t
tabbed_stop i k t [] h = refl
tabbed_stop i k t (c ∷ cs) h = rw h refl

step_col : (b : Bool) (m : Marker) → (cond b 0 (m.col + 1)) ≡ (cond b (next_line m 1) (along m 1)).col
step_col b m = grind arith

line_past : (i : ℕ) (a : Marker) (t : Bool) (f : List ℕ) (m : Marker) (c : ℕ) (cs : List ℕ) → is_blank_or_break c ≡ true
    → lines i a t f m (c ∷ cs)
    ≡ lines i a (flag_on i m.col t c) (if ends_line c cs then f ++ line_feed ∷ [] else f)
    (if ends_line c cs then next_line m 1 else along m 1) cs
unfolding lines
line_past i a t f m c cs white = rw white refl

line_ends_with_non_space : (i : ℕ) (a : Marker) (t : Bool) (f : List ℕ) (m : Marker) (c : ℕ) (cs : List ℕ)
    → is_blank_or_break c ≡ false → MayStand t (c ∷ cs)
    → lines i a t f m (c ∷ cs) ≡ Ok (seen_gap t f (line_front m (c ∷ cs)))
unfolding lines
line_ends_with_non_space i a t f m c cs other h = rw other (is_reached a t f (line_front m (c ∷ cs)) h)

pub past_on : (m : Marker) (b : Bool) (c : ℕ) (cs : List ℕ) → is_blank_or_break c ≡ true
    → past_white m b (c ∷ cs) ≡ past_white (if ends_line c cs then next_line m 1 else along m 1) (b || is_break c) cs
past_on m b c cs white = rw white refl

pub past_stop : (m : Marker) (b : Bool) (xs : List ℕ) → is_blank_or_break (slice_index xs 0) ≡ false
    → past_white m b xs ≡ record { rest = xs; mark = m; blank_so_far = b }
past_stop m b [] h = refl
past_stop m b (c ∷ cs) h = rw h refl

leaves_on : (r q : Result PlainGap Refusal) (p t : Bool) (s u : Cursor) → r ≡ q → p ≡ t → s ≡ u → LeavesGap q t u
    → LeavesGap r p s
leaves_on r q p t s u e same place l = record { text = l.text; is = simp (e, l.is, place, same) }

pub lines_past : (i : ℕ) (a : Marker) (t : Bool) (f : List ℕ) (m : Marker) (xs : List ℕ)
    → MayStand (reaches_tabbed i m.col t xs) (past_white m true xs).rest
    → LeavesGap (lines i a t f m xs) (reaches_tabbed i m.col t xs) (past_white m true xs)
unfolding lines
lines_past i a t f m [] h = record { text = f; is = (is_reached a t f (line_front m []) (inr refl)) }
lines_past i a t f m (c ∷ cs) h = by_case (is_blank_or_break c) refl
    (λ k. lines_past i a (flag_on i m.col t c) (if ends_line c cs then f ++ line_feed ∷ [] else f) on cs k)
  where
    on : Marker
    on = if ends_line c cs then next_line m 1 else along m 1

    Goal : Type 0
    Goal = LeavesGap (lines i a t f m (c ∷ cs)) (reaches_tabbed i m.col t (c ∷ cs)) (past_white m true (c ∷ cs))

    Rest : Type 0
    Rest = MayStand (reaches_tabbed i on.col (flag_on i m.col t c) cs) (past_white on true cs).rest
        → LeavesGap (lines i a (flag_on i m.col t c) (if ends_line c cs then f ++ line_feed ∷ [] else f) on cs)
        (reaches_tabbed i on.col (flag_on i m.col t c) cs) (past_white on true cs)

    by_case : (b : Bool) → is_blank_or_break c ≡ b → Rest → Goal
    by_case true white rest =
        let flag : reaches_tabbed i m.col t (c ∷ cs) ≡ reaches_tabbed i on.col (flag_on i m.col t c) cs =
        cc (tabbed_on i m.col t c cs white, step_col (ends_line c cs) m) in
        let place = past_on m true c cs white in
        leaves_on _ _ _ _ _ _ (line_past i a t f m c cs white) flag place (rest (rw (place, flag) at h))
    by_case false other rest =
        let flag = tabbed_stop i m.col t (c ∷ cs) other in
        let place = past_stop m true (c ∷ cs) other in
        leaves_on _ _ _ _ _ _ refl flag place (record {
          text = f;
          is = line_ends_with_non_space i a t f m c cs other (rw (place, flag) at h);
        })

-- blanks are passed
pub past_blanks : (m : Marker) (b : Bool) (xs : List ℕ)
    → past_white m b xs ≡ past_white (along m (prefix_len is_blank xs)) b (behind_blanks xs)
past_blanks m b [] = cc (along_none m)
past_blanks m b (c ∷ cs) = by_case (is_blank c) refl (past_blanks (along m 1) b cs)
  where
    n : ℕ
    n = prefix_len is_blank cs

    Goal : Type 0
    Goal = past_white m b (c ∷ cs) ≡ past_white (along m (prefix_len is_blank (c ∷ cs))) b (behind_blanks (c ∷ cs))

    or_false : (x : Bool) → (x || false) ≡ x
    or_false x = grind arith

    blank_on : is_blank c ≡ true → past_white m b (c ∷ cs) ≡ past_white (along m 1) b cs
    blank_on h =
        let white : is_blank_or_break c ≡ true = rw h refl in
        past_on m b c cs white ∙ rw (blank_no_break c h) (cc (or_false b))

    by_case : (t : Bool) → is_blank c ≡ t → past_white (along m 1) b cs ≡ past_white (along (along m 1) n) b (drop n cs)
        → Goal
    by_case true h rest =
        let one : prefix_len is_blank (c ∷ cs) ≡ suc n = rw h (omega arith) in
        subst (λ k. past_white m b (c ∷ cs) ≡ past_white (along m k) b (drop k (c ∷ cs))) (sym one)
        (cc (blank_on h, along_more m 1 n (suc n) (omega arith)))
    by_case false h rest =
        let none : prefix_len is_blank (c ∷ cs) ≡ 0 = rw h refl in rw none (cc (along_none m))

abbrev AtBreak : List ℕ → Marker → Bool → Type 0
AtBreak xs m b =
    let t = pass_break (cursor_at xs m b) in
    (past_white m b xs ≡ past_white t.mark true t.rest)
    × ((i k : ℕ) → reaches_tabbed i k false xs ≡ reaches_tabbed i t.mark.col false t.rest)

feed_at : (cs : List ℕ) (m : Marker) (b : Bool) → AtBreak (line_feed ∷ cs) m b
feed_at cs m b = (cc (or-true b), λ i k. refl)

return_at : (cs : List ℕ) (m : Marker) (b : Bool) → (slice_index cs 0 == line_feed) ≡ false
    → AtBreak (carriage_return ∷ cs) m b
return_at cs m b h = rw h (cc (or-true b), λ i k. refl)

return_or_two : (cs : List ℕ) (m : Marker) (b : Bool) → AtBreak (carriage_return ∷ cs) m b
return_or_two [] m b = return_at [] m b refl
return_or_two (d ∷ ds) m b = grind arith

at_break : (xs : List ℕ) (m : Marker) (b : Bool) → is_break (slice_index xs 0) ≡ true → AtBreak xs m b
at_break [] m b h = absurd (cc)
at_break (c ∷ cs) m b h = break_cases c h (λ x. AtBreak (x ∷ cs) m b) (feed_at cs m b) (return_or_two cs m b)

-- what a gap leaves
same_fold : (r : Result PlainGap Refusal) (t : Bool) (s : Cursor) → LeavesGap r t s
    → LeavesGap (r >>= λ g. Ok (folded_gap g)) t s
same_fold r t s l =
    record { text = (folded_gap (seen_gap t l.text s)).text; is = ap (λ x. x >>= λ g. Ok (folded_gap g)) l.is }

from_past : (i : ℕ) (a : Marker) (blanks : List ℕ) (m : Marker) (xs : List ℕ) → is_blank (slice_index xs 0) ≡ false
    → MayStand (reaches_tabbed i 0 false xs) (past_white m false xs).rest
    → LeavesGap (gap_from i a blanks (mid_line m xs)) (reaches_tabbed i 0 false xs) (past_white m false xs)
unfolding gap_from
from_past i a blanks m xs clean h = by_test (is_break (slice_index xs 0)) _ _
    (λ (r : Result PlainGap Refusal). LeavesGap r (reaches_tabbed i 0 false xs) (past_white m false xs)) (λ e.
    let t = pass_break (mid_line m xs) in
    let here = at_break xs m false e in
    leaves_on _ _ _ _ _ _ refl (here.1 i 0) here.0 (same_fold _ _ _ (lines_past i a false [] t.mark t.rest
    (rw (here.0, here.1 i 0) at h)))) (λ e.
    let other = or_from (is_blank (slice_index xs 0)) (is_break (slice_index xs 0)) clean e in
    leaves_on _ _ _ _ _ _ refl (tabbed_stop i 0 false xs other) (past_stop m false xs other)
    (record { text = blanks; is = refl }))

pub gap_past : (i : ℕ) (a : Marker) (m : Marker) (xs : List ℕ) → MayStand (is_tabbed i xs) (past_white m false xs).rest
    → LeavesGap (gap i a (mid_line m xs)) (is_tabbed i xs) (past_white m false xs)
unfolding gap
gap_past i a m xs h = grind (arith, past_blanks, from_past, run_ends)
