-- Where no tab is left of a column on the line of a token, what is passed up to the next token doesn't depend on
-- the column.
use Rattle.std.proofs.Common.{◌≡◌, ℕ, ◌≤◌, Bool, true, false, List, ◌∷◌, slice_index, refl, arith}
use Rattle.yaml_laws.proofs.Common.{◌&&◌, ◌==◌, not, nat_lt, is_blank, Marker, along, clash, and_true_left, and_true_right, end_of_gap, gap_here, stop}
use Rattle.yaml_laws.proofs.Flow.States.{is_left_tab, is_filler_rest, is_comment_rest, past, past_comment}
use Rattle.yaml_laws.proofs.Flow.Gaps.{stops_tab, stop_blank, tab_blank, tab_rest, rest_sign, no_rest, word_rest, return_rest, no_comment_rest, no_tab_before, no_tab_here}
use Rattle.yaml_laws.proofs.Flow.GapWalks.{OverGap, over_gap, none_left}
use Rattle.yaml_laws.proofs.InBlock.Gaps.{stop_no_blank, gap_stops}
use Rattle.yaml_laws.proofs.InBlock.Skips.{IsClean}
use Rattle.yaml_laws.proofs.InBlock.States.{IsStop, tabbed, tabbed_comment, crosses}

-- ## No tab on the line of a token

-- a tab is kept up to a token of its line
over_kept : OverGap 0
    (λ m t. (least : ℕ) (blank : Bool) → is_filler_rest t ≡ false → tabbed least m blank true t ≡ true)
    (λ m t. (least : ℕ) (blank : Bool) → is_comment_rest t ≡ false → tabbed_comment least m blank true t ≡ true)
over_kept = grind arith

-- so a tab that ends what is passed is told
left_noted : (column : ℕ) (m : Marker) (tab : Bool) (c : ℕ) (cs : List ℕ) → stops_tab column m c cs ≡ true
    → tabbed column m true tab (c ∷ cs) ≡ true
left_noted column m tab c cs t =
    let left = and_true_left (is_left_tab column m c) (not (is_filler_rest cs)) t in
    rw (tab_blank column m c left, indents (c == 9) (nat_lt m.col column) left)
    (over_gap over_kept (along m 1) cs column true
    (falsely (is_filler_rest cs) (and_true_right (is_left_tab column m c) (not (is_filler_rest cs)) t)))
  where
    indents : (a b : Bool) → (a && b) ≡ true → ((a && true) && b) ≡ true
    indents true b e = e
    indents false b e = absurd (cc)

    falsely : (b : Bool) → not b ≡ true → b ≡ false
    falsely false e = refl
    falsely true e = absurd (cc)

over_untabbed : (column : ℕ) → OverGap column
    (λ m t. (tab : Bool) → tabbed column m true tab t ≡ false → past column m t ≡ past 0 m t)
    (λ m t. (tab : Bool) → tabbed_comment column m true tab t ≡ false → past_comment column m t ≡ past_comment 0 m t)
over_untabbed column = grind (arith, left_noted, none_left)

pub clean_past : (column : ℕ) (m : Marker) (t : List ℕ) → IsClean t → past column m t ≡ past 0 m t
clean_past column m t h = over_gap (over_untabbed column) m t false (h column m true)

-- ## Up to a token

-- What is passed ends at no blank: so does what is passed for the first column, and no tab is in the indentation
-- before it, if there is none already or no token is on the rest of the line.
abbrev Settles : ℕ → Marker → List ℕ → Type 0
Settles i m t = is_blank (slice_index (past i m t).1 0) ≡ false → (past 0 m t ≡ past i m t)
    × ((low : ℕ) → low ≤ i → (blank tab : Bool) → (tab ≡ true → is_filler_rest t ≡ true)
    → tabbed low m blank tab t ≡ false)

abbrev CommentSettles : ℕ → Marker → List ℕ → Type 0
CommentSettles i m t = is_blank (slice_index (past_comment i m t).1 0) ≡ false
    → (past_comment 0 m t ≡ past_comment i m t)
    × ((low : ℕ) → low ≤ i → (blank tab : Bool) → (tab ≡ true → is_comment_rest t ≡ true)
    → tabbed_comment low m blank tab t ≡ false)

over_settled : (i : ℕ) → OverGap i (Settles i) (CommentSettles i)
over_settled i =
    record {
      ends = λ m h. (refl, λ low under blank tab bare. refl);
      tab = λ m c cs t h. absurd (clash (is_blank c) (stop_blank i m c cs t) (rw t at h));
      white = grind (arith, none_left, tab_rest);
      break = grind (arith, none_left, no_tab_before, is_filler_rest);
      sign = grind (arith, none_left, rest_sign);
      token = grind (arith, none_left, no_tab_here, is_filler_rest, no_rest);
      comment_ends = λ m h. (refl, λ low under blank tab bare. refl);
      word = grind (arith, word_rest);
      return = grind (arith, return_rest);
      line = grind (arith, no_tab_before, is_filler_rest);
      other = grind (arith, no_tab_here, is_comment_rest, no_comment_rest);
    }

pub settles : (i : ℕ) (m : Marker) (t : List ℕ) → IsStop (past i m t).1
    → (past 0 m t ≡ past i m t) × ((low : ℕ) → low ≤ i → (blank : Bool) → tabbed low m blank false t ≡ false)
settles i m t h =
    let s = over_gap (over_settled i) m t (stop_no_blank (past i m t).1 h) in
    (s.0, λ low under blank. s.1 low under blank false (no_tab_before (is_filler_rest t)))

-- The gap before what is no blank, where no column that content has to reach is right of the one told.
pub record GapPast (column : ℕ) (m : Marker) (blank : Bool) (t : List ℕ) : Type 0 where
  pub still_blank : Bool
  pub is : is_blank (slice_index (past column m t).1 0) ≡ false → (low : ℕ) → low ≤ column
      → stop (end_of_gap true low m blank false false t)
      ≡ stop (gap_here (past column m t).0 still_blank (crosses t) false (past column m t).1)

pub gap_past : (column : ℕ) (m : Marker) (blank : Bool) (t : List ℕ) → GapPast column m blank t
gap_past column m blank t =
    let g = gap_stops m t blank false in
    record {
      still_blank = g.still_blank;
      is = λ h low under. let s = over_gap (over_settled column) m t h in
          cc (g.is low false, s.1 low under blank false (no_tab_before (is_filler_rest t)));
    }
