-- The tabs and breaks that a plain scalar's reader passes after a scalar, where a token or the text's end is reached.
use Rattle.yaml_laws.proofs.Common.{Bool, List, [], ap, arith, drop, false, inl, inr, refl, slice_index, sym, true, ℕ, ◌+◌, ◌∙◌, ◌∷◌, ◌≡◌, ◌≤◌, ◌⊎◌, if◌then◌else◌, nat_lt, not, ◌&&◌, ◌==◌, ◌||◌, nat_tests, is_blank, is_break, line_feed, is_blank_or_break, Marker, Cursor, along, next_line, behind_blanks, is_tabbed, past_white, reaches_tabbed, stands_behind_tab, blank_no_break, return_breaks, and_true_right, clash, prefix_len, ends_line}
use Rattle.scalar_laws.proofs.Plain.Texts.{blanks_on}
use Rattle.scalar_laws.proofs.Plain.White.{flag_on, tabbed_on, tabbed_stop, past_on, past_stop}
use Rattle.yaml_laws.proofs.Flow.States.{is_filler_rest, past, EndsDocument, IsLeft}
use Rattle.yaml_laws.proofs.Flow.Gaps.{is_return_at, is_white_at, stops_tab, stop_blank, no_rest, no_tab_before, no_tab_here}
use Rattle.yaml_laws.proofs.Flow.GapWalks.{OverGap, over_gap}

-- ## What is landed at is no blank

pub lands_on_content : (column : ℕ) (m : Marker) (y : List ℕ) → EndsDocument m y ⊎ IsLeft column m y
    → is_blank (slice_index y 0) ≡ false
lands_on_content column m y h = grind (arith, nat_tests)

-- ## After a tab in the indentation comes a comment or the text's end

-- from a place on, where a tab comes before it only if no token is on the rest of the line
abbrev Tabs : ℕ → Marker → Bool → List ℕ → Type 0
Tabs column m tab t = is_blank (slice_index (past column m t).1 0) ≡ false → (tab ≡ true → is_filler_rest t ≡ true)
    → (n : Marker) (b : Bool)
    → (reaches_tabbed column m.col tab t ≡ false) ⊎ (stands_behind_tab (past_white n b t).rest ≡ true)

-- a blank, and CR before LF, is passed and ends no line
record White (c : ℕ) (cs : List ℕ) : Type 0 where
  white : is_blank_or_break c ≡ true
  line : ends_line c cs ≡ false

white_passes : (c : ℕ) (cs : List ℕ) → is_white_at c cs ≡ true → White c cs
white_passes c cs h = grind (arith, is_return_at, blank_no_break, return_breaks)

line_break_white : (c : ℕ) (cs : List ℕ) → is_white_at c cs ≡ false → is_break c ≡ true → (is_blank_or_break c ≡ true)
    × (ends_line c cs ≡ true)
line_break_white c cs h e = grind arith

other_white : (c : ℕ) (cs : List ℕ) → is_white_at c cs ≡ false → is_break c ≡ false → is_blank_or_break c ≡ false
other_white c cs h e = grind arith

-- the flag after a blank or a break stands for a tab that ends nothing
flag_rest : (column : ℕ) (m : Marker) (c : ℕ) (cs : List ℕ) (tab : Bool) → stops_tab column m c cs ≡ false
    → is_white_at c cs ≡ true → (tab ≡ true → is_filler_rest (c ∷ cs) ≡ true) → flag_on column m.col tab c ≡ true
    → is_filler_rest cs ≡ true
flag_rest column m c cs tab t e h k = grind arith

-- no tab comes after a break
no_flag : (column : ℕ) (m : Marker) (c : ℕ) (tab : Bool) → is_break c ≡ true → flag_on column m.col tab c ≡ false
no_flag column m c tab e = grind arith

-- what is known further on is known here
from_on : {a b : Bool} {u v : Cursor} → a ≡ b → u ≡ v → (b ≡ false) ⊎ (stands_behind_tab v.rest ≡ true)
    → (a ≡ false) ⊎ (stands_behind_tab u.rest ≡ true)
from_on step over (inl x) = inl (step ∙ x)
from_on step over (inr x) = inr (ap (λ (u : Cursor). stands_behind_tab u.rest) over ∙ x)

-- By the induction on a text between tokens (`OverGap`). Where `past` stops at a tab, a blank comes next, which the
-- premise excludes. A tab that is passed stands before a rest without a token (`flag_rest`), and a break ends that
-- (`no_flag`).
over_tabs : (column : ℕ) → OverGap column (λ m t. (tab : Bool) → Tabs column m tab t) (λ m t. Unit {0})
over_tabs column =
    record {
      ends = λ m tab h bare n b. inr refl;
      tab = λ m c cs t tab h bare n b. absurd (clash (is_blank c) (stop_blank column m c cs t) (rw t at h));
      white = λ m c cs t e on tab h bare n b.
          let w = white_passes c cs e in
          let step = tabbed_on column m.col tab c cs w.white
          ∙ ap (λ (p : Bool). reaches_tabbed column (if p then 0 else m.col + 1) (flag_on column m.col tab c) cs) w.line
          in
          from_on step (past_on n b c cs w.white)
          (on (flag_on column m.col tab c) (rw (t, e) at h) (flag_rest column m c cs tab t e bare)
          (if ends_line c cs then next_line n 1 else along n 1) (b || is_break c));
      break = grind (
        arith,
        line_break_white,
        tabbed_on,
        flag_on,
        no_flag,
        from_on,
        past_on,
        no_tab_before,
        is_filler_rest,
      );
      sign = grind (arith, past_stop, other_white);
      token = grind (arith, tabbed_stop, other_white, no_tab_here, is_filler_rest, no_rest);
      comment_ends = λ m. tt;
      word = λ m c cs e on. tt;
      return = λ m c cs e f on. tt;
      line = λ m c cs e f g on. tt;
      other = λ m c cs e f g. tt;
    }

-- ## After the blanks of a line

-- before a character that is no blank the column does not matter
any_column : (column a b : ℕ) (t : List ℕ) → is_blank (slice_index t 0) ≡ false
    → reaches_tabbed column a false t ≡ reaches_tabbed column b false t
any_column column a b [] h = refl
any_column column a b (c ∷ cs) h = by_white (is_blank_or_break c) refl
  where
    feed : (c : ℕ) → (c == line_feed) ≡ true → c ≡ line_feed
    feed c e = grind (arith, nat_tests)

    at_feed : (x y : ℕ) (cs : List ℕ) → (slice_index cs 0 == line_feed) ≡ true
        → reaches_tabbed column x false cs ≡ reaches_tabbed column y false cs
    at_feed x y [] e = refl
    at_feed x y (d ∷ ds) e = rw (feed d e) refl

    by_line : (p : Bool) → ends_line c cs ≡ p → is_break c ≡ true
        → reaches_tabbed column (if p then 0 else a + 1) false cs
        ≡ reaches_tabbed column (if p then 0 else b + 1) false cs
    by_line true e f = refl
    by_line false e f = at_feed (a + 1) (b + 1) cs (and_true_right (c == 13) (slice_index cs 0 == 10)
        (cut (is_break c) ((c == 13) && (slice_index cs 0 == 10)) f e))
      where
        cut : (x y : Bool) → x ≡ true → (x && not y) ≡ false → y ≡ true
        cut x y f e = grind arith

    no_flag_at : (k : ℕ) → flag_on column k false c ≡ false
    no_flag_at k = rw h refl

    by_white : (w : Bool) → is_blank_or_break c ≡ w
        → reaches_tabbed column a false (c ∷ cs) ≡ reaches_tabbed column b false (c ∷ cs)
    by_white true e = tabbed_on column a false c cs e
        ∙ ap (λ (p : Bool). reaches_tabbed column (if ends_line c cs then 0 else a + 1) p cs) (no_flag_at a)
        ∙ by_line (ends_line c cs) refl (or_false_first (is_blank c) (is_break c) h e)
        ∙ sym (tabbed_on column b false c cs e
        ∙ ap (λ (p : Bool). reaches_tabbed column (if ends_line c cs then 0 else b + 1) p cs) (no_flag_at b))
      where
        or_false_first : (x y : Bool) → x ≡ false → (x || y) ≡ true → y ≡ true
        or_false_first x y e f = grind arith
    by_white false e = tabbed_stop column a false (c ∷ cs) e ∙ sym (tabbed_stop column b false (c ∷ cs) e)

behind_kind : (column : ℕ) (m : Marker) (c : ℕ) (cs : List ℕ) (is_tab blank : Bool) → stops_tab column m c cs ≡ is_tab
    → is_blank c ≡ blank → is_blank (slice_index (past column m (c ∷ cs)).1 0) ≡ false → (n : Marker) (b : Bool)
    → (is_blank (slice_index (past column (along m 1) cs).1 0) ≡ false → (is_tabbed column cs ≡ false)
    ⊎ (stands_behind_tab (past_white (if ends_line c cs then next_line n 1 else along n 1) (b || is_break c) cs).rest
    ≡ true)) → (is_tabbed column (c ∷ cs) ≡ false) ⊎ (stands_behind_tab (past_white n b (c ∷ cs)).rest ≡ true)
behind_kind column m c cs true p t e h n b on = grind arith
behind_kind column m c cs false true t e h n b on = grind (arith, blanks_on)
behind_kind column m c cs false false t e h n b on = from_on {u = past_white n b (c ∷ cs)} {v = past_white n b (c ∷ cs)}
    (ap (λ (k : ℕ). reaches_tabbed column 0 false (drop k (c ∷ cs))) none ∙ any_column column 0 m.col (c ∷ cs) e) refl
    (over_gap (over_tabs column) m (c ∷ cs) false h (no_tab_before (is_filler_rest (c ∷ cs))) n b)
  where
    none : prefix_len is_blank (c ∷ cs) ≡ 0
    none = rw e refl

-- where a token or the text's end is reached
pub tabs_behind : (column : ℕ) (m n : Marker) (b : Bool) (t : List ℕ) → is_blank (slice_index (past column m t).1 0)
    ≡ false → (is_tabbed column t ≡ false) ⊎ (stands_behind_tab (past_white n b t).rest ≡ true)
tabs_behind column m n b [] h = inr refl
tabs_behind column m n b (c ∷ cs) h = behind_kind column m c cs (stops_tab column m c cs) (is_blank c) refl refl h n b
    (tabs_behind column (along m 1) (if ends_line c cs then next_line n 1 else along n 1) (b || is_break c) cs)

neither : (p q : Bool) → (p ≡ true → q ≡ true) → q ≡ false → p ≡ false
neither p q more e = grind arith

-- a column further left has no more tabs left of it
fewer_tabbed : (low column : ℕ) → low ≤ column → (t : List ℕ) (col : ℕ) (p q : Bool) → (p ≡ true → q ≡ true)
    → reaches_tabbed column col q t ≡ false → reaches_tabbed low col p t ≡ false
fewer_tabbed low column under [] col p q more h = neither p q more h
fewer_tabbed low column under (c ∷ cs) col p q more h = by_white (is_blank_or_break c) refl
    (fewer_tabbed low column under cs (if ends_line c cs then 0 else col + 1) (flag_on low col p c)
    (flag_on column col q c) (flags (is_blank c) p q (c == 9) (nat_lt col low) (nat_lt col column) more
    (further col low column under)))
  where
    further : (n a b : ℕ) → a ≤ b → nat_lt n a ≡ true → nat_lt n b ≡ true
    further n a b h e = grind (arith, nat_tests)

    flags : (b p q t x y : Bool) → (p ≡ true → q ≡ true) → (x ≡ true → y ≡ true) → (b && (p || (t && x))) ≡ true
        → (b && (q || (t && y))) ≡ true
    flags b p q t x y f g e = grind arith

    by_white : (b : Bool) → is_blank_or_break c ≡ b
        → (reaches_tabbed column (if ends_line c cs then 0 else col + 1) (flag_on column col q c) cs ≡ false
        → reaches_tabbed low (if ends_line c cs then 0 else col + 1) (flag_on low col p c) cs ≡ false)
        → reaches_tabbed low col p (c ∷ cs) ≡ false
    by_white b e on = grind arith

pub tabs_behind_low : (low column : ℕ) → low ≤ column → (m n : Marker) (b : Bool) (t : List ℕ)
    → is_blank (slice_index (past column m t).1 0) ≡ false
    → (is_tabbed low t ≡ false) ⊎ (stands_behind_tab (past_white n b t).rest ≡ true)
tabs_behind_low low column under m n b t h = by_tab (tabs_behind column m n b t h)
  where
    by_tab : (is_tabbed column t ≡ false) ⊎ (stands_behind_tab (past_white n b t).rest ≡ true)
        → (is_tabbed low t ≡ false) ⊎ (stands_behind_tab (past_white n b t).rest ≡ true)
    by_tab (inl e) = inl (fewer_tabbed low column under (behind_blanks t) 0 false false (λ f. f) e)
    by_tab (inr e) = inr e

-- ## A break was passed, or the place is not left of the first

still_blank : (m : Marker) (t : List ℕ) → (past_white m true t).blank_so_far ≡ true
still_blank m [] = refl
still_blank m (c ∷ cs) = grind (arith, still_blank (if ends_line c cs then next_line m 1 else along m 1) cs)

pub broke_or_right : (m : Marker) (t : List ℕ)
    → ((past_white m false t).blank_so_far ≡ true) ⊎ (m.col ≤ (past_white m false t).mark.col)
broke_or_right m [] = inr (omega arith)
broke_or_right m (c ∷ cs) = grind (arith, still_blank, broke_or_right (along m 1) cs)
