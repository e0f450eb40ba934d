-- What is between two tokens is passed alike in a text and in its normalized text.
use Rattle.std.proofs.Common.{◌≡◌, ℕ, ◌+◌, ◌≤◌, Bool, true, false, List, ◌∷◌, length, refl, sym, ap, arith, Option, Some, None}
use Rattle.yaml_laws.proofs.Common.{◌==◌, ◌^◌, ◌&&◌, ◌||◌, not, slice_index, normalized, is_break, is_yaml_non_break, is_bom, is_z, carriage_return, line_feed, Marker, Cursor, along, next_line, Normal, normalized_is, nothing, character, feed, return, pair, Both, gives, refused, choose_same, and_then, no_return, cursor_at, passes_no_feed, passes_no_return, Core, least_column}
use Rattle.saphyr_scanner.specs.Steps.Gap.{Gap, GapEnd, stop, end_of_gap, end_of_gap_in_comment, gap_at, gap_here, is_passed_blank, is_tab_indentation}
use Rattle.yaml_laws.proofs.Breaks.Normal.{beside, first_is, indicator_so, plain_so}
use Rattle.yaml_laws.proofs.Breaks.Places.{reindexed, near, Ahead, Stand, Low, ahead_ahead, ahead_stands, stand_here, choose_by, line_from, character_ahead, two_ahead, single_ahead}
use Rattle.saphyr_scanner.specs.Steps.Passing.{pass_gap, check_comment, goes_on_behind, behind_gap, check_comment_of}
use Rattle.yaml_laws.proofs.Breaks.Cores.{Indexes, near_core, near_comment, Cores, Twin, Laws, Alike, Anywhere, here, twin_low, twin_stands, twin_moves, going_to}

-- from s on the same is passed in both texts
abbrev pub PassesAlike : List ℕ → Cursor → ℕ → Gap → Gap → Type 0
PassesAlike text s i g h =
    (j : ℕ) × (h ≡ record { cursor = near j g.cursor; met = g.met; tabbed = g.tabbed }) × Ahead text s i g.cursor j ×
    (is_break (slice_index g.cursor.rest 0) ≡ false)

from_ahead : {text : List ℕ} {s t : Cursor} {i j : ℕ} {g h : Gap} → Ahead text s i t j → PassesAlike text t j g h
    → PassesAlike text s i g h
from_ahead {text} {s} {t} {i} {j} {g} x p = (p.0, p.1, ahead_ahead text s i t j g.cursor p.0 x p.2, p.3)

not_cut : (c : ℕ) (t n : List ℕ) → (c == carriage_return) ≡ false
    → ((c == carriage_return) && (slice_index t 0 == line_feed))
    ≡ ((c == carriage_return) && (slice_index n 0 == line_feed))
not_cut c t n e = rw e refl

-- where a character stands that is no break
content_is : (c : ℕ) {t n : List ℕ} → is_break c ≡ false → Normal t n → c ∷ n ≡ normalized (c ∷ t)
content_is c unbroken w = let e = no_return c unbroken in rw (e, normalized_is w) refl

module _ (text : List ℕ) (tabs : Bool) (least : ℕ) where
  -- What is passed from here on, and in a comment.
  record Gaps (t n : List ℕ) (m : Marker) (i : ℕ) (blank met tabbed : Bool) : Type 0 where
    between : PassesAlike text (cursor_at t m blank) i (end_of_gap tabs least m blank met tabbed t)
        (end_of_gap tabs least (reindexed i m) blank met tabbed n)
    inside : PassesAlike text (cursor_at t m blank) i (end_of_gap_in_comment tabs least m blank met tabbed t)
        (end_of_gap_in_comment tabs least (reindexed i m) blank met tabbed n)

  -- By recursion on how the text is normalized. Of another character both readers ask the same (`choose_by`), and where
  -- they go on, they go on alike one place further. A break is the case of interest: CR LF takes two places on one side
  -- and one on the other, and from the next line's start on both are alike again.
  all_gaps : {t n : List ℕ} → Normal t n → (m : Marker) (i : ℕ) (blank met tabbed : Bool)
      → m.line + length t ≤ 2 ^ 63 → Stand text (cursor_at t m blank) i → Gaps t n m i blank met tabbed
  all_gaps nothing m i blank met tabbed low x = search (stand_here)
  all_gaps (character c {r = t} {q = n} unbroken w) m i blank met tabbed low x =
      let P = PassesAlike text (cursor_at (c ∷ t) m blank) i in
      let e = no_return c unbroken in
      let on = character_ahead text c t m i blank blank e x in
      let more = λ (b d : Bool). all_gaps w (along m 1) (i + 1) blank b d (omega (arith, low))
      (ahead_stands text _ _ _ _ on) in
      let stays : P (gap_here m blank met tabbed (c ∷ t)) (gap_here (reindexed i m) blank met tabbed (c ∷ n)) =
      (i, rw (content_is c unbroken w) refl, stand_here text (cursor_at (c ∷ t) m blank) i x, unbroken) in
      let cut = not_cut c t n e in
      record {
        between = choose_by P (is_passed_blank tabs c || ((c == 13) && (slice_index t 0 == 10)))
            (is_passed_blank tabs c || ((c == 13) && (slice_index n 0 == 10))) _ _ _ _
            (ap (λ b. is_passed_blank tabs c || b) cut)
            (λ _. from_ahead on (more (not tabs || met) (is_tab_indentation least m blank c || tabbed)).between)
            (λ _. choose_by P (is_break c) (is_break c) _ _ _ _ refl (λ k. absurd (cc))
            (λ _. choose_by P (c == 35) (c == 35) _ _ _ _ refl (λ _. from_ahead on (more met tabbed).inside)
            (λ _. stays)));
        inside = choose_by P (is_yaml_non_break c) (is_yaml_non_break c) _ _ _ _ refl
            (λ _. from_ahead on (more met tabbed).inside)
            (λ _. choose_by P ((c == 13) && (slice_index t 0 == 10)) ((c == 13) && (slice_index n 0 == 10)) _ _ _ _ cut
            (λ _. from_ahead on (more (not tabs || met) tabbed).between)
            (λ _. choose_by P (is_break c) (is_break c) _ _ _ _ refl (λ k. absurd (cc)) (λ _. stays)));
      }
  all_gaps (feed {r = t} w) m i blank met tabbed low x =
      let line = single_ahead text 10 10 t m i blank true refl (omega (arith, low)) x in
      let h = from_ahead line (all_gaps w (next_line m 1) (i + 1) true true false (omega (arith, low))
      (ahead_stands text _ _ _ _ line)).between in
      record { between = rw (passes_no_feed tabs) h; inside = h }
  all_gaps (pair {r = t} w) m i blank met tabbed low x =
      let line = two_ahead text t m i blank true (omega (arith, low)) x in
      let h = from_ahead line (all_gaps w (line_from m (m.index + 1 + 1)) (i + 1) true true false (omega (arith, low))
      (ahead_stands text _ _ _ _ line)).between in
      record {
        between = rw (passes_no_return tabs, passes_no_feed tabs) h;
        inside = rw (passes_no_feed tabs) h;
      }
  all_gaps (return {r = t} e w) m i blank met tabbed low x =
      let line = single_ahead text 13 10 t m i blank true (rw e refl) (omega (arith, low)) x in
      let h = from_ahead line (all_gaps w (next_line m 1) (i + 1) true true false (omega (arith, low))
      (ahead_stands text _ _ _ _ line)).between in
      record { between = rw (e, passes_no_return tabs, passes_no_feed tabs) h; inside = rw e h }

pub gap_alike : (text : List ℕ) (tabs : Bool) (least : ℕ) (s : Cursor) (i : ℕ) (met : Bool) → Low s → Stand text s i
    → PassesAlike text s i (gap_at tabs least met false s) (gap_at tabs least met false (near i s))
gap_alike text tabs least s i met low x =
    (all_gaps text tabs least (beside s.rest) s.mark i s.blank_so_far met false low x).between

-- between tokens the same is passed, or refused
stop_alike : (text : List ℕ) (s : Cursor) (i : ℕ) (g h : Gap) → PassesAlike text s i g h
    → Both (λ (x y : GapEnd). (j : ℕ) × (y ≡ record { cursor = near j x.cursor; broke = x.broke })
    × Ahead text s i x.cursor j × (is_break (slice_index x.cursor.rest 0) ≡ false)) (stop g) (stop h)
unfolding stop
stop_alike text s i g h p =
    let t = g.cursor.rest in
    let tab = g.tabbed in
    rw p.1 (choose_same (tab && is_bom (slice_index t 0)) (tab && is_bom (slice_index (normalized t) 0))
    (ap (λ b. tab && b) (sym (first_is is_bom refl t))) (λ _. refused)
    (λ _. choose_same (tab && not (is_z (slice_index t 0))) (tab && not (is_z (slice_index (normalized t) 0)))
    (ap (λ b. tab && not b) (sym (first_is is_z refl t))) (λ _. refused)
    (λ _. gives (p.0, refl, p.2, p.3))))

-- ## To the next token

-- no break is where both go on
abbrev pub Rested : Cursor → Type 0
Rested s = is_break (slice_index s.rest 0) ≡ false

goes_same : (m : Marker) (i : ℕ) (c : Core) (x : Indexes)
    → goes_on_behind m c ≡ goes_on_behind (reindexed i m) (near_core x c)
unfolding goes_on_behind
goes_same m i c x =
    let t = c.cursor.rest in cc (first_is is_z refl t, indicator_so t, plain_so false t)

module _ {text : List ℕ} where
  checked : (o : Option Marker) (c : Core) (x : Indexes) → Twin text c x → Rested c.cursor
      → Both (Cores text Rested) (check_comment_of o c) (check_comment_of (near_comment x.comment o) (near_core x c))
  checked None c x t k = gives (here c x t k)
  checked (Some m) c x t k = search (choose_same, goes_same)

  pub gap_rests : Laws text → Alike text Anywhere (Cores text Rested) pass_gap
  unfolding pass_gap check_comment
  gap_rests laws c x t _ = and_then (stop_alike text c.cursor x.at _ _ (gap_alike text true (least_column c) c.cursor
      x.at false (twin_low c x laws t) (twin_stands c x t)))
      (λ g h w. rw w.1 (checked c.comment (behind_gap c g) (going_to w.0 x) (twin_moves c x g.cursor w.0 t w.2) w.3))
