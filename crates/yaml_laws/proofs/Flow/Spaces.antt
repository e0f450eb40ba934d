-- What comes after a `?` in flow style is passed.
use Rattle.std.proofs.Common.{suc, ◌≡◌, ◌≢◌, ℕ, ◌≤◌, Bool, true, false, List, [], ◌∷◌, ◌++◌, length, refl, ap, ◌∙◌, arith, ◌⊎◌, inl, inr}
use Rattle.yaml_laws.proofs.Common.{◌||◌, ◌&&◌, ◌==◌, not, nat_tests, is_blank, is_break, tab, carriage_return, line_feed, Marker, IsSeparation, cursor_at, spaces_at, has_tab_outside, number_sign, non_break_no_break, return_breaks}
use Rattle.yaml_laws.proofs.Flow.States.{moved, past, past_comment, IsContentStart}
use Rattle.yaml_laws.proofs.Flow.GapSteps.{past_content, past_shorter, comment_shorter}
use Rattle.yaml_laws.proofs.Flow.GapWalks.{OverGap, over_gap, no_stop}
use Rattle.yaml_laws.proofs.Flow.Ends.{separation_white}
use Rattle.yaml_laws.proofs.Flow.Fillers.{separation_past}
use Rattle.yaml_laws.proofs.InBlock.Gaps.{content_stop}
use Rattle.yaml_laws.proofs.InBlock.Skips.{has_tab, comment_has_tab, spaces_end, spaces_reach}
use Rattle.yaml_laws.proofs.InBlock.Untabbed.{settles}

-- ## No tab outside comments is none before the next token

pub white_no_sign : (d : ℕ) (r : Bool) → (is_blank d || ((d == carriage_return) && r)) ≡ true
    → (d == number_sign) ≡ false
white_no_sign d r h = grind arith

pub break_no_sign : (d : ℕ) → is_break d ≡ true → (d == number_sign) ≡ false
break_no_sign d h = grind (arith, nat_tests)

-- a text that is passed has the first character, and the text after it
passed : (c : ℕ) (cs w r : List ℕ) → c ∷ cs ≡ w ++ r → length r ≤ length cs
    → (ds : List ℕ) × (w ≡ c ∷ ds) × (cs ≡ ds ++ r)
passed c cs [] r e low = absurd (let n : suc (length cs) ≡ length r = ap length e in omega (arith, n, low))
passed c cs (d ∷ ds) r e low = (ds, cc, cc)

-- what is outside comments after a character
outside : (c : ℕ) (ds w : List ℕ) (sign : Bool) → (c == number_sign) ≡ sign → w ≡ c ∷ ds
    → has_tab_outside false w ≡ false → ((c == tab) ≡ false) × (has_tab_outside sign ds ≡ false)
outside c ds w sign e is h = grind arith

-- and after one of a comment
outside_comment : (c : ℕ) (ds w : List ℕ) (ends : Bool) → is_break c ≡ ends → w ≡ c ∷ ds
    → has_tab_outside true w ≡ false → has_tab_outside (not ends) ds ≡ false
outside_comment c ds w ends e is h = cc

over_outside : OverGap 0
    (λ m t. (w : List ℕ) → t ≡ w ++ (past 0 m t).1 → has_tab_outside false w ≡ false → has_tab t ≡ false)
    (λ m t. (w : List ℕ) → t ≡ w ++ (past_comment 0 m t).1 → has_tab_outside true w ≡ false
    → comment_has_tab t ≡ false)
over_outside =
    record {
      ends = λ m w is h. refl;
      tab = λ m c cs t. absurd (no_stop m c cs t);
      white = grind (arith, passed, past, past_shorter, outside, white_no_sign);
      break = grind (arith, passed, past, past_shorter, outside, break_no_sign);
      sign = grind (arith, passed, past_comment, comment_shorter, outside);
      token = λ m c cs t e f g w is h. rw (e, f, g) refl;
      comment_ends = λ m w is h. refl;
      word = grind (arith, passed, past_comment, comment_shorter, outside_comment, non_break_no_break);
      return = grind (arith, passed, past, past_shorter, outside_comment, return_breaks);
      line = grind (arith, passed, past, past_shorter, outside_comment);
      other = λ m c cs e f g w is h. rw (e, f, g) refl;
    }

-- ## Separation that is not empty

is_space : (c : ℕ) → is_blank c ≡ true → (c == tab) ≡ false → c ≡ 32
is_space c h k = grind (arith, nat_tests)

-- where separation without a tab outside comments is, and a token after it
pub record PassesSpaces (m : Marker) (blank : Bool) (w y : List ℕ) : Type 0 where
  pub still_blank : Bool
  pub is : spaces_at false (cursor_at (w ++ y) m blank) ≡ spaces_end (moved m w) still_blank y

pub spaces_passed : (column : ℕ) (m : Marker) (blank : Bool) (w : List ℕ) (c : ℕ) (cs : List ℕ) → IsSeparation column w
    → column ≤ m.col → w ≢ [] → has_tab_outside false w ≡ false → IsContentStart c → PassesSpaces m blank w (c ∷ cs)
spaces_passed column m blank [] c cs parts low some tabs content = absurd (some refl)
spaces_passed column m blank (d ∷ ds) c cs parts low some tabs content =
    let w = d ∷ ds in
    let there = separation_past column m w (c ∷ cs) parts low ∙ past_content column (moved m w) c cs content in
    let same = (settles column m (w ++ (c ∷ cs)) (rw there (content_stop c cs content))).0 ∙ there in
    let clean = over_gap over_outside m (w ++ (c ∷ cs)) w (cc) tabs in
    let reached = spaces_reach m blank d (ds ++ (c ∷ cs)) (by_first (separation_white column w parts)) clean in
    record {
      still_blank = reached.0;
      is = reached.1 ∙ ap (λ (p : Marker × List ℕ). spaces_end p.0 reached.0 p.1) same;
    }
  where
    by_first : (is_blank d ≡ true) ⊎ (d ≡ line_feed) → (d ≡ 32) ⊎ (d ≡ line_feed)
    by_first (inl h) = inl (is_space d h (outside d ds (d ∷ ds) (d == 35) refl refl tabs).0)
    by_first (inr h) = inr h
