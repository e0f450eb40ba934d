-- Spaces, comments and breaks between two tokens at block level.
use Rattle.std.proofs.Common.{◌≡◌, ℕ, zero, suc, ◌+◌, ◌≤◌, Bool, true, false, List, [], ◌∷◌, ◌++◌, slice_index, refl, sym, ap, ◌∙◌, arith, subst, append_assoc, append-nil, ◌⊎◌, inl, inr}
use Rattle.yaml_laws.proofs.Common.{◌||◌, ◌&&◌, ◌==◌, if◌then◌else◌, nat_tests, is_blank, is_break, is_yaml_non_break, line_feed, Marker, spaces, along, next_line, AreIn, AreEach, joined_pieces, IsComment, IsLineRest, IsLineEnd, IsFillerLine, IsFiller, IsLinePrefix, IsNextLine, IsGap, both_in, cursor_at, Gap, SpacesEnd, end_of_gap, end_of_gap_in_comment, gap_here, is_tab_indentation, spaces_at, spaces_of, Position, indent_at, IsGapAt, or_parts, no_blank_no_tab, le_next, and_false}
use Rattle.yaml_laws.proofs.Flow.States.{moved, past, past_comment}
use Rattle.yaml_laws.proofs.Flow.Places.{moved_append}
use Rattle.yaml_laws.proofs.Flow.Gaps.{is_return_at}
use Rattle.yaml_laws.proofs.Flow.Fillers.{blanks_past, front_past, behind_is, spaces_are_blank}
use Rattle.yaml_laws.proofs.Flow.GapWalks.{OverGap, over_gap, no_stop}
use Rattle.yaml_laws.proofs.InBlock.States.{tabbed, tabbed_comment, crosses, crosses_comment}

-- ## The text between two tokens

pub data IsSkipped : List ℕ → Type 0 where
  nothing : IsSkipped []
  one_space : (w : List ℕ) → IsSkipped w → IsSkipped (32 ∷ w)
  one_break : (w : List ℕ) → IsSkipped w → IsSkipped (line_feed ∷ w)
  one_rest : (blanks comment w : List ℕ) → AreIn is_blank blanks → (comment ≡ []) ⊎ IsComment comment → IsSkipped w
      → IsSkipped (blanks ++ (comment ++ (line_feed ∷ w)))

-- the rest of a line, its break, and what comes after it
rest_text : (blanks comment w y : List ℕ)
    → (blanks ++ (comment ++ (line_feed ∷ w))) ++ y ≡ blanks ++ (comment ++ (line_feed ∷ (w ++ y)))
rest_text blanks comment w y = simp append_assoc

pub skipped_append : (a b : List ℕ) → IsSkipped a → IsSkipped b → IsSkipped (a ++ b)
skipped_append _ b nothing k = k
skipped_append _ b (one_space w h) k = one_space (w ++ b) (skipped_append w b h k)
skipped_append _ b (one_break w h) k = one_break (w ++ b) (skipped_append w b h k)
skipped_append _ b (one_rest blanks comment w are c h) k =
    rw (rest_text blanks comment w b) (one_rest blanks comment (w ++ b) are c (skipped_append w b h k))

pub spaces_skipped : (n : ℕ) → IsSkipped (spaces n)
spaces_skipped zero = nothing
spaces_skipped (suc n) = one_space (spaces n) (spaces_skipped n)

pub rest_skipped : (t w : List ℕ) → IsLineRest t → IsSkipped w → IsSkipped (t ++ (line_feed ∷ w))
rest_skipped t w (blanks, c, are, k, is) h =
    let text = ap (λ (x : List ℕ). x ++ (10 ∷ w)) is ∙ append_assoc blanks c (10 ∷ w) in
    rw text (one_rest blanks c w are (behind_is blanks c k) h)

pub line_end_skipped : (t : List ℕ) → IsLineEnd t → IsSkipped t
line_end_skipped t (rest, h, is) = rw is (rest_skipped rest [] h nothing)

filler_line_skipped : (t : List ℕ) → IsFillerLine t → IsSkipped t
filler_line_skipped t (text, (front, c, are, k, is_text), is) =
    let whole = is ∙ ap (λ (x : List ℕ). x ++ (10 ∷ [])) is_text ∙ append_assoc front c (10 ∷ []) in
    rw whole (one_rest front c [] are k nothing)

pub filler_skipped : (t : List ℕ) → IsFiller t → IsSkipped t
filler_skipped t (pieces, each, is) = rw is (lines pieces each)
  where
    lines : (ws : List (List ℕ)) → AreEach IsFillerLine ws → IsSkipped (joined_pieces ws)
    lines [] h = nothing
    lines (v ∷ vs) h = skipped_append v (joined_pieces vs) (filler_line_skipped v h.0) (lines vs h.1)

-- ## What is known of it

-- the place after it
pub skipped_past : (m : Marker) (w y : List ℕ) → IsSkipped w → past 0 m (w ++ y) ≡ past 0 (moved m w) y
skipped_past m _ y nothing = refl
skipped_past m _ y (one_space w h) = skipped_past (along m 1) w y h
skipped_past m _ y (one_break w h) = skipped_past (next_line m 1) w y h
skipped_past m _ y (one_rest blanks comment w are k h) =
    let front = blanks ++ comment in
    let whole : blanks ++ (comment ++ (10 ∷ w)) ≡ front ++ (10 ∷ w) = sym (append_assoc blanks comment (10 ∷ w)) in
    let text = ap (λ (x : List ℕ). x ++ y) whole ∙ append_assoc front (10 ∷ w) y in
    let rest = front_past 0 m front blanks comment (10 ∷ (w ++ y))
    (λ z. (blanks_past 0 blanks are m (omega arith)).is z) k refl (inr refl) in
    cc (skipped_past (next_line (moved m front) 1) w y h, moved_append m front (10 ∷ w))

pub words_cross : (words y : List ℕ) → AreIn is_yaml_non_break words → crosses_comment (words ++ (line_feed ∷ y)) ≡ true
words_cross [] y h = refl
words_cross (c ∷ cs) y h = rw h.0 (words_cross cs y h.1)

pub blanks_cross : (w o : List ℕ) → AreIn is_blank w → crosses (w ++ o) ≡ crosses o
blanks_cross [] o h = refl
blanks_cross (c ∷ cs) o h = rw h.0 (blanks_cross cs o h.1)

-- after the rest of a line, before its break
pub rest_crosses : (blanks comment o : List ℕ) → AreIn is_blank blanks → (comment ≡ []) ⊎ IsComment comment
    → crosses (blanks ++ (comment ++ (line_feed ∷ o))) ≡ true
rest_crosses blanks comment o are k = grind (arith, blanks_cross, crosses, words_cross)

words_end_uncrossed : (words : List ℕ) → AreIn is_yaml_non_break words → crosses_comment words ≡ false
words_end_uncrossed [] h = refl
words_end_uncrossed (c ∷ cs) h = rw h.0 (words_end_uncrossed cs h.1)

-- a text's last line has no break
pub last_crosses : (blanks comment : List ℕ) → AreIn is_blank blanks → (comment ≡ []) ⊎ IsComment comment
    → crosses (blanks ++ (comment ++ [])) ≡ false
last_crosses blanks comment are k = grind (arith, blanks_cross, crosses, append-nil, words_end_uncrossed)

-- a break is at the end of a line
pub line_end_crosses : (t y : List ℕ) → IsLineEnd t → crosses (t ++ y) ≡ true
line_end_crosses t y (rest, (blanks, c, are, k, is_rest), is) =
    grind (arith, append_assoc, crosses, rest_crosses, behind_is)

-- No tab is left of any column before the next token.
abbrev pub IsClean : List ℕ → Type 0
IsClean y = (least : ℕ) (m : Marker) (blank : Bool) → tabbed least m blank false y ≡ false

-- None is left of these columns before the next token.
abbrev pub IsCleanIn : ℕ → List ℕ → Type 0
IsCleanIn indent y = (least : ℕ) → least ≤ indent → (m : Marker) (blank : Bool) → tabbed least m blank false y ≡ false

-- The same after a token on its line, where tabs are no indentation.
abbrev pub IsCleanBehind : ℕ → List ℕ → Type 0
IsCleanBehind indent y = (least : ℕ) → least ≤ indent → (m : Marker) → tabbed least m false false y ≡ false

words_clean : (least : ℕ) (words y : List ℕ) → AreIn is_yaml_non_break words
    → ((m : Marker) → tabbed least m true false y ≡ false) → (m : Marker) (blank tab : Bool)
    → tabbed_comment least m blank tab (words ++ (line_feed ∷ y)) ≡ false
words_clean least [] y h k m blank tab = k (next_line m 1)
words_clean least (c ∷ cs) y h k m blank tab = rw h.0 (words_clean least cs y h.1 k (along m 1) blank tab)

-- the tabs on a line that ends are no matter
comment_line_clean : (least : ℕ) (comment y : List ℕ) → (comment ≡ []) ⊎ IsComment comment
    → ((m : Marker) → tabbed least m true false y ≡ false) → (m : Marker) (blank tab : Bool)
    → tabbed least m blank tab (comment ++ (line_feed ∷ y)) ≡ false
comment_line_clean least comment y h k m blank tab = grind (arith, tabbed, words_clean)

rest_clean : (least : ℕ) (blanks comment y : List ℕ) → AreIn is_blank blanks → (comment ≡ []) ⊎ IsComment comment
    → ((m : Marker) → tabbed least m true false y ≡ false)
    → (m : Marker) (blank tab : Bool) → tabbed least m blank tab (blanks ++ (comment ++ (line_feed ∷ y))) ≡ false
rest_clean least [] comment y are c k m blank tab = comment_line_clean least comment y c k m blank tab
rest_clean least (b ∷ bs) comment y are c k m blank tab =
    rw are.0 (rest_clean least bs comment y are.1 c k (along m 1) blank (is_tab_indentation least m blank b || tab))

pub skipped_untabbed : (least : ℕ) (w y : List ℕ) → IsSkipped w
    → ((m : Marker) (blank : Bool) → tabbed least m blank false y ≡ false)
    → (m : Marker) (blank : Bool) → tabbed least m blank false (w ++ y) ≡ false
skipped_untabbed least _ y nothing k m blank = k m blank
skipped_untabbed least _ y (one_space w h) k m blank = skipped_untabbed least w y h k (along m 1) blank
skipped_untabbed least _ y (one_break w h) k m blank = skipped_untabbed least w y h k (next_line m 1) true
skipped_untabbed least _ y (one_rest blanks comment w are c h) k m blank =
    ap (tabbed least m blank false) (rest_text blanks comment w y)
    ∙ rest_clean least blanks comment (w ++ y) are c (λ n. skipped_untabbed least w y h k n true) m blank false

pub skipped_clean : (w y : List ℕ) → IsSkipped w → IsClean y → IsClean (w ++ y)
skipped_clean w y h k least = skipped_untabbed least w y h (k least)

-- after what is no blank, tabs are no matter
pub blanks_untabbed : (least : ℕ) (w y : List ℕ) → AreIn is_blank w → IsClean y → (m : Marker)
    → tabbed least m false false (w ++ y) ≡ false
blanks_untabbed least [] y are k m = k least m false
blanks_untabbed least (b ∷ bs) y are k m =
    rw (are.0, and_false (b == 9)) (blanks_untabbed least bs y are.1 k (along m 1))

-- right of a column they are none
pub right_untabbed : (least column : ℕ) → least ≤ column → (w y : List ℕ) → AreIn is_blank w → IsClean y
    → (m : Marker) (blank : Bool) → column ≤ m.col → tabbed least m blank false (w ++ y) ≡ false
right_untabbed least column under [] y are k m blank right = k least m blank
right_untabbed least column under (x ∷ xs) y are k m blank right =
    grind (arith, right_untabbed least column under xs y are.1 k (along m 1) blank (le_next column m.col right))

spaces_untabbed : (least n : ℕ) (w y : List ℕ) → AreIn is_blank w → IsClean y → (m : Marker) (blank : Bool)
    → least ≤ m.col + n → tabbed least m blank false (spaces n ++ (w ++ y)) ≡ false
spaces_untabbed least zero w y are k m blank far =
    right_untabbed least least (omega arith) w y are k m blank (omega (arith, far))
spaces_untabbed least (suc n) w y are k m blank far =
    spaces_untabbed least n w y are k (along m 1) blank (shift least m.col n far)
  where
    shift : (i c n : ℕ) → i ≤ c + suc n → i ≤ c + 1 + n
    shift i c n h = omega (arith, h)

pub lines_clean : (indent : ℕ) (filler front y : List ℕ) → IsFiller filler → IsLinePrefix indent front → IsClean y
    → IsCleanIn indent ((filler ++ front) ++ y)
lines_clean indent filler front y filler_is prefix k least low m blank =
    grind (arith, append_assoc, skipped_untabbed, filler_skipped, spaces_untabbed)

-- Whether a tab is among the blanks before the next token.
abbrev mutual
  pub has_tab : List ℕ → Bool
  has_tab [] = false
  has_tab (c ∷ cs) = if is_blank c || ((c == 13) && (slice_index cs 0 == 10)) then (c == 9) || has_tab cs
      else if is_break c then has_tab cs else if c == 35 then comment_has_tab cs else false

  pub comment_has_tab : List ℕ → Bool
  comment_has_tab [] = false
  comment_has_tab (c ∷ cs) = if is_yaml_non_break c then comment_has_tab cs
      else if (c == 13) && (slice_index cs 0 == 10) then has_tab cs else if is_break c then has_tab cs else false

-- ## A line without a token at the text's end

pub comment_ends_clean : (t : List ℕ) → IsComment t → (least : ℕ) (m : Marker) (blank tab : Bool)
    → tabbed least m blank tab t ≡ false
comment_ends_clean t (words, are, is) least m blank tab = rw is (by_words (along m 1) words are)
  where
    by_words : (m : Marker) (words : List ℕ) → AreIn is_yaml_non_break words
        → tabbed_comment least m blank tab words ≡ false
    by_words m [] h = refl
    by_words m (c ∷ cs) h = rw h.0 (by_words (along m 1) cs h.1)

pub rest_ends_clean : (blanks comment : List ℕ) → AreIn is_blank blanks → (comment ≡ []) ⊎ IsComment comment
    → (least : ℕ) (m : Marker) (blank tab : Bool) → tabbed least m blank tab (blanks ++ comment) ≡ false
rest_ends_clean [] comment are (inl e) least m blank tab = ap (λ (x : List ℕ). tabbed least m blank tab x) e
rest_ends_clean [] comment are (inr h) least m blank tab = comment_ends_clean comment h least m blank tab
rest_ends_clean (b ∷ bs) comment are k least m blank tab =
    rw are.0 (rest_ends_clean bs comment are.1 k least (along m 1) blank (is_tab_indentation least m blank b || tab))

-- ## After `?`

-- spaces end where what is passed does; some were found, if there were any before
record SpacesTo (found : Bool) (end : Gap) (r : Marker × List ℕ) : Type 0 where
  still_blank : Bool
  some : Bool
  tab : Bool
  is : end ≡ gap_here r.0 still_blank some tab r.1
  has : found ≡ true → some ≡ true

found_here : (found : Bool) {end : Gap} {r : Marker × List ℕ} → SpacesTo true end r → SpacesTo found end r
found_here found p =
    record { still_blank = p.still_blank; some = p.some; tab = p.tab; is = p.is; has = λ _. p.has refl }

none_found : (m : Marker) (blank found tab : Bool) (t : List ℕ)
    → SpacesTo found (gap_here m blank found tab t) (m, t)
none_found m blank found tab t = record { still_blank = blank; some = found; tab = tab; is = refl; has = λ h. h }

white_is : (c : ℕ) (r : Bool) → (c == 9) ≡ false → (is_blank c || r) ≡ ((c == 32) || r)
white_is c r h = grind (arith, nat_tests)

no_white : (c : ℕ) (r : Bool) → (is_blank c || r) ≡ false → ((c == 32) || r) ≡ false
no_white c r e = sym (white_is c r (no_blank_no_tab c (or_parts (is_blank c) r e).0)) ∙ e

over_spaces : OverGap 0
    (λ m t. (blank found tab : Bool) → has_tab t ≡ false
    → SpacesTo found (end_of_gap false 0 m blank found tab t) (past 0 m t))
    (λ m t. (blank found tab : Bool) → comment_has_tab t ≡ false
    → SpacesTo found (end_of_gap_in_comment false 0 m blank found tab t) (past_comment 0 m t))
over_spaces =
    record {
      ends = λ m blank found tab clean. none_found m blank found tab [];
      tab = λ m c cs t. absurd (no_stop m c cs t);
      white = grind (arith, or_parts, has_tab, white_is, is_return_at, found_here);
      break = grind (arith, no_white, is_return_at, found_here);
      sign = grind (arith, no_white, is_return_at);
      token = grind (arith, no_white, is_return_at, none_found);
      comment_ends = λ m blank found tab clean. none_found m blank found tab [];
      word = λ m c cs e on blank found tab clean. rw e (on blank found tab (rw e at clean));
      return = λ m c cs e f on blank found tab clean.
          rw (e, f) (found_here found (on blank true tab (rw (e, f) at clean)));
      line = grind (arith, found_here);
      other = λ m c cs e f g blank found tab clean. rw (e, f, g) (none_found m blank found tab (c ∷ cs));
    }

-- where a `?` has passed something
abbrev pub spaces_end : Marker → Bool → List ℕ → SpacesEnd
spaces_end m blank y = record { cursor = cursor_at y m blank; space = true }

-- what a `?` passes: something, up to the next token
pub spaces_reach : (m : Marker) (blank : Bool) (c : ℕ) (t : List ℕ) → (c ≡ 32) ⊎ (c ≡ line_feed)
    → has_tab (c ∷ t) ≡ false
    → (b : Bool) × (spaces_at false (cursor_at (c ∷ t) m blank) ≡ spaces_end (past 0 m (c ∷ t)).0 b
    (past 0 m (c ∷ t)).1)
spaces_reach m blank c t first clean = by_first first
  where
    from : (n : Marker) (b : Bool) → has_tab t ≡ false
        → (some : Bool) × (spaces_at true (cursor_at t n b) ≡ spaces_end (past 0 n t).0 some (past 0 n t).1)
    from n b none =
        let p = over_gap over_spaces n t b true false none in (
          p.still_blank,
          ap spaces_of p.is ∙ ap (λ (s : Bool). let e : SpacesEnd = record {
            cursor = cursor_at (past 0 n t).1 (past 0 n t).0 p.still_blank;
            space = s;
          } in e) (p.has refl),
        )

    Reaches : ℕ → Type 0
    Reaches x = (b : Bool) × (spaces_at false (cursor_at (x ∷ t) m blank)
        ≡ spaces_end (past 0 m (x ∷ t)).0 b (past 0 m (x ∷ t)).1)

    by_first : (c ≡ 32) ⊎ (c ≡ line_feed) → Reaches c
    by_first (inl e) = subst Reaches (sym e) (from (along m 1) blank (rw e at clean))
    by_first (inr e) = rw e (from (next_line m 1) true (rw e at clean))

-- ## The text before a token, tabs among it

abbrev pub Passes : List ℕ → Type 0
Passes w = (m : Marker) (y : List ℕ) → past 0 m (w ++ y) ≡ past 0 (moved m w) y

pub skipped_passes : (w : List ℕ) → IsSkipped w → Passes w
skipped_passes w h m y = skipped_past m w y h

both_pass : (a b : List ℕ) → Passes a → Passes b → Passes (a ++ b)
both_pass a b h k m y = cc (append_assoc a b y, h m (b ++ y), k (moved m a) y, moved_append m a b)

pub blanks_pass : (w : List ℕ) → AreIn is_blank w → Passes w
blanks_pass w are m y = (blanks_past 0 w are m (omega arith)).is y

prefix_blank : (indent : ℕ) (w : List ℕ) → IsLinePrefix indent w → AreIn is_blank w
prefix_blank indent w (front, blanks, (n, low, spaced), are, is) = grind (arith, both_in, spaces_are_blank)

next_line_passes : (indent : ℕ) (w : List ℕ) → IsNextLine indent w → Passes w
next_line_passes indent w (end, filler, front, end_is, filler_is, prefix, e) =
    rw e (both_pass end (filler ++ front) (skipped_passes end (line_end_skipped end end_is))
    (both_pass filler front (skipped_passes filler (filler_skipped filler filler_is))
    (blanks_pass front (prefix_blank indent front prefix))))

pub text_gap_passes : (indent : ℕ) (gap : List ℕ) → IsGap indent gap → Passes gap
text_gap_passes indent gap (inl (some, are)) = blanks_pass gap are
text_gap_passes indent gap (inr h) = next_line_passes indent gap h

pub gap_passes : (place : Position) (gap : List ℕ) → IsGapAt place gap → Passes gap
gap_passes place gap (inl (some, are)) = blanks_pass gap are
gap_passes place gap (inr (inl h)) = next_line_passes (indent_at place) gap h
gap_passes place gap (inr (inr (first, e))) = rw e (λ m y. refl)
