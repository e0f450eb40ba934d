-- Plain scalars are read alike.
use Rattle.scalar_laws.proofs.Common.{◌≡◌, ℕ, ◌<◌, Bool, true, false, List, [], ◌∷◌, ◌++◌, length, slice_index, refl, sym, ◌∙◌, arith, encode_utf8, ◌&&◌, ◌||◌, ◌==◌, not, nat_lt, hyphen, is_break, is_blank, is_blank_or_breakz, is_z, is_bom, is_flow, tab, is_document_indicator, is_blank_or_break, Marker, Cursor, along, next_line, mid_line, goes_says, word_on, word_over, word_behind, both_by, AreAlike, AreSame, AreNoted, ArePlainAlike, second_is, no_return}
use Rattle.saphyr_scalar.specs.Steps.Plain.{is_in_word, word_starts, PlainGap, content_behind_tab, reached_gap, line_front, lines, gap_from, gap, next_word_starts, comment_of, PlainScalarRead, with_text, word, plain}
use Rattle.saphyr_scalar.proofs.Plain.Gaps.{gap_end}
use Rattle.scalar_laws.proofs.Breaks.Sides.{Normal, nothing, character, feed, return, pair, no_feed, first_in, behind_first, Places, over_pair, moved_along, moved_down, marks_alike, alike, normal_of, places_of}
use Rattle.scalar_laws.proofs.Breaks.Results.{Both, gives, refused, choose_same, choose, choose_first, and_known, and_then, and_same, by_ends}
use Rattle.scalar_laws.proofs.Breaks.Separations.{indicator_alike, break_alike}
use Rattle.scalar_laws.proofs.Breaks.Names.{all_three, run_alike}

-- ## Words

in_word_alike : (f : Bool) {r q : List ℕ} → Normal r q → is_in_word f r ≡ is_in_word f q
unfolding is_in_word
in_word_alike f nothing = refl
in_word_alike f (character c h n) = cc (first_in (λ d. is_blank_or_breakz d || (f && is_flow d)) refl n)
in_word_alike f (feed n) = refl
in_word_alike f (return h n) = refl
in_word_alike f (pair n) = refl

dash_alike : (f : Bool) {r q : List ℕ} → Normal r q → (f && (slice_index r 0 == hyphen) && is_flow (slice_index r 1)) ≡
    (f && (slice_index q 0 == hyphen) && is_flow (slice_index q 1))
dash_alike f {r = r} {q = q} n =
    cc (
      all_three f (slice_index r 0 == 45) (is_flow (slice_index r 1)),
      second_is r,
      behind_first (λ c. c == 45) refl refl (λ r. is_flow (slice_index r 0)) (λ r q n. first_in is_flow refl n) n,
      second_is q,
      all_three f (slice_index q 0 == 45) (is_flow (slice_index q 1)),
    )

module _ {text : List ℕ} (f : Bool) where
  starts_alike : (s t : Cursor) → AreAlike text s t → Both (AreSame text) (word_starts f s) (word_starts f t)
  unfolding word_starts
  starts_alike s t e =
      let first = first_in (λ c. c == 35) refl (normal_of e) in
      let marker = indicator_alike (normal_of e) in
      choose_same ((slice_index s.rest 0 == 35) || ((s.mark.col == 0) && is_document_indicator s.rest))
      ((slice_index t.rest 0 == 35) || ((t.mark.col == 0) && is_document_indicator t.rest))
      (rw (first, e.col, marker) refl) (λ _. gives (refl, e))
      (λ _. choose_same (f && (slice_index s.rest 0 == 45) && is_flow (slice_index s.rest 1))
      (f && (slice_index t.rest 0 == 45) && is_flow (slice_index t.rest 1))
      (dash_alike f (normal_of e)) (λ _. refused) (λ _. gives (in_word_alike f (normal_of e), e)))

  goes_alike : (i : ℕ) (s t : Cursor) → AreAlike text s t
      → Both (AreSame text) (next_word_starts f i s) (next_word_starts f i t)
  unfolding next_word_starts
  goes_alike i s t e = grind (arith, starts_alike)

-- ## Gaps

record AreGapsAlike (text : List ℕ) (g k : PlainGap) : Type 0 where
  pub same : g.text ≡ k.text
  pub tabbed : g.tabbed ≡ k.tabbed
  pub behind : AreAlike text g.behind k.behind

module _ {text : List ℕ} (i : ℕ) (a b : Marker) where
  reached_alike : (t u : Bool) (feeds : List ℕ) (x y : Cursor) → t ≡ u → AreAlike text x y
      → Both (AreGapsAlike text) (reached_gap a t feeds x) (reached_gap b u feeds y)
  unfolding content_behind_tab
  reached_alike t u feeds x y same e = rw (← same) (and_then {R = AreAlike text}
      (choose_first (λ c. t && is_bom c) refl e (λ _. refused)
      (λ _. choose_first (λ c. t && not ((c == 35) || is_z c)) refl e (λ _. refused) (λ _. gives e)))
      (λ s k is. gives (record { same = refl; tabbed = refl; behind = is })))

  lines_alike : (t u : Bool) (feeds : List ℕ) (m n : Marker) {r q : List ℕ} → t ≡ u → Normal r q
      → Places text r q m n → Both (AreGapsAlike text) (lines i a t feeds m r) (lines i b u feeds n q)
  unfolding lines
  lines_alike t u feeds m n same nothing p =
      reached_alike t u feeds (line_front m []) (line_front n []) same (alike true true refl nothing p)
  lines_alike t u feeds m n same (character c h x) p = choose (is_blank_or_break c)
      (λ _. rw (no_return c h, no_feed c h) (lines_alike (is_blank c && (t || ((c == tab) && nat_lt m.col i)))
      (is_blank c && (u || ((c == tab) && nat_lt n.col i))) feeds (along m 1) (along n 1)
      (rw (same, p.col) refl) x (moved_along 1 1 refl p)))
      (λ _. reached_alike t u feeds (line_front m (c ∷ _)) (line_front n (c ∷ _)) same
      (alike true true refl (character c h x) p))
  lines_alike t u feeds m n same (feed x) p =
      lines_alike false false (feeds ++ 10 ∷ []) (next_line m 1) (next_line n 1) refl x (moved_down 1 1 p)
  lines_alike t u feeds m n same (return h x) p =
      rw h (lines_alike false false (feeds ++ 10 ∷ []) (next_line m 1) (next_line n 1) refl x (moved_down 1 1 p))
  lines_alike t u feeds m n same (pair x) p =
      lines_alike false false (feeds ++ 10 ∷ []) (next_line (along m 1) 1) (next_line n 1) refl x
      (over_pair m n (along m 1) refl refl p)

  gap_alike : (s t : Cursor) → AreAlike text s t → Both (AreGapsAlike text) (gap i a s) (gap i b t)
  unfolding gap gap_from
  gap_alike s t e = let x = run_alike is_blank refl refl [] e in choose_first is_break refl x.1
      (λ _. let on = break_alike x.1 in
      and_then (lines_alike false false [] _ _ refl (normal_of on) (places_of on))
      (λ g k is. gives (record { same = rw is.same refl; tabbed = is.tabbed; behind = is.behind })))
      (λ _. gives (record { same = x.0; tabbed = refl; behind = x.1 }))

-- ## Scalars

noted_alike : (text : List ℕ) (f a b : Bool) (s t : Cursor) → a ≡ b → AreAlike text s t
    → AreNoted text (comment_of f a s) (comment_of f b t)
unfolding comment_of
noted_alike text f a b s t same e =
    let first = first_in (λ c. c == 35) refl (normal_of e) in
    both_by (not f && (slice_index s.rest 0 == 35) && (a || not s.blank_so_far))
    (not f && (slice_index t.rest 0 == 35) && (b || not t.blank_so_far)) _ _ _ _ (AreNoted text)
    (rw (first, same, e.blank) refl) (λ _ _. marks_alike e) (λ _ _. tt)

front_alike : {text : List ℕ} (u : List ℕ) {r q : PlainScalarRead} → Both (ArePlainAlike text) r q
    → Both (ArePlainAlike text) (with_text u r) (with_text u q)
front_alike u h = and_then h (λ x y is. gives (rw is.0 refl, is.1, is.2, is.3))

module _ (text : List ℕ) (f : Bool) (i : ℕ) (a b : Marker) where
  abbrev SameWord : Cursor → Cursor → Type 0
  SameWord s t = AreAlike text s t → Both (ArePlainAlike text) (word f i a s.mark s.rest) (word f i b t.mark t.rest)

  abbrev Others : ℕ → Type 0
  Others k = (x y : Cursor) → length x.rest < k → SameWord x y

  over_alike : (s t : Cursor) → is_in_word f s.rest ≡ false → AreAlike text s t → Others (length s.rest)
      → Both (ArePlainAlike text) (word f i a s.mark s.rest) (word f i b t.mark t.rest)
  over_alike s t stops e others = let here = alike false false refl (normal_of e) (places_of e) in rw (
    word_over f i a s.mark s.rest stops,
    word_over f i b t.mark t.rest (sym (in_word_alike f (normal_of e)) ∙ stops),
  ) (and_known (gap_alike i a b (mid_line s.mark s.rest) (mid_line t.mark t.rest) here) (λ g k first _ is.
      and_known (goes_alike f i g.behind k.behind is.behind) (λ x y goes _ are.
      let says = goes_says f i x.0 g.behind x.1 goes in
      choose_same x.0 y.0 are.0 (λ more.
      let less : length x.1.rest < length s.rest = rw says.same (word_behind f s.rest g.behind.rest
      (gap_end i a (mid_line s.mark s.rest) g first) stops (says.goes more)) in
      rw is.same (front_alike k.text (others x.1 y.1 less are.1)))
      (λ _. gives (
        refl,
        marks_alike e,
        noted_alike text f g.tabbed k.tabbed g.behind k.behind is.tabbed is.behind,
        is.behind,
      )))))

  on_alike : (m n : Marker) {r q : List ℕ} → is_in_word f r ≡ true → Normal r q → Places text r q m n
      → Others (length r) → Both (ArePlainAlike text) (word f i a m r) (word f i b n q)
  unfolding is_in_word
  on_alike m n goes nothing p others = absurd (cc)
  on_alike m n goes (character c {r = r} {q = q} h x) p others = rw (
    word_on f i a m c r goes,
    word_on f i b n c q (sym (in_word_alike f (character c h x)) ∙ goes),
  ) (front_alike (encode_utf8 c) (others (mid_line (along m 1) r) (mid_line (along n 1) q)
      (omega arith) (alike false false refl x (moved_along 1 1 refl p))))
  on_alike m n goes (feed x) p others = absurd (cc)
  on_alike m n goes (return h x) p others = absurd (cc)
  on_alike m n goes (pair x) p others = absurd (cc)

  words_alike : (s t : Cursor) → SameWord s t
  words_alike = by_ends SameWord (λ s t others. by s t others (is_in_word f s.rest) refl)
    where
      by : (s t : Cursor) → Others (length s.rest) → (z : Bool) → is_in_word f s.rest ≡ z → SameWord s t
      by s t others true goes e = on_alike s.mark t.mark goes (normal_of e) (places_of e) others
      by s t others false stops e = over_alike s t stops e others

pub plain_alike : (f : Bool) (i : ℕ) {text : List ℕ} {s t : Cursor} → AreAlike text s t
    → Both (ArePlainAlike text) (plain f i s) (plain f i t)
unfolding plain
plain_alike f i {text = text} {s = s} {t = t} e = and_same _ _ (starts_alike f s t e)
    (λ goes u v is. choose goes (λ _. words_alike text f i s.mark t.mark u v is) (λ _. refused))
