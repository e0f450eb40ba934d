-- Block scalars are read alike.
use Rattle.scalar_laws.proofs.Common.{◌≡◌, ℕ, ◌+◌, Bool, true, false, List, [], ◌∷◌, ◌++◌, slice_index, refl, ap, cond, arith, ◌==◌, not, Option, Some, None, is_breakz, is_blank, is_z, is_digit, is_yaml_non_break, tab, space, BlockStyle, Chomping, Marker, Cursor, along, next_line, pass, both_by, AreAlike, AreSame, AreBlocksAlike, not-false, no_return}
use Rattle.saphyr_input.specs.declared.input.SkipTabs.TheVariants as skip
use Rattle.saphyr_scalar.specs.Steps.Block.{EmptyLinesRead, chomping, indicator, header_break, header_end, last_chomping, header_behind, header, is_indentation, inside_break, with_empty_line, pass_empty_lines, line_starts, break_before, LinesRead, lines_behind_text, between, line, is_unfinished, tail_alone, given_indentation, chomped_lines, content, behind_leading_lines, no_lines, behind_header, block_scalar}
use Rattle.scalar_laws.proofs.Breaks.Sides.{Normal, nothing, character, feed, return, pair, no_feed, first_in, first_same, Places, over_pair, moved_along, moved_down, marks_alike, alike, normal_of, places_of, NoBreak, no_break_in, one_passed}
use Rattle.scalar_laws.proofs.Breaks.Results.{Both, gives, refused, choose_first, and_then, and_same}
use Rattle.scalar_laws.proofs.Breaks.Separations.{indicator_alike, break_alike, separation_alike}

-- ## Headers

chomping_alike : {text : List ℕ} {s t : Cursor} → AreAlike text s t → AreSame text (chomping s) (chomping t)
unfolding chomping
chomping_alike {text = text} {s = s} {t = t} e = sign (λ c. c == 43) refl refl _
    (sign (λ c. c == 45) refl refl _ (refl, e))
  where
    sign : (p : ℕ → Bool) → p 13 ≡ false → p 10 ≡ false → (x : Option Chomping) {y z : Option Chomping × Cursor}
        → AreSame text y z
        → AreSame text (cond (p (slice_index s.rest 0)) (x, pass 1 s) y)
        (cond (p (slice_index t.rest 0)) (x, pass 1 t) z)
    sign p a b x other = both_by (p (slice_index s.rest 0)) (p (slice_index t.rest 0)) _ _ _ _ (AreSame text)
        (first_in p (rw (a, b) refl) (normal_of e)) (λ h _. (refl, one_passed (no_break_in p b a s.rest h) e))
        (λ _ _. other)

module _ {text : List ℕ} (m n : Marker) where
  indicator_read : (s t : Cursor) → AreAlike text s t → Both (AreSame text) (indicator m s) (indicator n t)
  unfolding indicator
  indicator_read s t e = choose_first (λ c. not (is_digit c)) refl e (λ _. gives (refl, e)) (λ h.
      let digit = no_break_in is_digit refl refl s.rest (not-false _ h) in
      choose_first (λ c. c == 48) refl e (λ _. refused)
      (λ _. gives (cc (first_same digit (normal_of e)), one_passed digit e)))

  header_end_alike : (s t : Cursor) → AreAlike text s t → Both (AreAlike text) (header_end m s) (header_end n t)
  unfolding header_end header_break
  header_end_alike s t e = and_same _ _ (separation_alike skip.Yes e) (λ _ u v is.
      choose_first (λ c. not (is_breakz c)) refl is (λ _. refused)
      (λ _. choose_first (λ c. c == tab) refl (break_alike is) (λ _. refused) (λ _. gives (break_alike is))))

last_alike : (text : List ℕ) (a b : Option Chomping) (s t : Cursor) → a ≡ b → AreAlike text s t
    → AreSame text (last_chomping a s) (last_chomping b t)
unfolding last_chomping
last_alike text (Some x) (Some y) s t same e = (cc, e)
last_alike text None None s t same e = (cc ((chomping_alike e).0), (chomping_alike e).1)
last_alike text (Some x) None s t same e = absurd (cc)
last_alike text None (Some y) s t same e = absurd (cc)

header_alike : {text : List ℕ} (s t : Cursor) → NoBreak s.rest → AreAlike text s t
    → Both (AreSame text) (header s) (header t)
unfolding header header_behind
header_alike {text} s t h e =
    let first = chomping_alike (one_passed h e) in
    and_same _ _ (indicator_read s.mark t.mark _ _ first.1) (λ k u v is.
    let last = last_alike text (chomping (pass 1 s)).0 (chomping (pass 1 t)).0 u v first.0 is in
    and_then (header_end_alike s.mark t.mark _ _ last.1) (λ x y are. gives (rw last.0 refl, are)))

-- ## Empty lines

pub no_indentation : (limit : Option ℕ) (col c : ℕ) → (c == space) ≡ false → is_indentation limit col c ≡ false
no_indentation None col c h = h
no_indentation (Some l) col c h = rw h refl

empty_alike : (text : List ℕ) (limit : Option ℕ) (l k : EmptyLinesRead) (a b : Bool) (m n : Marker) {r q : List ℕ}
    → l ≡ k → a ≡ b → Normal r q → Places text r q m n
    → AreSame text (pass_empty_lines limit l a m r) (pass_empty_lines limit k b n q)
unfolding pass_empty_lines
empty_alike text limit l k a b m n same e nothing p = (rw (same, p.col) refl, alike a b e nothing p)
empty_alike text limit l k a b m n same e (character c h x) p =
    both_by (is_indentation limit m.col c) (is_indentation limit n.col c) _ _ _ _ (AreSame text)
    (ap (λ j. is_indentation limit j c) p.col)
    (λ _ _. empty_alike text limit l k a b (along m 1) (along n 1) same e x (moved_along 1 1 refl p))
    (λ _ _. rw (no_return c h, no_feed c h) (rw (same, p.col) refl, alike a b e (character c h x) p))
empty_alike text limit l k a b m n same e (feed x) p =
    let more = empty_alike text limit (with_empty_line l m.col) (with_empty_line k n.col) true true (next_line m 1)
    (next_line n 1) (rw (same, p.col) refl) refl x (moved_down 1 1 p) in
    search (no_indentation, more)
empty_alike text limit l k a b m n same e (return h x) p =
    let more = empty_alike text limit (with_empty_line l m.col) (with_empty_line k n.col) true true (next_line m 1)
    (next_line n 1) (rw (same, p.col) refl) refl x (moved_down 1 1 p) in
    grind (arith, more)
empty_alike text limit l k a b m n same e (pair x) p =
    rw (no_indentation limit m.col 13 refl, no_indentation limit m.col 10 refl, no_indentation limit n.col 10 refl)
    (empty_alike text limit (with_empty_line l m.col) (with_empty_line k n.col) true true (next_line (inside_break m) 1)
    (next_line n 1) (rw (same, p.col) refl) refl x (over_pair m n (inside_break m) refl refl p))

-- ## Content

abbrev AreRead : List ℕ → LinesRead → LinesRead → Type 0
AreRead text x y = (x.0 ≡ y.0) × (x.1 ≡ y.1) × AreAlike text x.2 y.2

starts_alike : (i : ℕ) (j k : ℕ) {r q : List ℕ} → j ≡ k → Normal r q → line_starts i j r ≡ line_starts i k q
unfolding line_starts
starts_alike i j k same n = rw (same, first_in is_yaml_non_break refl n, indicator_alike n) refl

front_alike : (text a : List ℕ) (x y : LinesRead) → AreRead text x y
    → AreRead text (lines_behind_text a x) (lines_behind_text a y)
front_alike text a x y e = (ap (λ b. a ++ b) e.0, e.1, e.2)

mutual
  unfolding between line

  between_alike : (text : List ℕ) (style : BlockStyle) (i : ℕ) (above : Option Bool) (k : ℕ) (a b : Bool) (m n : Marker)
      {r q : List ℕ} → a ≡ b → Normal r q → Places text r q m n
      → AreRead text (between style i above k a m r) (between style i above k b n q)
  between_alike text style i above k a b m n e nothing p = (refl, refl, alike a b e nothing p)
  between_alike text style i above k a b m n e (character c h x) p =
      both_by (is_indentation (Some i) m.col c) (is_indentation (Some i) n.col c) _ _ _ _ (AreRead text)
      (ap (λ j. is_indentation (Some i) j c) p.col)
      (λ _ _. between_alike text style i above k a b (along m 1) (along n 1) e x (moved_along 1 1 refl p))
      (λ _ _. rw (no_return c h, no_feed c h) (both_by (line_starts i m.col (c ∷ _)) (line_starts i n.col (c ∷ _))
      _ _ _ _ (AreRead text) (starts_alike i m.col n.col p.col (character c h x))
      (λ _ _. front_alike text (break_before style above k (is_blank c) ++ c ∷ []) _ _
      (line_alike text style i (is_blank c) a b (along m 1) (along n 1) e x (moved_along 1 1 refl p)))
      (λ _ _. (refl, refl, alike a b e (character c h x) p))))
  between_alike text style i above k a b m n e (feed x) p =
      between_alike text style i above (k + 1) true true (next_line m 1) (next_line n 1) refl x (moved_down 1 1 p)
  between_alike text style i above k a b m n e (return h x) p =
      rw h (between_alike text style i above (k + 1) true true (next_line m 1) (next_line n 1) refl x
      (moved_down 1 1 p))
  between_alike text style i above k a b m n e (pair x) p =
      between_alike text style i above (k + 1) true true (next_line (inside_break m) 1) (next_line n 1) refl x
      (over_pair m n (inside_break m) refl refl p)

  line_alike : (text : List ℕ) (style : BlockStyle) (i : ℕ) (more : Bool) (a b : Bool) (m n : Marker) {r q : List ℕ}
      → a ≡ b → Normal r q → Places text r q m n → AreRead text (line style i more a m r) (line style i more b n q)
  line_alike text style i more a b m n e nothing p = (refl, refl, alike a b e nothing p)
  line_alike text style i more a b m n e (character c h x) p =
      both_by (is_yaml_non_break c) (is_yaml_non_break c) _ _ _ _ (AreRead text) refl
      (λ _ _. front_alike text (c ∷ []) _ _ (line_alike text style i more a b (along m 1) (along n 1) e x
      (moved_along 1 1 refl p))) (λ _ _. rw (no_return c h, no_feed c h) (refl, refl, alike a b e (character c h x) p))
  line_alike text style i more a b m n e (feed x) p =
      between_alike text style i (Some more) 0 true true (next_line m 1) (next_line n 1) refl x (moved_down 1 1 p)
  line_alike text style i more a b m n e (return h x) p =
      rw h (between_alike text style i (Some more) 0 true true (next_line m 1) (next_line n 1) refl x
      (moved_down 1 1 p))
  line_alike text style i more a b m n e (pair x) p =
      between_alike text style i (Some more) 0 true true (next_line (inside_break m) 1) (next_line n 1) refl x
      (over_pair m n (inside_break m) refl refl p)

-- ## Block scalars

unfinished_alike : (i : ℕ) {text : List ℕ} {s t : Cursor} → AreAlike text s t → is_unfinished i s ≡ is_unfinished i t
unfolding is_unfinished
unfinished_alike i e = let first = first_in is_z refl (normal_of e) in rw (first, e.col) refl

tail_alike : (c : Chomping) (k : ℕ) {text : List ℕ} {s t : Cursor} → AreAlike text s t
    → tail_alone c k s ≡ tail_alone c k t
unfolding tail_alone
tail_alike c k h = grind arith

module _ {text : List ℕ} (style : BlockStyle) (indent : ℕ) where
  pub block_alike : {s t : Cursor} → NoBreak s.rest → AreAlike text s t
      → Both (AreBlocksAlike text) (block_scalar style indent s) (block_scalar style indent t)
  unfolding block_scalar behind_header behind_leading_lines content chomped_lines
  block_alike {s} {t} h e = and_same _ _ (header_alike s t h e) (λ header u v is.
      let limit = given_indentation indent header.indicator in
      let c = header.chomping in
      let x = empty_alike text limit no_lines no_lines u.blank_so_far v.blank_so_far u.mark v.mark refl is.blank
      (normal_of is) (places_of is) in
      choose_first is_z refl x.1 (λ _. gives (rw (x.0, tail_alike c _ x.1) refl, marks_alike e, marks_alike x.1, x.1))
      (λ _. rw x.0 (grind (arith, between_alike, normal_of, unfinished_alike, x.1))))
