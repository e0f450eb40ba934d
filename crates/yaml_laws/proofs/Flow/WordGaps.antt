-- The gaps between the words of a plain scalar in flow style are gaps as they are read.
use Rattle.std.proofs.Common.{◌≡◌, ◌≢◌, ℕ, zero, suc, ◌+◌, ◌≤◌, Bool, false, List, [], ◌∷◌, ◌++◌, refl, sym, ◌∙◌, arith, subst, append_assoc, append-nil, IsTrue, IsFalse, ◌⊎◌, inl, inr}
use Rattle.yaml_laws.proofs.Common.{◌==◌, not, if◌then◌else◌, prefix_len, nat_tests, normalized, is_blank, line_feed, carriage_return, is_blank_or_break, Marker, along, next_line, spaces, ends_line, end_of_text, AreIn, behind_blanks, reaches_tabbed, has_line_end, IsPlainGap, joined_pieces, AreEach, AreSpaces, IsLinePrefix, IsEmptyLine, IsFoldedGap, IsWordGap}
use Rattle.yaml_laws.proofs.Flow.States.{moved}
use Rattle.yaml_laws.proofs.Flow.Places.{moved_append}
use Rattle.yaml_laws.proofs.Flow.Fillers.{spaces_are_blank, blanks_past, spaces_column}

-- ## Texts without CR

abbrev NoReturn : List ℕ → Type 0
NoReturn t = AreIn (λ c. not (c == carriage_return)) t

pub no_return : (c : ℕ) → IsTrue (not (c == carriage_return)) → (c == carriage_return) ≡ false
no_return c h = grind (arith, nat_tests)

feed_alone : (c : ℕ) (cs : List ℕ) → (c == carriage_return) ≡ false → ends_line c cs ≡ (c == line_feed)
feed_alone c cs h = grind arith

pub passed_moved : (m : Marker) (t : List ℕ) → NoReturn t → end_of_text m t ≡ moved m t
passed_moved m [] h = refl
passed_moved m (c ∷ cs) h =
    cc (feed_alone c cs (no_return c h.0), passed_moved (if c == line_feed then next_line m 1 else along m 1) cs h.1)

pub normalized_same : (t : List ℕ) → NoReturn t → normalized t ≡ t
normalized_same [] h = refl
normalized_same (c ∷ cs) h = rw (no_return c h.0) (cc (normalized_same cs h.1))

-- ## Gaps

blank_white : (c : ℕ) → IsTrue (is_blank c) → IsTrue (is_blank_or_break c)
blank_white c h = grind (arith, nat_tests)

blanks_white : (t : List ℕ) → AreIn is_blank t → AreIn is_blank_or_break t
blanks_white [] h = tt
blanks_white (c ∷ cs) h = (blank_white c h.0, blanks_white cs h.1)

both_white : (a b : List ℕ) → AreIn is_blank_or_break a → AreIn is_blank_or_break b → AreIn is_blank_or_break (a ++ b)
both_white [] b h k = k
both_white (c ∷ cs) b h k = (h.0, both_white cs b h.1 k)

spaces_white : (least : ℕ) (t : List ℕ) → AreSpaces least t → AreIn is_blank_or_break t
spaces_white least t h = rw h.2 (blanks_white (spaces h.0) (spaces_are_blank h.0))

prefix_white : (indent : ℕ) (t : List ℕ) → IsLinePrefix indent t → AreIn is_blank_or_break t
prefix_white indent t (front, blanks, spaced, are, is) =
    rw is (both_white front blanks (spaces_white indent front spaced) (blanks_white blanks are))

empty_line_white : (indent : ℕ) (t : List ℕ) → IsEmptyLine indent t → AreIn is_blank_or_break t
empty_line_white indent t (front, inl h, is) = rw is (both_white front (10 ∷ []) (spaces_white 0 front h) (refl, tt))
empty_line_white indent t (front, inr h, is) =
    rw is (both_white front (10 ∷ []) (prefix_white indent front h) (refl, tt))

lines_white : (indent : ℕ) (ts : List (List ℕ)) → AreEach (IsEmptyLine indent) ts
    → AreIn is_blank_or_break (joined_pieces ts)
lines_white indent [] h = tt
lines_white indent (t ∷ ts) h = both_white t (joined_pieces ts) (empty_line_white indent t h.0)
    (lines_white indent ts h.1)

not_nothing : (a : List ℕ) (c : ℕ) (b : List ℕ) → a ++ (c ∷ b) ≢ []
not_nothing [] c b e = absurd (cc)
not_nothing (d ∷ a) c b e = absurd (cc)

blanks_alone : (t : List ℕ) → AreIn is_blank t → behind_blanks t ≡ []
blanks_alone [] h = refl
blanks_alone (c ∷ cs) h = rw h.0 (let one : 1 + prefix_len is_blank cs ≡ suc (prefix_len is_blank cs) =
    omega arith in cc (blanks_alone cs h.1))

blanks_before : (t : List ℕ) (c : ℕ) (cs : List ℕ) → AreIn is_blank t → is_blank c ≡ false
    → behind_blanks (t ++ (c ∷ cs)) ≡ c ∷ cs
blanks_before [] c cs h e = rw e refl
blanks_before (d ∷ ds) c cs h e =
    rw h.0 (let one : 1 + prefix_len is_blank (ds ++ (c ∷ cs)) ≡ suc (prefix_len is_blank (ds ++ (c ∷ cs))) =
    omega arith in cc (blanks_before ds c cs h.1 e))

no_line_end : (t : List ℕ) → AreIn is_blank t → has_line_end t ≡ false
no_line_end [] h = refl
no_line_end (c ∷ cs) h = grind (arith, no_line_end cs h.1)

-- spaces fit wherever they are
spaces_fit : (indent n k : ℕ) (y : List ℕ) → IsFalse (reaches_tabbed indent (n + k) false y)
    → IsFalse (reaches_tabbed indent n false (spaces k ++ y))
spaces_fit indent n zero y h = grind arith
spaces_fit indent n (suc k) y h = spaces_fit indent (n + 1) k y (rw (one n k) at h)
  where
    one : (n k : ℕ) → n + suc k ≡ n + 1 + k
    one n k = omega arith

-- and blanks right of the indentation do
blanks_fit : (indent n : ℕ) (w y : List ℕ) → AreIn is_blank w → indent ≤ n
    → ((i : ℕ) → IsFalse (reaches_tabbed indent i false y)) → IsFalse (reaches_tabbed indent n false (w ++ y))
blanks_fit indent n [] y h right fits = fits n
blanks_fit indent n (c ∷ cs) y h right fits =
    grind (arith, blanks_fit indent (n + 1) cs y h.1 (omega (arith, right)) fits)

prefix_fits : (indent : ℕ) (t y : List ℕ) → IsLinePrefix indent t
    → ((i : ℕ) → IsFalse (reaches_tabbed indent i false y)) → IsFalse (reaches_tabbed indent 0 false (t ++ y))
prefix_fits indent t y (front, blanks, (n, low, spaced), are, is) fits =
    grind (arith, append_assoc, spaces_fit, blanks_fit)

feed_fits : (indent n : ℕ) (y : List ℕ) → IsFalse (reaches_tabbed indent 0 false y)
    → IsFalse (reaches_tabbed indent n false (line_feed ∷ y))
feed_fits indent n y h = h

line_fits : (indent : ℕ) (t y : List ℕ) → IsEmptyLine indent t → IsFalse (reaches_tabbed indent 0 false y)
    → IsFalse (reaches_tabbed indent 0 false (t ++ y))
line_fits indent t y h k = grind (arith, append_assoc, spaces_fit, feed_fits, prefix_fits)

lines_fit : (indent : ℕ) (ts : List (List ℕ)) (y : List ℕ) → AreEach (IsEmptyLine indent) ts
    → IsFalse (reaches_tabbed indent 0 false y) → IsFalse (reaches_tabbed indent 0 false (joined_pieces ts ++ y))
lines_fit indent [] y h fits = fits
lines_fit indent (t ∷ ts) y h fits = rw (append_assoc t (joined_pieces ts) y)
    (line_fits indent t (joined_pieces ts ++ y) h.0 (lines_fit indent ts y h.1 fits))

-- what is between two words
pub record Gapped (indent : ℕ) (m : Marker) (t : List ℕ) : Type 0 where
  pub some : t ≢ []
  pub white : AreIn is_blank_or_break t
  pub tabs : IsFalse (reaches_tabbed indent 0 false (behind_blanks t))
  pub indented : (has_line_end t ≡ false) ⊎ (indent ≤ (moved m t).col)
  pub right : indent ≤ m.col → indent ≤ (moved m t).col

-- a line's prefix reaches the indentation
pub prefix_reaches : (indent : ℕ) (m : Marker) (t : List ℕ) → IsLinePrefix indent t → indent ≤ (moved m t).col
prefix_reaches indent m t (front, blanks, (n, low, spaced), are, is) =
    grind (arith, moved, spaces_column, moved_append, blanks_past)

folded_gap_passes : (indent : ℕ) (m : Marker) (t : List ℕ) → IsFoldedGap indent t → Gapped indent m t
folded_gap_passes indent m t (blanks, lines, front, are, (pieces, each, joins), prefix, is) =
    let many : AreIn is_blank_or_break lines = rw joins (lines_white indent pieces each) in
    let all : AreIn is_blank_or_break (blanks ++ (10 ∷ (lines ++ front))) = both_white blanks (10 ∷ (lines ++ front))
    (blanks_white blanks are) (refl, both_white lines front many (prefix_white indent front prefix)) in
    let last : IsFalse (reaches_tabbed indent 0 false front) = subst
    (λ (x : List ℕ). IsFalse (reaches_tabbed indent 0 false x))
    (append-nil front) (prefix_fits indent front [] prefix (λ i. refl)) in
    let fit : IsFalse (reaches_tabbed indent 0 false (lines ++ front)) = subst
    (λ (x : List ℕ). IsFalse (reaches_tabbed indent 0 false (x ++ front))) (sym joins)
    (lines_fit indent pieces front each last) in
    let whole : t ≡ (blanks ++ (10 ∷ lines)) ++ front = is ∙ sym (append_assoc blanks (10 ∷ lines) front) in
    let right : indent ≤ (moved m t).col = rw (whole, moved_append m (blanks ++ (10 ∷ lines)) front)
    (prefix_reaches indent (moved m (blanks ++ (10 ∷ lines))) front prefix) in
    record {
      some = λ e. not_nothing blanks 10 (lines ++ front) (sym is ∙ e);
      white = rw is all;
      tabs = rw (is, blanks_before blanks 10 (lines ++ front) are refl) (feed_fits indent 0 (lines ++ front) fit);
      indented = inr right;
      right = λ _. right;
    }

pub word_gap : (indent : ℕ) (m : Marker) (t : List ℕ) → IsWordGap indent t → Gapped indent m t
word_gap indent m t (inl h) = grind (arith, blanks_white, blanks_alone, no_line_end, blanks_past)
word_gap indent m t (inr h) = folded_gap_passes indent m t h

pub plain_gap : (f : Bool) (indent : ℕ) (m : Marker) (t : List ℕ) → IsWordGap indent t → end_of_text m t ≡ moved m t
    → IsPlainGap f indent m t
plain_gap f indent m t h e =
    let g = word_gap indent m t h in
    record { some = g.some; white = g.white; tabs = g.tabs; indented = inr (rw e g.indented) }
