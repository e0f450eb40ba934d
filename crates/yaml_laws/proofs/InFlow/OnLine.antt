-- Parts of one line, and plain scalars at an indentation that is further left.
use Rattle.yaml_laws.proofs.Common.{Bool, List, [], ap, append_assoc, arith, false, inl, inr, refl, subst, sym, true, ℕ, ◌++◌, ◌∙◌, ◌∷◌, ◌≡◌, ◌≤◌, not, ◌==◌, is_blank, line_feed, spaces, AreIn, AreEach, AreMany, IsLinePrefix, IsSeparation, IsSeparationLine, joined_pieces, back_in, front_in, IsEmptyLine, IsFurtherWord, IsLoneDash, IsPlain, IsPlainKey, IsWordGap, IsOnLine}

-- ## Parts of a line

pub front_on_line : (a b t : List ℕ) → t ≡ a ++ b → IsOnLine t → IsOnLine a
front_on_line a b t e h = front_in (λ c. not (c == line_feed)) a b (rw e at h)

pub back_on_line : (a b t : List ℕ) → t ≡ a ++ b → IsOnLine t → IsOnLine b
back_on_line a b t e h = back_in (λ c. not (c == line_feed)) a b (rw e at h)

-- separation on one line is blanks
pub blanks_on_line : (indent : ℕ) (w : List ℕ) → IsSeparation indent w → IsOnLine w → AreIn is_blank w
blanks_on_line indent w (lines, blanks, (pieces, each, lines_are), are, e) h = by_lines pieces each lines_are
  where
    no_feed : (a b : List ℕ) → IsOnLine (a ++ (line_feed ∷ b)) → ⊥
    no_feed a b k = absurd (let f : false ≡ true = (back_in (λ c. not (c == line_feed)) a (10 ∷ b) k).0 in cc)

    by_lines : (pieces : List (List ℕ)) → AreEach (IsSeparationLine indent) pieces → lines ≡ joined_pieces pieces
        → AreIn is_blank w
    by_lines [] each lines_are = subst (AreIn is_blank) (sym (cc)) are
    by_lines (p ∷ ps) ((first, comment, filler, first_are, k, filler_is, line_is), others) lines_are =
        let inside : w ≡ (first ++ comment) ++ (10 ∷ ((filler ++ spaces indent) ++ (joined_pieces ps ++ blanks))) =
        e ∙ ap (λ (t : List ℕ). t ++ blanks) lines_are ∙ ap (λ (t : List ℕ). (t ++ joined_pieces ps) ++ blanks) line_is
        ∙ simp append_assoc in
        absurd (no_feed (first ++ comment) ((filler ++ spaces indent) ++ (joined_pieces ps ++ blanks)) (rw inside at h))

pub separation_of_blanks : (indent : ℕ) (w : List ℕ) → AreIn is_blank w → IsSeparation indent w
separation_of_blanks indent w h = ([], w, ([], tt, refl), h, refl)

-- ## Plain scalars further left

prefix_lowers : (i j : ℕ) → j ≤ i → (t : List ℕ) → IsLinePrefix i t → IsLinePrefix j t
prefix_lowers i j low t (front, blanks, (n, least, spaced), are, is) = grind arith

empty_lines_lower : (i j : ℕ) → j ≤ i → (ts : List (List ℕ)) → AreEach (IsEmptyLine i) ts → AreEach (IsEmptyLine j) ts
empty_lines_lower i j low [] h = tt
empty_lines_lower i j low (t ∷ ts) ((front, inl spaced, is), others) =
    ((front, inl spaced, is), empty_lines_lower i j low ts others)
empty_lines_lower i j low (t ∷ ts) ((front, inr prefix, is), others) =
    ((front, inr (prefix_lowers i j low front prefix), is), empty_lines_lower i j low ts others)

gap_lowers : (i j : ℕ) → j ≤ i → (t : List ℕ) → IsWordGap i t → IsWordGap j t
gap_lowers i j h t k = grind (arith, empty_lines_lower, prefix_lowers)

dashes_lower : (i j : ℕ) → j ≤ i → (t : List ℕ) → AreMany (IsLoneDash i) t → AreMany (IsLoneDash j) t
dashes_lower i j low t (pieces, each, joins) = (pieces, by_pieces pieces each, joins)
  where
    by_pieces : (pieces : List (List ℕ)) → AreEach (IsLoneDash i) pieces → AreEach (IsLoneDash j) pieces
    by_pieces [] h = tt
    by_pieces (p ∷ ps) ((gap, gapped, is), others) = ((gap, gap_lowers i j low gap gapped, is), by_pieces ps others)

words_lower : (i j : ℕ) → j ≤ i → (f : Bool) (pieces : List (List ℕ)) → AreEach (IsFurtherWord f i) pieces
    → AreEach (IsFurtherWord f j) pieces
words_lower i j low f [] h = tt
words_lower i j low f (p ∷ ps) ((dashes, gap, word, lone, gapped, is_word, is), others) =
    search (dashes_lower, gap_lowers, words_lower i j low f ps others)

pub plain_lowers : (i j : ℕ) → j ≤ i → (f : Bool) (t : List ℕ) → IsPlain f i t → IsPlain f j t
plain_lowers i j low f t (first, others, is_first, (pieces, each, joins), is) = search (words_lower)

pub plain_key_lowers : (i j : ℕ) → j ≤ i → (f : Bool) (t : List ℕ) → IsPlainKey f i t → IsPlainKey f j t
plain_key_lowers i j low f t (inl h) = inl h
plain_key_lowers i j low f t (inr (plain, dashes, gap, word, h, lone, gapped, last, e)) =
    inr (
      plain,
      dashes,
      gap,
      word,
      plain_lowers i j low f plain h,
      dashes_lower i j low dashes lone,
      gap_lowers i j low gap gapped,
      last,
      e,
    )
