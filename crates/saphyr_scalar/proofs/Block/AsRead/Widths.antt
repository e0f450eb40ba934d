-- The indentation of a block scalar is that of its widest line of spaces, or what its indicator gives.
use Rattle.saphyr_scalar.proofs.Common.{◌≡◌, ◌⊎◌, ℕ, zero, suc, ◌+◌, Bool, true, false, List, [], ◌∷◌, ◌++◌, length, slice_index, refl, sym, ap, ◌∙◌, arith, subst, inl, nat_tests, append-nil, length-replicate, normalized, is_break, is_z, line_feed, space, EmptyLines, Marker, Cursor, along, next_line, and_true_left, or_false_right, by_test, eqb-true, or_right}
use Rattle.std.specs.Prelude.{◌==◌, max, None, unwrap_or, IsTrue}
use Rattle.saphyr_scalar.specs.Steps.Block.{line_cursor, is_cr_lf, inside_break, with_column, with_empty_line, pass_empty_lines, pass_empty_lines_at, no_lines, given_indentation}
use Rattle.saphyr_scalar.specs.Values.Lines.{last_line}
use Rattle.saphyr_scalar.specs.Reading.BlockText.{all_lines, widest, is_space_or_break, AreNotWider, IsIndentationFrom}
use Rattle.saphyr_scalar.specs.Spelling.Tag.{AreIn}
use Rattle.saphyr_scalar.proofs.Block.Texts.{spaces, spaces_more, plain_spaces, first_line, only_line, normal_half, normalized_break}

lone : (j : ℕ) → widest (all_lines (spaces j ++ [])) ≡ j
lone j = grind (arith, only_line, spaces, plain_spaces, append-nil, length-replicate)

lone_column : (j : ℕ) → length (last_line (spaces j ++ [])) ≡ j
lone_column j = rw (append-nil (spaces j), (only_line (spaces j) (plain_spaces j)).1, length-replicate) refl

column_behind : (j : ℕ) (text : List ℕ) → length (last_line (spaces j ++ line_feed ∷ text)) ≡ length (last_line text)
column_behind j text = ap (λ (v : List ℕ). length v) (first_line (spaces j) text (plain_spaces j)).last

one_line_more : (j : ℕ) (text : List ℕ)
    → widest (all_lines (spaces j ++ line_feed ∷ text)) ≡ max j (widest (all_lines text))
one_line_more j text = grind (arith, first_line, spaces, plain_spaces, length-replicate)

-- What is taken off as leading lines, after j spaces of the first: spaces and breaks, and how far their lines reach.
record Width (j : ℕ) (before : EmptyLines) (xs : List ℕ) (r : EmptyLines × Cursor) : Type 0 where
  leading : List ℕ
  is : xs ≡ leading ++ r.1.rest
  are : AreIn is_space_or_break leading
  stops : is_space_or_break (slice_index r.1.rest 0) ≡ false
  width : r.0.widest ≡ max before.widest (widest (all_lines (spaces j ++ normalized leading)))
  column : r.1.mark.col ≡ length (last_line (spaces j ++ normalized leading))

width_stop : (before : EmptyLines) (b : Bool) (m : Marker) (xs : List ℕ) → is_space_or_break (slice_index xs 0) ≡ false
    → Width m.col before xs (with_column before m.col, line_cursor b m xs)
width_stop before b m xs h = grind (arith, lone, lone_column)

width_space : (j x : ℕ) (before : EmptyLines) (cs : List ℕ) (r : EmptyLines × Cursor) → x ≡ space
    → Width (j + 1) before cs r → Width j before (x ∷ cs) r
width_space j x before cs r e w = record {
  leading = 32 ∷ w.leading;
  is = ap (λ c. c ∷ cs) e ∙ ap (λ t. 32 ∷ t) w.is;
  are = (refl, w.are);
  stops = w.stops;
  width = w.width ∙ ap (λ t. max before.widest (widest (all_lines t))) (spaces_more j (normalized w.leading));
  column = w.column ∙ ap (λ t. length (last_line t)) (spaces_more j (normalized w.leading));
}

width_half : (j x : ℕ) (before : EmptyLines) (cs : List ℕ) (r : EmptyLines × Cursor) → is_cr_lf x cs ≡ true
    → is_break x ≡ true → Width j before cs r → Width j before (x ∷ cs) r
width_half j x before cs r e b w = record {
  leading = x ∷ w.leading;
  is = ap (λ t. x ∷ t) w.is;
  are = (broken, w.are);
  stops = w.stops;
  width = w.width ∙ ap (λ t. max before.widest (widest (all_lines (spaces j ++ t))))
      (sym (normal_half x cs w.leading r.1.rest e w.is (or_false_right _ _ w.stops)));
  column = w.column ∙ ap (λ t. length (last_line (spaces j ++ t)))
      (sym (normal_half x cs w.leading r.1.rest e w.is (or_false_right _ _ w.stops)));
}
  where
    broken : IsTrue (is_space_or_break x)
    broken = or_right (x == 32) (is_break x) b

width_break : (j x : ℕ) (before : EmptyLines) (cs : List ℕ) (r : EmptyLines × Cursor) → is_cr_lf x cs ≡ false
    → is_break x ≡ true → Width 0 (with_empty_line before j) cs r → Width j before (x ∷ cs) r
width_break j x before cs r e b w = record {
  leading = x ∷ w.leading;
  is = ap (λ t. x ∷ t) w.is;
  are = (broken, w.are);
  stops = w.stops;
  width =
      let others = widest (all_lines (normalized w.leading)) in
      let own : r.0.widest ≡ max (max before.widest j) others = w.width in
      rw (ap (λ t. widest (all_lines (spaces j ++ t))) (normalized_break x cs w.leading r.1.rest e b w.is)
      ∙ one_line_more j (normalized w.leading)) (omega (arith, own));
  column = cc (normalized_break x cs w.leading r.1.rest e b w.is, column_behind j (normalized w.leading));
}
  where
    broken : IsTrue (is_space_or_break x)
    broken = or_right (x == 32) (is_break x) b

half_breaks : (x : ℕ) (cs : List ℕ) → is_cr_lf x cs ≡ true → is_break x ≡ true
half_breaks x cs h = ap is_break (eqb-true x 13 (and_true_left (x == 13) (slice_index cs 0 == 10) h))

widths : (before : EmptyLines) (b : Bool) (m : Marker) (xs : List ℕ)
    → Width m.col before xs (pass_empty_lines None before b m xs)
unfolding pass_empty_lines
widths before b m [] = width_stop before b m [] refl
widths before b m (x ∷ cs) = by_test (x == 32) _ _ (Width m.col before (x ∷ cs))
    (λ h. width_space m.col x before cs _ (eqb-true x 32 h) (widths before b (along m 1) cs))
    (λ h0. by_test (is_cr_lf x cs) _ _ (Width m.col before (x ∷ cs))
    (λ h. width_half m.col x before cs _ h (half_breaks x cs h) (widths before b (inside_break m) cs))
    (λ h1. by_test (is_break x) _ _ (Width m.col before (x ∷ cs))
    (λ h. width_break m.col x before cs _ h1 h (widths (with_empty_line before m.col) true (next_line m 1) cs))
    (λ h2. width_stop before b m (x ∷ cs) (rw (h0, h2) refl))))

-- no line of spaces is wider than what begins after them
abbrev pub Fits : ℕ → ℕ → ℕ → List ℕ → Type 0
Fits indent column i others = IsTrue (is_z (slice_index others 0)) ⊎ AreNotWider indent column i

abbrev pub IsFit : ℕ → ℕ → Cursor → Type 0
IsFit indent n u =
    let limit = given_indentation indent n in
    let x = pass_empty_lines_at limit no_lines u in
    Fits indent x.1.mark.col (unwrap_or limit (max x.0.widest indent)) x.1.rest

-- at the start of a line
pub indentation_read : (indent n : ℕ) (u : Cursor) → u.mark.col ≡ 0 → IsFit indent n u
    → IsIndentationFrom indent n u.rest
    (unwrap_or (given_indentation indent n)
    (max (pass_empty_lines_at (given_indentation indent n) no_lines u).0.widest indent))
unfolding given_indentation
indentation_read indent zero u col fit =
    let w = widths no_lines u.blank_so_far u.mark u.rest in
    let reach : (pass_empty_lines_at None no_lines u).0.widest ≡ widest (all_lines (normalized w.leading)) =
    w.width ∙ ap (λ j. max 0 (widest (all_lines (spaces j ++ normalized w.leading)))) col ∙ omega arith in
    let column : (pass_empty_lines_at None no_lines u).1.mark.col ≡ length (last_line (normalized w.leading)) =
    w.column ∙ ap (λ j. length (last_line (spaces j ++ normalized w.leading))) col in (
      w.leading,
      (pass_empty_lines_at None no_lines u).1.rest,
      w.is,
      w.are,
      w.stops,
      ap (λ k. max k indent) reach,
      subst (λ k. Fits indent k (max (pass_empty_lines_at None no_lines u).0.widest indent)
          (pass_empty_lines_at None no_lines u).1.rest) column fit,
    )
indentation_read indent (suc n) u col fit = let some : (suc n == 0) ≡ false = grind (arith, nat_tests) in rw some refl

-- before a NUL or the end
pub indentation_at_end : (indent n : ℕ) (xs : List ℕ) → is_z (slice_index xs 0) ≡ true
    → (i : ℕ) × IsIndentationFrom indent n xs i
indentation_at_end indent zero xs z =
    (indent, ([], xs, refl, tt, ap is_space_or_break (eqb-true (slice_index xs 0) 0 z), omega arith, inl z))
indentation_at_end indent (suc n) xs z = (_, refl)
