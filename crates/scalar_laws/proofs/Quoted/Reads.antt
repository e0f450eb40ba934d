-- A quoted scalar whose lines are indented as they should be is read, without a fault, and gives the reading of its
-- items.
use Rattle.scalar_laws.proofs.Common.{◌≡◌, arith, ℕ, ◌+◌, true, List, [], ◌∷◌, ◌++◌, length, drop, Ok, refl, ◌∙◌, encode_utf8_all, Marker, Item, Escaped, Break, EscapedBreak, Quote, Single, Double, Cursor, along, next_line, folded, IsPassed, character, along_more, letter_passed, digits_passed, letter_read, number_read, no_break_simple, no_break_digits, no_gap_bytes, LinesFit}
use Rattle.saphyr_scalar.specs.Values.Flow as flow
use Rattle.saphyr_scalar.specs.Steps.Quoted.{mid_line, over_lines, no_gap, break_len, escaped_character, quoted}
use Rattle.saphyr_scalar.specs.Spelling.Quoted as quotes
use Rattle.scalar_laws.proofs.Quoted.IndentedLines.{line_indented}
use Rattle.scalar_laws.proofs.Quoted.WordsRead.{with_gap, mark_content, closed_read, two_quotes_read, escape_read, escaped_break_read, same_at_quote, ReadsBehindBlank, itself_read, broken_read}

-- The items inside quotes are read, by recursion over the spelling. A row for each kind of item; what a reading makes
-- of the blanks before it is the same in each (`with_gap`).
inside_read : (indent : ℕ) (start : Marker) (q : Quote) (t : List ℕ) (items : List Item) (x : List ℕ)
    (r : quotes.IsText q t items x) → LinesFit indent q t items x r → (m : Marker)
    → ReadsBehindBlank q indent start m t items x
inside_read indent start _ _ _ _ (quotes.closed q x h) fit m =
    λ gap fits. with_gap q indent start gap m (flow.mark q ∷ x) [] x fits (closed_read q indent start m x h)
inside_read indent start _ _ _ _ (quotes.itself q c t items x h r) fit m =
    search (itself_read, inside_read indent start q t items x r fit (along m 1))
inside_read indent start _ _ _ _ (quotes.broken q t items x h r) fit m =
    search (broken_read, inside_read indent start q (drop (break_len t) t) items x r fit.1 (next_line m (break_len t)))
inside_read indent start _ _ _ _ (quotes.two_quotes t items x r) fit m =
    search (with_gap, two_quotes_read, inside_read indent start Single t items x r fit (along m 2) no_gap tt)
inside_read indent start _ _ _ _ (quotes.escaped e c t items x h r) fit m =
    let more = inside_read indent start Double t items x r fit (along m 2) no_gap tt in
    search (with_gap, escape_read, no_break_simple, letter_read, letter_passed, more)
inside_read indent start _ _ _ _ (quotes.numbered e c ds t items x h r) fit m = λ gap fits.
    let k = 2 + length ds in
    let b = inside_read indent start Double t items x r fit (along m k) no_gap tt in
    let place : escaped_character start (mid_line m (92 ∷ e ∷ (ds ++ t))) ≡ Ok (c, mid_line (along m k) t) =
    cc (number_read start m e c ds t h, along_more m 2 (length ds) k refl) in
    let passed = letter_passed m e (ds ++ t) b.mark x (no_break_digits e (length ds) h.count)
    (digits_passed (along m 2) ds t b.mark x h.hex (rw (along_more m 2 (length ds) k refl) b.passed)) in
    with_gap Double indent start gap m (92 ∷ e ∷ (ds ++ t)) (Escaped c ∷ items) x fits
    (escape_read indent start m e c (ds ++ t) items x t k (no_break_digits e (length ds) h.count) place b passed)
inside_read indent start _ _ _ _ (quotes.escaped_break t items x h r) fit m = λ gap fits.
    let place = next_line (along m 1) (break_len t) in
    let line = line_indented indent place (drop (break_len t) t) refl fit.0 in
    let b = inside_read indent start Double (drop (break_len t) t) items x r fit.1 place (over_lines true 0) line in
    with_gap Double indent start gap m (92 ∷ t) (EscapedBreak ∷ items) x fits
    (escaped_break_read indent start m t items x h b
    (same_at_quote indent start place (drop (break_len t) t) line ∙ b.is))

-- A quoted scalar that is spelled so is read, and the places after its characters are passed one after another.
pub quoted_read : (q : Quote) (indent : ℕ) (s : Cursor) (items : List Item) (x : List ℕ)
    (is : quotes.IsQuotedText q s.rest items x) → LinesFit indent q is.0 items x is.2
    → (m : Marker) × IsPassed s.mark s.rest m x × (quoted q indent s ≡ Ok
    (encode_utf8_all (folded items), mid_line m x))
unfolding quoted
quoted_read q indent s items x is fit =
    let (inside_text, cut, text) = is in
    let b = inside_read indent s.mark q inside_text items x text fit (along s.mark 1) no_gap tt in (
      b.mark,
      rw cut (character s.mark (flow.mark q) inside_text b.mark x (mark_content q).break b.passed),
      cc (no_gap_bytes items),
    )

-- no line break is among the items
abbrev pub AreOnLine : List Item → Type 0
AreOnLine [] = Unit {0}
AreOnLine (Break ∷ items) = ⊥
AreOnLine (EscapedBreak ∷ items) = ⊥
AreOnLine (_ ∷ items) = AreOnLine items

-- a scalar on one line has no later line
pub line_fits : (indent : ℕ) (q : Quote) (t : List ℕ) (items : List Item) (x : List ℕ) (r : quotes.IsText q t items x)
    → AreOnLine items → LinesFit indent q t items x r
line_fits indent _ _ _ _ (quotes.closed q x h) on = tt
line_fits indent _ _ _ _ (quotes.itself q c t items x h r) on =
    line_fits indent q t items x r (grind arith)
line_fits indent _ _ _ _ (quotes.broken q t items x h r) on = absurd on
line_fits indent _ _ _ _ (quotes.two_quotes t items x r) on = line_fits indent Single t items x r on
line_fits indent _ _ _ _ (quotes.escaped e c t items x h r) on = line_fits indent Double t items x r on
line_fits indent _ _ _ _ (quotes.numbered e c ds t items x h r) on = line_fits indent Double t items x r on
line_fits indent _ _ _ _ (quotes.escaped_break t items x h r) on = absurd on
