-- What is read as a quoted scalar is spelled so, and its text is the reading of its items.
use Rattle.saphyr_scalar.proofs.Common.{◌≡◌, ℕ, zero, suc, ◌≤◌, false, List, [], ◌∷◌, ◌++◌, length, drop, slice_index, Result, Ok, Err, refl, sym, ap, ◌∙◌, arith, encode_utf8_all, is_z, is_blank, is_break, Marker, Refusal, Item, Quote, Cursor, ◌>>=◌, along}
use Rattle.std.specs.Prelude.{◌-◌}
use Rattle.saphyr_scalar.specs.Values.Flow as flow
use Rattle.saphyr_scalar.specs.Values.Folding.{folded}
use Rattle.saphyr_scalar.specs.Steps.Quoted.{TextRead, mid_line, QuotedGap, no_gap, quoted_line, end_gap, inner_text, quoted}
use Rattle.saphyr_scalar.specs.Spelling.IndentedQuotes.{HasIndentedLines}
use Rattle.saphyr_scalar.specs.Spelling.QuotedMarkers.{HasNoMarker}
use Rattle.saphyr_scalar.proofs.Quoted.Clean as quotes
use Rattle.saphyr_scalar.proofs.Quoted.Clean.{IsClear}
use Rattle.saphyr_scalar.specs.Passing.{IsPassed, character}
use Rattle.saphyr_scalar.proofs.Quoted.Inside.{quoted_behind_gap, behind_no_gap, word_from}
use Rattle.saphyr_scalar.proofs.Quoted.SpelledEscapes.{GaveText, nothing_text, front_gave}
use Rattle.saphyr_scalar.proofs.NoBreaks.{mark_no_break, mark_no_nul}
use Rattle.saphyr_scalar.proofs.Quoted.GapBytes.{gap_front, no_gap_bytes}
use Rattle.saphyr_scalar.proofs.Quoted.SpelledGaps.{IsOverLines, Spelled, Known, enough, blank_step, break_step}
use Rattle.saphyr_scalar.proofs.Quoted.SpelledWords.{cases, word_spelled}

-- what ends a gap
pub record Ended (indent : ℕ) (gap : QuotedGap) (col : ℕ) (xs text : List ℕ) : Type 0 where
  pub bytes : text ≡ gap_front gap
  pub clear : IsOverLines gap → col ≡ 0 → IsClear xs
  pub right : IsOverLines gap → indent ≤ col
  pub nul : is_z (slice_index xs 0) ≡ false

pub gap_ended : (indent : ℕ) (start : Marker) (gap : QuotedGap) (s : Cursor) (text : List ℕ)
    → end_gap indent start gap s ≡ Ok text → Ended indent gap s.mark.col s.rest text
unfolding end_gap quoted_line
gap_ended indent start u0 s text = grind arith

then_front : (r : Result (List ℕ) Refusal) (f : List ℕ → TextRead) (b : List ℕ) (s : Cursor) → GaveText (r >>= f) b s
    → (text : List ℕ) × (r ≡ Ok text) × GaveText (f text) b s
then_front (Ok x) f b s e = (x, refl, e)
then_front (Err r) f b s e = nothing_text r b s e

content_step : (n : ℕ) (q : Quote) (indent : ℕ) (start : Marker) (gap : QuotedGap) (m : Marker) (c : ℕ) (cs b : List ℕ)
    (s : Cursor) → is_blank c ≡ false → is_break c ≡ false → length cs ≤ n → Known n q indent start
    → GaveText (inner_text q indent start gap 0 m (c ∷ cs)) b s → Spelled indent q gap m (c ∷ cs) b s
content_step n q indent start gap m c cs b s blank break le known g =
    let t = then_front (end_gap indent start gap (mid_line m (c ∷ cs))) _ b s
    (sym (quoted_behind_gap q indent start gap m c cs blank break) ∙ g) in
    let ended = gap_ended indent start gap (mid_line m (c ∷ cs)) t.0 t.1 in
    let f = front_gave t.0 (word_from q indent start m c cs) b s t.2 in
    let w = word_spelled n q indent start m c cs f.0 s (record { blank = blank; break = break; nul = ended.nul }) le
    known (behind_no_gap q indent start m c cs blank break ended.nul ∙ f.1) in
    record {
      items = w.items;
      is = w.is;
      bytes = sym (w.bytes gap) ∙ ap (λ x. x ++ f.0) (sym ended.bytes) ∙ f.2;
      passed = w.passed;
      clear = ended.clear;
      reached = λ o. let right = ended.right o in
          enough (indent - m.col) (c ∷ cs) (omega (arith, right));
    }

at_text_end : (q : Quote) (indent : ℕ) (start : Marker) (gap : QuotedGap) (m : Marker) (b : List ℕ) (s : Cursor)
    → GaveText (inner_text q indent start gap 0 m []) b s → Spelled indent q gap m [] b s
unfolding inner_text
at_text_end q indent start gap m b s g = nothing_text _ b s g

inside_spelled : (n : ℕ) (q : Quote) (indent : ℕ) (start : Marker) (gap : QuotedGap) (m : Marker) (xs b : List ℕ)
    (s : Cursor)
    → length xs ≤ n → GaveText (inner_text q indent start gap 0 m xs) b s → Spelled indent q gap m xs b s
inside_spelled n q indent start gap m [] b s le g = at_text_end q indent start gap m b s g
inside_spelled zero q indent start gap m (c ∷ cs) b s le g = absurd (omega arith)
inside_spelled (suc n) q indent start gap m (c ∷ cs) b s le g =
    let known : Known n q indent start = λ gap m xs b s le g. inside_spelled n q indent start gap m xs b s le g in
    cases (is_blank c)
    (λ blank. blank_step n q indent start gap m c cs b s blank (omega arith) known g)
    (λ blank. cases (is_break c)
    (λ break. break_step n q indent start gap m c cs b s break (omega arith) known g)
    (λ break. content_step n q indent start gap m c cs b s blank break (omega arith) known g))

-- What was read as a quoted scalar is spelled so, its items read as the text, and no later line begins with a document
-- marker or is indented less than it has to be.
pub quoted_clean : (q : Quote) (indent : ℕ) (t : Cursor) (b : List ℕ) (s : Cursor) → slice_index t.rest 0 ≡ flow.mark q
    → GaveText (quoted q indent t) b s
    → (items : List Item) × (is : quotes.IsQuotedText q t.rest items s.rest) × (encode_utf8_all (folded items) ≡ b)
    × IsPassed t.mark t.rest s.mark s.rest × HasNoMarker q is.0 items s.rest is.2
    × HasIndentedLines indent q is.0 items s.rest is.2
unfolding quoted
quoted_clean q indent t b s quote g =
    let inner = inside_spelled (length (drop 1 t.rest)) q indent t.mark no_gap (along t.mark 1) (drop 1 t.rest) b s
    (omega arith) g in
    let cut = opened q t.rest quote in (
      inner.items,
      (drop 1 t.rest, cut, inner.is.0),
      sym (no_gap_bytes inner.items) ∙ inner.bytes,
      rw cut (character t.mark (flow.mark q) (drop 1 t.rest) s.mark s.rest (mark_no_break q) inner.passed),
      inner.is.1,
      inner.is.2,
    )
  where
    opened : (q : Quote) (xs : List ℕ) → slice_index xs 0 ≡ flow.mark q → xs ≡ flow.mark q ∷ drop 1 xs
    opened q [] h = absurd (mark_no_nul q h)
    opened q (c ∷ cs) h = ap (λ x. x ∷ cs) h

pub quoted_spelled : (q : Quote) (indent : ℕ) (t : Cursor) (b : List ℕ) (s : Cursor)
    → slice_index t.rest 0 ≡ flow.mark q → GaveText (quoted q indent t) b s
    → (items : List Item) × quotes.IsQuotedText q t.rest items s.rest × (encode_utf8_all (folded items) ≡ b)
    × IsPassed t.mark t.rest s.mark s.rest
quoted_spelled q indent t b s quote g = let r = quoted_clean q indent t b s quote g in (r.0, r.1, r.2, r.3)
