-- Blanks, breaks and words of a quoted scalar are read, after each gap that fits, and so is its closing quote.
use Rattle.scalar_laws.proofs.Common.{◌≡◌, ℕ, Bool, true, false, List, [], ◌∷◌, ◌++◌, drop, slice_index, Ok, refl, ◌∙◌, arith, IsTrue, nat_tests, apostrophe, backslash, is_blank, is_break, tab, Marker, Item, Raw, Escaped, EscapedBreak, Blank, Break, Quote, Single, Double, along, next_line, IsPassed, nothing, character, line_break, along_more, quoted_behind_gap, behind_no_gap, IsQuotedContent, stands, one_blank, at_break, escape_content, gap_bytes, gap_front, closed_bytes, raw_bytes, escaped_bytes, escaped_break_bytes, blank_bytes, break_bytes, blank_cases, blank_no_break, IsLine}
use Rattle.std.specs.Prelude.{◌&&◌, ◌==◌, encode_utf8}
use Rattle.saphyr_scalar.specs.Values.Flow as flow
use Rattle.saphyr_scalar.specs.Steps.Quoted.{is_literal, mid_line, QuotedGap, on_line, over_lines, no_gap, is_left, quoted_line, end_gap, escaped_gap, break_len, is_closing, escaped_character, inner_text, blank_in, break_in}
use Rattle.saphyr_scalar.specs.Spelling.Quoted as quotes
use Rattle.saphyr_scalar.proofs.Quoted.Parts.{at_escape, at_two_quotes}
use Rattle.saphyr_scalar.proofs.Quoted.Gaps.{at_escaped_break, at_closing, by_break_len}
use Rattle.scalar_laws.proofs.Quoted.IndentedLines.{Indented, GapFits, right_of, line_indented, behind_space, behind_tab}
use Rattle.saphyr_scalar.proofs.Quoted.Lines.{fits_right}
use Rattle.saphyr_scalar.proofs.Quoted.SpelledWords.{content_item}

-- What was read of a spelled text.
pub record Read (q : Quote) (indent : ℕ) (start : Marker) (gap : QuotedGap) (m : Marker) (t : List ℕ)
    (items : List Item)
    (x : List ℕ) : Type 0 where
  pub mark : Marker
  pub passed : IsPassed m t mark x
  pub is : inner_text q indent start gap 0 m t ≡ Ok (gap_bytes gap items, mid_line mark x)

-- a word, or the closing quote
pub record WordRead (q : Quote) (indent : ℕ) (start m : Marker) (t : List ℕ) (items : List Item) (x : List ℕ)
    : Type 0 where
  pub first : ℕ
  pub others : List ℕ
  pub cut : t ≡ first ∷ others
  pub content : IsQuotedContent first
  pub text : List ℕ
  pub mark : Marker
  pub passed : IsPassed m t mark x
  pub is : inner_text q indent start no_gap 0 m t ≡ Ok (text, mid_line mark x)
  pub bytes : (gap : QuotedGap) → gap_front gap ++ text ≡ gap_bytes gap items

ends_gap : (indent : ℕ) (start : Marker) (gap : QuotedGap) (m : Marker) (c : ℕ) (cs : List ℕ) → IsQuotedContent c
    → GapFits indent gap m (c ∷ cs) → end_gap indent start gap (mid_line m (c ∷ cs)) ≡ Ok (gap_front gap)
unfolding end_gap quoted_line
ends_gap indent start (on_line bytes) m c cs is fits = rw is.nul refl
ends_gap indent start (over_lines escaped n) m c cs is fits = grind arith

pub with_gap : (q : Quote) (indent : ℕ) (start : Marker) (gap : QuotedGap) (m : Marker) (t : List ℕ) (items : List Item)
    (x : List ℕ) → GapFits indent gap m t → WordRead q indent start m t items x → Read q indent start gap m t items x
with_gap q indent start gap m t items x fits w = grind (arith, quoted_behind_gap, ends_gap)

pub mark_content : (q : Quote) → IsQuotedContent (flow.mark q)
mark_content q = grind arith

pub closed_read : (q : Quote) (indent : ℕ) (start m : Marker) (x : List ℕ) → IsTrue (is_closing q (flow.mark q ∷ x))
    → WordRead q indent start m (flow.mark q ∷ x) [] x
closed_read q indent start m x h = record {
  first = flow.mark q;
  others = x;
  cut = refl;
  content = mark_content q;
  text = [];
  mark = along m 1;
  passed = character m (flow.mark q) x (along m 1) x (mark_content q).break (nothing (along m 1) x);
  is = at_closing q indent start m x h;
  bytes = closed_bytes;
}

pub literal_read : (q : Quote) (indent : ℕ) (start m : Marker) (c : ℕ) (t : List ℕ) (items : List Item) (x : List ℕ)
    → IsQuotedContent c → is_literal q c ≡ true → Read q indent start no_gap (along m 1) t items x
    → WordRead q indent start m (c ∷ t) (Raw c ∷ items) x
literal_read q indent start m c t items x content h r = record {
  first = c;
  others = t;
  cut = refl;
  content = content;
  text = encode_utf8 c ++ gap_bytes no_gap items;
  mark = r.mark;
  passed = character m c t r.mark x content.break r.passed;
  is = cc (stands q indent start m c t h);
  bytes = λ gap. raw_bytes gap c items;
}

pub two_quotes_read : (indent : ℕ) (start m : Marker) (t : List ℕ) (items : List Item) (x : List ℕ)
    → Read Single indent start no_gap (along m 2) t items x
    → WordRead Single indent start m (apostrophe ∷ apostrophe ∷ t) (Raw apostrophe ∷ items) x
two_quotes_read indent start m t items x r = record {
  first = 39;
  others = 39 ∷ t;
  cut = refl;
  content = mark_content Single;
  text = encode_utf8 39 ++ gap_bytes no_gap items;
  mark = r.mark;
  passed = character m 39 (39 ∷ t) r.mark x refl
      (character (along m 1) 39 t r.mark x refl (rw (along_more m 1 1 2 refl) r.passed));
  is = cc (at_two_quotes indent start m t);
  bytes = λ gap. raw_bytes gap 39 items;
}

-- an escape, and what is read after it
pub escape_read : (indent : ℕ) (start m : Marker) (e c : ℕ) (t : List ℕ) (items : List Item) (x rest : List ℕ) (k : ℕ)
    → is_break e ≡ false → escaped_character start (mid_line m (backslash ∷ e ∷ t)) ≡ Ok (c, mid_line (along m k) rest)
    → (r : Read Double indent start no_gap (along m k) rest items x) → IsPassed m (backslash ∷ e ∷ t) r.mark x
    → WordRead Double indent start m (backslash ∷ e ∷ t) (Escaped c ∷ items) x
escape_read indent start m e c t items x rest k no_break h r passed = record {
  first = 92;
  others = e ∷ t;
  cut = refl;
  content = escape_content;
  text = encode_utf8 c ++ gap_bytes no_gap items;
  mark = r.mark;
  passed = passed;
  is = cc (at_escape indent start m (e ∷ t) no_break);
  bytes = λ gap. escaped_bytes gap c items;
}

pub escaped_break_read : (indent : ℕ) (start m : Marker) (t : List ℕ) (items : List Item) (x : List ℕ)
    → is_break (slice_index t 0) ≡ true
    → (r : Read Double indent start (over_lines true 0) (next_line (along m 1) (break_len t)) (drop (break_len t) t)
    items x) → inner_text Double indent start (escaped_gap Double (slice_index (drop (break_len t) t) 0)) 0
    (next_line (along m 1) (break_len t)) (drop (break_len t) t)
    ≡ Ok (gap_bytes (over_lines true 0) items, mid_line r.mark x)
    → WordRead Double indent start m (backslash ∷ t) (EscapedBreak ∷ items) x
escaped_break_read indent start m t items x h r same = record {
  first = 92;
  others = t;
  cut = refl;
  content = escape_content;
  text = gap_bytes (over_lines true 0) items;
  mark = r.mark;
  passed = character m 92 t r.mark x refl (line_break (along m 1) t r.mark x h r.passed);
  is = at_escaped_break indent start m t h ∙ same;
  bytes = λ gap. escaped_break_bytes gap items;
}

-- right after an escaped break the closing quote is read as elsewhere on its line
pub same_at_quote : (indent : ℕ) (start m : Marker) (t : List ℕ) → Indented indent m t
    → inner_text Double indent start (escaped_gap Double (slice_index t 0)) 0 m t
    ≡ inner_text Double indent start (over_lines true 0) 0 m t
same_at_quote indent start m [] fits = refl
same_at_quote indent start m (c ∷ cs) fits =
    grind (arith, nat_tests, at_closing, quoted_behind_gap, ends_gap, mark_content, behind_no_gap)

-- a blank at the start of a line leaves it indented
record BlankFits (indent : ℕ) (m : Marker) (c : ℕ) (t : List ℕ) : Type 0 where
  test : ((c == tab) && is_left indent m) ≡ false
  behind : Indented indent (along m 1) t

blank_fits : (indent : ℕ) (m : Marker) (c : ℕ) (t : List ℕ) → is_blank c ≡ true → Indented indent m (c ∷ t)
    → BlankFits indent m c t
blank_fits indent m c t h = blank_cases c h (λ x. Indented indent m (x ∷ t) → BlankFits indent m x t)
    (λ fits. record { test = refl; behind = behind_space indent m t fits })
    (λ fits. let right = right_of indent m 9 t refl refl fits in
    record { test = fits_right 9 m.col indent (omega arith); behind = behind_tab indent m t fits })

-- what is read after a blank, whatever the gap
abbrev pub ReadsBehindBlank : Quote → ℕ → Marker → Marker → List ℕ → List Item → List ℕ → Type 0
ReadsBehindBlank q indent start m t items x = (gap : QuotedGap) → GapFits indent gap m t
    → Read q indent start gap m t items x

blank_read : (q : Quote) (indent : ℕ) (start : Marker) (gap : QuotedGap) (m : Marker) (c : ℕ) (t : List ℕ)
    (items : List Item)
    (x : List ℕ) → is_blank c ≡ true → GapFits indent gap m (c ∷ t) → ReadsBehindBlank q indent start
    (along m 1) t items x → Read q indent start gap m (c ∷ t) (Blank c ∷ items) x
unfolding inner_text blank_in
blank_read q indent start (on_line bytes) m c t items x h fits r =
    let b = r (on_line (bytes ++ encode_utf8 c)) tt in
    record {
      mark = b.mark;
      passed = character m c t b.mark x (blank_no_break c h) b.passed;
      is = cc (one_blank q indent start bytes m c t h, blank_bytes bytes c items);
    }
blank_read q indent start (over_lines escaped n) m c t items x h fits r =
    let f = blank_fits indent m c t h fits in
    let b = r (over_lines escaped n) f.behind in
    record {
      mark = b.mark;
      passed = character m c t b.mark x (blank_no_break c h) b.passed;
      is = (rw (h, f.test) refl) ∙ b.is;
    }

pub itself_read : (q : Quote) (indent : ℕ) (start : Marker) (gap : QuotedGap) (m : Marker) (c : ℕ) (t : List ℕ)
    (items : List Item) (x : List ℕ) → IsTrue (quotes.stands_for_itself q c) → GapFits indent gap m (c ∷ t)
    → ReadsBehindBlank q indent start (along m 1) t items x
    → Read q indent start gap m (c ∷ t) (flow.raw_item c ∷ items) x
unfolding is_literal
itself_read q indent start gap m c t items x h fits r =
    grind (arith, blank_cases, blank_read, content_item, with_gap, literal_read)

pub broken_read : (q : Quote) (indent : ℕ) (start : Marker) (gap : QuotedGap) (m : Marker) (t : List ℕ)
    (items : List Item) (x : List ℕ) → is_break (slice_index t 0) ≡ true → IsLine indent (drop (break_len t) t)
    → ReadsBehindBlank q indent start (next_line m (break_len t)) (drop (break_len t) t) items x
    → Read q indent start gap m t (Break ∷ items) x
broken_read q indent start gap m t items x h line r =
    let here = mid_line m t in
    let on : inner_text q indent start gap 0 m t
    ≡ inner_text q indent start (break_in gap) 0 (next_line m (break_len t)) (drop (break_len t) t) =
    cc (at_break q indent start gap here h, by_break_len here h) in
    let b = r (break_in gap) (fits_line gap) in
    record {
      mark = b.mark;
      passed = line_break m t b.mark x h b.passed;
      is = cc (break_bytes gap items);
    }
  where
    fits_line : (gap : QuotedGap) → GapFits indent (break_in gap) (next_line m (break_len t)) (drop (break_len t) t)
    fits_line (on_line bytes) = line_indented indent (next_line m (break_len t)) (drop (break_len t) t) refl line
    fits_line (over_lines escaped n) = line_indented indent (next_line m (break_len t)) (drop (break_len t) t) refl line
