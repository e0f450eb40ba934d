-- The words of a quoted scalar that is read are spelled so, and its closing quote.
use Rattle.saphyr_scalar.proofs.Common.{◌≡◌, ℕ, ◌≤◌, Bool, true, false, List, [], ◌∷◌, ◌++◌, length, drop, slice_index, refl, sym, ap, ◌∙◌, arith, subst, IsTrue, cond, ◌==◌, encode_utf8, is_break, Marker, Item, Raw, Escaped, EscapedBreak, Quote, Single, Double, Cursor, along, next_line, eqb-true, or_right, apostrophe, backslash, quotation_mark, either, or_false_left, drop_shorter}
use Rattle.saphyr_scalar.specs.Values.Flow as flow
use Rattle.saphyr_scalar.specs.Steps.Quoted.{is_literal, mid_line, QuotedGap, over_lines, no_gap, escaped_gap, break_len, is_closing, escaped_character, inner_text, inner_text_at}
use Rattle.saphyr_scalar.specs.Spelling.LaterLines.{is_quoted_line}
use Rattle.saphyr_scalar.proofs.Quoted.Clean as quotes
use Rattle.saphyr_scalar.proofs.Quoted.Clean.{IsClear}
use Rattle.saphyr_scalar.specs.Passing.{IsPassed, nothing, character, line_break}
use Rattle.saphyr_scalar.proofs.Moving.{along_more}
use Rattle.saphyr_scalar.proofs.Quoted.Inside.{IsQuotedContent, stands}
use Rattle.saphyr_scalar.proofs.Quoted.Parts.{at_escape, at_two_quotes}
use Rattle.saphyr_scalar.proofs.Quoted.Gaps.{at_escaped_break, at_closing}
use Rattle.saphyr_scalar.proofs.Quoted.SpelledEscapes.{GaveText, text_first, text_second, then_text, front_gave, escape_spelled, no_escape}
use Rattle.saphyr_scalar.proofs.NoBreaks.{mark_no_break}
use Rattle.saphyr_scalar.proofs.Quoted.GapBytes.{gap_bytes, gap_front, closed_bytes, raw_bytes, escaped_bytes, escaped_break_bytes}
use Rattle.saphyr_scalar.proofs.Quoted.SpelledGaps.{Spelled, Known}

-- A word, or the closing quote.
pub record Word (indent : ℕ) (q : Quote) (m : Marker) (xs y : List ℕ) (s : Cursor) : Type 0 where
  pub items : List Item
  pub is : quotes.IsCleanText indent q xs items s.rest
  pub bytes : (gap : QuotedGap) → gap_front gap ++ y ≡ gap_bytes gap items
  pub passed : IsPassed m xs s.mark s.rest

closed_word : (q : Quote) (indent : ℕ) (start m : Marker) (cs y : List ℕ) (s : Cursor)
    → IsTrue (is_closing q (flow.mark q ∷ cs))
    → GaveText (inner_text q indent start no_gap 0 m (flow.mark q ∷ cs)) y s → Word indent q m (flow.mark q ∷ cs) y s
closed_word q indent start m cs y s h g =
    let done = sym (at_closing q indent start m cs h) ∙ g in
    let left : cs ≡ s.rest = ap (λ (u : Cursor). u.rest) (text_second [] y (mid_line (along m 1) cs) s done) in
    let empty : [] ≡ y = text_first [] y (mid_line (along m 1) cs) s done in
    record {
      items = [];
      is = subst (λ (x : List ℕ). quotes.IsCleanText indent q (flow.mark q ∷ cs) [] x) left
          (quotes.closed indent q cs h);
      bytes = λ gap. ap (λ b. gap_front gap ++ b) (sym empty) ∙ closed_bytes gap;
      passed = subst (λ (u : Cursor). IsPassed m (flow.mark q ∷ cs) u.mark u.rest)
          (text_second [] y (mid_line (along m 1) cs) s done)
          (character m (flow.mark q) cs (along m 1) cs (mark_no_break q) (nothing (along m 1) cs));
    }

literal_itself : (q : Quote) (c : ℕ) → is_literal q c ≡ true → IsTrue (quotes.stands_for_itself q c)
unfolding is_literal
literal_itself q c h = grind arith

pub content_item : (c : ℕ) → IsQuotedContent c → flow.raw_item c ≡ Raw c
content_item c is = rw (or_false_left (c == 10) (c == 13) is.break, is.blank) refl

literal_word : (n : ℕ) (q : Quote) (indent : ℕ) (start m : Marker) (c : ℕ) (cs y : List ℕ) (s : Cursor)
    → IsQuotedContent c → is_literal q c ≡ true → length cs ≤ n → Known n q indent start
    → GaveText (inner_text q indent start no_gap 0 m (c ∷ cs)) y s → Word indent q m (c ∷ cs) y s
literal_word n q indent start m c cs y s content h le known g =
    let f = front_gave (encode_utf8 c) (inner_text q indent start no_gap 0 (along m 1) cs) y s
    (sym (stands q indent start m c cs h) ∙ g) in
    let r = known no_gap (along m 1) cs f.0 s le f.1 in
    record {
      items = Raw c ∷ r.items;
      is = rw (content_item c content) at (quotes.itself indent q c cs r.items s.rest (literal_itself q c h) r.is);
      bytes = λ gap. ap (λ b. gap_front gap ++ b) (sym f.2 ∙ ap (λ b. encode_utf8 c ++ b) (sym r.bytes))
          ∙ raw_bytes gap c r.items;
      passed = character m c cs s.mark s.rest content.break r.passed;
    }

pub cases : {X : Type 0} (b : Bool) → (b ≡ true → X) → (b ≡ false → X) → X
cases true at_true at_false = at_true refl
cases false at_true at_false = at_false refl

two_passed : (m : Marker) (cs : List ℕ) (n : Marker) (u : List ℕ) → IsPassed (along m 2) cs n u
    → IsPassed m (apostrophe ∷ apostrophe ∷ cs) n u
two_passed m cs n u p = character m 39 (39 ∷ cs) n u refl (character (along m 1) 39 cs n u refl
    (rw (along_more m 1 1 2 refl) p))

-- two single quotes, or the closing one
quote_word : (n : ℕ) (indent : ℕ) (start m : Marker) (cs y : List ℕ) (s : Cursor) → length cs ≤ n
    → Known n Single indent start → GaveText (inner_text Single indent start no_gap 0 m (apostrophe ∷ cs)) y s
    → Word indent Single m (apostrophe ∷ cs) y s
quote_word n indent start m [] y s le known g = closed_word Single indent start m [] y s refl g
quote_word n indent start m (d ∷ cs) y s le known g = cases (d == 39)
    (λ h. let is : 39 ≡ d = sym (eqb-true d 39 h) in
    rw (← is) (second (ap (λ x. inner_text Single indent start no_gap 0 m (39 ∷ x ∷ cs)) is ∙ g)))
    (λ h. closed_word Single indent start m (d ∷ cs) y s (rw h refl) g)
  where
    second : GaveText (inner_text Single indent start no_gap 0 m (apostrophe ∷ apostrophe ∷ cs)) y s
        → Word indent Single m (apostrophe ∷ apostrophe ∷ cs) y s
    second g =
        let f = front_gave (encode_utf8 39) (inner_text Single indent start no_gap 0 (along m 2) cs) y s
        (sym (at_two_quotes indent start m cs) ∙ g) in
        let r = known no_gap (along m 2) cs f.0 s (omega arith) f.1 in
        record {
          items = Raw 39 ∷ r.items;
          is = quotes.two_quotes indent cs r.items s.rest r.is;
          bytes = λ gap. ap (λ b. gap_front gap ++ b) (sym f.2 ∙ ap (λ b. encode_utf8 39 ++ b) (sym r.bytes))
              ∙ raw_bytes gap 39 r.items;
          passed = two_passed m cs s.mark s.rest r.passed;
        }

-- What comes after an escaped break, at a line's start: where it is the closing quote it may be at any column.
record Further (indent : ℕ) (m : Marker) (xs y : List ℕ) (s : Cursor) : Type 0 where
  items : List Item
  is : quotes.IsCleanText indent Double xs items s.rest
  bytes : gap_bytes (over_lines true 0) items ≡ y
  passed : IsPassed m xs s.mark s.rest
  clear : IsClear xs
  reached : quotes.IsReachedOrClosed indent xs

further : (indent : ℕ) (m : Marker) (xs y : List ℕ) (s : Cursor) → m.col ≡ 0
    → Spelled indent Double (over_lines true 0) m xs y s → Further indent m xs y s
further indent m xs y s start r = grind arith

-- What follows an escaped break is known as the rest of a later line, unless it is the closing quote: then the scalar
-- ends there, at any column.
line_word : (n : ℕ) (indent : ℕ) (start m : Marker) (xs y : List ℕ) (s : Cursor) → m.col ≡ 0 → length xs ≤ n
    → Known n Double indent start
    → GaveText (inner_text Double indent start (escaped_gap Double (slice_index xs 0)) 0 m xs) y s
    → Further indent m xs y s
line_word n indent start m [] y s first le known g =
    further indent m [] y s first (known (over_lines true 0) m [] y s le g)
line_word n indent start m (c ∷ cs) y s first le known g = cases (c == 34)
    (λ h. let is : 34 ≡ c = sym (eqb-true c 34 h) in
    subst (λ (x : ℕ). Further indent m (x ∷ cs) y s) is
    (closes (ap (λ x. inner_text Double indent start no_gap 0 m (x ∷ cs)) is
    ∙ ap (λ g. inner_text Double indent start g 0 m (c ∷ cs)) (sym (gap_of (c == 34) h)) ∙ g)))
    (λ h. further indent m (c ∷ cs) y s first (known (over_lines true 0) m (c ∷ cs) y s le
    (ap (λ g. inner_text Double indent start g 0 m (c ∷ cs)) (sym (line_of (c == 34) h)) ∙ g)))
  where
    gap_of : (b : Bool) → b ≡ true → cond b no_gap (over_lines true 0) ≡ no_gap
    gap_of b h = grind arith

    line_of : (b : Bool) → b ≡ false → cond b no_gap (over_lines true 0) ≡ over_lines true 0
    line_of b h = grind arith

    closes : GaveText (inner_text Double indent start no_gap 0 m (quotation_mark ∷ cs)) y s
        → Further indent m (quotation_mark ∷ cs) y s
    closes g =
        let done = sym (at_closing Double indent start m cs refl) ∙ g in
        let left : cs ≡ s.rest = ap (λ (u : Cursor). u.rest) (text_second [] y (mid_line (along m 1) cs) s done) in
        record {
          items = [];
          is = subst (λ (x : List ℕ). quotes.IsCleanText indent Double (34 ∷ cs) [] x) left
              (quotes.closed indent Double cs refl);
          bytes = text_first [] y (mid_line (along m 1) cs) s done;
          passed = subst (λ (u : Cursor). IsPassed m (34 ∷ cs) u.mark u.rest)
              (text_second [] y (mid_line (along m 1) cs) s done)
              (character m 34 cs (along m 1) cs refl (nothing (along m 1) cs));
          clear = refl;
          reached = or_right (is_quoted_line indent (34 ∷ cs)) true refl;
        }

-- an escape, or an escaped break
backslash_word : (n : ℕ) (indent : ℕ) (start m : Marker) (cs y : List ℕ) (s : Cursor) → length cs ≤ n
    → Known n Double indent start → GaveText (inner_text Double indent start no_gap 0 m (backslash ∷ cs)) y s
    → Word indent Double m (backslash ∷ cs) y s
backslash_word n indent start m [] y s le known g =
    let t = then_text (escaped_character start (mid_line m (92 ∷ []))) _ y s
    (sym (at_escape indent start m [] refl) ∙ g) in
    absurd (no_escape start m t.0 t.1 t.2)
backslash_word n indent start m (e ∷ xs) y s le known g = cases (is_break e) (λ h.
    let r = line_word n indent start (next_line (along m 1) (break_len (e ∷ xs))) (drop (break_len (e ∷ xs)) (e ∷ xs)) y
    s refl (omega (arith, drop_shorter (break_len (e ∷ xs)) (e ∷ xs))) known
    (sym (at_escaped_break indent start m (e ∷ xs) h) ∙ g) in
    record {
      items = EscapedBreak ∷ r.items;
      is = quotes.escaped_break indent (e ∷ xs) r.items s.rest h r.clear r.reached r.is;
      bytes = λ gap. ap (λ b. gap_front gap ++ b) (sym r.bytes) ∙ escaped_break_bytes gap r.items;
      passed = character m 92 (e ∷ xs) s.mark s.rest refl (line_break (along m 1) (e ∷ xs) s.mark s.rest h r.passed);
    })
    (λ h.
    let t = then_text (escaped_character start (mid_line m (92 ∷ e ∷ xs))) _ y s
    (sym (at_escape indent start m (e ∷ xs) h) ∙ g) in
    let esc = escape_spelled start m e xs t.0 t.1 t.2 in
    let f = front_gave (encode_utf8 t.0) (inner_text_at Double indent start no_gap t.1) y s t.3 in
    let r = known no_gap t.1.mark t.1.rest f.0 s (omega (arith, esc.shorter, le)) f.1 in
    record {
      items = Escaped t.0 ∷ r.items;
      is = esc.grows indent r.items s.rest r.is;
      bytes = λ gap. ap (λ b. gap_front gap ++ b) (sym f.2 ∙ ap (λ b. encode_utf8 t.0 ++ b) (sym r.bytes))
          ∙ escaped_bytes gap t.0 r.items;
      passed = esc.passes s.mark s.rest r.passed;
    })

pub special_of : (q : Quote) (c : ℕ) → IsQuotedContent c → is_literal q c ≡ false → flow.is_special q c ≡ true
unfolding is_literal
special_of q c is h = grind arith

pub word_spelled : (n : ℕ) (q : Quote) (indent : ℕ) (start m : Marker) (c : ℕ) (cs y : List ℕ) (s : Cursor)
    → IsQuotedContent c → length cs ≤ n → Known n q indent start
    → GaveText (inner_text q indent start no_gap 0 m (c ∷ cs)) y s → Word indent q m (c ∷ cs) y s
word_spelled n q indent start m c cs y s is le known g = cases (is_literal q c)
    (λ h. literal_word n q indent start m c cs y s is h le known g) (λ h. by_quote q known g (special_of q c is h))
  where
    by_quote : (q : Quote) → Known n q indent start → GaveText (inner_text q indent start no_gap 0 m (c ∷ cs)) y s
        → flow.is_special q c ≡ true → Word indent q m (c ∷ cs) y s
    by_quote Single known g special =
        let same : 39 ≡ c = sym (eqb-true c 39 special) in
        subst (λ (x : ℕ). Word indent Single m (x ∷ cs) y s) same (quote_word n indent start m cs y s le known
        (ap (λ x. inner_text Single indent start no_gap 0 m (x ∷ cs)) same ∙ g))
    by_quote Double known g special = either (c == 34) (c == 92) (Word indent Double m (c ∷ cs) y s) special
        (λ h. let same : 34 ≡ c = sym (eqb-true c 34 h) in
        rw same at (closed_word Double indent start m cs y s refl
        (ap (λ x. inner_text Double indent start no_gap 0 m (x ∷ cs)) same ∙ g)))
        (λ h. let same : 92 ≡ c = sym (eqb-true c 92 h) in
        rw same at (backslash_word n indent start m cs y s le known
        (ap (λ x. inner_text Double indent start no_gap 0 m (x ∷ cs)) same ∙ g)))
