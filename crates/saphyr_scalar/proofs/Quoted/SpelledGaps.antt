-- Blanks and breaks of a quoted scalar that is read are spelled so, and so is what is read after them.
use Rattle.saphyr_scalar.proofs.Common.{◌≡◌, ℕ, ◌+◌, ◌-◌, ◌≤◌, Bool, true, false, List, ◌∷◌, ◌++◌, length, drop, Result, refl, sym, ap, ◌∙◌, arith, IsTrue, subst, ◌&&◌, ◌==◌, nat_le, encode_utf8, le-leb, or_left, or_right, is_blank, is_break, tab, Marker, Refusal, Item, Blank, Break, Quote, Single, Double, Cursor, ◌>>=◌, along, pass_line, by_test, blank_cases, blank_no_break}
use Rattle.saphyr_scalar.specs.Values.Flow as flow
use Rattle.saphyr_scalar.specs.Steps.Quoted.{mid_line, QuotedGap, on_line, over_lines, is_left, blank_in, break_in, break_len, inner_text, inner_text_at}
use Rattle.saphyr_scalar.proofs.Quoted.Clean as quotes
use Rattle.saphyr_scalar.proofs.Quoted.Clean.{IsClear}
use Rattle.saphyr_scalar.specs.Spelling.LaterLines.{indentation, behind_indentation}
use Rattle.saphyr_scalar.specs.Passing.{IsPassed, character, line_break}
use Rattle.saphyr_scalar.proofs.Quoted.Inside.{break_cases, one_blank, at_break}
use Rattle.saphyr_scalar.proofs.Quoted.Gaps.{by_break_len}
use Rattle.saphyr_scalar.proofs.Quoted.SpelledEscapes.{GaveText, nothing_text}
use Rattle.saphyr_scalar.proofs.Quoted.GapBytes.{gap_bytes, blank_bytes, break_bytes}

-- a line began
abbrev pub IsOverLines : QuotedGap → Type 0
IsOverLines (on_line bytes) = ⊥
IsOverLines (over_lines escaped n) = Unit {0}

break_over : (gap : QuotedGap) → IsOverLines (break_in gap)
break_over (on_line bytes) = tt
break_over (over_lines escaped n) = tt

-- The text that was read is spelled so: no later line begins with a document marker, and each is indented. `reached` is
-- what is left of that from inside a line's spaces on.
pub record Spelled (indent : ℕ) (q : Quote) (gap : QuotedGap) (m : Marker) (xs b : List ℕ) (s : Cursor) : Type 0 where
  pub items : List Item
  pub is : quotes.IsCleanText indent q xs items s.rest
  pub bytes : gap_bytes gap items ≡ b
  pub passed : IsPassed m xs s.mark s.rest
  pub clear : IsOverLines gap → m.col ≡ 0 → IsClear xs
  pub reached : IsOverLines gap → quotes.IsReached (indent - m.col) xs

-- what is known of shorter texts
abbrev pub Known : ℕ → Quote → ℕ → Marker → Type 0
Known n q indent start = (gap : QuotedGap) (m : Marker) (xs b : List ℕ) (s : Cursor) → length xs ≤ n
    → GaveText (inner_text q indent start gap 0 m xs) b s → Spelled indent q gap m xs b s

blank_itself : (q : Quote) (c : ℕ) → is_blank c ≡ true → IsTrue (quotes.stands_for_itself q c)
blank_itself Single c h = blank_cases c h (λ x. IsTrue (quotes.stands_for_itself Single x)) refl refl
blank_itself Double c h = blank_cases c h (λ x. IsTrue (quotes.stands_for_itself Double x)) refl refl

blank_item : (c : ℕ) → is_blank c ≡ true → flow.raw_item c ≡ Blank c
blank_item c h = blank_cases c h (λ x. flow.raw_item x ≡ Blank x) refl refl

blank_spelled : (n : ℕ) (q : Quote) (c : ℕ) (cs : List ℕ) (items : List Item) (x : List ℕ) → is_blank c ≡ true
    → quotes.IsCleanText n q cs items x → quotes.IsCleanText n q (c ∷ cs) (Blank c ∷ items) x
blank_spelled n q c cs items x h r =
    subst (λ (i : Item). quotes.IsCleanText n q (c ∷ cs) (i ∷ items) x) (blank_item c h)
    (quotes.itself n q c cs items x (blank_itself q c h) r)

line_blank : (q : Quote) (indent : ℕ) (start : Marker) (escaped : Bool) (k : ℕ) (m : Marker) (c : ℕ) (cs : List ℕ)
    → is_blank c ≡ true
    → inner_text q indent start (over_lines escaped k) 0 m (c ∷ cs)
    ≡ (blank_in indent (over_lines escaped k) m c >>= λ g. inner_text q indent start g 0 (along m 1) cs)
unfolding inner_text
line_blank q indent start escaped k m c cs h = rw h refl

blank_clear : (c : ℕ) (cs : List ℕ) → is_blank c ≡ true → IsClear (c ∷ cs)
blank_clear c cs h = blank_cases c h (λ x. IsClear (x ∷ cs)) refl refl

break_clear : (c : ℕ) (cs : List ℕ) → is_break c ≡ true → IsClear (c ∷ cs)
break_clear c cs h = break_cases c h (λ x. IsClear (x ∷ cs)) refl refl

pub enough : (n : ℕ) (xs : List ℕ) → n ≤ indentation xs → quotes.IsReached n xs
enough n xs h = or_left (nat_le n (indentation xs)) (is_break (behind_indentation xs)) (le-leb n (indentation xs) h)

break_reached : (n c : ℕ) (cs : List ℕ) → is_break c ≡ true → quotes.IsReached n (c ∷ cs)
break_reached n c cs h = break_cases c h (λ x. quotes.IsReached n (x ∷ cs))
    (or_right (nat_le n 0) true refl) (or_right (nat_le n 0) true refl)

-- a blank of a later line, where no tab is left of the column
blank_reached : (indent : ℕ) (m : Marker) (c : ℕ) (cs : List ℕ) → is_blank c ≡ true
    → ((c == tab) && is_left indent m) ≡ false → quotes.IsReached (indent - (m.col + 1)) cs
    → quotes.IsReached (indent - m.col) (c ∷ cs)
blank_reached indent m c cs h = grind arith

from_start : (n : ℕ) (xs : List ℕ) → quotes.IsReached (n - 0) xs → quotes.IsReached n xs
from_start n xs h = let same : n - 0 ≡ n = omega arith in subst (λ k. quotes.IsReached k xs) same h

-- A blank before a word is the first item of what was read, and what comes behind it is known. On the line of the word
-- before it, the gap keeps its bytes. On a later line it keeps none, and a tab left of the column would have been
-- refused.
pub blank_step : (n : ℕ) (q : Quote) (indent : ℕ) (start : Marker) (gap : QuotedGap) (m : Marker) (c : ℕ)
    (cs b : List ℕ)
    (s : Cursor) → is_blank c ≡ true → length cs ≤ n → Known n q indent start
    → GaveText (inner_text q indent start gap 0 m (c ∷ cs)) b s → Spelled indent q gap m (c ∷ cs) b s
unfolding blank_in
blank_step n q indent start (on_line bytes) m c cs b s h le known g =
    let r = known (on_line (bytes ++ encode_utf8 c)) (along m 1) cs b s le
    (sym (one_blank q indent start bytes m c cs h) ∙ g) in
    record {
      items = Blank c ∷ r.items;
      is = blank_spelled indent q c cs r.items s.rest h r.is;
      bytes = sym (blank_bytes bytes c r.items) ∙ r.bytes;
      passed = character m c cs s.mark s.rest (blank_no_break c h) r.passed;
      clear = λ o _. blank_clear c cs h;
      reached = λ o. absurd o;
    }
blank_step n q indent start (over_lines escaped k) m c cs b s h le known g = by_test ((c == 9) && is_left indent m) _ _
    (λ (r : Result QuotedGap Refusal). GaveText (r >>= λ g. inner_text q indent start g 0 (along m 1) cs) b s
    → Spelled indent q (over_lines escaped k) m (c ∷ cs) b s) (λ _ e. nothing_text _ b s e) (λ left e.
    let r = known (over_lines escaped k) (along m 1) cs b s le e in
    record {
      items = Blank c ∷ r.items;
      is = blank_spelled indent q c cs r.items s.rest h r.is;
      bytes = r.bytes;
      passed = character m c cs s.mark s.rest (blank_no_break c h) r.passed;
      clear = λ _ _. blank_clear c cs h;
      reached = λ _. blank_reached indent m c cs h left (r.reached tt);
    })
    (sym (line_blank q indent start escaped k m c cs h) ∙ g)

behind_break_shorter : (c : ℕ) (cs : List ℕ) → length (drop (break_len (c ∷ cs)) (c ∷ cs)) ≤ length cs
behind_break_shorter c cs = grind arith

pub break_step : (n : ℕ) (q : Quote) (indent : ℕ) (start : Marker) (gap : QuotedGap) (m : Marker) (c : ℕ)
    (cs b : List ℕ)
    (s : Cursor) → is_break c ≡ true → length cs ≤ n → Known n q indent start
    → GaveText (inner_text q indent start gap 0 m (c ∷ cs)) b s → Spelled indent q gap m (c ∷ cs) b s
break_step n q indent start gap m c cs b s h le known g =
    let here = mid_line m (c ∷ cs) in
    let there = pass_line (break_len (c ∷ cs)) here in
    let on : inner_text q indent start gap 0 m (c ∷ cs) ≡ inner_text_at q indent start (break_in gap) there =
    at_break q indent start gap here h ∙ ap (inner_text_at q indent start (break_in gap)) (by_break_len here h) in
    let r = known (break_in gap) there.mark there.rest b s (omega (arith, behind_break_shorter c cs)) (sym on ∙ g) in
    record {
      items = Break ∷ r.items;
      is = quotes.broken indent q (c ∷ cs) r.items s.rest h (r.clear (break_over gap) refl)
          (from_start indent there.rest (r.reached (break_over gap))) r.is;
      bytes = sym (break_bytes gap r.items) ∙ r.bytes;
      passed = line_break m (c ∷ cs) s.mark s.rest h r.passed;
      clear = λ _ _. break_clear c cs h;
      reached = λ _. break_reached (indent - m.col) c cs h;
    }
