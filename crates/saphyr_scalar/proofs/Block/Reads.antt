-- A block scalar that is read has the value of its lines.
use Rattle.saphyr_scalar.proofs.Common.{◌≡◌, ℕ, suc, ◌+◌, ◌≤◌, Bool, true, false, List, [], ◌∷◌, ◌++◌, slice_index, Result, Ok, Err, refl, sym, ap, ◌∙◌, arith, nat_eq, nat_tests, normalized, is_break, is_z, space, Chomping, Marker, Refusal, BlockHeader, EmptyLines, SkipTabs, Yes, by_test, normalized_other}
use Rattle.std.specs.Prelude.{Option, Some, None, ◌⊎◌}
use Rattle.saphyr_scalar.specs.Views.Cursor.{Cursor, ◌>>=◌, along, next_line, separation, behind_separation}
use Rattle.saphyr_scalar.specs.Values.Block.{Empty, lines_of}
use Rattle.saphyr_scalar.specs.Values.Lines.{last_line}
use Rattle.saphyr_scalar.specs.Steps.Block.{line_cursor, is_indentation, is_cr_lf, inside_break, with_column, with_empty_line, pass_empty_lines, header, header_break, header_end, header_behind, chomping, last_chomping, indicator}
use Rattle.saphyr_scalar.proofs.Block.Texts.{spaces, spaces_more, plain_spaces, first_line, line_spaces, normal_half, normalized_break, lines_break}
use Rattle.saphyr_scalar.specs.Reading.BlockLines.{HasLines}
use Rattle.saphyr_scalar.proofs.Block.Wholes.{empties}
use Rattle.saphyr_scalar.proofs.Block.Indentations.{indentation_is_space}

-- what was taken off as leading empty lines and indentation: `front` in normalized characters, d lines with j spaces
-- before them on their line
pub record Leading (j : ℕ) (before : EmptyLines) (xs : List ℕ) (r : EmptyLines × Cursor) : Type 0 where
  pub front : List ℕ
  pub d : ℕ
  pub joins : (taken rest : List ℕ) → r.1.rest ≡ taken ++ rest → is_break (slice_index rest 0) ≡ false
      → (all : List ℕ) × (xs ≡ all ++ rest) × (normalized all ≡ front ++ normalized taken)
  pub lines : (i : ℕ) (text : List ℕ) → r.0.widest ≤ i
      → lines_of i (spaces j ++ (front ++ text)) ≡ empties d ++ lines_of i (spaces r.1.mark.col ++ text)
  pub last : (text : List ℕ) → last_line (spaces j ++ (front ++ text)) ≡ last_line (spaces r.1.mark.col ++ text)
  pub shape : (i : ℕ) (text : List ℕ) → r.0.widest ≤ i → HasLines i (spaces r.1.mark.col ++ text)
      → HasLines i (spaces j ++ (front ++ text))
  pub count : r.0.count ≡ before.count + d
  pub reached : r.1.mark.col ≤ r.0.widest
  pub wider : before.widest ≤ r.0.widest

lead_stop : (lines : EmptyLines) (b : Bool) (m : Marker) (xs : List ℕ)
    → Leading m.col lines xs (with_column lines m.col, line_cursor b m xs)
lead_stop lines b m xs = record {
  front = [];
  d = 0;
  joins = λ taken rest e k. (taken, e, refl);
  lines = λ i text h. refl;
  last = λ text. refl;
  shape = λ i text w h. h;
  count = omega arith;
  reached = omega arith;
  wider = omega arith;
}

lead_space : (j x : ℕ) (before : EmptyLines) (cs : List ℕ) (r : EmptyLines × Cursor) → x ≡ space
    → Leading (j + 1) before cs r → Leading j before (x ∷ cs) r
lead_space j x before cs r e l = record {
  front = 32 ∷ l.front;
  d = l.d;
  joins = λ taken rest s k.
      let w = l.joins taken rest s k in (
        x ∷ w.0,
        ap (λ ys. x ∷ ys) w.1,
        normalized_other x w.0 (ap (λ y. nat_eq y 13) e) ∙ ap (λ ys. x ∷ ys) w.2
            ∙ ap (λ y. y ∷ (l.front ++ normalized taken)) e,
      );
  lines = λ i text h. ap (lines_of i) (sym (spaces_more j (l.front ++ text))) ∙ l.lines i text h;
  last = λ text. ap last_line (sym (spaces_more j (l.front ++ text))) ∙ l.last text;
  shape = λ i text w h. rw (spaces_more j (l.front ++ text)) at (l.shape i text w h);
  count = l.count;
  reached = l.reached;
  wider = l.wider;
}

lead_half : (j x : ℕ) (before : EmptyLines) (cs : List ℕ) (r : EmptyLines × Cursor) → is_cr_lf x cs ≡ true
    → Leading j before cs r → Leading j before (x ∷ cs) r
lead_half j x before cs r e l = record {
  front = l.front;
  d = l.d;
  joins = λ taken rest s k. let w =
      l.joins taken rest s k in (x ∷ w.0, ap (λ ys. x ∷ ys) w.1, normal_half x cs w.0 rest e w.1 k ∙ w.2);
  lines = l.lines;
  last = l.last;
  shape = l.shape;
  count = l.count;
  reached = l.reached;
  wider = l.wider;
}

lead_break : (j x : ℕ) (before : EmptyLines) (cs : List ℕ) (r : EmptyLines × Cursor) → is_cr_lf x cs ≡ false
    → is_break x ≡ true → Leading 0 (with_empty_line before j) cs r → Leading j before (x ∷ cs) r
lead_break j x before cs r half e l = record {
  front = 10 ∷ l.front;
  d = suc l.d;
  joins = λ taken rest s k. let w = l.joins taken rest s k in
      (x ∷ w.0, ap (λ ys. x ∷ ys) w.1, normalized_break x cs w.0 rest half e w.1 ∙ ap (λ ys. 10 ∷ ys) w.2);
  lines = λ i text h.
      let f = first_line (spaces j) (l.front ++ text) (plain_spaces j) in
      rw (f.ended, line_spaces i j (omega (arith, l.wider))) (ap (λ ys. Empty ∷ ys) (l.lines i text h));
  last = λ text. let f = first_line (spaces j) (l.front ++ text) (plain_spaces j) in f.last ∙ l.last text;
  shape = λ i text w h. lines_break i j (l.front ++ text) (omega (arith, l.wider)) (l.shape i text w h);
  count = omega (arith, l.count);
  reached = l.reached;
  wider = omega (arith, l.wider);
}

pub leading : (limit : Option ℕ) (before : EmptyLines) (b : Bool) (m : Marker) (xs : List ℕ)
    → Leading m.col before xs (pass_empty_lines limit before b m xs)
unfolding pass_empty_lines
leading limit before b m [] = lead_stop before b m []
leading limit before b m (x ∷ cs) = by_test (is_indentation limit m.col x) _ _ (Leading m.col before (x ∷ cs))
    (λ h. lead_space m.col x before cs _ (indentation_is_space limit m.col x h) (leading limit before b (along m 1) cs))
    (λ h0. by_test (is_cr_lf x cs) _ _ (Leading m.col before (x ∷ cs))
    (λ h. lead_half m.col x before cs _ h (leading limit before b (inside_break m) cs))
    (λ h1. by_test (is_break x) _ _ (Leading m.col before (x ∷ cs))
    (λ h. lead_break m.col x before cs _ h1 h (leading limit (with_empty_line before m.col) true (next_line m 1) cs))
    (λ h2. lead_stop before b m (x ∷ cs))))

-- within a limit
abbrev pub Within : ℕ → EmptyLines × Cursor → Type 0
Within i r = r.0.widest ≤ i

pub within_limit : (i : ℕ) (before : EmptyLines) (b : Bool) (m : Marker) (xs : List ℕ) → m.col ≤ i → before.widest ≤ i
    → Within i (pass_empty_lines (Some i) before b m xs)
unfolding pass_empty_lines
within_limit i before b m [] h k = omega arith
within_limit i before b m (x ∷ cs) h k = by_test (is_indentation (Some i) m.col x) _ _ (Within i)
    (λ t. let less : m.col + 1 ≤ i = grind (arith, nat_tests) in within_limit i before b (along m 1) cs less k)
    (λ _. by_test (is_cr_lf x cs) _ _ (Within i)
    (λ _. within_limit i before b (inside_break m) cs h k)
    (λ _. by_test (is_break x) _ _ (Within i)
    (λ _. within_limit i (with_empty_line before m.col) true (next_line m 1) cs (omega arith) (omega arith))
    (λ _. omega arith)))

-- a step that gave something came after one that did
pub then_gave : {A B : Type 0} (r : Result A Refusal) (f : A → Result B Refusal) (y : B) → (r >>= f) ≡ Ok y
    → (x : A) × (r ≡ Ok x) × (f x ≡ Ok y)
then_gave (Ok x) f y e = (x, refl, e)
then_gave (Err r) f y e = absurd (cc)

abbrev pub gave : {A : Type 0} → A → Result A Refusal
gave x = Ok x

pub refused_gave : {A X : Type 0} (r : Refusal) (y : A) → Err r ≡ gave y → X
refused_gave r y e = absurd (cc)

pub same_gift : {A : Type 0} (x y : A) → gave x ≡ gave y → x ≡ y
same_gift x y e = cc

-- after a header: a line begins, or the text ends there
abbrev pub IsBehindHeaderLine : Cursor → Type 0
IsBehindHeaderLine u = ((u.mark.col ≡ 0) × (u.blank_so_far ≡ true))
    ⊎ ((is_z (slice_index u.rest 0) ≡ true) × (u.blank_so_far ≡ false))

separation_blank : (s : Cursor) (x : SkipTabs × Cursor) → s.blank_so_far ≡ false → separation Yes s ≡ Ok x
    → x.1.blank_so_far ≡ false
unfolding separation behind_separation
separation_blank s x blank = grind arith

header_end_place : (start : Marker) (s u : Cursor) → s.blank_so_far ≡ false → header_end start s ≡ Ok u
    → IsBehindHeaderLine u
unfolding header_end header_break
header_end_place start s u blank e = grind (arith, then_gave, separation_blank)

chomping_blank : (s : Cursor) → s.blank_so_far ≡ false → (chomping s).1.blank_so_far ≡ false
unfolding chomping
chomping_blank s h = grind arith

last_blank : (first : Option Chomping) (s : Cursor) → s.blank_so_far ≡ false
    → (last_chomping first s).1.blank_so_far ≡ false
unfolding last_chomping
last_blank (Some c) s h = h
last_blank None s h = chomping_blank s h

pub header_place : (s : Cursor) (x : BlockHeader × Cursor) → header s ≡ Ok x → IsBehindHeaderLine x.1
unfolding header header_behind indicator
header_place s x e = grind (arith, then_gave, chomping_blank, header_end_place, last_blank, same_gift)
