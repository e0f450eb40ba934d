-- The value of a block scalar's lines, as they are read.
use Rattle.std.proofs.Common.{◌≡◌, ℕ, ◌+◌, ◌<◌, ◌≤◌, Bool, true, false, List, [], ◌∷◌, ◌++◌, length, slice_index, refl, sym, ap, ◌∙◌, arith, subst, append_assoc, nat_eq, nat_lt, inl, inr}
use Rattle.std.specs.Prelude.{if◌then◌else◌, Some, ◌⊎◌}
use Rattle.saphyr_scalar.proofs.Common.{nat_tests, append-nil, length-replicate, normalized, is_break, is_blank, is_z, is_yaml_non_break, line_feed, space, BlockStyle, Chomping, Ending, AtEnd, AtMark, Marker, Cursor, along, next_line, and_false, by_test, non_break_no_break, normalized_other}
use Rattle.saphyr_scalar.specs.Values.Block as reading
use Rattle.saphyr_scalar.specs.Values.Block.{Line, Empty, is_more_indented, break_between, contents_behind, empty_at_end, is_at_end}
use Rattle.saphyr_scalar.specs.Steps.BlockRead.{EndsLines}
use Rattle.saphyr_scalar.specs.Reading.BlockLines.{ending, HasLines}
use Rattle.saphyr_scalar.specs.Steps.Block.{line_cursor, is_indentation, is_cr_lf, inside_break, line_starts, break_before, LinesRead, lines_behind_text, lines_ended, between, line, tail, is_unfinished}
use Rattle.saphyr_scalar.proofs.Block.Lines.{no_break}
use Rattle.saphyr_scalar.proofs.Block.Turns.{Starts, starts, no_start}
use Rattle.saphyr_scalar.proofs.Block.Texts.{spaces, spaces_more, IsUnbroken, plain_first, plain_both, plain_spaces, first_line, only_line, empty_spaces, line_spaces, full_content, line_content, content_of, normal_half, normalized_break, is_counted_behind, value_behind, value_empty, lines_break, lines_spaces, lines_cut, lines_broken}

-- the last line, where it is of spaces
abbrev pub extra : Bool → List Line
extra counted = if counted then Empty ∷ [] else []

tail_same : (st : BlockStyle) (c : Chomping) (above : List ℕ) (k : ℕ) (w : Bool)
    → tail c w (record { broken = true; empty_lines = k })
    ≡ contents_behind st above k (extra w) ++ reading.chomped c true (empty_at_end k (extra w))
tail_same st c above k w = grind arith

pub cut_tail : (c : Chomping) (w : Bool) → tail c w (record { broken = false; empty_lines = 0 }) ≡ reading.chomped c w 0
cut_tail c w = grind arith

at_end_of : (b : Bool) → is_at_end (if b then AtEnd else AtMark) ≡ b
at_end_of b = grind arith

pub unfinished_spaces : (i : ℕ) (s : Cursor) → s.mark.col ≤ i
    → is_unfinished i s ≡ is_counted_behind i (spaces s.mark.col) (ending s)
unfolding is_unfinished
unfinished_spaces i s h = rw (empty_spaces i s.mark.col h, length-replicate, at_end_of (is_z (slice_index s.rest 0)))
    (grind arith)

-- what was read of the lines after content: k empty lines and j spaces come before xs, in its line
pub record BetweenRead (st : BlockStyle) (c : Chomping) (i : ℕ) (more : Bool) (k j : ℕ) (xs : List ℕ) (r : LinesRead) :
    Type 0 where
  pub taken : List ℕ
  pub split : xs ≡ taken ++ r.2.rest
  pub ends : EndsLines i r.2
  pub lines : HasLines i (spaces j ++ normalized taken)
  pub value : (above : List ℕ) → is_more_indented above ≡ more
      → r.0 ++ tail c (is_unfinished i r.2) r.1
      ≡ value_behind st c i above k (spaces j ++ normalized taken) (ending r.2)

-- The lines end in the line that was begun, or its break is after it and others follow.
abbrev pub CutLine : Chomping → ℕ → List ℕ → List ℕ → LinesRead → Type 0
CutLine c i content text r = (text ≡ content) × (r.0 ++ tail c (is_unfinished i r.2) r.1
    ≡ content ++ reading.chomped c (is_at_end (ending r.2)) 0)

abbrev pub BrokenLine : BlockStyle → Chomping → ℕ → Bool → List ℕ → List ℕ → LinesRead → Type 0
BrokenLine st c i more content text r = (others : List ℕ) × (text ≡ content ++ 10 ∷ others) × HasLines i others
    × ((above : List ℕ) → is_more_indented above ≡ more
    → r.0 ++ tail c (is_unfinished i r.2) r.1 ≡ content ++ value_behind st c i above 0 others (ending r.2))

-- what was read of a line's content, up to its end, and the lines after it
pub record LineRead (st : BlockStyle) (c : Chomping) (i : ℕ) (more : Bool) (xs : List ℕ) (r : LinesRead) : Type 0 where
  pub taken : List ℕ
  pub split : xs ≡ taken ++ r.2.rest
  pub ends : EndsLines i r.2
  pub content : List ℕ
  pub plain : IsUnbroken content
  pub value : CutLine c i content (normalized taken) r ⊎ BrokenLine st c i more content (normalized taken) r

-- the lines end here, in spaces
stop_spaces : (st : BlockStyle) (c : Chomping) (i : ℕ) (more : Bool) (k : ℕ) (b : Bool) (m : Marker) (xs : List ℕ)
    → m.col ≤ i → EndsLines i (line_cursor b m xs)
    → BetweenRead st c i more k m.col xs (lines_ended true k (line_cursor b m xs))
stop_spaces st c i more k b m xs within ends =
    let s = line_cursor b m xs in
    let only = only_line (spaces m.col) (plain_spaces m.col) in
    let text : spaces m.col ++ [] ≡ spaces m.col = append-nil (spaces m.col) in
    record {
      taken = [];
      split = refl;
      ends = ends;
      lines = rw text (lines_spaces i m.col within);
      value = λ above h. ap (λ w. tail c w (record { broken = true; empty_lines = k })) (unfinished_spaces i s within)
          ∙ tail_same st c above k (is_counted_behind i (spaces m.col) (ending s))
          ∙ rw (text, only.0, only.1, line_spaces i m.col within, empty_spaces i m.col within) refl;
    }

past : (i col x : ℕ) → i < col → is_indentation (Some i) col x ≡ false
past i col x h = let right : nat_lt col i ≡ false = grind (arith, nat_tests) in rw right (and_false (nat_eq x 32))

unfinished_content : (i : ℕ) (s : Cursor) → i < s.mark.col → is_unfinished i s ≡ is_at_end (ending s)
unfolding is_unfinished
unfinished_content i s h = grind arith

-- the lines end here, in content
stop_content : (st : BlockStyle) (c : Chomping) (i : ℕ) (more b : Bool) (m : Marker) (xs : List ℕ) → i < m.col
    → is_yaml_non_break (slice_index xs 0) ≡ false → is_break (slice_index xs 0) ≡ false
    → LineRead st c i more xs (lines_ended false 0 (line_cursor b m xs))
stop_content st c i more b m xs within cut clear =
    let s = line_cursor b m xs in
    record {
      taken = [];
      split = refl;
      ends = record {
        no_space = past i m.col (slice_index xs 0) within;
        no_break = clear;
        no_content = no_start i m.col xs cut;
        whole_line = λ _. cut;
      };
      content = [];
      plain = refl;
      value = inl (
        refl,
        ap (λ w. tail c w (record { broken = false; empty_lines = 0 })) (unfinished_content i s within)
            ∙ cut_tail c (is_at_end (ending s)),
      );
    }

space_text : (j x : ℕ) (taken : List ℕ) → x ≡ space
    → spaces (j + 1) ++ normalized taken ≡ spaces j ++ normalized (x ∷ taken)
space_text j x taken e = cc (spaces_more j (normalized taken), normalized_other x taken (ap (λ y. nat_eq y 13) e))

-- a space of a line's indentation more
space_more : (st : BlockStyle) (c : Chomping) (i : ℕ) (more : Bool) (k j x : ℕ) (cs : List ℕ) (r : LinesRead)
    → x ≡ space → BetweenRead st c i more k (j + 1) cs r → BetweenRead st c i more k j (x ∷ cs) r
space_more st c i more k j x cs r e b = record {
  taken = x ∷ b.taken;
  split = ap (λ ys. x ∷ ys) b.split;
  ends = b.ends;
  lines = rw (space_text j x b.taken e) at b.lines;
  value = λ above h. b.value above h
      ∙ ap (λ text. value_behind st c i above k text (ending r.2)) (space_text j x b.taken e);
}

-- a CR before an LF
half_more : (st : BlockStyle) (c : Chomping) (i : ℕ) (more : Bool) (k j x : ℕ) (cs : List ℕ) (r : LinesRead)
    → is_cr_lf x cs ≡ true → BetweenRead st c i more k j cs r → BetweenRead st c i more k j (x ∷ cs) r
half_more st c i more k j x cs r e b = record {
  taken = x ∷ b.taken;
  split = ap (λ ys. x ∷ ys) b.split;
  ends = b.ends;
  lines = rw (normal_half x cs b.taken r.2.rest e b.split b.ends.no_break) b.lines;
  value = λ above h. b.value above h ∙ ap (λ text. value_behind st c i above k (spaces j ++ text) (ending r.2))
      (sym (normal_half x cs b.taken r.2.rest e b.split b.ends.no_break));
}

half_line : (st : BlockStyle) (c : Chomping) (i : ℕ) (more : Bool) (x : ℕ) (cs : List ℕ) (r : LinesRead)
    → is_cr_lf x cs ≡ true → LineRead st c i more cs r → LineRead st c i more (x ∷ cs) r
half_line st c i more x cs r e l = record {
  taken = x ∷ l.taken;
  split = ap (λ ys. x ∷ ys) l.split;
  ends = l.ends;
  content = l.content;
  plain = l.plain;
  value = rw (normal_half x cs l.taken r.2.rest e l.split l.ends.no_break) l.value;
}

-- the break of an empty line
break_more : (st : BlockStyle) (c : Chomping) (i : ℕ) (more : Bool) (k j x : ℕ) (cs : List ℕ) (r : LinesRead) → j ≤ i
    → is_cr_lf x cs ≡ false → is_break x ≡ true → BetweenRead st c i more (k + 1) 0 cs r
    → BetweenRead st c i more k j (x ∷ cs) r
break_more st c i more k j x cs r within half e b = record {
  taken = x ∷ b.taken;
  split = ap (λ ys. x ∷ ys) b.split;
  ends = b.ends;
  lines = rw (normalized_break x cs b.taken r.2.rest half e b.split)
      (lines_break i j (normalized b.taken) within b.lines);
  value = λ above h. b.value above h ∙ sym (value_empty st c i above k j (normalized b.taken) (ending r.2) within)
      ∙ ap (λ text. value_behind st c i above k (spaces j ++ text) (ending r.2))
      (sym (normalized_break x cs b.taken r.2.rest half e b.split));
}

-- the break of a content line
break_line : (st : BlockStyle) (c : Chomping) (i : ℕ) (more : Bool) (x : ℕ) (cs : List ℕ) (r : LinesRead)
    → is_cr_lf x cs ≡ false → is_break x ≡ true → BetweenRead st c i more 0 0 cs r → LineRead st c i more (x ∷ cs) r
break_line st c i more x cs r half e b = record {
  taken = x ∷ b.taken;
  split = ap (λ ys. x ∷ ys) b.split;
  ends = b.ends;
  content = [];
  plain = refl;
  value = inr (normalized b.taken, normalized_break x cs b.taken r.2.rest half e b.split, b.lines, b.value);
}

-- a character that is content
content_line : (st : BlockStyle) (c : Chomping) (i : ℕ) (more : Bool) (x : ℕ) (cs : List ℕ) (r : LinesRead)
    → is_yaml_non_break x ≡ true → LineRead st c i more cs r
    → LineRead st c i more (x ∷ cs) (lines_behind_text (x ∷ []) r)
content_line st c i more x cs r e l =
    let clear = no_break x (non_break_no_break x e) in
    let same : normalized (x ∷ l.taken) ≡ x ∷ normalized l.taken = normalized_other x l.taken clear.1 in
    record {
      taken = x ∷ l.taken;
      split = ap (λ ys. x ∷ ys) l.split;
      ends = l.ends;
      content = x ∷ l.content;
      plain = plain_first x l.content clear.0 l.plain;
      value = elim l.value [
        | inl w ↦ inl (same ∙ ap (λ ys. x ∷ ys) w.0, ap (λ ys. x ∷ ys) w.1)
        | inr w ↦ inr (w.0, same ∙ ap (λ ys. x ∷ ys) w.1, w.2, λ above h. ap (λ ys. x ∷ ys) (w.3 above h))
      ];
    }

-- a line that begins with content
pub same_break : (st : BlockStyle) (above below : List ℕ) (a b : Bool) (k : ℕ) → is_more_indented above ≡ a
    → is_more_indented below ≡ b → break_between st above k below ≡ break_before st (Some a) k b
same_break st above below a b k e f = grind arith

value_cut : (st : BlockStyle) (c : Chomping) (i : ℕ) (above : List ℕ) (k : ℕ) (content : List ℕ) (e : Ending)
    → IsUnbroken content → 0 < length content
    → value_behind st c i above k (spaces i ++ content) e
    ≡ break_between st above k content ++ (content ++ reading.chomped c (is_at_end e) 0)
value_cut st c i above k content e plain some =
    let only = only_line (spaces i ++ content) (plain_both (spaces i) content (plain_spaces i) plain) in
    rw (only.0, only.1, full_content i content some, content_of i content, append-nil content, append_assoc) refl

value_broken : (st : BlockStyle) (c : Chomping) (i : ℕ) (above : List ℕ) (k : ℕ) (content others : List ℕ) (e : Ending)
    → IsUnbroken content → 0 < length content
    → value_behind st c i above k (spaces i ++ (content ++ line_feed ∷ others)) e
    ≡ break_between st above k content ++ (content ++ value_behind st c i content 0 others e)
value_broken st c i above k content others e plain some =
    let f = first_line (spaces i ++ content) others (plain_both (spaces i) content (plain_spaces i) plain) in
    ap (λ text. value_behind st c i above k text e) (sym (append_assoc (spaces i) content (10 ∷ others)))
    ∙ rw (f.ended, f.last, line_content i content some, append_assoc, append_assoc) refl

-- A character at a line's start, and the rest of its line, with all lines below: their value behind what is above is
-- the break before the line, the character and the value of the rest. The rest ends the scalar (`inl`), or has other
-- lines below it (`inr`).
content_line_read : (st : BlockStyle) (c : Chomping) (i : ℕ) (more : Bool) (k x : ℕ) (cs : List ℕ) (r : LinesRead)
    → is_yaml_non_break x ≡ true → LineRead st c i (is_blank x) cs r
    → BetweenRead st c i more k i (x ∷ cs) (lines_behind_text (break_before st (Some more) k (is_blank x) ++ x ∷ []) r)
content_line_read st c i more k x cs r e l =
    let clear = no_break x (non_break_no_break x e) in
    let here = x ∷ l.content in
    let breaks = break_before st (Some more) k (is_blank x) in
    let end = tail c (is_unfinished i r.2) r.1 in
    let same : normalized (x ∷ l.taken) ≡ x ∷ normalized l.taken = normalized_other x l.taken clear.1 in
    let some : 0 < length here = omega arith in
    let plain = plain_first x l.content clear.0 l.plain in
    record {
      taken = x ∷ l.taken;
      split = ap (λ ys. x ∷ ys) l.split;
      ends = l.ends;
      lines = elim l.value [
        | inl w ↦ subst (λ text. HasLines i (spaces i ++ text)) (sym (same ∙ ap (λ ys. x ∷ ys) w.0))
            (lines_cut i here plain)
        | inr w ↦ rw (same ∙ ap (λ ys. x ∷ ys) w.1) (lines_broken i here w.0 plain w.2)
      ];
      value = λ above h. rw (append_assoc, append_assoc) refl
          ∙ (elim l.value [
            | inl w ↦ ap (λ ys. breaks ++ (x ∷ ys)) w.1
                ∙ ap (λ b. b ++ (here ++ reading.chomped c (is_at_end (ending r.2)) 0))
                (sym (same_break st above here more (is_blank x) k h refl))
                ∙ sym (value_cut st c i above k here (ending r.2) plain some)
                ∙ ap (λ text. value_behind st c i above k (spaces i ++ text) (ending r.2))
                (sym (same ∙ ap (λ ys. x ∷ ys) w.0))
            | inr w ↦ ap (λ ys. breaks ++ (x ∷ ys)) (w.3 here refl)
                ∙ ap (λ b. b ++ (here ++ value_behind st c i here 0 w.0 (ending r.2)))
                (sym (same_break st above here more (is_blank x) k h refl))
                ∙ sym (value_broken st c i above k here w.0 (ending r.2) plain some)
                ∙ ap (λ text. value_behind st c i above k (spaces i ++ text) (ending r.2))
                (sym (same ∙ ap (λ ys. x ∷ ys) w.1))
          ]);
    }

begun_right : (i col : ℕ) → col ≡ i → i < col + 1
begun_right i col e = omega arith

begun_line : (st : BlockStyle) (c : Chomping) (i : ℕ) (more : Bool) (k col x : ℕ) (cs : List ℕ) (r : LinesRead)
    → Starts i col (x ∷ cs) → LineRead st c i (is_blank x) cs r
    → BetweenRead st c i more k col (x ∷ cs)
    (lines_behind_text (break_before st (Some more) k (is_blank x) ++ x ∷ []) r)
begun_line st c i more k col x cs r s l = rw s.column (content_line_read st c i more k x cs r s.content l)

no_space_at : (i col : ℕ) → is_indentation (Some i) col 0 ≡ false
no_space_at i col = refl

indentation_is_space : (i col x : ℕ) → is_indentation (Some i) col x ≡ true → (x ≡ space) × (col + 1 ≤ i)
indentation_is_space i col x h = (grind (arith, nat_tests), grind (arith, nat_tests))

mutual
  unfolding between line

  -- Between lines and on a line, at once, since each goes on with the other. The cases are those of the reader: a
  -- space of the indentation, a CR before its LF, a line's end, content, and where the scalar ends.
  pub between_read : (st : BlockStyle) (c : Chomping) (i : ℕ) (more : Bool) (k : ℕ) (b : Bool) (m : Marker)
      (xs : List ℕ) → m.col ≤ i → BetweenRead st c i more k m.col xs (between st i (Some more) k b m xs)
  between_read st c i more k b m [] within = stop_spaces st c i more k b m [] within
      (record {
        no_space = no_space_at i m.col;
        no_break = refl;
        no_content = no_start i m.col [] refl;
        whole_line = λ _. refl;
      })
  between_read st c i more k b m (x ∷ cs) within =
      by_test (is_indentation (Some i) m.col x) _ _ (BetweenRead st c i more k m.col (x ∷ cs))
      (λ h. space_more st c i more k m.col x cs _ (indentation_is_space i m.col x h).0
      (between_read st c i more k b (along m 1) cs (indentation_is_space i m.col x h).1))
      (λ h0. by_test (is_cr_lf x cs) _ _ (BetweenRead st c i more k m.col (x ∷ cs))
      (λ h. half_more st c i more k m.col x cs _ h (between_read st c i more k b (inside_break m) cs within))
      (λ h1. by_test (is_break x) _ _ (BetweenRead st c i more k m.col (x ∷ cs))
      (λ h. break_more st c i more k m.col x cs _ within h1 h
      (between_read st c i more (k + 1) true (next_line m 1) cs (omega arith)))
      (λ h2. by_test (line_starts i m.col (x ∷ cs)) _ _ (BetweenRead st c i more k m.col (x ∷ cs))
      (λ h. begun_line st c i more k m.col x cs _ (starts i m.col (x ∷ cs) h)
      (line_read st c i (is_blank x) b (along m 1) cs (begun_right i m.col (starts i m.col (x ∷ cs) h).column)))
      (λ h3. stop_spaces st c i more k b m (x ∷ cs) within
      (record {
        no_space = h0;
        no_break = h2;
        no_content = h3;
        whole_line = λ right. absurd (omega (arith, right, within));
      })))))

  pub line_read : (st : BlockStyle) (c : Chomping) (i : ℕ) (more b : Bool) (m : Marker) (xs : List ℕ) → i < m.col
      → LineRead st c i more xs (line st i more b m xs)
  line_read st c i more b m [] right = stop_content st c i more b m [] right refl refl
  line_read st c i more b m (x ∷ cs) right = by_test (is_yaml_non_break x) _ _ (LineRead st c i more (x ∷ cs))
      (λ h. content_line st c i more x cs _ h (line_read st c i more b (along m 1) cs (omega arith)))
      (λ h0. by_test (is_cr_lf x cs) _ _ (LineRead st c i more (x ∷ cs))
      (λ h. half_line st c i more x cs _ h (line_read st c i more b (inside_break m) cs right))
      (λ h1. by_test (is_break x) _ _ (LineRead st c i more (x ∷ cs))
      (λ h. break_line st c i more x cs _ h1 h (between_read st c i more 0 true (next_line m 1) cs (omega arith)))
      (λ h2. stop_content st c i more b m (x ∷ cs) right h0 h2)))
