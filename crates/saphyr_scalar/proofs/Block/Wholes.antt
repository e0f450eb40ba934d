-- The value of a block scalar's lines, from the first on.
use Rattle.std.proofs.Common.{◌≡◌, ℕ, zero, suc, ◌+◌, ◌<◌, ◌≤◌, Bool, true, false, List, [], ◌∷◌, ◌++◌, length, slice_index, refl, sym, ap, ◌∙◌, arith, subst, append_assoc, nat_eq, nat_lt, map, inl, inr}
use Rattle.saphyr_scalar.proofs.Common.{◌&&◌, ◌==◌, not, replicate, if◌then◌else◌, Some, None, nat_tests, append-nil, length-replicate, normalized, is_break, is_blank, is_z, is_yaml_non_break, line_feed, BlockStyle, Chomping, Ending, AtEnd, AtMark, Marker, Cursor, along, and_false, non_break_no_break, normalized_other}
use Rattle.saphyr_scalar.specs.Values.Folding.{line_feeds}
use Rattle.saphyr_scalar.specs.Values.Block as reading
use Rattle.saphyr_scalar.specs.Values.Block.{Line, Empty, Content, line_of, lines_of, contents, contents_behind, has_content, empty_at_end, is_at_end, is_counted, is_broken, lines_value, block_value}
use Rattle.saphyr_scalar.specs.Values.Lines.{last_line}
use Rattle.saphyr_scalar.specs.Steps.BlockRead.{EndsLines}
use Rattle.saphyr_scalar.specs.Reading.BlockLines.{ending, HasLines}
use Rattle.saphyr_scalar.specs.Steps.Block.{line_cursor, is_indentation, line_starts, LinesRead, lines_behind_text, lines_ended, between, line, tail, tail_alone, is_unfinished}
use Rattle.saphyr_scalar.proofs.Block.Turns.{starts, line_begins, line_on, no_line_at}
use Rattle.saphyr_scalar.proofs.Block.Texts.{spaces, IsUnbroken, plain_first, plain_both, plain_spaces, first_line, only_line, empty_spaces, full_content, line_content, content_of, value_behind, lines_spaces, lines_cut, lines_broken}
use Rattle.saphyr_scalar.proofs.Block.Lines.{no_break}
use Rattle.saphyr_scalar.proofs.Block.Values.{LineRead, line_read, extra}

abbrev pub empties : ℕ → List Line
empties n = replicate n Empty

-- the value of lines that breaks end, and of the last line
abbrev pub whole : BlockStyle → Chomping → ℕ → List Line → List ℕ → Ending → List ℕ
whole st c i lines last e =
    lines_value st c (is_broken i last e) (lines ++ (if is_counted i lines last e then line_of i last ∷ [] else []))

content_after : (k : ℕ) (x : List ℕ) (lines : List Line) → has_content (empties k ++ (Content x ∷ lines)) ≡ true
content_after zero x lines = refl
content_after (suc k) x lines = content_after k x lines

contents_after : (st : BlockStyle) (k : ℕ) (x : List ℕ) (lines : List Line)
    → contents st (empties k ++ (Content x ∷ lines)) ≡ line_feeds k ++ (x ++ contents_behind st x 0 lines)
contents_after st zero x lines = refl
contents_after st (suc k) x lines = ap (λ ys. 10 ∷ ys) (contents_after st k x lines)

ends_after : (n k : ℕ) (x : List ℕ) (lines : List Line)
    → empty_at_end n (empties k ++ (Content x ∷ lines)) ≡ empty_at_end 0 lines
ends_after n zero x lines = refl
ends_after n (suc k) x lines = ends_after (suc n) k x lines

none_in : (k : ℕ) → has_content (empties k) ≡ false
none_in zero = refl
none_in (suc k) = none_in k

-- the first content line is the last line
whole_cut : (st : BlockStyle) (c : Chomping) (i k : ℕ) (x : List ℕ) (e : Ending) → 0 < length x
    → whole st c i (empties k) (spaces i ++ x) e ≡ line_feeds k ++ (x ++ reading.chomped c (is_at_end e) 0)
whole_cut st c i k x e some = grind
    (arith, nat_tests, full_content, content_of, content_after, contents_after, ends_after, append-nil, append_assoc)

-- lines come after the first content line
whole_broken : (st : BlockStyle) (c : Chomping) (i k : ℕ) (x text : List ℕ) (e : Ending)
    → whole st c i (empties k ++ (Content x ∷ lines_of i text)) (last_line text) e
    ≡ line_feeds k ++ (x ++ value_behind st c i x 0 text e)
whole_broken st c i k x text e = grind (arith, content_after, contents_after, ends_after, append_assoc)

-- no content
whole_empty : (st : BlockStyle) (c : Chomping) (i k j : ℕ) → j ≤ i
    → whole st c i (empties k) (spaces j) AtMark ≡ tail c false (record { broken = false; empty_lines = k })
whole_empty st c i k j within =
    rw (empty_spaces i j within, append-nil (empties k), none_in k, length-replicate) (grind arith)

none_more : (k : ℕ) (w : Bool) → has_content (empties k ++ extra w) ≡ false
none_more zero true = refl
none_more zero false = refl
none_more (suc k) w = none_more k w

alone_feeds : (k j : ℕ) → line_feeds (length (empties k ++ extra (not (nat_eq j 0) && nat_eq k 0)))
    ≡ (if (k == 0) && true && nat_lt 0 j then line_feeds 1 else line_feeds k)
alone_feeds v0 j = grind (arith, nat_tests, and_false, append-nil, length-replicate)

-- no content, at the end
pub whole_alone : (st : BlockStyle) (c : Chomping) (i k j : ℕ) (s : Cursor) → j ≤ i → s.mark.col ≡ j
    → s.blank_so_far ≡ true → whole st c i (empties k) (spaces j) AtEnd ≡ tail_alone c k s
unfolding tail_alone
whole_alone st c i k j s within e f =
    grind (arith, empty_spaces, length-replicate, none_in, none_more, nat_eq, alone_feeds)

pub block_value_of : (st : BlockStyle) (c : Chomping) (i : ℕ) (text last : List ℕ) (lines : List Line) (e : Ending)
    → lines_of i text ≡ lines → last_line text ≡ last → block_value st c i text e ≡ whole st c i lines last e
block_value_of st c i text last lines e p q = cc

-- what was read of the lines from the first content line on, where k empty lines and j spaces come before xs
pub record FirstRead (st : BlockStyle) (c : Chomping) (i k j : ℕ) (xs : List ℕ) (r : LinesRead) : Type 0 where
  pub taken : List ℕ
  pub split : xs ≡ taken ++ r.2.rest
  pub ends : EndsLines i r.2
  pub lines : HasLines i (spaces j ++ normalized taken)
  pub value : (text : List ℕ) → lines_of i text ≡ empties k ++ lines_of i (spaces j ++ normalized taken)
      → last_line text ≡ last_line (spaces j ++ normalized taken)
      → r.0 ++ tail c (is_unfinished i r.2) r.1 ≡ block_value st c i text (ending r.2)

cut_lines : (i : ℕ) (x : List ℕ) → IsUnbroken x
    → (lines_of i (spaces i ++ x) ≡ []) × (last_line (spaces i ++ x) ≡ spaces i ++ x)
cut_lines i x plain =
    let only = only_line (spaces i ++ x) (plain_both (spaces i) x (plain_spaces i) plain) in
    (ap (map (line_of i)) only.0, only.1)

broken_lines : (i : ℕ) (x others : List ℕ) → IsUnbroken x → 0 < length x
    → (lines_of i (spaces i ++ (x ++ line_feed ∷ others)) ≡ Content x ∷ lines_of i others)
    × (last_line (spaces i ++ (x ++ line_feed ∷ others)) ≡ last_line others)
broken_lines i x others plain some =
    let f = first_line (spaces i ++ x) others (plain_both (spaces i) x (plain_spaces i) plain) in
    let whole : spaces i ++ (x ++ 10 ∷ others) ≡ (spaces i ++ x) ++ 10 ∷ others =
    sym (append_assoc (spaces i) x (10 ∷ others)) in (
      ap (lines_of i) whole ∙ ap (map (line_of i)) f.ended
          ∙ ap (λ l. l ∷ lines_of i others) (line_content i x some),
      ap last_line whole ∙ f.last,
    )

-- The same of the first line with content. No text is above it, so the value is that of the whole scalar: a line feed
-- for each empty line before it, and then the line.
begin_first : (st : BlockStyle) (c : Chomping) (i k x : ℕ) (cs : List ℕ) (r : LinesRead) → is_yaml_non_break x ≡ true
    → LineRead st c i (is_blank x) cs r
    → FirstRead st c i k i (x ∷ cs) (lines_behind_text (line_feeds k) (lines_behind_text (x ∷ []) r))
begin_first st c i k x cs r e l =
    let clear = no_break x (non_break_no_break x e) in
    let here = x ∷ l.content in
    let end = tail c (is_unfinished i r.2) r.1 in
    let same : normalized (x ∷ l.taken) ≡ x ∷ normalized l.taken = normalized_other x l.taken clear.1 in
    let some : 0 < length here = omega arith in
    let plain = plain_first x l.content clear.0 l.plain in
    let joined = append_assoc (line_feeds k) (x ∷ r.0) end in
    record {
      taken = x ∷ l.taken;
      split = ap (λ ys. x ∷ ys) l.split;
      ends = l.ends;
      lines = elim l.value [
        | inl w ↦ subst (λ text. HasLines i (spaces i ++ text)) (sym (same ∙ ap (λ ys. x ∷ ys) w.0))
            (lines_cut i here plain)
        | inr w ↦ rw (same ∙ ap (λ ys. x ∷ ys) w.1) (lines_broken i here w.0 plain w.2)
      ];
      value = λ text lines last. joined
          ∙ (elim l.value [
            | inl w ↦
                let known : normalized (x ∷ l.taken) ≡ here = same ∙ ap (λ ys. x ∷ ys) w.0 in
                let cut = cut_lines i here plain in
                ap (λ ys. line_feeds k ++ (x ∷ ys)) w.1 ∙ sym (whole_cut st c i k here (ending r.2) some)
                ∙ sym (block_value_of st c i text (spaces i ++ here) (empties k) (ending r.2)
                (lines ∙ ap (λ ys. empties k ++ lines_of i (spaces i ++ ys)) known ∙ ap (λ ls. empties k ++ ls) cut.0
                ∙ append-nil (empties k)) (last ∙ ap (λ ys. last_line (spaces i ++ ys)) known ∙ cut.1))
            | inr w ↦
                let known : normalized (x ∷ l.taken) ≡ here ++ 10 ∷ w.0 = same ∙ ap (λ ys. x ∷ ys) w.1 in
                let broken = broken_lines i here w.0 plain some in
                ap (λ ys. line_feeds k ++ (x ∷ ys)) (w.3 here refl) ∙ sym (whole_broken st c i k here w.0 (ending r.2))
                ∙ sym (block_value_of st c i text (last_line w.0) (empties k ++ (Content here ∷ lines_of i w.0))
                (ending r.2)
                (lines ∙ ap (λ ys. empties k ++ lines_of i (spaces i ++ ys)) known
                ∙ ap (λ ls. empties k ++ ls) broken.0)
                (last ∙ ap (λ ys. last_line (spaces i ++ ys)) known ∙ broken.1))
          ]);
    }

first_without_content : (st : BlockStyle) (c : Chomping) (i k : ℕ) (b : Bool) (m : Marker) (xs : List ℕ) → m.col ≤ i
    → EndsLines i (line_cursor b m xs) → is_z (slice_index xs 0) ≡ false
    → FirstRead st c i k m.col xs (lines_ended false k (line_cursor b m xs))
unfolding is_unfinished
first_without_content st c i k b m xs within ends some =
    let s = line_cursor b m xs in
    let cut = only_line (spaces m.col) (plain_spaces m.col) in
    let nothing : spaces m.col ++ [] ≡ spaces m.col = append-nil (spaces m.col) in
    let mark : ending s ≡ AtMark = rw some refl in
    record {
      taken = [];
      split = refl;
      ends = ends;
      lines = rw nothing (lines_spaces i m.col within);
      value = λ text lines last. rw some (sym (whole_empty st c i k m.col within))
          ∙ ap (whole st c i (empties k) (spaces m.col)) (sym mark)
          ∙ sym (block_value_of st c i text (spaces m.col) (empties k) (ending s)
          (lines ∙ ap (λ ys. empties k ++ lines_of i ys) nothing ∙ ap (λ ls. empties k ++ map (line_of i) ls) cut.0
          ∙ append-nil (empties k)) (last ∙ ap last_line nothing ∙ cut.1));
    }

by_bool : (b : Bool) (P : Type 0) → (b ≡ true → P) → (b ≡ false → P) → P
by_bool true P here other = here refl
by_bool false P here other = other refl

-- from after the leading empty lines on
pub first_read : (st : BlockStyle) (c : Chomping) (i k : ℕ) (b : Bool) (m : Marker) (xs : List ℕ) → m.col ≤ i
    → is_indentation (Some i) m.col (slice_index xs 0) ≡ false → is_break (slice_index xs 0) ≡ false
    → is_z (slice_index xs 0) ≡ false → FirstRead st c i k m.col xs (between st i None k b m xs)
first_read st c i k b m [] within space clear some = absurd (cc)
first_read st c i k b m (x ∷ cs) within space clear some = by_bool (line_starts i m.col (x ∷ cs)) _ (λ h.
    let s = starts i m.col (x ∷ cs) h in
    let right : i < m.col + 1 = omega (arith, s.column) in
    let begins : between st i None k b m (x ∷ cs)
    ≡ lines_behind_text (line_feeds k) (lines_behind_text (x ∷ []) (line st i (is_blank x) b (along m 1) cs)) =
    cc (line_begins st i None k b m (x ∷ cs) h, line_on st i (is_blank x) b m x cs s.content) in
    let P : ℕ → LinesRead → Type 0 = λ j r. FirstRead st c i k j (x ∷ cs) r in
    subst (P m.col) (sym begins) (subst (λ j. P j (lines_behind_text (line_feeds k)
    (lines_behind_text (x ∷ []) (line st i (is_blank x) b (along m 1) cs)))) (sym s.column)
    (begin_first st c i k x cs _ s.content (line_read st c i (is_blank x) b (along m 1) cs right))))
    (λ h. subst (λ r. FirstRead st c i k m.col (x ∷ cs) r) (sym (no_line_at st i None k b m (x ∷ cs) space clear h))
    (first_without_content st c i k b m (x ∷ cs) within
    (record {
      no_space = space;
      no_break = clear;
      no_content = h;
      whole_line = λ right. absurd (omega (arith, right, within));
    }) some))
