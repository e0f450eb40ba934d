-- What is read as a block scalar is the value of its lines.
use Rattle.saphyr_scalar.proofs.Common.{◌≡◌, ℕ, ◌≤◌, true, false, List, [], ◌∷◌, ◌++◌, slice_index, Ok, refl, sym, ap, ◌∙◌, arith, subst, map, encode_utf8_all, inl, inr, max, Option, Some, None, unwrap_or, append-nil, normalized, is_break, is_z, is_yaml_non_break, BlockStyle, Chomping, AtEnd, Marker, Span, BlockHeader, EmptyLines, Cursor, along, next_line, by_test, z_is_nul}
use Rattle.saphyr_scalar.specs.Values.Block.{lines_of, line_of, block_value}
use Rattle.saphyr_scalar.specs.Values.Lines.{last_line}
use Rattle.saphyr_scalar.specs.Steps.BlockRead.{indentation_of, IsRead, EndsLines}
use Rattle.saphyr_scalar.specs.Reading.BlockLines.{ending, HasLines}
use Rattle.saphyr_scalar.specs.Steps.Block.{is_indentation, is_cr_lf, inside_break, with_empty_line, with_column, pass_empty_lines, pass_empty_lines_at, between_at, tail, tail_alone, is_unfinished, chomped_lines, content, behind_leading_lines, behind_header, block_scalar, header, no_lines, given_indentation}
use Rattle.saphyr_scalar.proofs.Block.Lines.{stops}
use Rattle.saphyr_scalar.proofs.Block.Turns.{stopped, no_start}
use Rattle.saphyr_scalar.proofs.Block.Texts.{spaces, plain_spaces, only_line, lines_spaces}
use Rattle.saphyr_scalar.proofs.Block.Wholes.{empties, whole, whole_alone, block_value_of, first_read}
use Rattle.saphyr_scalar.proofs.Block.Reads.{Leading, leading, within_limit, IsBehindHeaderLine, header_place, then_gave, gave, refused_gave, same_gift}
use Rattle.saphyr_scalar.proofs.Block.Indentations.{nul_no_indentation}

-- a line that was begun is still begun by blanks alone
abbrev Begun : EmptyLines × Cursor → Type 0
Begun r = r.1.blank_so_far ≡ true

begun_by_empty_lines : (limit : Option ℕ) (before : EmptyLines) (m : Marker) (xs : List ℕ)
    → Begun (pass_empty_lines limit before true m xs)
unfolding pass_empty_lines
begun_by_empty_lines limit before m [] = refl
begun_by_empty_lines limit before m (x ∷ cs) =
    by_test (is_indentation limit m.col x) _ _ Begun (λ _. begun_by_empty_lines limit before (along m 1) cs)
    (λ _. by_test (is_cr_lf x cs) _ _ Begun (λ _. begun_by_empty_lines limit before (inside_break m) cs)
    (λ _. by_test (is_break x) _ _ Begun
    (λ _. begun_by_empty_lines limit (with_empty_line before m.col) (next_line m 1) cs) (λ _. refl)))

z_is_none : (x : ℕ) → is_z x ≡ true → is_yaml_non_break x ≡ false
z_is_none x h = ap is_yaml_non_break (z_is_nul x h)

-- what was taken off after a header, and the value of it
pub record Behind (st : BlockStyle) (c : Chomping) (i : ℕ) (u : Cursor) (text : List ℕ) (t : Cursor) : Type 0 where
  pub lines : List ℕ
  pub taken : u.rest ≡ lines ++ t.rest
  pub indented : HasLines i (normalized lines)
  pub ends : EndsLines i t
  pub value : text ≡ encode_utf8_all (block_value st c i (normalized lines) (ending t))

-- the leading empty lines, from a line's start on, for lines of the indentation i
pub record Led (i : ℕ) (u v : Cursor) (k : ℕ) : Type 0 where
  pub front : List ℕ
  pub joins : (taken rest : List ℕ) → v.rest ≡ taken ++ rest → is_break (slice_index rest 0) ≡ false
      → (all : List ℕ) × (u.rest ≡ all ++ rest) × (normalized all ≡ front ++ normalized taken)
  pub lines : (text : List ℕ) → lines_of i (front ++ text) ≡ empties k ++ lines_of i (spaces v.mark.col ++ text)
  pub last : (text : List ℕ) → last_line (front ++ text) ≡ last_line (spaces v.mark.col ++ text)
  pub shape : (text : List ℕ) → HasLines i (spaces v.mark.col ++ text) → HasLines i (front ++ text)
  pub within : v.mark.col ≤ i
  pub space : is_indentation (Some i) v.mark.col (slice_index v.rest 0) ≡ false
  pub clear : is_break (slice_index v.rest 0) ≡ false
  pub begun : v.blank_so_far ≡ true

no_space : (limit : Option ℕ) (indent col w x : ℕ) → is_indentation limit col x ≡ false
    → is_indentation (Some (unwrap_or limit (max w indent))) col x ≡ false
no_space limit indent col w x h = grind arith

wide : (limit : Option ℕ) (indent : ℕ) (m : Marker) (xs : List ℕ) → m.col ≡ 0
    → (pass_empty_lines limit no_lines true m xs).0.widest
    ≤ unwrap_or limit (max (pass_empty_lines limit no_lines true m xs).0.widest indent)
wide None indent m xs e = omega arith
wide (Some i) indent m xs e = within_limit i no_lines true m xs (omega arith) (omega arith)

pub led : (limit : Option ℕ) (indent : ℕ) (u : Cursor) → u.mark.col ≡ 0 → u.blank_so_far ≡ true
    → Led (unwrap_or limit (max (pass_empty_lines_at limit no_lines u).0.widest indent)) u
    (pass_empty_lines_at limit no_lines u).1 (pass_empty_lines_at limit no_lines u).0.count
led limit indent u col blank =
    let m = u.mark in
    let xs = u.rest in
    let r = pass_empty_lines limit no_lines true m xs in
    let i = unwrap_or limit (max r.0.widest indent) in
    let l : Leading 0 no_lines xs r = subst (λ j. Leading j no_lines xs r) col (leading limit no_lines true m xs) in
    let stop = stopped limit no_lines true m xs in
    let far = wide limit indent m xs col in
    let count : l.d ≡ r.0.count = omega (arith, l.count) in
    let here : Led i u r.1 r.0.count = record {
      front = l.front;
      joins = l.joins;
      lines = λ text. l.lines i text far ∙ ap (λ n. empties n ++ lines_of i (spaces r.1.mark.col ++ text)) count;
      last = l.last;
      shape = λ text h. l.shape i text far h;
      within = omega (arith, l.reached, far);
      space = no_space limit indent r.1.mark.col r.0.widest (slice_index r.1.rest 0) stop.0;
      clear = stop.1;
      begun = begun_by_empty_lines limit no_lines m xs;
    } in
    let P : EmptyLines × Cursor → Type 0 = λ x. Led (unwrap_or limit (max x.0.widest indent)) u x.1 x.0.count in
    subst P (ap (λ b. pass_empty_lines limit no_lines b m xs) (sym blank)) here

-- what is read of a block scalar: its text, its span, and what comes after it
abbrev pub Read : Type 0
Read = List ℕ × Span × Cursor

-- without content
pub alone_read : (st : BlockStyle) (c : Chomping) (i : ℕ) (u v : Cursor) (k : ℕ) → Led i u v k
    → is_z (slice_index v.rest 0) ≡ true → Behind st c i u (encode_utf8_all (tail_alone c k v)) v
alone_read st c i u v k l z =
    let w = l.joins [] v.rest refl l.clear in
    let cut = only_line (spaces v.mark.col) (plain_spaces v.mark.col) in
    let nothing : spaces v.mark.col ++ [] ≡ spaces v.mark.col = append-nil (spaces v.mark.col) in
    let ends : ending v ≡ AtEnd = rw z refl in
    record {
      lines = w.0;
      taken = w.1;
      indented = rw w.2 (l.shape [] (rw nothing (lines_spaces i v.mark.col l.within)));
      ends = record {
        no_space = l.space;
        no_break = l.clear;
        no_content = no_start i v.mark.col v.rest (z_is_none _ z);
        whole_line = λ _. z_is_none _ z;
      };
      value = ap encode_utf8_all (sym (block_value_of st c i (normalized w.0) (spaces v.mark.col) (empties k) (ending v)
          (ap (lines_of i) w.2 ∙ l.lines [] ∙ ap (λ ys. empties k ++ lines_of i ys) nothing
          ∙ ap (λ ls. empties k ++ map (line_of i) ls) cut.0 ∙ append-nil (empties k))
          (ap last_line w.2 ∙ l.last [] ∙ ap last_line nothing ∙ cut.1)
          ∙ ap (whole st c i (empties k) (spaces v.mark.col)) ends
          ∙ whole_alone st c i k v.mark.col v l.within refl l.begun));
    }

-- with content, or before a line that ends the scalar
lines_behind : (st : BlockStyle) (c : Chomping) (i : ℕ) (u v : Cursor) (k : ℕ) → Led i u v k
    → is_z (slice_index v.rest 0) ≡ false
    → let x = between_at st i None k v in
    Behind st c i u (encode_utf8_all (x.0 ++ tail c (is_unfinished i x.2) x.1)) x.2
lines_behind st c i u v k l z =
    let f = first_read st c i k v.blank_so_far v.mark v.rest l.within l.space l.clear z in
    let w = l.joins f.taken (between_at st i None k v).2.rest f.split f.ends.no_break in
    record {
      lines = w.0;
      taken = w.1;
      indented = rw w.2 (l.shape (normalized f.taken) f.lines);
      ends = f.ends;
      value = ap encode_utf8_all (f.value (normalized w.0) (ap (lines_of i) w.2 ∙ l.lines (normalized f.taken))
          (ap last_line w.2 ∙ l.last (normalized f.taken)));
    }

-- a header that the text's end cuts
nothing_alone : (c : Chomping) (s : Cursor) → s.blank_so_far ≡ false → tail_alone c 0 s ≡ []
unfolding tail_alone
nothing_alone c s h = grind arith

nothing_read : (st : BlockStyle) (c : Chomping) (i : ℕ) → block_value st c i [] AtEnd ≡ []
nothing_read st c i = grind arith

pub nothing_led : (limit : Option ℕ) (u : Cursor) → is_z (slice_index u.rest 0) ≡ true
    → pass_empty_lines_at limit no_lines u ≡ (with_column no_lines u.mark.col, u)
nothing_led limit u z = grind (arith, z_is_nul, slice_index, stops, nul_no_indentation)

as_read_behind : (st : BlockStyle) (c : Chomping) (i : ℕ) (u : Cursor) (x y : Read) → gave x ≡ gave y
    → Behind st c i u x.0 x.2 → Behind st c i u y.0 y.2
as_read_behind st c i u x y e b = rw (same_gift x y e) at b

pub behind_begun : (st : BlockStyle) (indent : ℕ) (start : Marker) (c : Chomping) (i k : ℕ) (limit : Option ℕ)
    (u : Cursor) (x : EmptyLines × Cursor) (y : Read) → Led i u x.1 x.0.count
    → unwrap_or limit (max x.0.widest indent) ≡ i
    → behind_leading_lines st indent start c limit x ≡ Ok y → Behind st c i u y.0 y.2
unfolding behind_leading_lines content chomped_lines
behind_begun st indent start c i k limit u x y l same =
    grind (arith, gave, as_read_behind, alone_read, refused_gave, lines_behind)

pub behind_cut : (st : BlockStyle) (indent : ℕ) (start : Marker) (c : Chomping) (i : ℕ) (limit : Option ℕ) (u : Cursor)
    (y : Read) → is_z (slice_index u.rest 0) ≡ true → u.blank_so_far ≡ false
    → behind_leading_lines st indent start c limit (with_column no_lines u.mark.col, u) ≡ Ok y → Behind st c i u y.0 y.2
unfolding behind_leading_lines
behind_cut st indent start c i limit u y z blank e =
    grind (
      arith,
      as_read_behind,
      encode_utf8_all,
      z_is_nul,
      lines_spaces,
      no_space,
      nul_no_indentation,
      no_start,
      z_is_none,
      nothing_alone,
      nothing_read,
    )

behind_place : (st : BlockStyle) (indent : ℕ) (start : Marker) (h : BlockHeader) (u : Cursor) (y : Read)
    → IsBehindHeaderLine u
    → behind_header st indent start (h, u) ≡ Ok y → Behind st h.chomping (indentation_of indent h u) u y.0 y.2
unfolding behind_header
behind_place st indent start h u y (inl p) e =
    let limit = given_indentation indent h.indicator in
    behind_begun st indent start h.chomping (indentation_of indent h u) 0 limit u
    (pass_empty_lines_at limit no_lines u) y (led limit indent u p.0 p.1) refl e
behind_place st indent start h u y (inr p) e =
    let limit = given_indentation indent h.indicator in
    behind_cut st indent start h.chomping (indentation_of indent h u) limit u y p.0 p.1
    (ap (behind_leading_lines st indent start h.chomping limit) (sym (nothing_led limit u p.0)) ∙ e)

pub values_of_lines : (st : BlockStyle) (indent : ℕ) (s t : Cursor) (text : List ℕ) (span : Span)
    → block_scalar st indent s ≡ Ok (text, span, t) → IsRead st indent s text t
unfolding block_scalar
values_of_lines st indent s t text span e =
    let w = then_gave (header s) (behind_header st indent s.mark) (text, span, t) e in
    let b = behind_place st indent s.mark w.0.0 w.0.1 (text, span, t) (header_place s w.0 w.1) w.2 in
    record {
      header = w.0.0;
      behind = w.0.1;
      lines = b.lines;
      first = w.1;
      taken = b.taken;
      indented = b.indented;
      ends = b.ends;
      value = b.value;
    }
