-- What is read as a block scalar is one in the standard's words, and its span begins before its content.
use Rattle.saphyr_scalar.proofs.Common.{◌≡◌, ◌⊎◌, ℕ, zero, suc, ◌≤◌, ◌<◌, Bool, true, false, List, [], ◌∷◌, ◌++◌, length, slice_index, Ok, refl, sym, ap, ◌∙◌, arith, subst, inl, inr, append_assoc, nat_tests, append-nil, append_cancel_right, normalized, is_break, is_yaml_non_break, is_z, line_feed, space, is_document_indicator, BlockStyle, Chomping, BlockHeader, EmptyLines, Marker, Span, Cursor, eqb-true, by_test}
use Rattle.std.specs.Prelude.{◌&&◌, ◌==◌, max, map, Option, unwrap_or, IsTrue, IsFalse, nat_lt, nat_le}
use Rattle.saphyr_scalar.specs.Steps.BlockRead as step
use Rattle.saphyr_scalar.specs.Steps.BlockRead.{indentation_of}
use Rattle.saphyr_scalar.specs.Values.Block.{Line, Empty, has_content, line_of, lines_of}
use Rattle.saphyr_scalar.specs.Steps.Block.{line_starts, pass_empty_lines_at, no_lines, given_indentation, chomped_lines, content, behind_leading_lines, behind_header, block_scalar, header}
use Rattle.saphyr_scalar.specs.Reading.BlockText.{AreInside, HasNoContent, IsIndentationFrom, IsBehindLines, IsBlockText, IsHeaderLine}
use Rattle.saphyr_scalar.specs.Values.Lines.{ended_lines, last_line}
use Rattle.saphyr_scalar.specs.Passing as passing
use Rattle.saphyr_scalar.specs.Passing.{IsPassed}
use Rattle.saphyr_scalar.proofs.Block.Law.{Behind, Led, Read, led, nothing_led, behind_begun, behind_cut}
use Rattle.saphyr_scalar.proofs.Block.Reads.{header_place, then_gave, gave, refused_gave, same_gift}
use Rattle.saphyr_scalar.proofs.Block.Texts.{spaces, plain_spaces, only_line, line_spaces}
use Rattle.saphyr_scalar.proofs.Block.AsRead.HeaderLines.{header_line}
use Rattle.saphyr_scalar.proofs.Block.AsRead.InsideLines.{Within, within_nothing, empty_inside, between_inside}
use Rattle.saphyr_scalar.proofs.Block.AsRead.Widths.{Fits, indentation_read, indentation_at_end}
use Rattle.saphyr_scalar.proofs.Block.Wholes.{empties}
use Rattle.saphyr_scalar.proofs.Block.Placed.{empty_passes, between_passes}
use Rattle.saphyr_scalar.proofs.Block.PlacedHeaders.{passed_passed, one_passed, EndsHeaderLine, header_ends}
use Rattle.saphyr_scalar.proofs.Given.{given_of}

-- ## What ends the lines

starts_none : (i col : ℕ) (xs : List ℕ) → line_starts i col xs ≡ false → col ≡ i
    → IsFalse (is_yaml_non_break (slice_index xs 0)) ⊎ ((i ≡ 0) × IsTrue (is_document_indicator xs))
unfolding line_starts
starts_none i col xs = grind (arith, nat_tests, eqb-true)

ends_read : (i : ℕ) (t : Cursor) → step.EndsLines i t → IsBehindLines i t
ends_read i t e = record {
  no_space = λ s. reaches (slice_index t.rest 0) s e.no_space;
  no_break = e.no_break;
  no_content = starts_none i t.mark.col t.rest e.no_content;
  whole_line = e.whole_line;
}
  where
    reaches : (c : ℕ) → c ≡ space → ((c == space) && nat_lt t.mark.col i) ≡ false → i ≤ t.mark.col
    reaches c s h = grind (arith, nat_tests)

-- ## Where the lines end, and where the span begins

record LinesAsRead (start : Marker) (x : EmptyLines × Cursor) (y : Read) : Type 0 where
  inside : Within (x.1.mark.col ≡ 0) x.1.rest y.2.rest
  passes : IsPassed x.1.mark x.1.rest y.2.mark y.2.rest
  begins : (y.1.start ≡ start) ⊎ ((y.1.start ≡ x.1.mark) × (is_z (slice_index x.1.rest 0) ≡ false))

leading_lines_read : (style : BlockStyle) (indent : ℕ) (start : Marker) (c : Chomping) (limit : Option ℕ)
    (x : EmptyLines × Cursor) (y : Read) → behind_leading_lines style indent start c limit x ≡ Ok y
    → LinesAsRead start x y
unfolding behind_leading_lines content chomped_lines
leading_lines_read style indent start c limit x y =
    let i = unwrap_or limit (max x.0.widest indent) in
    by_test (is_z (slice_index x.1.rest 0)) _ _ (λ r. r ≡ gave y → LinesAsRead start x y)
    (λ _ e. subst (LinesAsRead start x) (same_gift _ y e)
    (record { inside = within_nothing _ x.1.rest; passes = passing.nothing x.1.mark x.1.rest; begins = inl refl }))
    (λ some. by_test (nat_lt x.1.mark.col i && nat_le indent x.1.mark.col) _ _ (λ r. r ≡ gave y → LinesAsRead start x y)
    (λ _ e. refused_gave _ y e)
    (λ _ e. subst (LinesAsRead start x) (same_gift _ y e)
    (record {
      inside = between_inside style i _ x.0.count x.1.blank_so_far x.1.mark x.1.rest;
      passes = (between_passes style i _ x.0.count x.1.blank_so_far x.1.mark x.1.rest).here;
      begins = inr (refl, some);
    })))

-- what is read has no line of spaces that is too wide
fit_read : (style : BlockStyle) (indent : ℕ) (start : Marker) (c : Chomping) (limit : Option ℕ)
    (x : EmptyLines × Cursor) (y : Read) → behind_leading_lines style indent start c limit x ≡ Ok y
    → Fits indent x.1.mark.col (unwrap_or limit (max x.0.widest indent)) x.1.rest
unfolding behind_leading_lines content chomped_lines
fit_read style indent start c limit x y = grind arith

-- ## No content before the span

no_content_in : (lines : List (List ℕ)) (i k : ℕ) (last : List ℕ) → map (line_of i) lines ≡ empties k
    → line_of i last ≡ Empty → IsFalse (has_content (map (line_of i) (lines ++ last ∷ [])))
no_content_in [] i k last e f = let P : Line → Type 0 = λ x. has_content (x ∷ []) ≡ false in subst P (sym f) refl
no_content_in (l ∷ ls) i zero last e f = absurd (cc)
no_content_in (l ∷ ls) i (suc k) last e f =
    let h : line_of i l ≡ Empty = cc in
    let t : map (line_of i) ls ≡ empties k = cc in
    let P : Line → Type 0 = λ x. has_content (x ∷ map (line_of i) (ls ++ last ∷ [])) ≡ false in
    subst P (sym h) (no_content_in ls i k last t f)

empty_read : (i : ℕ) (u v : Cursor) (k : ℕ) → Led i u v k
    → (all : List ℕ) × (u.rest ≡ all ++ v.rest) × HasNoContent i (normalized all)
empty_read i u v k l =
    let w = l.joins [] v.rest refl l.clear in
    let cut = only_line (spaces v.mark.col) (plain_spaces v.mark.col) in
    let nothing : spaces v.mark.col ++ [] ≡ spaces v.mark.col = append-nil (spaces v.mark.col) in
    let last : last_line (normalized w.0) ≡ spaces v.mark.col = cc (l.last []) in (
      w.0,
      w.1,
      no_content_in (ended_lines (normalized w.0)) i k (last_line (normalized w.0))
          (ap (lines_of i) w.2 ∙ l.lines [] ∙ ap (λ ys. empties k ++ lines_of i ys) nothing
          ∙ ap (λ ls. empties k ++ map (line_of i) ls) cut.0 ∙ append-nil (empties k))
          (ap (line_of i) last ∙ line_spaces i v.mark.col l.within),
    )

-- ## The scalar

-- the lines that are taken off are told once
same_lines : (A : Type 0) (xs rest lines : List ℕ) → xs ≡ lines ++ rest → (starts : Bool)
    → (IsTrue starts → A ⊎ (slice_index xs 0 ≡ line_feed)) → Within A xs rest → AreInside starts lines rest
same_lines A xs rest lines e starts h w =
    rw (append_cancel_right w.taken lines rest (sym w.is ∙ e)) at (w.inside starts h)

-- what was read after the header, and where the span begins
record BlockParts (style : BlockStyle) (indent : ℕ) (s : Cursor) (h : BlockHeader) (first : List ℕ) (u : Cursor)
    (y : Read) :
    Type 0 where
  i : ℕ
  own : Behind style h.chomping i u y.0 y.2
  indented : IsIndentationFrom indent h.indicator u.rest i
  inside : AreInside true own.lines y.2.rest
  before : List ℕ
  behind : List ℕ
  split : s.rest ≡ before ++ behind
  starts : IsPassed s.mark s.rest y.1.start behind
  goes_on : IsPassed y.1.start behind y.2.mark y.2.rest
  no_content : (before ≡ []) ⊎ ((empty : List ℕ) × (before ≡ first ++ empty) × HasNoContent i (normalized empty))

put_together : (style : BlockStyle) (indent : ℕ) (s : Cursor) (h : BlockHeader) (first : List ℕ) (u t : Cursor)
    (text : List ℕ) (span : Span) → s.rest ≡ first ++ u.rest → IsHeaderLine h.indicator h.chomping u.rest first
    → BlockParts style indent s h first u (text, span, t)
    → IsBlockText style indent s text span.start t
put_together style indent s h first u t text span e l p = grind (arith, ends_read)

-- after a header's line
behind_header_line : (style : BlockStyle) (indent : ℕ) (s : Cursor) (h : BlockHeader) (first : List ℕ) (u : Cursor)
    (y : Read)
    → s.rest ≡ first ++ u.rest → IsPassed s.mark s.rest u.mark u.rest → u.mark.col ≡ 0 → u.blank_so_far ≡ true
    → behind_header style indent s.mark (h, u) ≡ Ok y
    → BlockParts style indent s h first u y
unfolding behind_header
behind_header_line style indent s h first u y e p col blank is =
    let limit = given_indentation indent h.indicator in
    let x = pass_empty_lines_at limit no_lines u in
    let i = indentation_of indent h u in
    let l : Led i u x.1 x.0.count = led limit indent u col blank in
    let own = behind_begun style indent s.mark h.chomping i 0 limit u x y l refl is in
    let known = leading_lines_read style indent s.mark h.chomping limit x y is in
    let within = empty_inside limit no_lines u.blank_so_far u.mark u.rest y.2.rest known.inside in
    let inside = same_lines (u.mark.col ≡ 0) u.rest y.2.rest own.lines own.taken true (λ _. inl col) within in
    let fits = fit_read style indent s.mark h.chomping limit x y is in
    let indented = indentation_read indent h.indicator u col fits in
    let passes = (empty_passes limit no_lines u.blank_so_far u.mark u.rest).here in
    let whole = passed_passed s.mark s.rest u.mark u.rest x.1.mark x.1.rest p passes in
    let all = passed_passed s.mark s.rest x.1.mark x.1.rest y.2.mark y.2.rest whole known.passes in
    elim known.begins [
      | inl a ↦ record {
        i = i;
        own = own;
        indented = indented;
        inside = inside;
        before = [];
        behind = s.rest;
        split = refl;
        starts = rw a (passing.nothing s.mark s.rest);
        goes_on = rw a all;
        no_content = inl refl;
      }
      | inr a ↦
          let w = empty_read i u x.1 x.0.count l in
          record {
            i = i;
            own = own;
            indented = indented;
            inside = inside;
            before = first ++ w.0;
            behind = x.1.rest;
            split = e ∙ ap (λ r. first ++ r) w.1 ∙ sym (append_assoc first w.0 x.1.rest);
            starts = rw a.0 whole;
            goes_on = rw a.0 known.passes;
            no_content = inr (w.0, refl, w.2);
          }
    ]

-- a header that the text's end cuts
no_lines_at_end : (xs rest : List ℕ) → is_z (slice_index xs 0) ≡ true → (lines : List ℕ) → xs ≡ lines ++ rest
    → AreInside false lines rest → AreInside true lines rest
no_lines_at_end xs rest z [] e h = tt
no_lines_at_end xs rest z (c ∷ cs) e h = grind (arith, nat_tests, eqb-true, slice_index)

-- A block scalar whose header is cut by the text's end. No line follows, so nothing is before its content, and all
-- that is left to show is that the empty rest has the form of lines.
whole_at_end : (style : BlockStyle) (indent : ℕ) (s : Cursor) (h : BlockHeader) (first : List ℕ) (u : Cursor) (y : Read)
    → s.rest ≡ first ++ u.rest → IsPassed s.mark s.rest u.mark u.rest → is_z (slice_index u.rest 0) ≡ true
    → u.blank_so_far ≡ false → behind_header style indent s.mark (h, u) ≡ Ok y → BlockParts style indent s h first u y
unfolding behind_header
whole_at_end style indent s h first u y e p z blank is =
    let limit = given_indentation indent h.indicator in
    let x = pass_empty_lines_at limit no_lines u in
    let found = indentation_at_end indent h.indicator u.rest z in
    let cut = ap (behind_leading_lines style indent s.mark h.chomping limit) (sym (nothing_led limit u z)) ∙ is in
    let own = behind_cut style indent s.mark h.chomping found.0 limit u y z blank cut in
    let known = leading_lines_read style indent s.mark h.chomping limit x y is in
    let within = empty_inside limit no_lines u.blank_so_far u.mark u.rest y.2.rest known.inside in
    let inside = same_lines (u.mark.col ≡ 0) u.rest y.2.rest own.lines own.taken false (λ k. absurd (cc)) within in
    let inside_all = no_lines_at_end u.rest y.2.rest z own.lines own.taken inside in
    let passes = (empty_passes limit no_lines u.blank_so_far u.mark u.rest).here in
    let whole = passed_passed s.mark s.rest u.mark u.rest x.1.mark x.1.rest p passes in
    let all = passed_passed s.mark s.rest x.1.mark x.1.rest y.2.mark y.2.rest whole known.passes in
    let there : x.1 ≡ u = ap (λ (r : EmptyLines × Cursor). r.1) (nothing_led limit u z) in
    let start : y.1.start ≡ s.mark = elim known.begins [
      | inl a ↦ a
      | inr a ↦ absurd (let k : is_z (slice_index u.rest 0) ≡ false =
          ap (λ (r : Cursor). is_z (slice_index r.rest 0)) (sym there) ∙ a.1 in cc)
    ] in
    record {
      i = found.0;
      own = own;
      indented = found.1;
      inside = inside_all;
      before = [];
      behind = s.rest;
      split = refl;
      starts = rw start (passing.nothing s.mark s.rest);
      goes_on = rw start all;
      no_content = inl refl;
    }

pub block_text : (style : BlockStyle) (indent : ℕ) (s t : Cursor) (text : List ℕ) (span : Span)
    → is_break (slice_index s.rest 0) ≡ false → 0 < length s.rest → block_scalar style indent s ≡ Ok (text, span, t)
    → IsBlockText style indent s text span.start t
unfolding block_scalar
block_text style indent s t text span b some e =
    let w = then_gave (header s) (behind_header style indent s.mark) (text, span, t) e in
    let l = header_line s w.0 some w.1 in
    let p = (given_of (λ (y : BlockHeader × Cursor). EndsHeaderLine s y.1) (header s) w.0
    (header_ends s (one_passed s b (omega (arith, some)))) w.1).passes in
    put_together style indent s w.0.0 l.0 w.0.1 t text span l.1 l.2
    (elim (header_place s w.0 w.1) [
      | inl q ↦ behind_header_line style indent s w.0.0 l.0 w.0.1 (text, span, t) l.1 p q.0 q.1 w.2
      | inr q ↦ whole_at_end style indent s w.0.0 l.0 w.0.1 (text, span, t) l.1 p q.0 q.1 w.2
    ])
