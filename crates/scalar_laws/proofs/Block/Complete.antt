-- Where a block scalar is spelled, it is read.
use Rattle.std.proofs.Common.{◌≡◌, ◌≢◌, ℕ, zero, suc, ◌+◌, ◌<◌, ◌≤◌, Bool, true, false, List, [], ◌∷◌, ◌++◌, length, slice_index, max, Ok, refl, sym, ap, inl, inr, ◌∙◌, arith, subst, nat_eq, nat_lt, nat_le, encode_utf8_all}
use Rattle.scalar_laws.proofs.Common.{◌&&◌, ◌==◌, Option, Some, None, unwrap_or, ◌⊎◌, nat_tests, is_break, is_z, is_yaml_non_break, is_document_indicator, BlockStyle, Chomping, Marker, Cursor, along, spaces, IsIndentation, IsBehind, IsBody, first, AreEmptyLines, no_empty_lines, empty_line, empty_line_and_spaces, IsEmptyBody, empty_lines, spaces_alone, IsBlockScalar, IsTaken, Line, Empty, has_content, chomped_alone, lines_value, line_feeds, no_line_at, and_false, clash, by_test}
use Rattle.saphyr_scalar.specs.declared.scalar.position.Span.{Span}
use Rattle.saphyr_scalar.specs.Steps.Block.{BlockHeaderRead, EmptyLinesRead, pass_empty_lines, pass_empty_lines_at, between_at, tail, tail_alone, is_unfinished, is_indentation, line_starts, line_cursor, with_column, lines_ended, chomped_lines, content, behind_leading_lines, behind_header, block_scalar, header, no_lines, given_indentation, BlockScalarRead}
use Rattle.saphyr_scalar.proofs.Block.Reads.{same_gift}
use Rattle.saphyr_scalar.proofs.Block.Law.{values_of_lines}
use Rattle.scalar_laws.proofs.Block.PlacedValues.{Left, none_starts, no_break_at, nothing_behind, Value}
use Rattle.scalar_laws.proofs.Block.EmptyBodies.{Passed, no_space_behind, no_indentation, empty_passed, spaces_passed, empty_lines_alone}
use Rattle.scalar_laws.proofs.Block.LeadingLines.{IsLimit, Led, led_on}
use Rattle.scalar_laws.proofs.Block.Headers.{header_read}

-- the indentation's limit is that of the header
pub limit_of : (indent i d : ℕ) (is_given : Bool) → IsIndentation indent i d is_given
    → IsLimit i is_given (given_indentation indent d)
unfolding given_indentation
limit_of indent i d is_given h = grind arith

pub found_as : (indent i d w : ℕ) (is_given : Bool) → IsIndentation indent i d is_given → w ≡ i
    → unwrap_or (given_indentation indent d) (max w indent) ≡ i
unfolding given_indentation
found_as indent i d w is_given h e = grind arith

no_z : (x : ℕ) → is_yaml_non_break x ≡ true → is_z x ≡ false
no_z x h = grind arith

-- what was read after the header, with the leading empty lines
record ScalarRead (st : BlockStyle) (c : Chomping) (indent i n : ℕ) (others : List ℕ) (start : Marker)
    (limit : Option ℕ) (ls : List Line) (r : EmptyLinesRead × Cursor) : Type 0 where
  text : List ℕ
  span : Span
  left : Cursor
  read : behind_leading_lines st indent start c limit r ≡ Ok (text, span, left)
  rest : left.rest ≡ others
  column : (left.mark.col ≡ n) ⊎ (others ≡ [])
  begins : has_content ls ≡ true → span.start.col ≡ i
  end : span.end ≡ left.mark
  value : text ≡ encode_utf8_all (lines_value st c true ls)

-- the content is read, from its first character on
content_read : (st : BlockStyle) (c : Chomping) (indent i n : ℕ) (others : List ℕ) (start : Marker)
    (limit : Option ℕ) (ls : List Line) (r : EmptyLinesRead × Cursor) → Led st c i n others no_lines ls r
    → unwrap_or limit (max r.0.widest indent) ≡ i → ScalarRead st c indent i n others start limit ls r
unfolding behind_leading_lines content chomped_lines
content_read st c indent i n others start limit ls r l same =
    let j = unwrap_or limit (max r.0.widest indent) in
    let z = between_at st j None r.0.count r.1 in
    let text = encode_utf8_all (z.0 ++ tail c (is_unfinished j z.2) z.1) in
    let span : Span = record { start = r.1.mark; end = z.2.mark } in
    let P : ℕ → Type 0 = λ k. Left n others (between_at st k None r.0.count r.1) in
    let left : Left n others z = subst P (sym same) (l.left r.0.count) in
    let V : ℕ → Type 0 = λ k. Value c k (between_at st k None r.0.count r.1) ≡ line_feeds r.0.count ++ l.later in
    let count : r.0.count ≡ l.d = omega (arith, l.count) in
    let all : lines_value st c true ls ≡ line_feeds l.d ++ l.later = rw l.some (l.whole 0) in
    let read : Value c j z ≡ lines_value st c true ls = subst V (sym same) (l.value r.0.count)
    ∙ ap (λ k. line_feeds k ++ l.later) count ∙ sym all in
    let within : nat_lt r.1.mark.col j ≡ false = grind (arith, nat_tests) in
    let no : (nat_lt r.1.mark.col j && nat_le indent r.1.mark.col) ≡ false = cc in
    let Goal : BlockScalarRead → Type 0 = λ x. x ≡ Ok (text, span, z.2) in
    let known =
    by_test (is_z (slice_index r.1.rest 0)) _ _ Goal (λ h. clash _ h (no_z (slice_index r.1.rest 0) l.starts))
    (λ _. by_test (nat_lt r.1.mark.col j && nat_le indent r.1.mark.col) _ _ Goal (λ h. clash _ h no) (λ _. refl)) in
    record {
      text = text;
      span = span;
      left = z.2;
      read = known;
      rest = left.0;
      column = left.1;
      begins = λ _. l.column;
      end = refl;
      value = ap encode_utf8_all read;
    }

-- ## Without content

-- up to the text's end
end_read : (st : BlockStyle) (c : Chomping) (indent i n : ℕ) (others : List ℕ) (start : Marker) (limit : Option ℕ)
    (ls : List Line) (r : EmptyLinesRead × Cursor) → has_content ls ≡ false → is_z (slice_index r.1.rest 0) ≡ true
    → r.1.rest ≡ others → (r.1.mark.col ≡ n) ⊎ (others ≡ []) → tail_alone c r.0.count r.1 ≡ chomped_alone c (length ls)
    → ScalarRead st c indent i n others start limit ls r
unfolding behind_leading_lines
end_read st c indent i n others start limit ls r no_content z rest column stays =
    let text = encode_utf8_all (tail_alone c r.0.count r.1) in
    let span : Span = record { start = start; end = r.1.mark } in
    let Goal : BlockScalarRead → Type 0 = λ x. x ≡ Ok (text, span, r.1) in
    record {
      text = text;
      span = span;
      left = r.1;
      read = by_test (is_z (slice_index r.1.rest 0)) _ _ Goal (λ _. refl) (λ h. clash _ z h);
      rest = rest;
      column = column;
      begins = λ some. clash _ some no_content;
      end = refl;
      value = ap encode_utf8_all (stays ∙ none_value ls no_content);
    }
  where
    none_value : (ls : List Line) → has_content ls ≡ false → chomped_alone c (length ls) ≡ lines_value st c true ls
    none_value ls h = rw h refl

-- the breaks of empty lines stay, but for a last line of spaces that is alone
plain_tail : (c : Chomping) (k : ℕ) (s : Cursor) → ((k == 0) && s.blank_so_far && nat_lt 0 s.mark.col) ≡ false
    → tail_alone c k s ≡ chomped_alone c k
unfolding tail_alone
plain_tail c k s h = grind arith

spaced_tail : (c : Chomping) (s : Cursor) → s.blank_so_far ≡ true → 1 ≤ s.mark.col
    → tail_alone c 0 s ≡ chomped_alone c 1
unfolding tail_alone
spaced_tail c s blank some = grind arith

no_breaks_tail : (c : Chomping) (k : ℕ) → tail c false (record { broken = false; empty_lines = k }) ≡ chomped_alone c k
no_breaks_tail c k = grind arith

-- the indentation that is taken for a scalar without content
low_of : (indent i d w : ℕ) (is_given : Bool) → IsIndentation indent i d is_given → w ≤ i
    → (indent ≤ unwrap_or (given_indentation indent d) (max w indent))
    × (unwrap_or (given_indentation indent d) (max w indent) ≤ i)
unfolding given_indentation
low_of indent i d w is_given h e = grind arith

-- Up to a line that begins left of `indent`, or at column 0.
left_read : (st : BlockStyle) (c : Chomping) (indent i n : ℕ) (x others : List ℕ) (start : Marker) (limit : Option ℕ)
    (ls : List Line) (r : EmptyLinesRead × Cursor) → has_content ls ≡ false → IsBehind i n x others
    → Passed i n others no_lines ls r → r.1.mark.col ≡ n → is_z (slice_index others 0) ≡ false
    → indent ≤ unwrap_or limit (max r.0.widest indent) → unwrap_or limit (max r.0.widest indent) ≤ i
    → (n < indent) ⊎ (i ≡ 0) → ScalarRead st c indent i n others start limit ls r
unfolding behind_leading_lines content chomped_lines is_unfinished
left_read st c indent i n x others start limit ls r no_content h p col others_no_z low high cond =
    let j = unwrap_or limit (max r.0.widest indent) in
    let no_z : is_z (slice_index r.1.rest 0) ≡ false = cc in
    let no_space : is_indentation (Some j) r.1.mark.col (slice_index r.1.rest 0) ≡ false =
    cc (no_indentation (Some j) r.1.mark.col (slice_index others 0) (no_space_behind i n x others h)) in
    let no_break : is_break (slice_index r.1.rest 0) ≡ false = cc (no_break_at (slice_index others 0) h.no_break
    h.no_return) in
    let no_start : line_starts j r.1.mark.col r.1.rest ≡ false = cc (none_starts j n others (λ e. not_here cond e)) in
    let z = between_at st j None r.0.count r.1 in
    let ended : z ≡ lines_ended false r.0.count (line_cursor r.1.blank_so_far r.1.mark r.1.rest) =
    no_line_at st j None r.0.count r.1.blank_so_far r.1.mark r.1.rest no_space no_break no_start in
    let value : z.0 ++ tail c (is_unfinished j z.2) z.1 ≡ chomped_alone c r.0.count = cc (no_breaks_tail c r.0.count) in
    let no : (nat_lt r.1.mark.col j && nat_le indent r.1.mark.col) ≡ false = not_between cond in
    let Goal : BlockScalarRead → Type 0 = λ y. y
    ≡ Ok (encode_utf8_all (z.0 ++ tail c (is_unfinished j z.2) z.1), record { start = r.1.mark; end = z.2.mark }, z.2)
    in
    let count : r.0.count ≡ length ls = omega (arith, p.count) in
    let known = by_test (is_z (slice_index r.1.rest 0)) _ _ Goal (λ k. clash _ k no_z)
    (λ _. by_test (nat_lt r.1.mark.col j && nat_le indent r.1.mark.col) _ _ Goal (λ k. clash _ k no) (λ _. refl)) in
    record {
      text = encode_utf8_all (z.0 ++ tail c (is_unfinished j z.2) z.1);
      span = record { start = r.1.mark; end = z.2.mark };
      left = z.2;
      read = known;
      rest = cc;
      column = inl (cc);
      begins = λ some. clash _ some no_content;
      end = refl;
      value = ap encode_utf8_all (cc (none_value ls no_content));
    }
  where
    none_value : (ls : List Line) → has_content ls ≡ false → chomped_alone c (length ls) ≡ lines_value st c true ls
    none_value ls h = rw h refl

    not_here : (n < indent) ⊎ (i ≡ 0) → n ≡ unwrap_or limit (max r.0.widest indent)
        → (is_yaml_non_break (slice_index others 0) ≡ false)
        ⊎ ((unwrap_or limit (max r.0.widest indent) ≡ 0) × (is_document_indicator others ≡ true))
    not_here (inl less) e = absurd (let no : ⊥ = omega (arith, less, e, low) in no)
    not_here (inr zero_is) e = at_start (h.no_content (omega (arith, zero_is, e, high)))
      where
        at_start : (is_yaml_non_break (slice_index others 0) ≡ false)
            ⊎ ((i ≡ 0) × (is_document_indicator others ≡ true)) → (is_yaml_non_break (slice_index others 0) ≡ false)
            ⊎ ((unwrap_or limit (max r.0.widest indent) ≡ 0) × (is_document_indicator others ≡ true))
        at_start (inl k) = inl k
        at_start (inr (_, k)) = inr (omega (arith, zero_is, high), k)

    not_between : (n < indent) ⊎ (i ≡ 0)
        → (nat_lt r.1.mark.col (unwrap_or limit (max r.0.widest indent)) && nat_le indent r.1.mark.col) ≡ false
    not_between (inl less) =
        let left : nat_le indent r.1.mark.col ≡ false = let g : r.1.mark.col < indent = omega (arith, col, less) in
        grind (arith, nat_tests) in
        rw left (and_false (nat_lt r.1.mark.col (unwrap_or limit (max r.0.widest indent))))
    not_between (inr zero_is) =
        let right : nat_lt r.1.mark.col (unwrap_or limit (max r.0.widest indent)) ≡ false =
        let g : unwrap_or limit (max r.0.widest indent) ≤ 0 = omega (arith, high, zero_is) in grind (arith, nat_tests)
        in
        rw right refl

-- what empty lines alone end with
empty_read : (st : BlockStyle) (c : Chomping) (indent i n d : ℕ) (is_given : Bool) (x others : List ℕ) (start : Marker)
    (ls : List Line) (r : EmptyLinesRead × Cursor) → has_content ls ≡ false → IsIndentation indent i d is_given
    → IsBehind i n x others → Passed i n others no_lines ls r → (n < indent) ⊎ ((i ≡ 0) ⊎ (x ≡ []))
    → ScalarRead st c indent i n others start (given_indentation indent d) ls r
empty_read st c indent i n d is_given x others start ls r no_content ind h p cond =
    by_end (is_z (slice_index others 0)) refl
  where
    at_n : (r.1.mark.col ≡ n) ⊎ ((others ≡ []) × (1 ≤ length ls)) → is_z (slice_index others 0) ≡ false
        → r.1.mark.col ≡ n
    at_n (inl e) k = e
    at_n (inr (e, _)) k = clash _ (cc) k

    left : (n < indent) ⊎ ((i ≡ 0) ⊎ (x ≡ [])) → is_z (slice_index others 0) ≡ false → (n < indent) ⊎ (i ≡ 0)
    left (inl e) k = inl e
    left (inr (inl e)) k = inr e
    left (inr (inr e)) k = clash _ (cc (nothing_behind i n x others e h)) k

    count : r.0.count ≡ length ls
    count = omega (arith, p.count)

    column : (r.1.mark.col ≡ n) ⊎ ((others ≡ []) × (1 ≤ length ls)) → (r.1.mark.col ≡ n) ⊎ (others ≡ [])
    column (inl e) = inl e
    column (inr (e, _)) = inr e

    no_space_alone : (r.1.mark.col ≡ n) ⊎ ((others ≡ []) × (1 ≤ length ls)) → is_z (slice_index others 0) ≡ true
        → ((r.0.count == 0) && r.1.blank_so_far && nat_lt 0 r.1.mark.col) ≡ false
    no_space_alone (inl e) k =
        let zero_is = h.finished k in
        let none : nat_lt 0 r.1.mark.col ≡ false = let g : r.1.mark.col ≤ 0 = omega (arith, e, zero_is) in
        grind (arith, nat_tests) in
        rw none (and_false (nat_eq r.0.count 0 && r.1.blank_so_far))
    no_space_alone (inr (e, some)) k =
        let none : nat_eq r.0.count 0 ≡ false = let g : 1 ≤ r.0.count = omega (arith, some, count) in
        grind (arith, nat_tests) in
        rw none refl

    by_end : (z : Bool) → is_z (slice_index others 0) ≡ z
        → ScalarRead st c indent i n others start (given_indentation indent d) ls r
    by_end true k =
        end_read st c indent i n others start (given_indentation indent d) ls r no_content (cc) p.rest (column p.column)
        (plain_tail c r.0.count r.1 (no_space_alone p.column k) ∙ ap (chomped_alone c) count)
    by_end false k =
        let between = low_of indent i d r.0.widest is_given ind p.widest in
        left_read st c indent i n x others start (given_indentation indent d) ls r no_content h p (at_n p.column k) k
        between.0 between.1 (left cond k)

header_then : (st : BlockStyle) (indent : ℕ) (s : Cursor) (x : BlockHeaderRead × Cursor) (y : List ℕ × Span × Cursor)
    → header s ≡ Ok x → behind_header st indent s.mark x ≡ Ok y → block_scalar st indent s ≡ Ok y
unfolding block_scalar
header_then st indent s x y e f = cc

some_behind : (j c : ℕ) (cs : List ℕ) → spaces j ++ (c ∷ cs) ≢ []
some_behind zero c cs e = cc
some_behind (suc j) c cs e = cc

-- nothing comes after the header
body_some : {i : ℕ} {is_given : Bool} {x : List ℕ} {ls : List Line} {t : List ℕ} → IsBody i is_given x ls t → t ≢ []
body_some {i} h e = grind (arith, some_behind)

some_spaces : (j : ℕ) → 1 ≤ j → spaces j ≢ []
some_spaces zero some e = omega arith
some_spaces (suc j) some e = cc

nothing_passed : (limit : Option ℕ) (b : Bool) (m : Marker)
    → pass_empty_lines limit no_lines b m [] ≡ (with_column no_lines m.col, line_cursor b m [])
unfolding pass_empty_lines
nothing_passed limit b m = refl

-- what is read after the header's line
lines_read : (st : BlockStyle) (c : Chomping) (indent i n d : ℕ) (is_given : Bool) (ls : List Line) (start : Marker)
    (b : Bool) (m : Marker) (x body others : List ℕ) → IsIndentation indent i d is_given → IsBehind i n x others
    → IsBody i is_given x ls body ⊎ IsEmptyBody indent i n x ls body
    → ((m.col ≡ 0) × (b ≡ true)) ⊎ ((body ≡ []) × (b ≡ false))
    → ScalarRead st c indent i n others start (given_indentation indent d) ls
    (pass_empty_lines (given_indentation indent d) no_lines b m body)
lines_read st c indent i n d is_given ls start b m x body others ind h (inl is) (inl (col, blank)) =
    grind (arith, led_on, limit_of, content_read, found_as)
lines_read st c indent i n d is_given ls start b m x body others ind h (inl is) (inr (e, dark)) =
    absurd (body_some is e)
lines_read st c indent i n d is_given _ start b m x _ others ind h (inr (empty_lines ls body are cond)) (inl
    (col, blank)) =
    let limit = given_indentation indent d in
    empty_read st c indent i n d is_given x others start ls (pass_empty_lines limit no_lines b m body)
    (empty_lines_alone are) ind h
    (empty_passed i n is_given limit x others no_lines b m ls body (limit_of indent i d is_given ind) col (omega arith)
    h are) cond
lines_read st c indent i n d is_given _ start b m x _ others ind h (inr (empty_lines ls body are cond)) (inr
    (e, dark)) = nothing_read are e
  where
    nothing_read : {ls : List Line} {t : List ℕ} → AreEmptyLines i x ls t → t ≡ []
        → ScalarRead st c indent i n others start (given_indentation indent d) ls
        (pass_empty_lines (given_indentation indent d) no_lines b m t)
    nothing_read no_empty_lines e =
        let r = pass_empty_lines (given_indentation indent d) no_lines b m x in
        let same : r ≡ (with_column no_lines m.col, line_cursor b m []) =
        cc (nothing_passed (given_indentation indent d) b m) in
        let nothing = nothing_behind i n x others e h in
        subst (ScalarRead st c indent i n others start (given_indentation indent d) []) (sym same)
        (end_read st c indent i n others start (given_indentation indent d) [] (
          with_column no_lines m.col,
          line_cursor b m [],
        ) refl refl (sym nothing) (inr nothing)
        (plain_tail c 0 (line_cursor b m []) (rw dark refl)))
    nothing_read (empty_line j ls t low more) e = absurd (some_behind j 10 t e)
    nothing_read (empty_line_and_spaces j k low further over) e = absurd (some_behind j 10 (spaces k) e)
lines_read st c indent i n d is_given _ start b m x _ others ind h (inr (spaces_alone j some low over))
    (inl (col, blank)) =
    let limit = given_indentation indent d in
    let same = spaces_passed i is_given limit no_lines b j m (limit_of indent i d is_given ind) col low in
    let nothing = nothing_behind i n x others over h in
    rw same (end_read st c indent i n others start limit (Empty ∷ []) (
      with_column no_lines (m.col + j),
      line_cursor b
          (along m j) [],
    ) refl refl (sym nothing) (inr nothing)
    (spaced_tail c (line_cursor b (along m j) []) blank (omega arith)))
lines_read st c indent i n d is_given _ start b m x _ others ind h (inr (spaces_alone j some low over))
    (inr (e, dark)) = absurd (some_spaces j some e)

-- A block scalar that is spelled so is read. The header is read first (`header_read`), then the empty lines before
-- the content, then the lines (`lines_read`). The reader's own promise on what it took (`values_of_lines`) tells
-- which piece of the text that is.
pub each_read : (st : BlockStyle) (c : Chomping) (indent i n : ℕ) (ls : List Line) (s : Cursor) (body others : List ℕ)
    → IsBlockScalar indent i n c ls s.rest body others → IsTaken st indent i n c ls s body others
unfolding behind_header
each_read st c indent i n ls s body others is =
    let h = header_read is.digit c body s.rest s refl is.header is.no_tab in
    let mark : BlockHeaderRead = record { chomping = c; indicator = is.digit } in
    let u = h.behind in
    let limit = given_indentation indent is.digit in
    let r = pass_empty_lines_at limit no_lines u in
    let P : List ℕ → Type 0 = λ xs. ScalarRead st c indent i n others s.mark limit ls
    (pass_empty_lines limit no_lines u.blank_so_far u.mark xs) in
    let w : ScalarRead st c indent i n others s.mark limit ls r =
    subst P (sym h.left) (lines_read st c indent i n is.digit is.is_given ls s.mark u.blank_so_far u.mark is.behind body
    others is.indentation is.ends is.lines h.place) in
    let read : block_scalar st indent s ≡ Ok (w.text, w.span, w.left) = header_then st indent s (mark, u)
    (w.text, w.span, w.left) h.known (refl ∙ w.read) in
    let sound = values_of_lines st indent s w.left w.text w.span read in
    let same : ◌≡◌ {A = BlockHeaderRead × Cursor} (sound.header, sound.behind) (mark, u) =
    same_gift (sound.header, sound.behind) (mark, u) (sym sound.first ∙ h.known) in
    let Here : BlockHeaderRead × Cursor → Type 0 = λ x. x.1.rest ≡ sound.lines ++ w.left.rest in
    let known : u.rest ≡ sound.lines ++ w.left.rest = subst Here same sound.taken in
    record {
      text = w.text;
      span = w.span;
      left = w.left;
      front = sound.lines;
      read = read;
      rest = w.rest;
      column = w.column;
      start = w.begins;
      end = w.end;
      taken = cc;
      value = w.value;
    }
