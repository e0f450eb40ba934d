-- Block scalars are read, from their header on (YAML 1.2.2, 8.1).
use Rattle.yaml_laws.proofs.Common.{Bool, List, Ok, [], ap, append-nil, append_assoc, arith, encode_utf8_all, false, inl, inr, length, refl, slice_index, subst, suc, sym, zero, ℕ, ◌++◌, ◌+◌, ◌<◌, ◌^◌, ◌∙◌, ◌∷◌, ◌≡◌, ◌⊎◌, not, ◌==◌, carriage_return, is_break, line_feed, BlockStyle, Marker, spaces, Cursor, AreIn, both_in, DoubleQuoted, Folded, Literal, Plain, Properties, SingleQuoted, Style, IsBlockScalarText, IsScalarFront, IsStyled, length-append, append_cancel_right, Chomping, Span, IsPassed, IsIndicator, IsChomping, IsHeader, IsBlockScalar, IsTaken}
use Rattle.saphyr_scalar.specs.declared.values.BlockStyle.TheVariants as block_style
use Rattle.saphyr_scalar.specs.Values.Block.{Line}
use Rattle.saphyr_scalar.specs.Steps.Block.{block_scalar}
use Rattle.scalar_laws.specs.Spelling.Block as spelling
use Rattle.yaml_laws.proofs.Flow.States.{moved}
use Rattle.yaml_laws.proofs.Flow.Places.{moved_append}
use Rattle.yaml_laws.proofs.Flow.Quoted.{moved_passes}
use Rattle.yaml_laws.proofs.Flow.ContentStarts.{StartsContent, properties_content}
use Rattle.yaml_laws.proofs.InBlock.Lines.{IsLined, later_line}
use Rattle.yaml_laws.proofs.InBlock.Statements.{EndsWithLine}

-- ## What the readers of block scalars promise

pub record ReadsBlocks : Type 0 where
  pub reads : (style : BlockStyle) (chomping : Chomping) (indent i n : ℕ) (lines : List Line) (s : Cursor)
      (body others : List ℕ) → IsBlockScalar indent i n chomping lines s.rest body others
      → IsTaken style indent i n chomping lines s body others
  pub passes : (style : BlockStyle) (indent : ℕ) (s t : Cursor) (text : List ℕ) (span : Span)
      → is_break (slice_index s.rest 0) ≡ false → 0 < length s.rest → block_scalar style indent s ≡ Ok (text, span, t)
      → IsPassed s.mark s.rest t.mark t.rest
  pub place : (m : Marker) (s : List ℕ) (n : Marker) (u : List ℕ) → IsPassed m s n u → (k : Marker) → IsPassed m s k u
      → k ≡ n

-- ## Where a header ends

indicator_splits : (n : ℕ) (a b : List ℕ) → IsIndicator n a b → (w : List ℕ) × (a ≡ w ++ b)
indicator_splits _ _ _ (spelling.no_digit x) = ([], refl)
indicator_splits _ _ _ (spelling.digit d x low high) = ((48 + d) ∷ [], refl)

chomping_splits : (chomping : Chomping) (a b : List ℕ) → IsChomping chomping a b → (w : List ℕ) × (a ≡ w ++ b)
chomping_splits _ _ _ (spelling.strip x) = (45 ∷ [], refl)
chomping_splits _ _ _ (spelling.clip x) = ([], refl)
chomping_splits _ _ _ (spelling.keep x) = (43 ∷ [], refl)

end_splits : (d x : List ℕ) → spelling.IsHeaderEnd d x → (x ≡ []) ⊎ ((w : List ℕ) × (d ≡ w ++ (line_feed ∷ x)))
end_splits _ _ (spelling.no_comment blanks x are) = inr (blanks, refl)
end_splits _ _ (spelling.comment blank blanks text x are words) =
    inr ((blank ∷ blanks) ++ (35 ∷ text), sym (append_assoc (blank ∷ blanks) (35 ∷ text) (10 ∷ x)))
end_splits _ _ (spelling.no_comment_at_end blanks are) = inl refl
end_splits _ _ (spelling.comment_at_end blank blanks text are words) = inl refl

in_parts : (mark : ℕ) (a b d x u v : List ℕ) → a ≡ u ++ b → b ≡ v ++ d
    → (x ≡ []) ⊎ ((w : List ℕ) × (d ≡ w ++ (line_feed ∷ x)))
    → (x ≡ []) ⊎ ((w : List ℕ) × (mark ∷ a ≡ w ++ (line_feed ∷ x)))
in_parts mark a b d x u v e f (inl over) = inl over
in_parts mark a b d x u v e f (inr (w, g)) =
    inr (
      mark ∷ (u ++ (v ++ w)),
      ap (λ (y : List ℕ). mark ∷ y)
          (e ∙ ap (λ (y : List ℕ). u ++ y) (f ∙ ap (λ (y : List ℕ). v ++ y) g ∙ sym (append_assoc v w (10 ∷ x)))
          ∙ sym (append_assoc u (v ++ w) (10 ∷ x))),
    )

-- a header ends with a break, or with the text
header_splits : (n : ℕ) (chomping : Chomping) (x t : List ℕ) → IsHeader n chomping x t
    → (x ≡ []) ⊎ ((w : List ℕ) × (t ≡ w ++ (line_feed ∷ x)))
header_splits n chomping x _ (spelling.digit_first mark a b d h k e) =
    let u = indicator_splits n a b h in let v = chomping_splits chomping b d k in
    in_parts mark a b d x u.0 v.0 u.1 v.1 (end_splits d x e)
header_splits n chomping x _ (spelling.chomping_first mark a b d h k e) =
    let u = chomping_splits chomping a b h in let v = indicator_splits n b d k in
    in_parts mark a b d x u.0 v.0 u.1 v.1 (end_splits d x e)

-- ## Where a block scalar ends

-- what comes before `behind`: nothing, or what ends with a line
record Ended (t behind : List ℕ) : Type 0 where
  front : List ℕ
  is : t ≡ front ++ behind
  ends : (front ≡ []) ⊎ EndsWithLine front behind

line_then : (a b o : List ℕ) → (b ≡ []) ⊎ EndsWithLine b o → EndsWithLine (a ++ (line_feed ∷ b)) o
line_then a b o h = grind (arith, moved_append, moved)

ended_behind_line : (a t o : List ℕ) → Ended t o → Ended (a ++ (line_feed ∷ t)) o
ended_behind_line a t o p = record {
  front = a ++ (10 ∷ p.front);
  is = ap (λ (y : List ℕ). a ++ (10 ∷ y)) p.is ∙ sym (append_assoc a (10 ∷ p.front) o);
  ends = inr (line_then a p.front o p.ends);
}

content_line : (i c : ℕ) (cs t o : List ℕ) → Ended t o → Ended (spaces i ++ (c ∷ (cs ++ (line_feed ∷ t)))) o
content_line i c cs t o p = subst (λ (y : List ℕ). Ended y o) (append_assoc (spaces i) (c ∷ cs) (10 ∷ t))
    (ended_behind_line (spaces i ++ (c ∷ cs)) t o p)

ended_at_last_line : (t o : List ℕ) → o ≡ [] → Ended t o
ended_at_last_line t o e = record
    { front = t; is = sym (ap (λ (y : List ℕ). t ++ y) e ∙ append-nil t); ends = inr (inr e) }

lines_end : (i : ℕ) (o : List ℕ) (ls : List Line) (t : List ℕ) → spelling.AreLines i o ls t → Ended t o
lines_end i o _ _ spelling.no_lines = record { front = []; is = refl; ends = inl refl }
lines_end i o _ _ (spelling.empty j ls t low r) = ended_behind_line (spaces j) t o (lines_end i o ls t r)
lines_end i o _ _ (spelling.content c cs ls t h r) = content_line i c cs t o (lines_end i o ls t r)
lines_end i o _ _ (spelling.last c cs h e) = ended_at_last_line (spaces i ++ (c ∷ cs)) o e
lines_end i o _ _ (spelling.last_empty some e) = ended_at_last_line (spaces i) o e
lines_end i o _ _ (spelling.left_of j less e) = ended_at_last_line (spaces j) o e

body_end : (i : ℕ) (is_given : Bool) (o : List ℕ) (ls : List Line) (t : List ℕ) → spelling.IsBody i is_given o ls t
    → Ended t o
body_end i is_given o _ _ (spelling.leading j ls t low r) =
    ended_behind_line (spaces j) t o (body_end i is_given o ls t r)
body_end i is_given o _ _ (spelling.first c cs ls t some h r) = content_line i c cs t o (lines_end i o ls t r)
body_end i is_given o _ _ (spelling.first_and_last c cs some h e) = ended_at_last_line (spaces i ++ (c ∷ cs)) o e

empty_lines_end : (i : ℕ) (o : List ℕ) (ls : List Line) (t : List ℕ) → spelling.AreEmptyLines i o ls t → Ended t o
empty_lines_end i o _ _ spelling.no_empty_lines = record { front = []; is = refl; ends = inl refl }
empty_lines_end i o _ _ (spelling.empty_line j ls t low r) = ended_behind_line (spaces j) t o (empty_lines_end i o ls
    t r)
empty_lines_end i o _ _ (spelling.empty_line_and_spaces j k low further e) =
    ended_at_last_line (spaces j ++ (10 ∷ spaces k)) o e

all_end : (indent i n : ℕ) (is_given : Bool) (o : List ℕ) (ls : List Line) (t : List ℕ)
    → spelling.IsBody i is_given o ls t ⊎ spelling.IsEmptyBody indent i n o ls t → Ended t o
all_end indent i n is_given o ls t h = grind (arith, body_end, empty_lines_end, ended_at_last_line)

-- where nothing is left, nothing comes after
none_left : (t o : List ℕ) → Ended t o → t ≡ [] → o ≡ []
none_left t o p e = by_front p.front (sym p.is ∙ e)
  where
    by_front : (front : List ℕ) → front ++ o ≡ [] → o ≡ []
    by_front [] f = f
    by_front (c ∷ cs) f = absurd (cc)

-- ## The reading

-- From s a block scalar t was read, and o comes after it, of which spaces may be passed.
pub record BlockTaken (style : BlockStyle) (indent : ℕ) (value : List ℕ) (s : Cursor) (t o : List ℕ) : Type 0 where
  pub n : ℕ
  pub others : List ℕ
  pub behind : o ≡ spaces n ++ others
  pub span : Span
  pub left : Cursor
  pub read : block_scalar style indent s ≡ Ok (encode_utf8_all value, span, left)
  pub rest : left.rest ≡ others
  pub mark : left.mark ≡ moved (moved s.mark t) (spaces n)
  pub later : IsLined s.mark → s.mark.index + length (t ++ o) < 2 ^ 63 → (s.mark.line < left.mark.line) ⊎ (o ≡ [])

no_returns : (n : ℕ) → AreIn (λ c. not (c == carriage_return)) (spaces n)
no_returns zero = tt
no_returns (suc n) = (refl, no_returns n)

-- The reading is given by the law on block scalars, and by another where it ends. Both the end and the text's own end
-- with the spaces behind it are places that are passed from s to the same rest, so they are one place (`laws.place`).
-- That it is on a later line comes from the break behind the header.
pub block_taken : ReadsBlocks
    → (style : BlockStyle) (value : List ℕ) (indent : ℕ) (s : Cursor) (first : ℕ) (more t o : List ℕ) → s.rest ≡ t ++ o
    → t ≡ first ∷ more → is_break first ≡ false → AreIn (λ c. not (c == carriage_return)) t
    → IsBlockScalarText style value indent t o → BlockTaken style indent value s t o
block_taken laws style value indent s first more t o whole begins no_break clean
    (i, n, chomping, lines, body, others, scalar, behind_is, ends, is_value) =
    let k = laws.reads style chomping indent i n lines s body others
    (subst (λ (y : List ℕ). IsBlockScalar indent i n chomping lines y body others) (sym whole) scalar) in
    let behind : o ≡ spaces n ++ others = sym behind_is ∙ scalar.ends.is in
    let text = whole ∙ ap (λ (y : List ℕ). t ++ y) behind ∙ sym (append_assoc t (spaces n) others) in
    let read = k.read ∙ ap (λ (y : List ℕ). Ok (y, k.span, k.left)) (k.value ∙ ap encode_utf8_all (sym is_value)) in
    let start : s.rest ≡ first ∷ (more ++ o) = whole ∙ ap (λ (y : List ℕ). y ++ o) begins in
    let went = laws.passes style indent s k.left (encode_utf8_all value) k.span
    (ap (λ (y : List ℕ). is_break (slice_index y 0)) start ∙ no_break) (subst (λ (y : List ℕ). 0 < length y) (sym start)
    (omega arith))
    read in
    let here : IsPassed s.mark s.rest k.left.mark others = grind arith in
    let there : IsPassed s.mark s.rest (moved s.mark (t ++ spaces n)) others =
    grind (arith, moved, moved_passes, both_in, no_returns) in
    let place = laws.place s.mark s.rest (moved s.mark (t ++ spaces n)) others there k.left.mark here in
    let size = ap length (sym whole ∙ text) ∙ length-append (t ++ spaces n) others in
    record {
      n = n;
      others = others;
      behind = behind;
      span = k.span;
      left = k.left;
      read = read;
      rest = k.rest;
      mark = place ∙ moved_append s.mark t (spaces n);
      later = by_header k place size (header_splits scalar.digit chomping body (t ++ o) scalar.header);
    }
  where
    short : (i l j : ℕ) (a b : List ℕ) → l ≡ length a + j → a ≡ b → i + l < 2 ^ 63 → i + length b < 2 ^ 63
    short i l j a b e f h = subst (λ (y : List ℕ). i + length y < 2 ^ 63) f (omega (arith, e, h))

    by_header : (k : IsTaken style indent i n chomping lines s body others)
        → k.left.mark ≡ moved s.mark (t ++ spaces n) → length (t ++ o) ≡ length (t ++ spaces n) + length others
        → (body ≡ []) ⊎ ((w : List ℕ) × (t ++ o ≡ w ++ (line_feed ∷ body)))
        → IsLined s.mark → s.mark.index + length (t ++ o) < 2 ^ 63 → (s.mark.line < k.left.mark.line) ⊎ (o ≡ [])
    by_header k place size (inl none) lined low = inr (sym behind_is ∙ none_left body scalar.behind
        (all_end indent i n scalar.is_given scalar.behind lines body scalar.lines) none)
    by_header k place size (inr (w, e)) lined low =
        let text : t ++ o ≡ (t ++ spaces n) ++ others = cc (append_assoc t (spaces n) others) in
        let inner = e ∙ ap (λ (y : List ℕ). w ++ (10 ∷ y)) k.taken ∙ sym (append_assoc w (10 ∷ k.front) others) in
        let line = append_cancel_right (t ++ spaces n) (w ++ (10 ∷ k.front)) others (sym text ∙ inner) in
        inl (subst (λ (p : Marker). s.mark.line < p.line) (sym (place ∙ ap (moved s.mark) line))
        (later_line s.mark w k.front lined
        (short s.mark.index (length (t ++ o)) (length others) (t ++ spaces n) (w ++ (10 ∷ k.front)) size line low)))

block_ends : (style : BlockStyle) (value : List ℕ) (indent : ℕ) (t o : List ℕ)
    → IsBlockScalarText style value indent t o → EndsWithLine t o
block_ends style value indent t o (i, n, chomping, lines, body, others, scalar, behind_is, ends, is_value) =
    by_header (header_splits scalar.digit chomping body (t ++ o) scalar.header)
  where
    p : Ended body o
    p = subst (Ended body) behind_is (all_end indent i n scalar.is_given scalar.behind lines body scalar.lines)

    by_header : (body ≡ []) ⊎ ((w : List ℕ) × (t ++ o ≡ w ++ (line_feed ∷ body))) → EndsWithLine t o
    by_header (inl none) = inr (none_left body o p none)
    by_header (inr (w, e)) =
        let text : t ++ o ≡ (w ++ (10 ∷ p.front)) ++ o = e ∙ ap (λ (y : List ℕ). w ++ (10 ∷ y)) p.is
        ∙ sym (append_assoc w (10 ∷ p.front) o) in
        subst (λ (y : List ℕ). EndsWithLine y o) (sym (append_cancel_right t (w ++ (10 ∷ p.front)) o text))
        (line_then w p.front o p.ends)

-- after a block scalar is a line's start, or nothing
pub scalar_ends : (style : Style) (value : List ℕ) (indent : ℕ) (t o : List ℕ) → IsStyled style value indent t o
    → EndsWithLine t o
scalar_ends Literal value indent t o (others, h, e) = block_ends block_style.Literal value indent t o h
scalar_ends Folded value indent t o (others, h, e) = block_ends block_style.Folded value indent t o h
scalar_ends Plain value indent t o h = absurd h
scalar_ends SingleQuoted value indent t o h = absurd h
scalar_ends DoubleQuoted value indent t o h = absurd h

-- ## How a block scalar begins

pub sign_content : (style : Style) (value : List ℕ) (indent : ℕ) (t o : List ℕ) → IsStyled style value indent t o
    → StartsContent t
sign_content style value indent t o h = grind (arith)

-- a block scalar begins with its properties or with its header
pub block_content : (p : Properties) (style : Style) (value : List ℕ) (indent : ℕ) (front t o : List ℕ)
    → IsScalarFront p indent front → IsStyled style value indent t o → StartsContent (front ++ t)
block_content p style value indent front t o k h = grind (arith, sign_content, properties_content)
