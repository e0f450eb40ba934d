-- Block scalars, from their header on.
use Rattle.std.proofs.Common.{◌≡◌, ◌≢◌, ℕ, ◌+◌, Bool, true, List, [], ◌∷◌, ◌++◌, refl, sym, ap, ◌∙◌, subst, append_assoc, slice_index, ◌⊎◌, inl, inr}
use Rattle.std.proofs.lemmas.List.{append-nil}
use Rattle.saphyr_scalar.specs.declared.values.BlockStyle.{BlockStyle}
use Rattle.saphyr_scalar.specs.declared.values.BlockStyle.TheVariants as block
use Rattle.saphyr_scalar.specs.declared.values.Chomping.{Chomping}
use Rattle.saphyr_scalar.specs.Reading.BlockLines.{spaces}
use Rattle.saphyr_scalar.specs.Values.Block.{Line, lines_value}
use Rattle.saphyr_scanner.specs.Grammar.Forest.{Literal, Folded, no_properties}
use Rattle.scalar_laws.specs.Spelling.Block as spec
use Rattle.scalar_laws.specs.Spelling.Block.{IsHeader, IsIndentation, IsBody, IsEmptyBody, AreLines, AreEmptyLines, IsBlockScalar}
use Rattle.scalar_laws.specs.Spelling.Spaces.{IsGap}
use Rattle.yaml_laws.specs.Grammar.BlockNodes.{IsBlockScalarText}
use Rattle.yaml_standard.specs.BlockScalars.{EndsScalar, IsBodyBefore, IsSomeBlockScalar, IsSomeScalarFront, IsSomeScalarInBlock}
use Rattle.yaml_standard.specs.NodeProperties.{IsSomeProperties}
use Rattle.yaml_standard.specs.Takes.{TakesOff, TakesBefore}
use Rattle.yaml_standard.proofs.Pieces.{nothing_taken, then}

-- ## Where each part ends

abbrev EndsWith : List ℕ → List ℕ → Type 0
EndsWith x t = (front : List ℕ) × (t ≡ front ++ x)

more_before : (p x t : List ℕ) → EndsWith x t → EndsWith x (p ++ t)
more_before p x t (f, e) = (p ++ f, ap (λ y. p ++ y) e ∙ sym (append_assoc p f x))

at_end : (x t : List ℕ) → x ≡ [] → EndsWith x t
at_end x t e = (t, sym (ap (λ y. t ++ y) e ∙ append-nil t))

line_before : (i : ℕ) (cs x t : List ℕ) → EndsWith x t → EndsWith x (spaces i ++ (cs ++ 10 ∷ t))
line_before i cs x t h =
    more_before (spaces i) x (cs ++ 10 ∷ t) (more_before cs x (10 ∷ t) (more_before (10 ∷ []) x t h))

lines_end : (i : ℕ) (x : List ℕ) (ls : List Line) (t : List ℕ) → AreLines i x ls t → EndsWith x t
lines_end i x _ _ spec.no_lines = ([], refl)
lines_end i x _ _ (spec.empty j ls t low h) = line_before j [] x t (lines_end i x ls t h)
lines_end i x _ _ (spec.content c cs ls t is h) = line_before i (c ∷ cs) x t (lines_end i x ls t h)
lines_end i x _ _ (spec.last c cs is e) = at_end x (spaces i ++ (c ∷ cs)) e
lines_end i x _ _ (spec.last_empty some e) = at_end x (spaces i) e
lines_end i x _ _ (spec.left_of j less e) = at_end x (spaces j) e

body_end : (i : ℕ) (is_given : Bool) (x : List ℕ) (ls : List Line) (t : List ℕ) → IsBody i is_given x ls t
    → EndsWith x t
body_end i is_given x _ _ (spec.leading j ls t low h) = line_before j [] x t (body_end i is_given x ls t h)
body_end i is_given x _ _ (spec.first c cs ls t begins is h) = line_before i (c ∷ cs) x t (lines_end i x ls t h)
body_end i is_given x _ _ (spec.first_and_last c cs begins is e) = at_end x (spaces i ++ (c ∷ cs)) e

empty_end : (i : ℕ) (x : List ℕ) (ls : List Line) (t : List ℕ) → AreEmptyLines i x ls t → EndsWith x t
empty_end i x _ _ spec.no_empty_lines = ([], refl)
empty_end i x _ _ (spec.empty_line j ls t low h) = line_before j [] x t (empty_end i x ls t h)
empty_end i x _ _ (spec.empty_line_and_spaces j k low fits e) = at_end x (spaces j ++ (10 ∷ spaces k)) e

all_end : (indent i n : ℕ) (is_given : Bool) (x : List ℕ) (ls : List Line) (t : List ℕ)
    → IsBody i is_given x ls t ⊎ IsEmptyBody indent i n x ls t → EndsWith x t
all_end indent i n is_given x ls t (inl h) = body_end i is_given x ls t h
all_end indent i n is_given x _ _ (inr (spec.empty_lines ls t h may)) = empty_end i x ls t h
all_end indent i n is_given x _ _ (inr (spec.spaces_alone j some low e)) = at_end x (spaces j) e

indicator_end : (n : ℕ) (a b x : List ℕ) → spec.IsIndicator n a b → EndsWith x b → EndsWith x a
indicator_end _ _ _ x (spec.no_digit b) h = h
indicator_end _ _ _ x (spec.digit d b low high) h = more_before ((48 + d) ∷ []) x b h

chomping_end : (chomping : Chomping) (a b x : List ℕ) → spec.IsChomping chomping a b → EndsWith x b → EndsWith x a
chomping_end _ _ _ x (spec.strip b) h = more_before (45 ∷ []) x b h
chomping_end _ _ _ x (spec.clip b) h = h
chomping_end _ _ _ x (spec.keep b) h = more_before (43 ∷ []) x b h

line_end : (d x : List ℕ) → spec.IsHeaderEnd d x → EndsWith x d
line_end _ _ (spec.no_comment blanks x are) = more_before blanks x (10 ∷ x) (10 ∷ [], refl)
line_end _ _ (spec.comment blank blanks text x are words) =
    more_before (blank ∷ blanks) x (35 ∷ (text ++ 10 ∷ x)) (more_before (35 ∷ text) x (10 ∷ x) (10 ∷ [], refl))
line_end _ _ (spec.no_comment_at_end blanks are) = at_end [] blanks refl
line_end _ _ (spec.comment_at_end blank blanks text are words) = at_end [] ((blank ∷ blanks) ++ (35 ∷ text)) refl

header_end : (n mark : ℕ) (chomping : Chomping) (x a : List ℕ) → IsHeader n chomping x (mark ∷ a) → EndsWith x a
header_end n mark chomping x a (spec.digit_first _ _ b d h k e) =
    indicator_end n a b x h (chomping_end chomping b d x k (line_end d x e))
header_end n mark chomping x a (spec.chomping_first _ _ b d h k e) =
    chomping_end chomping a b x h (indicator_end n b d x k (line_end d x e))

-- ## The whole

-- what comes behind the mark of a scalar, up to what follows it
record TakesText (style : BlockStyle) (mark indent : ℕ) (before after : List ℕ) : Type 0 where
  value : List ℕ
  front : List ℕ
  is : IsBlockScalarText style value indent (mark ∷ front) after
  cut : before ≡ front ++ after

-- The parts of a block scalar make up its spelling. The header's end and the lines' end are found in the text
-- (`header_end`, `all_end`), and the text behind the mark is cut there.
text_taken : (style : BlockStyle) (mark indent i n d : ℕ) (is_given : Bool) (chomping : Chomping) (ls : List Line)
    (a body x : List ℕ) → IsHeader d chomping body (mark ∷ a) → slice_index body 0 ≢ 9
    → IsIndentation indent i d is_given → IsBody i is_given x ls body ⊎ IsEmptyBody indent i n x ls body
    → EndsScalar indent i n x → TakesText style mark indent a x
text_taken style mark indent i n d is_given chomping ls a body x header no_tab indentation lines
    (others, ends, behind) =
    let h = header_end d mark chomping body a header in
    let l = all_end indent i n is_given x ls body lines in
    let cut : a ≡ (h.0 ++ l.0) ++ x = h.1 ∙ ap (λ y. h.0 ++ y) l.1 ∙ sym (append_assoc h.0 l.0 x) in
    let scalar : IsBlockScalar indent i n chomping ls ((mark ∷ (h.0 ++ l.0)) ++ x) body others =
    record {
      digit = d;
      is_given = is_given;
      behind = x;
      header = subst (λ y. IsHeader d chomping body (mark ∷ y)) cut header;
      no_tab = no_tab;
      indentation = indentation;
      lines = lines;
      ends = ends;
    } in
    record {
      value = lines_value style chomping true ls;
      front = h.0 ++ l.0;
      is = (i, n, chomping, ls, body, others, scalar, refl, behind, refl);
      cut = cut;
    }

body_taken : (style : BlockStyle) (mark indent i d : ℕ) (is_given : Bool) (chomping : Chomping) (a body x : List ℕ)
    → IsHeader d chomping body (mark ∷ a) → slice_index body 0 ≢ 9 → IsIndentation indent i d is_given
    → IsBodyBefore indent i is_given body x → TakesText style mark indent a x
body_taken style mark indent i d is_given chomping a body x header no_tab indentation (inl (n, lines, ends)) =
    text_taken style mark indent i n d is_given chomping lines.0 a body x header no_tab indentation (inl lines.1) ends
body_taken style mark indent i d is_given chomping a body x header no_tab indentation (inr (n, lines, ends)) =
    text_taken style mark indent i n d is_given chomping lines.0 a body x header no_tab indentation (inr lines.1) ends

pub literal_taken : (mark indent i d : ℕ) (is_given : Bool) (chomping : Chomping) (a b body x : List ℕ) → a ≡ mark ∷ b
    → mark ≡ 124 → ((m : ℕ) → IsHeader d chomping body (m ∷ b)) → slice_index body 0 ≢ 9
    → IsIndentation indent i d is_given → IsBodyBefore indent i is_given body x
    → TakesBefore (IsSomeBlockScalar indent) a x
literal_taken mark indent i d is_given chomping a b body x e is header no_tab indentation lines =
    let t = body_taken block.Literal 124 indent i d is_given chomping b body x (header 124) no_tab indentation lines in
    record {
      piece = 124 ∷ t.front;
      is = (Literal, t.value, (t.front, t.is, refl));
      cut = e ∙ ap (λ c. c ∷ b) is ∙ ap (λ y. 124 ∷ y) t.cut;
    }

pub folded_taken : (mark indent i d : ℕ) (is_given : Bool) (chomping : Chomping) (a b body x : List ℕ) → a ≡ mark ∷ b
    → mark ≡ 62 → ((m : ℕ) → IsHeader d chomping body (m ∷ b)) → slice_index body 0 ≢ 9
    → IsIndentation indent i d is_given → IsBodyBefore indent i is_given body x
    → TakesBefore (IsSomeBlockScalar indent) a x
folded_taken mark indent i d is_given chomping a b body x e is header no_tab indentation lines =
    let t = body_taken block.Folded 62 indent i d is_given chomping b body x (header 62) no_tab indentation lines in
    record {
      piece = 62 ∷ t.front;
      is = (Folded, t.value, (t.front, t.is, refl));
      cut = e ∙ ap (λ c. c ∷ b) is ∙ ap (λ y. 62 ∷ y) t.cut;
    }

-- ## Properties

pub no_front : (indent : ℕ) (a : List ℕ) → TakesOff (IsSomeScalarFront indent) a a
no_front indent a = nothing_taken (IsSomeScalarFront indent) a (no_properties, inl (refl, refl))

pub front_taken : (indent : ℕ) (a b c : List ℕ) → TakesOff (IsSomeProperties indent) a b → TakesOff (IsGap indent) b c
    → TakesOff (IsSomeScalarFront indent) a c
front_taken indent a b c s t =
    then {P = IsSomeProperties indent} {Q = IsGap indent} (λ p q h k. (h.0, inr (p, q, h.1, k, refl))) s t

pub scalar_in_block : (indent : ℕ) (a b c : List ℕ) → TakesOff (IsSomeScalarFront indent) a b
    → TakesBefore (IsSomeBlockScalar indent) b c → TakesBefore (IsSomeScalarInBlock indent) a c
scalar_in_block indent a b c s t =
    then {P = IsSomeScalarFront indent} {Q = λ q. IsSomeBlockScalar indent q c}
    (λ p q h k. (h.0, k.0, k.1, p, q, h.1, k.2, refl)) s t
