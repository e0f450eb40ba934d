-- Lines of block scalars.
use Rattle.std.proofs.Common.{◌≡◌, ◌≢◌, ℕ, zero, suc, ◌<◌, Bool, List, [], ◌∷◌, ◌++◌, refl, sym, ap, ◌∙◌, subst, arith, append_assoc, length, length-append, slice_index, ◌⊎◌, inl, inr}
use Rattle.std.specs.Prelude.{IsFalse}
use Rattle.std.proofs.Math.Nat.{eq-or-lt_of_le}
use Rattle.std.proofs.lemmas.List.{append-nil}
use Rattle.saphyr_input.specs.Classes.{is_yaml_non_break}
use Rattle.saphyr_input.specs.Places.{is_document_indicator}
use Rattle.saphyr_scalar.specs.Reading.BlockLines.{spaces}
use Rattle.saphyr_scalar.specs.Values.Block.{Empty, Content}
use Rattle.saphyr_scalar.specs.Spelling.Tag.{AreIn}
use Rattle.scalar_laws.specs.Spelling.Block.{IsContent, no_lines, empty, content, last, last_empty, left_of}
use Rattle.yaml_standard.specs.BlockLines.{SplitsSpaces, IsEmptyBlockLine, MayBegin, TakesContent, AreSomeLines, ContinuesLines, PassesBlockLine}
use Rattle.yaml_standard.specs.Takes.{TakesOff}
use Rattle.yaml_standard.proofs.Separation.{shorter_by}

-- ## Empty lines

pub empty_line_taken : (i n : ℕ) (a b c : List ℕ) → SplitsSpaces i n a b → b ≡ 10 ∷ c
    → TakesOff (IsEmptyBlockLine i) a c
empty_line_taken i n a b c s e = record {
  piece = spaces n ++ 10 ∷ [];
  is = (n, s.0, refl);
  cut = s.1 ∙ ap (λ x. spaces n ++ x) e ∙ sym (append_assoc (spaces n) (10 ∷ []) c);
}

-- a line of spaces before a text
pub line_cut : (j : ℕ) (p t : List ℕ) → p ≡ spaces j ++ 10 ∷ [] → p ++ t ≡ spaces j ++ (10 ∷ t)
line_cut j p t e = ap (λ x. x ++ t) e ∙ append_assoc (spaces j) (10 ∷ []) t

pub empty_shorter : (i : ℕ) (a b : List ℕ) → TakesOff (IsEmptyBlockLine i) a b → length b < length a
empty_shorter i a b t =
    let l = length-append (spaces t.is.0) (10 ∷ []) in
    shorter_by a b t.piece t.cut (rw (ap length t.is.2) (omega (arith, l)))

pub passes_empty : (i : ℕ) (a b : List ℕ) → TakesOff (IsEmptyBlockLine i) a b → PassesBlockLine i a b
passes_empty i a b t = record {
  goes_on = λ x r. (Empty ∷ r.0, rw (t.cut ∙ line_cut t.is.0 t.piece b t.is.2) (empty t.is.0 r.0 b t.is.1 r.1));
  shorter = empty_shorter i a b t;
}

-- ## Content

content_at : (i : ℕ) (is_given : Bool) (a b c piece : List ℕ) → a ≡ spaces i ++ b → MayBegin i is_given b
    → b ≡ piece ++ c → piece ≢ [] → AreIn is_yaml_non_break piece → TakesContent i is_given a c
content_at i is_given a b c [] e may cut some are = absurd (some refl)
content_at i is_given a b c (x ∷ xs) e may cut some are = record {
  c = x;
  cs = xs;
  is = record {
    all = are;
    no_marker = λ h. subst (λ y. IsFalse (is_document_indicator y)) cut (may.0 h);
  };
  begins = λ h. subst (λ y. slice_index y 0 ≢ 32) cut (may.1 h);
  cut = e ∙ ap (λ y. spaces i ++ y) cut;
}

pub content_taken : (i : ℕ) (is_given : Bool) (a b c : List ℕ) → a ≡ spaces i ++ b → MayBegin i is_given b
    → TakesOff (λ t. (t ≢ []) × AreIn is_yaml_non_break t) b c → TakesContent i is_given a c
content_taken i is_given a b c e may t = content_at i is_given a b c t.piece e may t.cut t.is.0 t.is.1

-- a content line that a break ends, or the text's end
pub broken_line : (i c : ℕ) (cs a b t : List ℕ) → a ≡ spaces i ++ (c ∷ (cs ++ b)) → b ≡ 10 ∷ t
    → a ≡ spaces i ++ (c ∷ (cs ++ 10 ∷ t))
broken_line i c cs a b t cut e = cut ∙ ap (λ y. spaces i ++ (c ∷ (cs ++ y))) e

pub last_line : (i c : ℕ) (cs a b : List ℕ) → a ≡ spaces i ++ (c ∷ (cs ++ b)) → b ≡ [] → a ≡ spaces i ++ (c ∷ cs)
last_line i c cs a b cut e = cut ∙ ap (λ y. spaces i ++ (c ∷ y)) (ap (λ y. cs ++ y) e ∙ append-nil cs)

pub passes_content : (i : ℕ) (is_given : Bool) (a b c : List ℕ) → TakesContent i is_given a b → b ≡ 10 ∷ c
    → PassesBlockLine i a c
passes_content i is_given a b c t e =
    let cut = broken_line i t.c t.cs a b c t.cut e in
    let is = subst (λ y. IsContent i t.c t.cs y) e t.is in
    let k = length-append (spaces i) (t.c ∷ (t.cs ++ 10 ∷ c)) in
    let l = length-append t.cs (10 ∷ c) in
    record {
      goes_on = λ x r. (Content (t.c ∷ t.cs) ∷ r.0, rw cut (content t.c t.cs r.0 c is r.1));
      shorter = rw cut (omega (arith, k, l));
    }

-- ## The last line

pub last_content : (i : ℕ) (is_given : Bool) (a b : List ℕ) → TakesContent i is_given a b → b ≡ []
    → AreSomeLines i b a
last_content i is_given a b t e =
    let is = subst (λ y. IsContent i t.c t.cs y) e t.is in
    (Content (t.c ∷ t.cs) ∷ [], rw (last_line i t.c t.cs a b t.cut e) (last t.c t.cs is e))

full_spaces : (i : ℕ) (b : List ℕ) → b ≡ [] → AreSomeLines i b (spaces i ++ b)
full_spaces zero b e = ([], no_lines)
full_spaces (suc i) b e = (Empty ∷ [], rw (e, append-nil (spaces (suc i))) (last_empty (omega arith) refl))

few_spaces : (i n : ℕ) (b : List ℕ) → n < i → b ≡ [] → AreSomeLines i b (spaces n ++ b)
few_spaces i n b h e = ([], rw (e, append-nil (spaces n)) (left_of n h refl))

pub last_spaces : (i n : ℕ) (a b : List ℕ) → SplitsSpaces i n a b → b ≡ [] → AreSomeLines i b a
last_spaces i n a b (low, cut) e = rw cut (by_count (eq-or-lt_of_le low))
  where
    by_count : (n ≡ i) ⊎ (n < i) → AreSomeLines i b (spaces n ++ b)
    by_count (inl is) = rw is (full_spaces i b e)
    by_count (inr less) = few_spaces i n b less e

-- ## Any number of lines

pub nothing_passed : (i : ℕ) (a : List ℕ) → ContinuesLines i a a
nothing_passed i a x r = r

pub line_passed : (i : ℕ) (a b c : List ℕ) → ContinuesLines i a b → PassesBlockLine i b c → ContinuesLines i a c
line_passed i a b c f g x r = f x (g.goes_on x r)

pub no_line : (i : ℕ) (a : List ℕ) → AreSomeLines i a a
no_line i a = ([], no_lines)
