-- Inside the lines of a block scalar is no NUL and no byte order mark, and at the start of none a document marker.
use Rattle.saphyr_scalar.proofs.Common.{◌≡◌, ◌⊎◌, ℕ, ◌+◌, Bool, true, false, List, [], ◌∷◌, ◌++◌, slice_index, refl, sym, ap, arith, subst, inl, inr, is_blank, is_break, is_yaml_non_break, line_feed, space, is_document_indicator, BlockStyle, EmptyLines, Marker, Cursor, along, next_line, and_true_left, and_true_right, by_test, eqb-true, non_break_no_break}
use Rattle.std.specs.Prelude.{◌||◌, ◌==◌, Option, Some, IsTrue, IsFalse}
use Rattle.saphyr_scalar.specs.Steps.Block.{is_indentation, is_cr_lf, inside_break, with_empty_line, pass_empty_lines, line_starts, LinesRead, between, line}
use Rattle.saphyr_scalar.specs.Reading.BlockText.{AreInside}
use Rattle.saphyr_scalar.proofs.Quoted.Inside.{break_cases}
use Rattle.saphyr_scalar.proofs.Block.Indentations.{indentation_is_space}

-- What is taken off xs before `rest`, where a line may start only if A holds, or before an LF.
pub record Within (A : Type 0) (xs rest : List ℕ) : Type 0 where
  pub taken : List ℕ
  pub is : xs ≡ taken ++ rest
  pub inside : (starts : Bool) → (IsTrue starts → A ⊎ (slice_index xs 0 ≡ line_feed)) → AreInside starts taken rest

pub within_nothing : (A : Type 0) (xs : List ℕ) → Within A xs xs
within_nothing A xs = record { taken = []; is = refl; inside = λ starts h. tt }

-- one character more
within_more : (A B : Type 0) (c : ℕ) (cs rest : List ℕ) → IsTrue (is_break c || is_yaml_non_break c)
    → (A ⊎ (c ≡ line_feed) → IsFalse (is_document_indicator (c ∷ cs)))
    → (IsTrue (is_break c) → B ⊎ (slice_index cs 0 ≡ line_feed)) → Within B cs rest → Within A (c ∷ cs) rest
within_more A B c cs rest h none next w = record {
  taken = c ∷ w.taken;
  is = ap (λ t. c ∷ t) w.is;
  inside = λ starts k. (
    h,
    λ e. rw w.is at (none (k e)),
    w.inside
        (is_break c) next,
  );
}

no_marker_break : (c : ℕ) (cs : List ℕ) → is_break c ≡ true → IsFalse (is_document_indicator (c ∷ cs))
no_marker_break c cs b = break_cases c b (λ x. IsFalse (is_document_indicator (x ∷ cs))) refl refl

break_stands : (c : ℕ) → is_break c ≡ true → IsTrue (is_break c || is_yaml_non_break c)
break_stands c b = let P : Bool → Type 0 = λ k. (k || is_yaml_non_break c) ≡ true in subst P (sym b) refl

non_break_stands : (c : ℕ) → is_yaml_non_break c ≡ true → IsTrue (is_break c || is_yaml_non_break c)
non_break_stands c e = subst (λ k. (k || is_yaml_non_break c) ≡ true) (sym (non_break_no_break c e)) e

-- ## Steps

a_space : (A B : Type 0) (c : ℕ) (cs rest : List ℕ) → c ≡ space → Within B cs rest → Within A (c ∷ cs) rest
a_space A B c cs rest e w = rw e (within_more A B 32 cs rest refl (λ _. refl) (λ k. absurd (cc)) w)

a_return : (A B : Type 0) (c : ℕ) (cs rest : List ℕ) → is_cr_lf c cs ≡ true → Within B cs rest → Within A (c ∷ cs) rest
a_return A B c cs rest e w =
    let b : is_break c ≡ true = ap is_break (eqb-true c 13 (and_true_left (c == 13) (slice_index cs 0 == 10) e)) in
    within_more A B c cs rest (break_stands c b) (λ _. no_marker_break c cs b)
    (λ _. inr (eqb-true (slice_index cs 0) 10 (and_true_right (c == 13) (slice_index cs 0 == 10) e))) w

a_break : (A B : Type 0) (c : ℕ) (cs rest : List ℕ) → is_break c ≡ true → B → Within B cs rest → Within A (c ∷ cs) rest
a_break A B c cs rest b starts w =
    within_more A B c cs rest (break_stands c b) (λ _. no_marker_break c cs b) (λ _. inl starts) w

-- a line of content begins where no document marker does
starts_clear : (i col : ℕ) (xs : List ℕ) → line_starts i col xs ≡ true
    → (is_yaml_non_break (slice_index xs 0) ≡ true) × (col ≡ 0 → is_document_indicator xs ≡ false)
unfolding line_starts
starts_clear i col xs = grind arith

-- ## Lines

abbrev At : Marker → Type 0
At m = m.col ≡ 0

-- a character of a line's content, at its start and after that
content_more : (A : Type 0) (c : ℕ) (cs rest : List ℕ) → is_yaml_non_break c ≡ true
    → (A → IsFalse (is_document_indicator (c ∷ cs))) → Within ⊥ cs rest → Within A (c ∷ cs) rest
content_more A c cs rest e none w = within_more A ⊥ c cs rest (non_break_stands c e) (λ (k : A ⊎ (c ≡ 10)). by k)
    (λ k. absurd (let f = non_break_no_break c e in cc)) w
  where
    by : A ⊎ (c ≡ line_feed) → IsFalse (is_document_indicator (c ∷ cs))
    by h = grind arith

within_behind_character : (c : ℕ) (cs rest : List ℕ) → is_yaml_non_break c ≡ true → Within ⊥ cs rest
    → Within ⊥ (c ∷ cs) rest
within_behind_character c cs rest e w = content_more ⊥ c cs rest e (λ k. absurd k) w

within_from_line_start : (m : Marker) (i c : ℕ) (cs rest : List ℕ) → line_starts i m.col (c ∷ cs) ≡ true
    → Within ⊥ cs rest → Within (At m) (c ∷ cs) rest
within_from_line_start m i c cs rest g w =
    let s = starts_clear i m.col (c ∷ cs) g in content_more (At m) c cs rest s.0 s.1 w

-- the lines before the first content
pub empty_inside : (limit : Option ℕ) (before : EmptyLines) (b : Bool) (m : Marker) (xs rest : List ℕ)
    → (let t = (pass_empty_lines limit before b m xs).1 in Within (At t.mark) t.rest rest) → Within (At m) xs rest
unfolding pass_empty_lines
empty_inside limit before b m [] rest = λ w. w
empty_inside limit before b m (c ∷ cs) rest =
    let P : EmptyLines × Cursor → Type 0 = λ x. Within (At x.1.mark) x.1.rest rest → Within (At m) (c ∷ cs) rest in
    by_test (is_indentation limit m.col c) _ _ P
    (λ e w. a_space (At m) _ c cs rest (indentation_is_space limit m.col c e)
    (empty_inside limit before b (along m 1) cs rest w))
    (λ _. by_test (is_cr_lf c cs) _ _ P
    (λ e w. a_return (At m) _ c cs rest e (empty_inside limit before b (inside_break m) cs rest w))
    (λ _. by_test (is_break c) _ _ P
    (λ e w. a_break (At m) (At (next_line m 1)) c cs rest e refl
    (empty_inside limit (with_empty_line before m.col) true (next_line m 1) cs rest w)) (λ _ w. w)))

mutual
  unfolding between line

  pub between_inside : (style : BlockStyle) (i : ℕ) (above : Option Bool) (lines : ℕ) (b : Bool) (m : Marker)
      (xs : List ℕ) → Within (At m) xs (between style i above lines b m xs).2.rest
  between_inside style i above lines b m [] = within_nothing (At m) []
  between_inside style i above lines b m (c ∷ cs) =
      let P : LinesRead → Type 0 = λ x. Within (At m) (c ∷ cs) x.2.rest in
      by_test (is_indentation (Some i) m.col c) _ _ P
      (λ e. a_space (At m) _ c cs _ (indentation_is_space (Some i) m.col c e)
      (between_inside style i above lines b (along m 1) cs))
      (λ _. by_test (is_cr_lf c cs) _ _ P
      (λ e. a_return (At m) _ c cs _ e (between_inside style i above lines b (inside_break m) cs))
      (λ _. by_test (is_break c) _ _ P
      (λ e. a_break (At m) (At (next_line m 1)) c cs _ e refl
      (between_inside style i above (lines + 1) true (next_line m 1) cs))
      (λ _. by_test (line_starts i m.col (c ∷ cs)) _ _ P
      (λ g. within_from_line_start m i c cs _ g (line_inside style i (is_blank c) b (along m 1) cs))
      (λ _. within_nothing (At m) (c ∷ cs)))))

  line_inside : (style : BlockStyle) (i : ℕ) (more b : Bool) (m : Marker) (xs : List ℕ)
      → Within ⊥ xs (line style i more b m xs).2.rest
  line_inside style i more b m [] = within_nothing ⊥ []
  line_inside style i more b m (c ∷ cs) =
      let P : LinesRead → Type 0 = λ x. Within ⊥ (c ∷ cs) x.2.rest in
      by_test (is_yaml_non_break c) _ _ P
      (λ e. within_behind_character c cs _ e (line_inside style i more b (along m 1) cs))
      (λ _. by_test (is_cr_lf c cs) _ _ P (λ e. a_return ⊥ _ c cs _ e (line_inside style i more b (inside_break m) cs))
      (λ _. by_test (is_break c) _ _ P
      (λ e. a_break ⊥ (At (next_line m 1)) c cs _ e refl
      (between_inside style i (Some more) 0 true (next_line m 1) cs)) (λ _. within_nothing ⊥ (c ∷ cs))))
