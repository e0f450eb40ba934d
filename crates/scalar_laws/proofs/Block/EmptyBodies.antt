-- Where a block scalar has no content, its empty lines are taken off, and no more.
use Rattle.scalar_laws.proofs.Common.{◌≡◌, ◌≢◌, ℕ, ◌+◌, ◌≤◌, Bool, true, false, List, [], ◌∷◌, ◌++◌, length, slice_index, refl, sym, ◌∙◌, arith, subst, inr, max, Option, ◌⊎◌, append-nil, is_break, Marker, EmptyLinesRead, line_cursor, is_indentation, with_column, with_empty_line, pass_empty_lines, Cursor, along, next_line, spaces, stops, Line, Empty, has_content, AreEmptyLines, no_empty_lines, empty_line, empty_line_and_spaces, IsBehind}
use Rattle.scalar_laws.proofs.Block.PlacedValues.{nothing_behind, no_break_at}
use Rattle.scalar_laws.proofs.Block.LeadingLines.{IsLimit, e_spaces, e_feed}

-- Empty lines were taken off, and spaces after them: all the scalar has, and all before `others`.
pub record Passed (i n : ℕ) (others : List ℕ) (before : EmptyLinesRead) (ls : List Line)
    (r : EmptyLinesRead × Cursor) : Type 0 where
  pub rest : r.1.rest ≡ others
  pub count : r.0.count ≡ before.count + length ls
  pub widest : r.0.widest ≤ i
  pub within : r.1.mark.col ≤ r.0.widest
  pub column : (r.1.mark.col ≡ n) ⊎ ((others ≡ []) × (1 ≤ length ls))

-- what comes after n spaces is no space: to the left of the column, or at it where no content begins
pub no_space_behind : (i n : ℕ) (x others : List ℕ) → IsBehind i n x others → slice_index others 0 ≢ 32
no_space_behind i n x others h e = grind arith

pub no_indentation : (limit : Option ℕ) (col c : ℕ) → c ≢ 32 → is_indentation limit col c ≡ false
no_indentation limit col c h = grind arith

-- spaces, and after them what is no more of the indentation
stopped : (i n : ℕ) (given : Bool) (limit : Option ℕ) (others : List ℕ) (before : EmptyLinesRead) (b : Bool)
    (m : Marker) → IsLimit i given limit → m.col + n ≤ i → slice_index others 0 ≢ 32
    → is_break (slice_index others 0) ≡ false → pass_empty_lines limit before b m (spaces n ++ others)
    ≡ (with_column before (m.col + n), line_cursor b (along m n) others)
stopped i n given limit others before b m l within no_space no_break =
    e_spaces i given limit before b n m others l within ∙ stops limit before (line_cursor b (along m n) others)
    (no_indentation limit (m.col + n) (slice_index others 0) no_space) no_break

none_passed : (i n : ℕ) (given : Bool) (limit : Option ℕ) (x others : List ℕ) (before : EmptyLinesRead) (b : Bool)
    (m : Marker) → IsLimit i given limit → m.col ≡ 0 → before.widest ≤ i → IsBehind i n x others
    → Passed i n others before [] (pass_empty_lines limit before b m x)
none_passed i n given limit x others before b m l col wide h = grind (arith, stopped, no_break_at)

-- spaces up to the text's end
pub spaces_passed : (i : ℕ) (given : Bool) (limit : Option ℕ) (before : EmptyLinesRead) (b : Bool) (k : ℕ) (m : Marker)
    → IsLimit i given limit → m.col ≡ 0 → k ≤ i → pass_empty_lines limit before b m (spaces k)
    ≡ (with_column before (m.col + k), line_cursor b (along m k) [])
spaces_passed i given limit before b k m l col within =
    cc (append-nil (spaces k), stopped i k given limit [] before b m l (omega arith) (λ e. cc) refl)

-- Empty lines are passed, by recursion over them. What is counted and the widest of them go along.
pub empty_passed : (i n : ℕ) (given : Bool) (limit : Option ℕ) (x others : List ℕ) (before : EmptyLinesRead) (b : Bool)
    (m : Marker) (ls : List Line) (t : List ℕ) → IsLimit i given limit → m.col ≡ 0 → before.widest ≤ i
    → IsBehind i n x others → AreEmptyLines i x ls t → Passed i n others before ls (pass_empty_lines limit before b m t)
empty_passed i n given limit x others before b m _ _ l col wide h no_empty_lines =
    none_passed i n given limit x others before b m l col wide h
empty_passed i n given limit x others before b m _ _ l col wide h (empty_line j ls t within more) =
    let same = e_spaces i given limit before b j m (10 ∷ t) l (omega arith) ∙ e_feed limit before b (along m j) t in
    let wider : max before.widest (m.col + j) ≤ i = omega arith in
    subst (Passed i n others before (Empty ∷ ls)) (sym same) (grind (
      arith,
      (empty_passed i n given limit x others
          (with_empty_line before (m.col + j)) true (next_line (along m j) 1) ls t l
          refl wider h more),
    ))
empty_passed i n given limit x others before b m _ _ l col wide h (empty_line_and_spaces j k within further none_left) =
    let same = e_spaces i given limit before b j m (10 ∷ spaces k) l (omega arith)
    ∙ e_feed limit before b (along m j) (spaces k)
    ∙ spaces_passed i given limit (with_empty_line before (m.col + j)) true k (next_line (along m j) 1) l refl
    further in
    subst (Passed i n others before (Empty ∷ [])) (sym same)
    (record {
      rest = sym (nothing_behind i n x others none_left h);
      count = omega arith;
      widest = omega arith;
      within = omega arith;
      column = inr (nothing_behind i n x others none_left h, omega arith);
    })

pub empty_lines_alone : {i : ℕ} {x : List ℕ} {ls : List Line} {t : List ℕ} → AreEmptyLines i x ls t
    → has_content ls ≡ false
empty_lines_alone no_empty_lines = refl
empty_lines_alone (empty_line j ls t within more) = empty_lines_alone more
empty_lines_alone (empty_line_and_spaces j k within further none_left) = refl
