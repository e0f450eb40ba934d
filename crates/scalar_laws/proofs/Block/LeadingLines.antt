-- Where the leading empty lines of a block scalar are, they are taken off, with the indentation of its first content
-- line.
use Rattle.scalar_laws.proofs.Common.{◌≡◌, ◌≢◌, ℕ, zero, suc, ◌+◌, ◌<◌, ◌≤◌, Bool, true, false, List, [], ◌∷◌, ◌++◌, slice_index, refl, sym, ap, ◌∙◌, arith, subst, append_assoc, max, Option, Some, None, is_blank, is_yaml_non_break, line_feed, space, BlockStyle, Marker, Cursor, along, next_line, spaces, along_none, along_more, stops, IsBehind, IsBody, leading, first, first_and_last, Chomping, Line, Empty, Content, contents, contents_behind, empty_at_end, has_content, line_feeds, non_break_no_break}
use Rattle.saphyr_scalar.specs.Steps.Block.{EmptyLinesRead, line_cursor, is_indentation, with_column, with_empty_line, pass_empty_lines, between}
use Rattle.saphyr_scalar.specs.Values.Block as reading
use Rattle.scalar_laws.proofs.Block.PlacedValues.{Left, nothing_behind, content_left, last_left, lines_left, Value, content_value, last_value, lines_value_left}

-- the indentation that is given, or is to be found
abbrev pub IsLimit : ℕ → Bool → Option ℕ → Type 0
IsLimit i given None = given ≡ false
IsLimit i given (Some limit) = limit ≡ i

e_space : (limit : Option ℕ) (lines : EmptyLinesRead) (b : Bool) (m : Marker) (t : List ℕ)
    → is_indentation limit m.col 32 ≡ true
    → pass_empty_lines limit lines b m (space ∷ t) ≡ pass_empty_lines limit lines b (along m 1) t
unfolding pass_empty_lines
e_space limit lines b m t h = grind arith

limit_space : (i : ℕ) (given : Bool) (limit : Option ℕ) (col : ℕ) → IsLimit i given limit → col < i
    → is_indentation limit col 32 ≡ true
limit_space i given limit col h less = grind arith

pub e_spaces : (i : ℕ) (given : Bool) (limit : Option ℕ) (lines : EmptyLinesRead) (b : Bool) (j : ℕ) (m : Marker)
    (t : List ℕ) → IsLimit i given limit → m.col + j ≤ i
    → pass_empty_lines limit lines b m (spaces j ++ t) ≡ pass_empty_lines limit lines b (along m j) t
e_spaces i given limit lines b zero m t l h = cc (along_none m)
e_spaces i given limit lines b (suc j) m t l h =
    cc (
      e_space limit lines b m (spaces j ++ t) (limit_space i given limit m.col l (omega arith)),
      e_spaces i given limit lines b j (along m 1) t l (omega arith),
      along_more m 1 j (suc j) (omega arith),
    )

pub e_feed : (limit : Option ℕ) (lines : EmptyLinesRead) (b : Bool) (m : Marker) (t : List ℕ)
    → pass_empty_lines limit lines b m (line_feed ∷ t) ≡ pass_empty_lines limit (with_empty_line lines m.col) true
    (next_line m 1) t
unfolding pass_empty_lines
e_feed limit lines b m t = grind arith

-- the first content line, with what comes after it
abbrev pub FirstValue : BlockStyle → Chomping → List ℕ → List Line → List ℕ
FirstValue st c text ls = text ++ (contents_behind st text 0 ls ++ reading.chomped c true (empty_at_end 0 ls))

-- the leading empty lines are taken off, and the indentation of the first content line
pub record Led (st : BlockStyle) (c : Chomping) (i n : ℕ) (others : List ℕ) (before : EmptyLinesRead) (ls : List Line)
    (r : EmptyLinesRead × Cursor) : Type 0 where
  pub column : r.1.mark.col ≡ i
  pub widest : r.0.widest ≡ i
  pub starts : is_yaml_non_break (slice_index r.1.rest 0) ≡ true
  pub left : (k : ℕ) → Left n others (between st i None k r.1.blank_so_far r.1.mark r.1.rest)
  pub d : ℕ
  pub later : List ℕ
  pub count : r.0.count ≡ before.count + d
  pub value : (k : ℕ) → Value c i (between st i None k r.1.blank_so_far r.1.mark r.1.rest) ≡ line_feeds k ++ later
  pub some : has_content ls ≡ true
  pub whole : (e : ℕ) → contents st ls ++ reading.chomped c true (empty_at_end e ls) ≡ line_feeds d ++ later

led_at : {i n : ℕ} {given : Bool} {others : List ℕ} (st : BlockStyle) (c : Chomping) (limit : Option ℕ)
    (before : EmptyLinesRead) (b : Bool) (m : Marker) (x : ℕ) (cs t : List ℕ) (ls : List Line) → IsLimit i given limit
    → (given ≡ false → x ≢ space) → m.col ≡ i → before.widest ≤ i
    → is_yaml_non_break x ≡ true → ((k : ℕ) → Left n others (between st i None k b m (x ∷ t)))
    → ((k : ℕ) → Value c i (between st i None k b m (x ∷ t)) ≡ line_feeds k ++ FirstValue st c (x ∷ cs) ls)
    → Led st c i n others before (Content (x ∷ cs) ∷ ls) (pass_empty_lines limit before b m (x ∷ t))
led_at {i} {n} {others = others} st c limit before b m x cs t ls l h col wide solid left value =
    let stop : pass_empty_lines limit before b m (x ∷ t) ≡ (with_column before m.col, line_cursor b m (x ∷ t)) =
    stops limit before (line_cursor b m (x ∷ t)) (grind arith)
    (non_break_no_break x solid) in
    subst (Led st c i n others before (Content (x ∷ cs) ∷ ls)) (sym stop)
    (record {
      column = col;
      widest = omega arith;
      starts = solid;
      left = left;
      d = 0;
      later = FirstValue st c (x ∷ cs) ls;
      count = omega arith;
      value = value;
      some = refl;
      whole = λ e. append_assoc (x ∷ cs) (contents_behind st (x ∷ cs) 0 ls)
          (reading.chomped c true (empty_at_end 0 ls));
    })

led_more : (st : BlockStyle) (c : Chomping) (i n : ℕ) (others : List ℕ) (before : EmptyLinesRead) (w : ℕ)
    (ls : List Line)
    (r : EmptyLinesRead × Cursor) → Led st c i n others (with_empty_line before w) ls r → Led st c i n others before
    (Empty ∷ ls) r
led_more st c i n others before w ls r l = record {
  column = l.column;
  widest = l.widest;
  starts = l.starts;
  left = l.left;
  d = suc l.d;
  later = l.later;
  count = omega (arith, l.count);
  value = l.value;
  some = l.some;
  whole = λ e. ap (λ ys. 10 ∷ ys) (l.whole (suc e));
}

-- The empty lines before the first line with content are passed, by recursion over the body. Behind them stands
-- content, on the last line or another, and `led_at` joins that to what the reader does from there.
pub led_on : (st : BlockStyle) (c : Chomping) (i n : ℕ) (given : Bool) (limit : Option ℕ) (x others : List ℕ)
    (before : EmptyLinesRead) (b : Bool) (m : Marker) (ls : List Line) (t : List ℕ) → IsLimit i given limit → m.col ≡ 0
    → before.widest ≤ i → IsBehind i n x others
    → IsBody i given x ls t → Led st c i n others before ls (pass_empty_lines limit before b m t)
led_on st c i n given limit x others before b m _ _ l col wide h (leading j ls t within body) =
    let at : m.col + j ≤ i = omega arith in
    let more : max before.widest (m.col + j) ≤ i = omega arith in
    let same = e_spaces i given limit before b j m (10 ∷ t) l at ∙ e_feed limit before b (along m j) t in
    rw same (led_more st c i n others before (m.col + j) ls _
    (led_on st c i n given limit x others (with_empty_line before (m.col + j)) true
    (next_line (along m j) 1) ls t l refl more h body))
led_on st c i n given limit x others before b m _ _ l col wide h (first y cs ls t no_space ic lines) =
    let at : m.col + i ≤ i = omega arith in
    let here : m.col + i ≡ i = omega arith in
    rw (e_spaces i given limit before b i m (y ∷ (cs ++ (10 ∷ t))) l at)
    (led_at st c limit before b (along m i) y cs (cs ++ (10 ∷ t)) ls l no_space here wide ic.all.0
    (λ k. content_left st i n None k b (along m i) y cs t others here ic
    (λ more p e. lines_left st i n x (Some more) 0 true p ls t others e lines h))
    (λ k. content_value st c i None k b (along m i) y cs t _ here ic
    (λ p q. lines_value_left st c i n x others (y ∷ cs) (is_blank y) 0 true p ls t refl q lines h)))
led_on st c i n given limit x others before b m _ _ l col wide h (first_and_last y cs no_space ic none) =
    let at : m.col + i ≤ i = omega arith in
    let here : m.col + i ≡ i = omega arith in
    rw (e_spaces i given limit before b i m (y ∷ cs) l at) (led_at st c limit before b (along m i) y cs cs
    [] l no_space here wide ic.all.0
    (λ k. last_left st i n None k b (along m i) y cs others here ic (nothing_behind i n x others none h))
    (λ k. last_value st c i None k b (along m i) y cs here ic))
