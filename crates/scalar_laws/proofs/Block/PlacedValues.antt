-- Where the lines of a block scalar are, what is read has their value, with the breaks at their end.
use Rattle.std.proofs.Common.{◌≡◌, ℕ, suc, ◌+◌, ◌<◌, ◌≤◌, Bool, true, false, List, [], ◌∷◌, ◌++◌, length, slice_index, refl, sym, ap, ◌∙◌, arith, append_assoc, ◌≢◌, zero, inl, inr}
use Rattle.scalar_laws.proofs.Common.{Option, Some, is_some, ◌⊎◌, nat_tests, append-nil, is_blank, line_feed, is_break, is_yaml_non_break, carriage_return, BlockStyle, Marker, Cursor, along, next_line, spaces, Chomping, Line, is_more_indented, contents_behind, empty_at_end, is_document_indicator, AreIn, along_none, along_more, line_begins, line_on, no_line_at, and_false, ne_eqb}
use Rattle.saphyr_scalar.specs.Steps.Block.{line_cursor, break_before, LinesRead, lines_behind_text, between, tail, is_unfinished, is_indentation, line_starts, lines_ended, line}
use Rattle.saphyr_scalar.proofs.Block.Values.{cut_tail, same_break}
use Rattle.scalar_laws.specs.Spelling.Block.{IsContent, AreLines, no_lines, empty, content, last, last_empty, left_of, IsBehind}
use Rattle.saphyr_scalar.specs.Values.Block as reading

one_space : (st : BlockStyle) (i : ℕ) (ab : Option Bool) (k : ℕ) (b : Bool) (m : Marker) (t : List ℕ) → m.col < i
    → between st i ab k b m (32 ∷ t) ≡ between st i ab k b (along m 1) t
unfolding between
one_space st i ab k b m t h = grind (arith, nat_tests)

pub spaces_on : (st : BlockStyle) (i : ℕ) (ab : Option Bool) (k : ℕ) (b : Bool) (j : ℕ) (m : Marker) (t : List ℕ)
    → m.col + j ≤ i → between st i ab k b m (spaces j ++ t) ≡ between st i ab k b (along m j) t
spaces_on st i ab k b zero m t h = cc (along_none m)
spaces_on st i ab k b (suc j) m t h =
    cc (
      one_space st i ab k b m (spaces j ++ t) (omega arith),
      spaces_on st i ab k b j (along m 1) t (omega arith),
      along_more m 1 j (suc j) (omega arith),
    )

pub feed_on : (st : BlockStyle) (i : ℕ) (ab : Option Bool) (k : ℕ) (b : Bool) (m : Marker) (t : List ℕ)
    → between st i ab k b m (line_feed ∷ t) ≡ between st i ab (k + 1) true (next_line m 1) t
unfolding between
feed_on st i ab k b m t = refl

-- a line's content
content_on : (st : BlockStyle) (i : ℕ) (more b : Bool) (m : Marker) (cs t : List ℕ) → AreIn is_yaml_non_break cs
    → line st i more b m (cs ++ t) ≡ lines_behind_text cs (line st i more b (along m (length cs)) t)
content_on st i more b m [] t h = cc (along_none m)
content_on st i more b m (c ∷ cs) t h =
    cc (
      line_on st i more b m c (cs ++ t) h.0,
      content_on st i more b (along m 1) cs t h.1,
      along_more m 1 (length cs) (length (c ∷ cs)) (omega arith),
    )

pub line_feed_on : (st : BlockStyle) (i : ℕ) (more b : Bool) (m : Marker) (t : List ℕ)
    → line st i more b m (line_feed ∷ t) ≡ between st i (Some more) 0 true (next_line m 1) t
unfolding line
line_feed_on st i more b m t = refl

pub line_end_on : (st : BlockStyle) (i : ℕ) (more b : Bool) (m : Marker)
    → line st i more b m [] ≡ lines_ended false 0 (line_cursor b m [])
unfolding line
line_end_on st i more b m = refl

-- what is left after the lines: the place after n spaces, or the text's end
abbrev pub Left : ℕ → List ℕ → LinesRead → Type 0
Left n others r = (r.2.rest ≡ others) × ((r.2.mark.col ≡ n) ⊎ (others ≡ []))

space_off : (i n x : ℕ) → (n < i → x ≢ 32) → is_indentation (Some i) n x ≡ false
space_off i n x h = grind arith

pub none_starts : (i n : ℕ) (xs : List ℕ)
    → (n ≡ i → (is_yaml_non_break (slice_index xs 0) ≡ false) ⊎ ((i ≡ 0) × (is_document_indicator xs ≡ true)))
    → line_starts i n xs ≡ false
unfolding line_starts
none_starts i n xs h = grind (arith, and_false, nat_tests)

pub no_break_at : (x : ℕ) → x ≢ line_feed → x ≢ carriage_return → is_break x ≡ false
no_break_at x a d = rw (ne_eqb x 10 a, ne_eqb x 13 d) refl

pub behind_same : (st : BlockStyle) (i : ℕ) (ab : Option Bool) (k : ℕ) (b : Bool) (m : Marker) (n : ℕ)
    (x others : List ℕ) → m.col ≡ 0 → IsBehind i n x others → between st i ab k b m x
    ≡ lines_ended (is_some ab) k (line_cursor b (along m n) others)
behind_same st i ab k b m n x others col h = grind (arith, space_off, none_starts, spaces_on, no_line_at, no_break_at)

behind_left : (st : BlockStyle) (i : ℕ) (ab : Option Bool) (k : ℕ) (b : Bool) (m : Marker) (n : ℕ) (x others : List ℕ)
    → m.col ≡ 0 → IsBehind i n x others → Left n others (between st i ab k b m x)
behind_left st i ab k b m n x others col h = rw (behind_same st i ab k b m n x others col h) (refl, inl (omega arith))

pub nothing_behind : (i n : ℕ) (x others : List ℕ) → x ≡ [] → IsBehind i n x others → others ≡ []
nothing_behind i zero x others e h = sym h.is ∙ e
nothing_behind i (suc n) x others e h = let no : 32 ∷ (spaces n ++ others) ≡ [] = sym h.is ∙ e in absurd (cc)

-- a content line, from its first character on
pub begun_on : (st : BlockStyle) (i : ℕ) (ab : Option Bool) (k : ℕ) (b : Bool) (m : Marker) (c : ℕ) (cs t : List ℕ)
    → m.col ≡ i → IsContent i c cs t → between st i ab k b m (c ∷ (cs ++ t))
    ≡ lines_behind_text (break_before st ab k (is_blank c))
    (lines_behind_text (c ∷ cs) (line st i (is_blank c) b (along m (length (c ∷ cs))) t))
unfolding line_starts
begun_on st i ab k b m c cs t col h =
    cc (
      line_begins st i ab k b m (c ∷ (cs ++ t)) (grind (arith, h.all.0, h.no_marker)),
      content_on st i (is_blank c) b m (c ∷ cs) t h.all,
    )

pub content_left : (st : BlockStyle) (i n : ℕ) (ab : Option Bool) (k : ℕ) (b : Bool) (m : Marker) (c : ℕ)
    (cs t others : List ℕ) → m.col ≡ i → IsContent i c cs (line_feed ∷ t)
    → ((more : Bool) (p : Marker) → p.col ≡ 0 → Left n others (between st i (Some more) 0 true p t))
    → Left n others (between st i ab k b m (c ∷ (cs ++ (line_feed ∷ t))))
content_left st i n ab k b m c cs t others col h after = grind (arith, begun_on, line_feed_on)

pub last_left : (st : BlockStyle) (i n : ℕ) (ab : Option Bool) (k : ℕ) (b : Bool) (m : Marker) (c : ℕ)
    (cs others : List ℕ) → m.col ≡ i → IsContent i c cs [] → others ≡ []
    → Left n others (between st i ab k b m (c ∷ cs))
last_left st i n ab k b m c cs others col h none =
    let whole : cs ++ [] ≡ cs = append-nil cs in
    let same = ap (λ ys. between st i ab k b m (c ∷ ys)) (sym whole) ∙ begun_on st i ab k b m c cs [] col h
    ∙ ap (λ r. lines_behind_text (break_before st ab k (is_blank c)) (lines_behind_text (c ∷ cs) r))
    (line_end_on st i (is_blank c) b (along m (length (c ∷ cs)))) in
    rw same (sym none, inr none)

-- spaces up to the text's end
pub spaces_end : (st : BlockStyle) (i : ℕ) (ab : Option Bool) (k : ℕ) (b : Bool) (j : ℕ) (m : Marker) → m.col + j ≤ i
    → between st i ab k b m (spaces j) ≡ lines_ended (is_some ab) k (line_cursor b (along m j) [])
unfolding between
spaces_end st i ab k b j m at = cc (append-nil (spaces j), spaces_on st i ab k b j m [] at)

spaces_left : (st : BlockStyle) (i n : ℕ) (ab : Option Bool) (k : ℕ) (b : Bool) (j : ℕ) (m : Marker) (others : List ℕ)
    → m.col + j ≤ i → others ≡ [] → Left n others (between st i ab k b m (spaces j))
spaces_left st i n ab k b j m others at none = rw (spaces_end st i ab k b j m at) (sym none, inr none)

pub lines_left : (st : BlockStyle) (i n : ℕ) (x : List ℕ) (ab : Option Bool) (k : ℕ) (b : Bool) (m : Marker)
    (ls : List Line) (t others : List ℕ) → m.col ≡ 0 → AreLines i x ls t → IsBehind i n x others
    → Left n others (between st i ab k b m t)
lines_left st i n x ab k b m _ _ others col no_lines h = behind_left st i ab k b m n x others col h
lines_left st i n x ab k b m _ _ others col (empty j ls t within l) h =
    let more = lines_left st i n x ab (k + 1) true (next_line (along m j) 1) ls t others refl l h in
    grind (arith, spaces_on, feed_on, more)
lines_left st i n x ab k b m _ _ others col (content c cs ls t ic l) h =
    let at : m.col + i ≤ i = omega arith in
    rw (spaces_on st i ab k b i m (c ∷ (cs ++ (10 ∷ t))) at) (content_left st i n ab k b (along m i) c cs t others
    (omega arith) ic (λ more p e. lines_left st i n x (Some more) 0 true p ls t others e l h))
lines_left st i n x ab k b m _ _ others col (last c cs ic none) h =
    let at : m.col + i ≤ i = omega arith in
    rw (spaces_on st i ab k b i m (c ∷ cs) at) (last_left st i n ab k b (along m i) c cs others (omega arith) ic
    (nothing_behind i n x others none h))
lines_left st i n x ab k b m _ _ others col (last_empty some none) h =
    spaces_left st i n ab k b i m others (omega arith) (nothing_behind i n x others none h)
lines_left st i n x ab k b m _ _ others col (left_of j less none) h =
    spaces_left st i n ab k b j m others (omega arith) (nothing_behind i n x others none h)

-- what the lines read as, with the breaks at their end
abbrev pub Value : Chomping → ℕ → LinesRead → List ℕ
Value c i r = r.0 ++ tail c (is_unfinished i r.2) r.1

unfinished : (i : ℕ) (s : Cursor) → i < s.mark.col → s.rest ≡ [] → is_unfinished i s ≡ true
unfolding is_unfinished
unfinished i s h e = grind arith

-- spaces up to the text's end, at the indentation and left of it
full_spaces : (st : BlockStyle) (c : Chomping) (i : ℕ) (more : Bool) (k : ℕ) (b : Bool) (m : Marker) → m.col ≡ 0
    → 1 ≤ i → Value c i (between st i (Some more) k b m (spaces i)) ≡ reading.chomped c true (suc k)
unfolding is_unfinished
full_spaces st c i more k b m col some = grind (arith, spaces_end)

behind_value : (st : BlockStyle) (c : Chomping) (i : ℕ) (more : Bool) (k : ℕ) (b : Bool) (m : Marker) (n : ℕ)
    (x others : List ℕ) → m.col ≡ 0 → IsBehind i n x others
    → Value c i (between st i (Some more) k b m x) ≡ reading.chomped c true k
unfolding is_unfinished
behind_value st c i more k b m n x others col h = grind (arith, behind_same)

pub content_value : (st : BlockStyle) (c : Chomping) (i : ℕ) (ab : Option Bool) (k : ℕ) (b : Bool) (m : Marker) (x : ℕ)
    (cs t later : List ℕ) → m.col ≡ i → IsContent i x cs (line_feed ∷ t)
    → ((p : Marker) → p.col ≡ 0 → Value c i (between st i (Some (is_blank x)) 0 true p t) ≡ later)
    → Value c i (between st i ab k b m (x ∷ (cs ++ (line_feed ∷ t))))
    ≡ break_before st ab k (is_blank x) ++ ((x ∷ cs) ++ later)
content_value st c i ab k b m x cs t later col h after = grind (arith, begun_on, line_feed_on, append_assoc)

pub last_value : (st : BlockStyle) (c : Chomping) (i : ℕ) (ab : Option Bool) (k : ℕ) (b : Bool) (m : Marker) (x : ℕ)
    (cs : List ℕ) → m.col ≡ i → IsContent i x cs [] → Value c i (between st i ab k b m (x ∷ cs))
    ≡ break_before st ab k (is_blank x) ++ ((x ∷ cs) ++ reading.chomped c true 0)
last_value st c i ab k b m x cs col h =
    let p = along m (length (x ∷ cs)) in
    let bb = break_before st ab k (is_blank x) in
    let whole : cs ++ [] ≡ cs = append-nil cs in
    let same = ap (λ ys. between st i ab k b m (x ∷ ys)) (sym whole) ∙ begun_on st i ab k b m x cs [] col h
    ∙ ap (λ r. lines_behind_text bb (lines_behind_text (x ∷ cs) r)) (line_end_on st i (is_blank x) b p) in
    simp (same, append_assoc, unfinished i (line_cursor b p []) (omega arith) refl, cut_tail c true)

-- What the reader gives of the lines that are left is their content, as folded, and the line breaks at the end. By
-- recursion over the lines: an empty one is counted, one with content comes behind the breaks that were counted, and
-- the last may end without a line break.
pub lines_value_left : (st : BlockStyle) (c : Chomping) (i n : ℕ) (x others : List ℕ) (above : List ℕ) (more : Bool)
    (k : ℕ) (b : Bool) (m : Marker) (ls : List Line) (t : List ℕ) → is_more_indented above ≡ more → m.col ≡ 0
    → AreLines i x ls t → IsBehind i n x others → Value c i (between st i (Some more) k b m t)
    ≡ contents_behind st above k ls ++ reading.chomped c true (empty_at_end k ls)
unfolding is_unfinished
lines_value_left st c i n x others above more k b m _ _ e col no_lines h =
    behind_value st c i more k b m n x others col h
lines_value_left st c i n x others above more k b m _ _ e col (empty j ls t within l) h =
    let more = lines_value_left st c i n x others above more (k + 1) true (next_line (along m j) 1) ls t e refl l h in
    grind (arith, spaces_on, feed_on, more)
lines_value_left st c i n x others above more k b m _ _ e col (content y cs ls t ic l) h =
    let bb = break_before st (Some more) k (is_blank y) in
    let own = contents_behind st (y ∷ cs) 0 ls in
    let end = reading.chomped c true (empty_at_end 0 ls) in
    cc (
      spaces_on st i (Some more) k b i m (y ∷ (cs ++ (10 ∷ t))) (omega arith),
      content_value st c i (Some more) k b (along m i) y cs t (own ++ end) (omega arith) ic
          (λ p q. lines_value_left st c i n x others (y ∷ cs) (is_blank y) 0 true p ls t refl q l h),
      append_assoc (y ∷ cs) own end,
      append_assoc bb ((y ∷ cs) ++ own) end,
      same_break st above (y ∷ cs) more (is_blank y) k e refl,
    )
lines_value_left st c i n x others above more k b m _ _ e col (last y cs ic none) h =
    let bb = break_before st (Some more) k (is_blank y) in
    let end = reading.chomped c true 0 in
    cc (
      spaces_on st i (Some more) k b i m (y ∷ cs) (omega arith),
      last_value st c i (Some more) k b (along m i) y cs (omega arith) ic,
      append-nil (y ∷ cs),
      append_assoc bb ((y ∷ cs) ++ []) end,
      same_break st above (y ∷ cs) more (is_blank y) k e refl,
    )
lines_value_left st c i n x others above more k b m _ _ e col (last_empty some none) h =
    full_spaces st c i more k b m col some
lines_value_left st c i n x others above more k b m _ _ e col (left_of j less none) h =
    (grind (arith, spaces_end))
