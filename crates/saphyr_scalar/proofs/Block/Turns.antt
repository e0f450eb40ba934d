-- The content lines of a block scalar, read a line at a time.
use Rattle.std.proofs.Common.{◌≡◌, ℕ, suc, ◌+◌, ◌<◌, ◌≤◌, Bool, true, false, List, [], ◌∷◌, ◌++◌, length, take, drop, length-drop, slice_index, Result, Ok, refl, sym, ap, ◌∙◌, arith, subst, encode_utf8_all, append_assoc, nat_eq, nat_lt, nat_le, ◌&&◌}
use Rattle.saphyr_scalar.proofs.Common.{◌==◌, Option, Some, is_some, prefix_len, nat_tests, append-nil, prefix_len-le-length, encodes-append, is_blank, is_break, is_yaml_non_break, carriage_return, line_feed, BlockStyle, Chomping, Marker, Span, Refusal, EmptyLines, Cursor, along, next_line, pass_break, run_ends, and_false, by_test, non_break_no_break}
use Rattle.saphyr_scalar.specs.declared.scalar.block.breaks.BlockEnd.{BlockEnd}
use Rattle.saphyr_scalar.specs.Steps.Block.{line_cursor, is_indentation, is_cr_lf, inside_break, with_empty_line, pass_empty_lines, pass_empty_lines_at, line_starts, break_before, LinesRead, lines_behind_text, lines_ended, between, line, between_at, with_lines, tail, is_unfinished, chomped_lines, content, content_lines}
use Rattle.saphyr_scalar.specs.Steps.Quoted.{with_front_run}
use Rattle.saphyr_scalar.proofs.Moving.{along_none, along_more}
use Rattle.saphyr_scalar.proofs.Quoted.Inside.{break_cases}
use Rattle.saphyr_scalar.proofs.Block.Lines.{no_break, behind_cr}
use Rattle.saphyr_scalar.proofs.PassedBreaks.{inside_same}
use Rattle.saphyr_scalar.proofs.Block.Indentations.{nul_no_indentation}

text_twice : (a b : List ℕ) (read : LinesRead) → lines_behind_text a (lines_behind_text b read)
    ≡ lines_behind_text (a ++ b) read
text_twice a b read = rw append_assoc refl

front_text : (text a : List ℕ) (read : LinesRead)
    → with_lines text (lines_behind_text a read) ≡ with_lines (text ++ encode_utf8_all a) read
front_text text a read = rw (encodes-append, append_assoc) refl

-- empty lines before a line, and its indentation
b_space : (st : BlockStyle) (i : ℕ) (ab : Option Bool) (k : ℕ) (b : Bool) (m : Marker) (c : ℕ) (cs : List ℕ)
    → is_indentation (Some i) m.col c ≡ true → between st i ab k b m (c ∷ cs) ≡ between st i ab k b (along m 1) cs
unfolding between
b_space st i ab k b m c cs h = rw h refl

b_half : (st : BlockStyle) (i : ℕ) (ab : Option Bool) (k : ℕ) (b : Bool) (m : Marker) (c : ℕ) (cs : List ℕ)
    → is_indentation (Some i) m.col c ≡ false → is_cr_lf c cs ≡ true
    → between st i ab k b m (c ∷ cs) ≡ between st i ab k b (inside_break m) cs
unfolding between
b_half st i ab k b m c cs h0 h = rw (h0, h) refl

b_break : (st : BlockStyle) (i : ℕ) (ab : Option Bool) (k : ℕ) (b : Bool) (m : Marker) (c : ℕ) (cs : List ℕ)
    → is_indentation (Some i) m.col c ≡ false → is_cr_lf c cs ≡ false → is_break c ≡ true
    → between st i ab k b m (c ∷ cs) ≡ between st i ab (k + 1) true (next_line m 1) cs
unfolding between
b_break st i ab k b m c cs h0 h1 h = rw (h0, h1, h) refl

abbrev Skips : BlockStyle → ℕ → Option Bool → ℕ → Bool → Marker → List ℕ → EmptyLines × Cursor → Type 0
Skips st i ab k b m xs r = between st i ab k b m xs ≡ between_at st i ab r.0.count r.1

between_skips : (st : BlockStyle) (i : ℕ) (ab : Option Bool) (lines : EmptyLines) (b : Bool) (m : Marker) (xs : List ℕ)
    → Skips st i ab lines.count b m xs (pass_empty_lines (Some i) lines b m xs)
unfolding pass_empty_lines
between_skips st i ab lines b m [] = refl
between_skips st i ab lines b m (c ∷ cs) =
    by_test (is_indentation (Some i) m.col c) _ _ (Skips st i ab lines.count b m (c ∷ cs))
    (λ h. b_space st i ab lines.count b m c cs h ∙ between_skips st i ab lines b (along m 1) cs)
    (λ h0. by_test (is_cr_lf c cs) _ _ (Skips st i ab lines.count b m (c ∷ cs))
    (λ h. b_half st i ab lines.count b m c cs h0 h ∙ between_skips st i ab lines b (inside_break m) cs)
    (λ h1. by_test (is_break c) _ _ (Skips st i ab lines.count b m (c ∷ cs))
    (λ h. b_break st i ab lines.count b m c cs h0 h1 h
    ∙ between_skips st i ab (with_empty_line lines m.col) true (next_line m 1) cs) (λ _. refl)))

-- after the empty lines and the indentation
abbrev pub Stopped : Option ℕ → EmptyLines × Cursor → Type 0
Stopped limit r = (is_indentation limit r.1.mark.col (slice_index r.1.rest 0) ≡ false)
    × (is_break (slice_index r.1.rest 0) ≡ false)

pub stopped : (limit : Option ℕ) (lines : EmptyLines) (b : Bool) (m : Marker) (xs : List ℕ)
    → Stopped limit (pass_empty_lines limit lines b m xs)
unfolding pass_empty_lines
stopped limit lines b m [] = (nul_no_indentation limit m.col, refl)
stopped limit lines b m (c ∷ cs) = by_test (is_indentation limit m.col c) _ _ (Stopped limit)
    (λ h. stopped limit lines b (along m 1) cs)
    (λ h0. by_test (is_cr_lf c cs) _ _ (Stopped limit)
    (λ h. stopped limit lines b (inside_break m) cs)
    (λ h1. by_test (is_break c) _ _ (Stopped limit)
    (λ h. stopped limit (with_empty_line lines m.col) true (next_line m 1) cs) (λ h2. (h0, h2))))

-- nothing is put before what is taken off
abbrev Shorter : List ℕ → EmptyLines × Cursor → Type 0
Shorter xs r = length r.1.rest ≤ length xs

shorter : (limit : Option ℕ) (lines : EmptyLines) (b : Bool) (m : Marker) (xs : List ℕ)
    → Shorter xs (pass_empty_lines limit lines b m xs)
unfolding pass_empty_lines
shorter limit lines b m [] = omega arith
shorter limit lines b m (c ∷ cs) = by_test (is_indentation limit m.col c) _ _ (Shorter (c ∷ cs))
    (λ h. omega (arith, shorter limit lines b (along m 1) cs))
    (λ h0. by_test (is_cr_lf c cs) _ _ (Shorter (c ∷ cs))
    (λ h. omega (arith, shorter limit lines b (inside_break m) cs))
    (λ h1. by_test (is_break c) _ _ (Shorter (c ∷ cs))
    (λ h. omega (arith, shorter limit (with_empty_line lines m.col) true (next_line m 1) cs)) (λ h2. omega arith)))

-- what was left after empty lines
pub record Skipped (st : BlockStyle) (i : ℕ) (ab : Option Bool) (before after : EmptyLines) (s t : Cursor) : Type
    0 where
  pub same : between_at st i ab before.count s ≡ between_at st i ab after.count t
  pub space : is_indentation (Some i) t.mark.col (slice_index t.rest 0) ≡ false
  pub clear : is_break (slice_index t.rest 0) ≡ false
  pub shorter : length t.rest ≤ length s.rest

pub skipped : {st : BlockStyle} {i : ℕ} {ab : Option Bool} {before after : EmptyLines} {s t : Cursor}
    → (after, t) ≡ pass_empty_lines_at (Some i) before s → Skipped st i ab before after s t
skipped {st} {i} {ab} {before} {s = s} e = subst (λ r. Skipped st i ab before r.0 s r.1) (sym e)
    (record {
      same = between_skips st i ab before s.blank_so_far s.mark s.rest;
      space = (stopped (Some i) before s.blank_so_far s.mark s.rest).0;
      clear = (stopped (Some i) before s.blank_so_far s.mark s.rest).1;
      shorter = shorter (Some i) before s.blank_so_far s.mark s.rest;
    })

-- no content line begins
pub no_line_at : (st : BlockStyle) (i : ℕ) (ab : Option Bool) (k : ℕ) (b : Bool) (m : Marker) (xs : List ℕ)
    → is_indentation (Some i) m.col (slice_index xs 0) ≡ false → is_break (slice_index xs 0) ≡ false
    → line_starts i m.col xs ≡ false → between st i ab k b m xs ≡ lines_ended (is_some ab) k (line_cursor b m xs)
unfolding between
no_line_at st i ab k b m [] space clear h = refl
no_line_at st i ab k b m (c ∷ cs) space clear h = rw (space, (no_break c clear).1, (no_break c clear).0, h) refl

pub no_line : (st : BlockStyle) (i : ℕ) (ab : Option Bool) (before after : EmptyLines) (s t : Cursor)
    → Skipped st i ab before after s t → line_starts i t.mark.col t.rest ≡ false
    → between_at st i ab before.count s ≡ lines_ended (is_some ab) after.count t
no_line st i ab before after s t r h =
    r.same ∙ no_line_at st i ab after.count t.blank_so_far t.mark t.rest r.space r.clear h

-- a content line begins
pub record Starts (i col : ℕ) (xs : List ℕ) : Type 0 where
  pub column : col ≡ i
  pub content : is_yaml_non_break (slice_index xs 0) ≡ true

pub starts : (i col : ℕ) (xs : List ℕ) → line_starts i col xs ≡ true → Starts i col xs
unfolding line_starts
starts i col xs = grind (arith, nat_tests)

pub not_left : (i col c : ℕ) → col ≡ i → is_indentation (Some i) col c ≡ false
not_left i col c e = let no : nat_lt col i ≡ false = grind (arith, nat_tests) in rw no (and_false (nat_eq c 32))

pub line_on : (st : BlockStyle) (i : ℕ) (more b : Bool) (m : Marker) (c : ℕ) (cs : List ℕ) → is_yaml_non_break c ≡ true
    → line st i more b m (c ∷ cs) ≡ lines_behind_text (c ∷ []) (line st i more b (along m 1) cs)
unfolding line
line_on st i more b m c cs h = rw h refl

line_begun : (st : BlockStyle) (i : ℕ) (ab : Option Bool) (k : ℕ) (b : Bool) (m : Marker) (c : ℕ) (cs : List ℕ)
    → is_indentation (Some i) m.col c ≡ false → is_cr_lf c cs ≡ false → is_break c ≡ false
    → line_starts i m.col (c ∷ cs) ≡ true
    → between st i ab k b m (c ∷ cs)
    ≡ lines_behind_text (break_before st ab k (is_blank c) ++ c ∷ []) (line st i (is_blank c) b (along m 1) cs)
unfolding between
line_begun st i ab k b m c cs h0 h1 h2 h = rw (h0, h1, h2, h) refl

pub line_begins : (st : BlockStyle) (i : ℕ) (ab : Option Bool) (k : ℕ) (b : Bool) (m : Marker) (xs : List ℕ)
    → line_starts i m.col xs ≡ true
    → between st i ab k b m xs
    ≡ lines_behind_text (break_before st ab k (is_blank (slice_index xs 0)))
    (line st i (is_blank (slice_index xs 0)) b m xs)
line_begins st i ab k b m [] h = let no = (starts i m.col [] h).content in absurd (cc)
line_begins st i ab k b m (c ∷ cs) h =
    let s = starts i m.col (c ∷ cs) h in
    let clear = non_break_no_break c s.content in
    let half : is_cr_lf c cs ≡ false = rw (no_break c clear).1 refl in
    line_begun st i ab k b m c cs (not_left i m.col c s.column) half clear h
    ∙ sym (text_twice (break_before st ab k (is_blank c)) (c ∷ []) (line st i (is_blank c) b (along m 1) cs))
    ∙ ap (lines_behind_text (break_before st ab k (is_blank c))) (sym (line_on st i (is_blank c) b m c cs s.content))

-- the rest of a line
abbrev RunsOnLine : BlockStyle → ℕ → Bool → Bool → Marker → List ℕ → ℕ → Type 0
RunsOnLine st i more b m xs n = line st i more b m xs
    ≡ lines_behind_text (take n xs) (line st i more b (along m n) (drop n xs))

no_run : (st : BlockStyle) (i : ℕ) (more b : Bool) (m : Marker) (xs : List ℕ) → RunsOnLine st i more b m xs 0
no_run st i more b m xs = ap (λ x. lines_behind_text [] (line st i more b x xs)) (sym (along_none m))

line_run : (st : BlockStyle) (i : ℕ) (more b : Bool) (m : Marker) (xs : List ℕ)
    → RunsOnLine st i more b m xs (prefix_len is_yaml_non_break xs)
line_run st i more b m [] = no_run st i more b m []
line_run st i more b m (c ∷ cs) =
    let n = prefix_len is_yaml_non_break cs in
    let one : 1 + n ≡ suc n = omega arith in
    by_test (is_yaml_non_break c) (1 + n) 0 (RunsOnLine st i more b m (c ∷ cs))
    (λ h. rw one (line_on st i more b m c cs h ∙ ap (lines_behind_text (c ∷ [])) (line_run st i more b (along m 1) cs)
    ∙ text_twice (c ∷ []) (take n cs) _ ∙ ap (λ x. lines_behind_text (c ∷ take n cs) (line st i more b x (drop n cs)))
    (along_more m 1 n (suc n) (omega arith)))) (λ h. no_run st i more b m (c ∷ cs))

-- the break at a line's end
abbrev Breaks : BlockStyle → ℕ → Bool → Bool → Marker → List ℕ → Cursor → Type 0
Breaks st i more b m xs t = line st i more b m xs ≡ between_at st i (Some more) 0 t

line_cr : (st : BlockStyle) (i : ℕ) (more b : Bool) (m : Marker) (cs : List ℕ) → (slice_index cs 0 == line_feed) ≡ false
    → Breaks st i more b m (carriage_return ∷ cs) (line_cursor true (next_line m 1) cs)
unfolding line
line_cr st i more b m cs h = rw h refl

line_cr_lf : (st : BlockStyle) (i : ℕ) (more b : Bool) (m : Marker) (ds : List ℕ)
    → Breaks st i more b m (carriage_return ∷ line_feed ∷ ds) (line_cursor true (next_line m 2) ds)
unfolding line
line_cr_lf st i more b m ds = ap (λ x. between st i (Some more) 0 true x ds) (inside_same m)

line_breaks : (st : BlockStyle) (i : ℕ) (more b : Bool) (m : Marker) (xs : List ℕ) → is_break (slice_index xs 0) ≡ true
    → Breaks st i more b m xs (pass_break (line_cursor b m xs))
unfolding line
line_breaks st i more b m u0 h = grind (arith, break_cases, behind_cr, line_cr_lf, line_cr)

-- a line that no break ends
line_cut : (st : BlockStyle) (i : ℕ) (more b : Bool) (m : Marker) (xs : List ℕ)
    → is_yaml_non_break (slice_index xs 0) ≡ false → is_break (slice_index xs 0) ≡ false
    → line st i more b m xs ≡ lines_ended false 0 (line_cursor b m xs)
unfolding line
line_cut st i more b m [] h k = refl
line_cut st i more b m (c ∷ cs) h k = rw (h, (no_break c k).1, (no_break c k).0) refl

abbrev line_at : BlockStyle → ℕ → Bool → Cursor → LinesRead
line_at style i more s = line style i more s.blank_so_far s.mark s.rest

-- The line of a turn was read: from `here`, where it begins, to `end`, where its content ends; the text grew to
-- `grown`.
pub record LineRead (st : BlockStyle) (i : ℕ) (ab : Option Bool) (k : ℕ) (text grown : List ℕ) (here end : Cursor)
    (below : Bool) : Type 0 where
  pub same : with_lines text (between_at st i ab k here) ≡ with_lines grown (line_at st i below end)
  pub ends : is_yaml_non_break (slice_index end.rest 0) ≡ false
  pub shorter : length end.rest < length here.rest

-- the rest of the line is put after a text
abbrev SameLine : List ℕ → Cursor → List ℕ → Cursor → Type 0
SameLine text s grown t =
    let r : Result (List ℕ × Cursor) Refusal = Ok (with_front_run is_yaml_non_break text s) in r ≡ Ok (grown, t)

some_content : (xs : List ℕ) → is_yaml_non_break (slice_index xs 0) ≡ true → 0 < prefix_len is_yaml_non_break xs
some_content [] h = absurd (cc)
some_content (c ∷ cs) h = rw h (omega arith)

pub line_read : (st : BlockStyle) (i : ℕ) (ab : Option Bool) (k : ℕ) (text more grown : List ℕ) (here end : Cursor)
    (below : Bool) → line_starts i here.mark.col here.rest ≡ true → below ≡ is_blank (slice_index here.rest 0)
    → more ≡ text ++ encode_utf8_all (break_before st ab k below) → SameLine more here grown end
    → LineRead st i ab k text grown here end below
line_read st i ab k text more grown here end below h e pushed read =
    grind (
      arith,
      nat_tests,
      starts,
      line_begins,
      line_run,
      front_text,
      run_ends,
      shorter,
      length-drop,
      some_content,
      prefix_len-le-length,
    )

-- a turn of the lines, up to the content's end
pub turn : {before after : EmptyLines} {more grown : List ℕ} {s t here end : Cursor} {below : Bool} (st : BlockStyle)
    (i : ℕ) (ab : Option Bool) (text : List ℕ) → Skipped st i ab before after s t → here ≡ t
    → line_starts i t.mark.col t.rest ≡ true → below ≡ is_blank (slice_index here.rest 0)
    → more ≡ text ++ encode_utf8_all (break_before st ab after.count below) → SameLine more here grown end
    → (with_lines text (between_at st i ab before.count s) ≡ with_lines grown (line_at st i below end))
    × (is_yaml_non_break (slice_index end.rest 0) ≡ false) × (length end.rest < length s.rest)
turn {after = after} {more} {grown} {s} {here = here} {end} {below} st i ab text skip same h e pushed read =
    let r = line_read st i ab after.count text more grown here end below
    (ap (λ (x : Cursor). line_starts i x.mark.col x.rest) same ∙ h) e pushed read in
    let less : length here.rest ≤ length s.rest = rw same skip.shorter in (
      ap (with_lines text) (skip.same ∙ ap (between_at st i ab after.count) (sym same))
          ∙ r.same,
      r.ends,
      omega (arith, r.shorter, less),
    )

break_shorter : (b : Bool) (m : Marker) (xs : List ℕ) → length (pass_break (line_cursor b m xs)).rest ≤ length xs
break_shorter b m xs = grind arith

-- the break after a line
pub broken : (st : BlockStyle) (i : ℕ) (more : Bool) (text : List ℕ) (end look t : Cursor) (c : ℕ) → look ≡ end
    → c ≡ slice_index end.rest 0 → is_break c ≡ true → t ≡ pass_break look
    → (with_lines text (between_at st i (Some more) 0 t) ≡ with_lines text (line_at st i more end))
    × (length t.rest ≤ length end.rest)
broken st i more text end look t c same read h passed = grind (arith, line_breaks, break_shorter)

-- a line that no break ends
pub cut : (st : BlockStyle) (i : ℕ) (more : Bool) (text : List ℕ) (end look : Cursor) (c : ℕ) → look ≡ end
    → c ≡ slice_index end.rest 0 → is_break c ≡ false → is_yaml_non_break (slice_index end.rest 0) ≡ false
    → with_lines text (line_at st i more end) ≡ (text, record { broken = false; empty_lines = 0 }, look)
cut st i more text end look c same read h ends = grind (arith, line_cut, append-nil)

-- no line begins
pub last : {before after : EmptyLines} {s t here : Cursor} {b : Bool} (st : BlockStyle) (i : ℕ) (ab : Option Bool)
    (text : List ℕ) → Skipped st i ab before after s t → here ≡ t → line_starts i t.mark.col t.rest ≡ false
    → b ≡ is_some ab → with_lines text (between_at st i ab before.count s)
    ≡ (text, record { broken = b; empty_lines = after.count }, here)
last {before} {after} {s} {t} {here} {b} st i ab text skip same h e = grind (arith, no_line, append-nil)

abbrev SameLines : List ℕ → LinesRead → List ℕ → BlockEnd → Cursor → Type 0
SameLines text read grown end t =
    let r : Result (List ℕ × BlockEnd × Cursor) Refusal = Ok (with_lines text read) in r ≡ Ok (grown, end, t)

-- the text is put together
pub text_done : (c : Chomping) (i : ℕ) (start : Marker) (read : LinesRead) (text grown pushed : List ℕ) (end : BlockEnd)
    (t u : Cursor) (b : Bool) (span : Span)
    → SameLines text read grown end t → text ≡ [] → b ≡ is_unfinished i t → u ≡ t
    → pushed ≡ grown ++ encode_utf8_all (tail c b end) → span.start ≡ start → span.end ≡ u.mark
    → chomped_lines c i start read ≡ Ok (pushed, span, u)
unfolding chomped_lines
text_done c i start read text grown pushed end t u b span e none unfinished same push first last =
    grind (arith, encode_utf8_all, encodes-append)

-- the content lines come first
pub lines_here : (style : BlockStyle) (c : Chomping) (indent i lines : ℕ) (s : Cursor)
    → (nat_lt s.mark.col i && nat_le indent s.mark.col) ≡ false
    → content style c indent i lines s ≡ content_lines style c i lines s
unfolding content
lines_here style c indent i lines s h = rw h refl

-- no content line begins with what is no content
pub no_start : (i col : ℕ) (xs : List ℕ) → is_yaml_non_break (slice_index xs 0) ≡ false → line_starts i col xs ≡ false
unfolding line_starts
no_start i col xs h = grind arith
