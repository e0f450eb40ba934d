-- What is read as a gap of a plain scalar is the reading of a piece of the text.
use Rattle.saphyr_scalar.proofs.Common.{◌≡◌, ℕ, zero, suc, ◌+◌, Bool, true, false, List, [], ◌∷◌, ◌++◌, length, take, drop, slice_index, Result, Ok, Err, refl, sym, ap, ◌∙◌, arith, subst, IsTrue, cond, append_assoc, encode_utf8_all, ◌||◌, ◌&&◌, ◌==◌, nat_lt, if◌then◌else◌, prefix_len, false≢true, nat_tests, append-nil, take-append-drop, length-take-le, encode_ascii, is_blank, is_break, tab, line_feed, carriage_return, is_blank_or_break, Marker, Refusal, Cursor, ◌>>=◌, along, next_line, pass, pass_break, by_test, and_true_left, or_left, or_right, run_ends, prefix_len-le-length, blank_no_break}
use Rattle.std.specs.List.{list_any}
use Rattle.saphyr_scalar.specs.Spelling.Tag.{AreIn}
use Rattle.saphyr_scalar.specs.Steps.Quoted.{mid_line}
use Rattle.saphyr_scalar.specs.Values.Folding.{folded, line_feeds, raw_break}
use Rattle.saphyr_scalar.specs.Steps.Plain as spec
use Rattle.saphyr_scalar.specs.Steps.Plain.{seen_gap, PlainGap, ends_line, reached_gap, line_front, lines, next_lines, gap_from, gap}
use Rattle.saphyr_scalar.specs.Reading.Plain.{end_of_text}
use Rattle.saphyr_scalar.specs.Spelling.LaterLines.{AreLaterLines}
use Rattle.saphyr_scalar.proofs.Moving.{along_none, along_more}
use Rattle.saphyr_scalar.proofs.Quoted.Inside.{break_cases}
use Rattle.saphyr_scalar.proofs.Plain.Gaps.{no_refusal, same_gap, may_stand_same}
use Rattle.saphyr_scalar.proofs.Plain.Indented.{IsLine, later_unbroken, line_begins, lines_is_line, break_to_start}
use Rattle.saphyr_scalar.proofs.Plain.Runs.{IsNonSpace, NoFeed, items_of, non_space_no_feed, same_ends, line_count, folded_breaks, AreBlank, folded_blanks}
use Rattle.saphyr_scalar.proofs.PassedBreaks.{behind_one}

-- xs begins with a run of blanks and breaks with k breaks, from m on, and rest comes after it, at `end`. P holds of
-- each line that begins in it.
pub record Run (P : List ℕ → Type 0) (xs rest : List ℕ) (m end : Marker) (k : ℕ) : Type 0 where
  white : List ℕ
  are : AreIn is_blank_or_break white
  is : xs ≡ white ++ rest
  count : line_count white ≡ k
  place : end_of_text m white ≡ end
  later : AreLaterLines P white rest

no_run : (P : List ℕ → Type 0) (xs : List ℕ) (m : Marker) → Run P xs xs m m 0
no_run P xs m = record { white = []; are = tt; is = refl; count = refl; place = refl; later = tt }

more_run : (P : List ℕ → Type 0) (c : ℕ) (cs rest : List ℕ) (m end : Marker) (k : ℕ) → IsTrue (is_blank_or_break c)
    → NoFeed rest → (IsTrue (ends_line c cs) → P cs) → Run P cs rest (behind_one m c cs) end k
    → Run P (c ∷ cs) rest m end (if ends_line c cs then suc k else k)
more_run P c cs rest m end k white none line r =
    let same : ends_line c cs ≡ ends_line c r.white = ap (ends_line c) r.is ∙ same_ends c r.white rest none in
    record {
      white = c ∷ r.white;
      are = (white, r.are);
      is = ap (λ l. c ∷ l) r.is;
      count = cc;
      place = ap (λ (b : Bool). end_of_text (if b then next_line m 1 else along m 1) r.white) (sym same) ∙ r.place;
      later = (rw r.is at line, r.later);
    }

-- the lines after a word's line

record LinesRun (i : ℕ) (xs : List ℕ) (m : Marker) (f : List ℕ) (g : PlainGap) : Type 0 where
  breaks : ℕ
  stop : IsNonSpace (slice_index g.behind.rest 0)
  run : Run (IsLine i g.behind) xs g.behind.rest m g.behind.mark breaks
  text : g.text ≡ f ++ line_feeds breaks

reached_run : (i : ℕ) (a : Marker) (t : Bool) (f : List ℕ) (m : Marker) (xs : List ℕ) (g : PlainGap)
    → IsNonSpace (slice_index xs 0) → reached_gap a t f (line_front m xs) ≡ Ok g → LinesRun i xs m f g
reached_run i a t f m xs g stop e = grind (arith, may_stand_same, no_run, append-nil)

more_text : (b : Bool) (k : ℕ) (f text : List ℕ) → text ≡ (if b then f ++ line_feed ∷ [] else f) ++ line_feeds k
    → text ≡ f ++ line_feeds (if b then suc k else k)
more_text true k f text e = e ∙ append_assoc f (10 ∷ []) (line_feeds k)
more_text false k f text e = e

lines_more : (i : ℕ) (f : List ℕ) (m : Marker) (c : ℕ) (cs : List ℕ) (g : PlainGap) → is_blank_or_break c ≡ true
    → (IsTrue (ends_line c cs) → IsLine i g.behind cs)
    → LinesRun i cs (behind_one m c cs) (if ends_line c cs then f ++ line_feed ∷ [] else f) g
    → LinesRun i (c ∷ cs) m f g
lines_more i f m c cs g white line r = record {
  breaks = if ends_line c cs then suc r.breaks else r.breaks;
  stop = r.stop;
  run = more_run (IsLine i g.behind) c cs g.behind.rest m g.behind.mark r.breaks white
      (non_space_no_feed (slice_index g.behind.rest 0) r.stop) line r.run;
  text = more_text (ends_line c cs) r.breaks f g.text r.text;
}

lines_run : (i : ℕ) (a : Marker) (t : Bool) (f : List ℕ) (m : Marker) (xs : List ℕ) (g : PlainGap)
    → lines i a t f m xs ≡ Ok g → LinesRun i xs m f g
unfolding lines
lines_run i a t f m [] g = reached_run i a t f m [] g refl
lines_run i a t f m (c ∷ cs) g =
    by_test (is_blank_or_break c) _ _ (λ (r : Result PlainGap Refusal). r ≡ Ok g → LinesRun i (c ∷ cs) m f g)
    (λ white e. lines_more i f m c cs g white
    (λ ends. line_begins i a t (if ends_line c cs then f ++ line_feed ∷ [] else f) m c cs g ends e)
    (lines_run i a (is_blank c && (t || ((c == tab) && nat_lt m.col i)))
    (if ends_line c cs then f ++ line_feed ∷ [] else f) (if ends_line c cs then next_line m 1 else along m 1) cs g e))
    (λ other e. reached_run i a t f m (c ∷ cs) g other e)

-- a break before them
break_run : (P : List ℕ → Type 0) (s : Cursor) (rest : List ℕ) (end : Marker) (k : ℕ)
    → is_break (slice_index s.rest 0) ≡ true → NoFeed rest → P (pass_break s).rest
    → Run P (pass_break s).rest rest (pass_break s).mark end k → Run P s.rest rest s.mark end (suc k)
break_run P s rest end k h none = at_first s.rest h
  where
    from : List ℕ → Cursor
    from xs = record { rest = xs; mark = s.mark; blank_so_far = s.blank_so_far }

    Goal : List ℕ → Type 0
    Goal xs = P (pass_break (from xs)).rest → Run P (pass_break (from xs)).rest rest (pass_break (from xs)).mark end k
        → Run P xs rest s.mark end (suc k)

    feed : (cs : List ℕ) → Goal (line_feed ∷ cs)
    feed cs line r = more_run P 10 cs rest s.mark end k refl none (λ _. line) r

    return : (cs : List ℕ) → (slice_index cs 0 == line_feed) ≡ false → Goal (carriage_return ∷ cs)
    return cs e =
        let Begins : Bool → Type 0 = λ b. Run P cs rest (cond b (next_line s.mark 1) (along s.mark 1)) end k → Run P
        (13 ∷ cs) rest s.mark end (cond b (suc k) k) in
        let line : ends_line 13 cs ≡ true = rw e refl in
        rw e (λ p. subst Begins line (more_run P 13 cs rest s.mark end k refl none (λ _. p)))

    two : (cs : List ℕ) → Goal (carriage_return ∷ line_feed ∷ cs)
    two cs line r =
        let index : s.mark.index + 1 + 1 ≡ s.mark.index + 2 = omega arith in
        let moved : Run P cs rest (next_line (along s.mark 1) 1) end k = rw index r in
        more_run P 13 (10 ∷ cs) rest s.mark end (suc k) refl none (λ e. absurd (false≢true e))
        (more_run P 10 cs rest (along s.mark 1) end k refl none (λ _. line) moved)

    either_one : (d : ℕ) (ds : List ℕ) (b : Bool) → (d == line_feed) ≡ b → Goal (carriage_return ∷ d ∷ ds)
    either_one d ds true e = let is : 10 ≡ d = grind (arith, nat_tests) in subst (λ x. Goal (13 ∷ x ∷ ds)) is (two ds)
    either_one d ds false e = return (d ∷ ds) e

    return_on : (cs : List ℕ) → Goal (carriage_return ∷ cs)
    return_on [] = return [] refl
    return_on (d ∷ ds) = either_one d ds (d == 10) refl

    at_first : (xs : List ℕ) → is_break (slice_index xs 0) ≡ true → Goal xs
    at_first [] e = absurd (cc)
    at_first (c ∷ cs) e = break_cases c e (λ x. Goal (x ∷ cs)) (feed cs) (return_on cs)

-- blanks before them
blank_white : (c : ℕ) → is_blank c ≡ true → IsTrue (is_blank_or_break c)
blank_white c h = rw h refl

blank_line : (c : ℕ) (cs : List ℕ) → is_blank c ≡ true → ends_line c cs ≡ false
blank_line c cs h = let no = blank_no_break c h in rw no refl

one_blank : (P : List ℕ → Type 0) (c : ℕ) (cs rest : List ℕ) (m end : Marker) (k : ℕ) → is_blank c ≡ true
    → NoFeed rest → Run P cs rest (along m 1) end k → Run P (c ∷ cs) rest m end k
one_blank P c cs rest m end k h none r =
    let Begins : Bool → Type 0 = λ b. Run P cs rest (cond b (next_line m 1) (along m 1)) end k
    → Run P (c ∷ cs) rest m end (cond b (suc k) k) in
    (subst Begins (blank_line c cs h) (more_run P c cs rest m end k (blank_white c h) none
    (λ e. absurd (false≢true (sym (blank_line c cs h) ∙ e))))) r

pub blanks_run : (P : List ℕ → Type 0) (xs rest : List ℕ) (m end : Marker) (k : ℕ) → NoFeed rest
    → Run P (drop (prefix_len is_blank xs) xs) rest (along m (prefix_len is_blank xs)) end k → Run P xs rest m end k
blanks_run P [] rest m end k none = λ r. rw (along_none m) at r
blanks_run P (c ∷ cs) rest m end k none = by_test (is_blank c) (1 + prefix_len is_blank cs) 0
    (λ n. Run P (drop n (c ∷ cs)) rest (along m n) end k → Run P (c ∷ cs) rest m end k) (λ h r.
    let one : 1 + prefix_len is_blank cs ≡ suc (prefix_len is_blank cs) = omega arith in
    let n = prefix_len is_blank cs in
    let moved : Run P (drop n cs) rest (along m (suc n)) end k = rw one at r in
    one_blank P c cs rest m end k h none (blanks_run P cs rest (along m 1) end k none
    (rw (along_more m 1 n (suc n) (omega arith)) moved))) (λ h r. rw (along_none m) at r)

-- what a gap is read as

pub record GapReads (i : ℕ) (xs : List ℕ) (m : Marker) (g : PlainGap) : Type 0 where
  pub white : List ℕ
  pub are : AreIn is_blank_or_break white
  pub is : xs ≡ white ++ g.behind.rest
  pub place : end_of_text m white ≡ g.behind.mark
  pub stop : IsNonSpace (slice_index g.behind.rest 0)
  pub broken : g.behind.blank_so_far ≡ true → list_any is_break white ≡ true
  pub value : List ℕ
  pub text : encode_utf8_all value ≡ g.text
  pub reads : (c : ℕ) (cs : List ℕ) → IsNonSpace c
      → folded (items_of (white ++ (c ∷ cs))) ≡ value ++ folded (items_of (c ∷ cs))
  pub later : AreLaterLines (IsLine i g.behind) white g.behind.rest

-- blanks alone
blank_prefix : (xs : List ℕ) → AreBlank (take (prefix_len is_blank xs) xs)
blank_prefix [] = tt
blank_prefix (c ∷ cs) =
    let one : 1 + prefix_len is_blank cs ≡ suc (prefix_len is_blank cs) = omega arith in
    by_test (is_blank c) (1 + prefix_len is_blank cs) 0 (λ n. AreBlank (take n (c ∷ cs)))
    (λ h. rw one (h, blank_prefix cs)) (λ _. tt)

all_white : (v : List ℕ) → AreBlank v → AreIn is_blank_or_break v
all_white [] h = tt
all_white (c ∷ v) h = (blank_white c h.0, all_white v h.1)

passed_blanks : (m : Marker) (v : List ℕ) → AreBlank v → end_of_text m v ≡ along m (length v)
passed_blanks m [] h = sym (along_none m)
passed_blanks m (c ∷ v) h =
    cc (blank_line c v h.0, passed_blanks (along m 1) v h.1, along_more m 1 (length v) (suc (length v)) (omega arith))

prefix_take : (xs : List ℕ) → length (take (prefix_len is_blank xs) xs) ≡ prefix_len is_blank xs
prefix_take xs = length-take-le (prefix_len is_blank xs) xs (prefix_len-le-length is_blank xs)

all_on_line : (P : List ℕ → Type 0) (v behind : List ℕ) → AreBlank v → AreLaterLines P v behind
all_on_line P [] behind h = tt
all_on_line P (c ∷ v) behind h = later_unbroken P c v behind (blank_no_break c h.0) (all_on_line P v behind h.1)

blanks_read : (i : ℕ) (xs : List ℕ) (m : Marker)
    → is_break (slice_index (drop (prefix_len is_blank xs) xs) 0) ≡ false
    → let n = prefix_len is_blank xs in
    GapReads i xs m (seen_gap false (encode_utf8_all (take n xs)) (mid_line (along m n) (drop n xs)))
blanks_read i xs m other =
    let n = prefix_len is_blank xs in
    let v = take n xs in
    let blank = blank_prefix xs in
    record {
      white = v;
      are = all_white v blank;
      is = sym (take-append-drop n xs);
      place = passed_blanks m v blank ∙ ap (along m) (prefix_take xs);
      stop = rw (run_ends is_blank xs refl, other) refl;
      broken = λ e. absurd (false≢true e);
      value = v;
      text = refl;
      reads = λ c cs non_space. folded_blanks v c cs blank non_space;
      later = all_on_line (IsLine i (mid_line (along m n) (drop n xs))) v (drop n xs) blank;
    }

-- breaks
has_lines : (v : List ℕ) (k : ℕ) → line_count v ≡ suc k → list_any is_break v ≡ true
has_lines [] k = λ e. absurd (cc)
has_lines (c ∷ v) k = by_test (ends_line c v) (suc (line_count v)) (line_count v)
    (λ n. n ≡ suc k → (is_break c || list_any is_break v) ≡ true)
    (λ ends _. or_left (is_break c) (list_any is_break v) (and_true_left (is_break c) _ ends))
    (λ _ e. or_right (is_break c) (list_any is_break v) (has_lines v k e))

feeds_encode : (k : ℕ) → encode_utf8_all (line_feeds k) ≡ line_feeds k
feeds_encode zero = refl
feeds_encode (suc k) = cc (encode_ascii 10 (omega arith), feeds_encode k)

folded_text : (k : ℕ) (g : PlainGap) → g.text ≡ line_feeds k → encode_utf8_all (raw_break k) ≡ (spec.folded_gap g).text
folded_text v0 g e = grind (arith, encode_ascii, feeds_encode, nat_tests)

lines_read : (i : ℕ) (xs : List ℕ) (m : Marker) (g : PlainGap) (t : Cursor) → along m (prefix_len is_blank xs) ≡ t.mark
    → drop (prefix_len is_blank xs) xs ≡ t.rest → is_break (slice_index t.rest 0) ≡ true
    → IsLine i g.behind (pass_break t).rest → LinesRun i (pass_break t).rest (pass_break t).mark [] g
    → GapReads i xs m (spec.folded_gap g)
lines_read i xs m g t mark rest breaks line r =
    let P = IsLine i g.behind in
    let k = suc r.breaks in
    let no_feed = non_space_no_feed (slice_index g.behind.rest 0) r.stop in
    let behind = break_run P t g.behind.rest g.behind.mark r.breaks breaks no_feed line r.run in
    let blanks = prefix_len is_blank xs in
    let all = blanks_run P xs g.behind.rest m g.behind.mark k no_feed (rw mark (rw rest behind)) in
    record {
      white = all.white;
      are = all.are;
      is = all.is;
      place = all.place;
      stop = r.stop;
      broken = λ _. has_lines all.white r.breaks all.count;
      value = raw_break r.breaks;
      text = folded_text r.breaks g r.text;
      reads = λ c cs non_space. folded_breaks r.breaks all.white c cs all.are all.count non_space;
      later = all.later;
    }

next_lines_read : (i : ℕ) (a : Marker) (xs : List ℕ) (m : Marker) (g : PlainGap) (t : Cursor)
    → along m (prefix_len is_blank xs) ≡ t.mark → drop (prefix_len is_blank xs) xs ≡ t.rest
    → is_break (slice_index t.rest 0) ≡ true → next_lines i a (pass_break t) ≡ Ok g → GapReads i xs m g
next_lines_read i a xs m g t mark rest breaks = by (lines i a false [] there.mark there.rest) refl
  where
    there : Cursor
    there = pass_break t

    by : (r : Result PlainGap Refusal) → lines i a false [] there.mark there.rest ≡ r
        → (r >>= λ h. Ok (spec.folded_gap h)) ≡ Ok g → GapReads i xs m g
    by (Ok h) q e = subst (GapReads i xs m) (sym (same_gap (spec.folded_gap h) g e))
        (lines_read i xs m h t mark rest breaks
        (lines_is_line i a [] there.mark there.rest h (break_to_start t breaks) q)
        (lines_run i a false [] there.mark there.rest h q))
    by (Err r) q e = absurd (no_refusal r g e)

pub gap_reads : (i : ℕ) (a : Marker) (xs : List ℕ) (m : Marker) (g : PlainGap) → gap i a (mid_line m xs) ≡ Ok g
    → GapReads i xs m g
unfolding gap gap_from
gap_reads i a xs m g =
    let n = prefix_len is_blank xs in
    let t = pass n (mid_line m xs) in
    by_test (is_break (slice_index t.rest 0)) _ _ (λ (r : Result PlainGap Refusal). r ≡ Ok g → GapReads i xs m g)
    (λ breaks e. next_lines_read i a xs m g t refl refl breaks e)
    (λ other e. subst (λ (x : PlainGap). GapReads i xs m x) (sym (same_gap _ g e)) (blanks_read i xs m other))
