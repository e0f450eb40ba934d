-- The inside of a quoted scalar, read a piece at a time.
use Rattle.saphyr_scalar.proofs.Common.{◌≡◌, ℕ, zero, suc, ◌+◌, ◌<◌, Bool, true, false, List, [], ◌∷◌, ◌++◌, length, take, drop, slice_index, Result, Ok, Err, refl, sym, ap, ◌∙◌, arith, subst, encode_utf8_all, append_assoc, nat_eq, cond, ◌==◌, encode_utf8, prefix_len, nat_tests, append-nil, is_z, is_blank, is_break, is_blank_or_breakz, Marker, Refusal, IsErrAnd, Stop, Quote, ReadsOn, Cursor, ◌>>=◌, refuse_open, along, pass, pass_break, next_line, run_ends, neither_parts, by_test, either, backslash}
use Rattle.saphyr_scalar.specs.declared.scalar.fault.FaultText.TheVariants as fault
use Rattle.saphyr_scalar.specs.declared.scalar.fault.Stop.TheVariants as stop
use Rattle.saphyr_scalar.specs.Values.Flow as flow
use Rattle.saphyr_scalar.proofs.Moving.{along_none, along_more}
use Rattle.saphyr_scalar.specs.Steps.Quoted.{TextRead, is_literal, with_front, mid_line, special, special_len, QuotedGap, on_line, no_gap, blank_in, break_in, end_gap, escaped_gap, break_len, if_some, inner_text, inner_text_at, quoted, with_run, with_blanks}

pub front_twice : (a b : List ℕ) (read : TextRead) → with_front a (with_front b read) ≡ with_front (a ++ b) read
front_twice a b (Ok x) = rw append_assoc refl
front_twice a b (Err e) = refl

pub no_front : (read : TextRead) → with_front [] read ≡ read
no_front read = grind arith

-- a scalar is what is behind its opening quote
pub quoted_inside : (q : Quote) (indent : ℕ) (s here : Cursor) → here ≡ pass 1 s
    → quoted q indent s ≡ inner_text_at q indent s.mark no_gap here
unfolding quoted
quoted_inside q indent s here same = ap (inner_text_at q indent s.mark no_gap) (sym same)

-- what is taken off already is passed over
pub passed_over : (q : Quote) (indent : ℕ) (start : Marker) (gap : QuotedGap) (k : ℕ) (m : Marker) (xs : List ℕ)
    → inner_text q indent start gap k m xs ≡ inner_text q indent start gap 0 m (drop k xs)
unfolding inner_text
passed_over q indent start gap zero m xs = refl
passed_over q indent start gap (suc k) m [] = refl
passed_over q indent start gap (suc k) m (c ∷ cs) = passed_over q indent start gap k m cs

-- a word or the closing quote, from its first character on
abbrev pub word_from : Quote → ℕ → Marker → Marker → ℕ → List ℕ → TextRead
word_from q indent start m c cs =
    cond (is_literal q c) (with_front (encode_utf8 c) (inner_text q indent start no_gap 0 (along m 1) cs))
    (special q start (mid_line m (c ∷ cs)) >>= λ x. if_some x.0
    (λ d. with_front (encode_utf8 d) (inner_text q indent start no_gap (special_len q (slice_index cs 0)) x.1.mark cs))
    (cond (c == flow.mark q) (Ok ([], mid_line (along m 1) cs))
    (inner_text q indent start (escaped_gap q (slice_index (drop (break_len cs) cs) 0)) (break_len cs)
    (next_line (along m 1) (break_len cs)) cs)))

pub quoted_behind_gap : (q : Quote) (indent : ℕ) (start : Marker) (gap : QuotedGap) (m : Marker) (c : ℕ) (cs : List ℕ)
    → is_blank c ≡ false → is_break c ≡ false
    → inner_text q indent start gap 0 m (c ∷ cs)
    ≡ (end_gap indent start gap (mid_line m (c ∷ cs)) >>= λ text. with_front text (word_from q indent start m c cs))
unfolding inner_text
quoted_behind_gap q indent start gap m c cs blank break = rw (blank, break) refl

pub behind_no_gap : (q : Quote) (indent : ℕ) (start m : Marker) (c : ℕ) (cs : List ℕ) → is_blank c ≡ false
    → is_break c ≡ false → is_z c ≡ false
    → inner_text q indent start no_gap 0 m (c ∷ cs) ≡ word_from q indent start m c cs
unfolding end_gap
behind_no_gap q indent start m c cs blank break z =
    quoted_behind_gap q indent start no_gap m c cs blank break ∙ rw z (no_front (word_from q indent start m c cs))

-- a character that is no blank, break or NUL
pub record IsQuotedContent (c : ℕ) : Type 0 where
  pub blank : is_blank c ≡ false
  pub break : is_break c ≡ false
  pub nul : is_z c ≡ false

pub content_of : (c : ℕ) → is_blank_or_breakz c ≡ false → IsQuotedContent c
content_of c h = grind arith

literal_content : (q : Quote) (c : ℕ) → is_literal q c ≡ true → IsQuotedContent c
unfolding is_literal
literal_content q c h = content_of c (neither_parts (is_blank_or_breakz c) (flow.is_special q c) h).0

-- what stands for itself is read
pub stands : (q : Quote) (indent : ℕ) (start m : Marker) (c : ℕ) (cs : List ℕ) → is_literal q c ≡ true
    → inner_text q indent start no_gap 0 m (c ∷ cs)
    ≡ with_front (encode_utf8 c) (inner_text q indent start no_gap 0 (along m 1) cs)
stands q indent start m c cs h = grind (arith, literal_content, behind_no_gap)

-- blanks on a line
abbrev pub Blanks : Quote → ℕ → Marker → List ℕ → Marker → List ℕ → ℕ → Type 0
Blanks q indent start bytes m xs n = inner_text q indent start (on_line bytes) 0 m xs
    ≡ inner_text q indent start (on_line (bytes ++ encode_utf8_all (take n xs))) 0 (along m n) (drop n xs)

pub one_blank : (q : Quote) (indent : ℕ) (start : Marker) (bytes : List ℕ) (m : Marker) (c : ℕ) (cs : List ℕ)
    → is_blank c ≡ true
    → inner_text q indent start (on_line bytes) 0 m (c ∷ cs)
    ≡ inner_text q indent start (on_line (bytes ++ encode_utf8 c)) 0 (along m 1) cs
unfolding inner_text blank_in
one_blank q indent start bytes m c cs h = rw h refl

no_blanks : (q : Quote) (indent : ℕ) (start : Marker) (bytes : List ℕ) (m : Marker) (xs : List ℕ)
    → Blanks q indent start bytes m xs 0
no_blanks q indent start bytes m xs = cc (append-nil bytes, along_none m)

pub run_blanks : (q : Quote) (indent : ℕ) (start : Marker) (bytes : List ℕ) (m : Marker) (xs : List ℕ)
    → Blanks q indent start bytes m xs (prefix_len is_blank xs)
run_blanks q indent start bytes m [] = no_blanks q indent start bytes m []
run_blanks q indent start bytes m (c ∷ cs) =
    let n = prefix_len is_blank cs in
    let one : 1 + n ≡ suc n = omega arith in
    by_test (is_blank c) (1 + n) 0 (Blanks q indent start bytes m (c ∷ cs))
    (λ h. rw one
    (one_blank q indent start bytes m c cs h ∙ run_blanks q indent start (bytes ++ encode_utf8 c) (along m 1) cs
    ∙ ap (λ b. inner_text q indent start (on_line b) 0 (along (along m 1) n) (drop n cs))
    (append_assoc bytes (encode_utf8 c) (encode_utf8_all (take n cs)))
    ∙ ap (λ x. inner_text q indent start (on_line (bytes ++ (encode_utf8 c ++ encode_utf8_all (take n cs)))) 0 x
    (drop n cs)) (along_more m 1 n (suc n) (omega arith)))) (λ h. no_blanks q indent start bytes m (c ∷ cs))

-- NUL, or the end
pub at_end : (q : Quote) (indent : ℕ) (start : Marker) (bytes : List ℕ) (m : Marker) (xs : List ℕ)
    → slice_index xs 0 ≡ 0
    → inner_text q indent start (on_line bytes) 0 m xs ≡ refuse_open true fault.EndInsideQuotes start
unfolding inner_text end_gap
at_end q indent start bytes m [] h = refl
at_end q indent start bytes m (c ∷ cs) h = rw h refl

-- a word after blanks
pub flushed : (q : Quote) (indent : ℕ) (start : Marker) (bytes : List ℕ) (m : Marker) (c : ℕ) (cs : List ℕ)
    → IsQuotedContent c
    → inner_text q indent start (on_line bytes) 0 m (c ∷ cs) ≡ with_front bytes (inner_text q indent start no_gap 0 m
    (c ∷ cs))
unfolding end_gap
flushed q indent start bytes m c cs is = grind (arith, quoted_behind_gap, behind_no_gap)

pub break_cases : (c : ℕ) → is_break c ≡ true → (P : ℕ → Type 0) → P 10 → P 13 → P c
break_cases c h P lf cr = either (nat_eq c 10) (nat_eq c 13) (P c) h
    (λ is. let e : 10 ≡ c = grind (arith, nat_tests) in subst P e lf) (λ is. subst P (grind (arith, nat_tests)) cr)

-- a line break
pub at_break : (q : Quote) (indent : ℕ) (start : Marker) (gap : QuotedGap) (s : Cursor)
    → is_break (slice_index s.rest 0) ≡ true
    → inner_text_at q indent start gap s ≡ inner_text_at q indent start (break_in gap) (pass_break s)
unfolding inner_text
at_break q indent start gap s h = grind (arith, nat_tests, break_cases)

-- What the calls that read a part leave.

pub slash_left : (xs : List ℕ) → slice_index xs 0 ≡ backslash → 0 < length xs
slash_left [] h = absurd (cc)
slash_left (c ∷ cs) h = omega arith

-- a run that was put after a text
pub record Moved (p : ℕ → Bool) (text grown : List ℕ) (s t : Cursor) : Type 0 where
  pub is : with_run p text s ≡ (grown, t)

pub moved_stops : (p : ℕ → Bool) (text grown : List ℕ) (s t : Cursor) → p 0 ≡ false → Moved p text grown s t
    → p (slice_index t.rest 0) ≡ false
moved_stops p text grown s t none m = rw (← ap (λ (x : List ℕ × Cursor). x.1) m.is) (run_ends p s.rest none)

abbrev pub SameRun : (ℕ → Bool) → List ℕ → List ℕ → Cursor → Cursor → Type 0
SameRun p text grown s t = let r : Result (List ℕ × Cursor) Refusal = Ok (with_run p text s) in r ≡ Ok (grown, t)

pub moved_of : (p : ℕ → Bool) (text grown : List ℕ) (s t : Cursor) → SameRun p text grown s t → Moved p text grown s t
moved_of p text grown s t e = record { is = cc }

-- blanks of a line that were put after a text
abbrev pub SameBlanks : List ℕ → List ℕ → Cursor → Cursor → Type 0
SameBlanks text grown s t = let r : Result (List ℕ × Cursor) Refusal = Ok (with_blanks text s) in r ≡ Ok (grown, t)

abbrev pub line_blanks : Cursor → List ℕ
line_blanks s = encode_utf8_all (take (prefix_len is_blank s.rest) s.rest)

-- unless they end their line
pub record BlanksMoved (text grown : List ℕ) (s t : Cursor) : Type 0 where
  pub run : Moved is_blank [] (line_blanks s) s t
  pub gone : is_break (slice_index t.rest 0) ≡ true → grown ≡ text
  pub kept : is_break (slice_index t.rest 0) ≡ false → grown ≡ text ++ line_blanks s

pub blanks_of : (text grown : List ℕ) (s t : Cursor) → SameBlanks text grown s t → BlanksMoved text grown s t
blanks_of text grown s t e = grind arith

-- a refusal that `?` hands on
pub reads_refused : {X Y : Type 0} (r : Result X Stop) (before now : Result Y Refusal) (refusal : Refusal)
    → IsErrAnd r (λ e. e ≡ stop.Refused refusal) → before ≡ Err refusal → ReadsOn r before now
reads_refused (Ok x) before now refusal h e = absurd h
reads_refused (Err s) before now refusal h e = rw h e
