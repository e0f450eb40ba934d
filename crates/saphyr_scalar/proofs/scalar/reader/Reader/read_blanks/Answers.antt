use Rattle.saphyr_scalar.proofs.Common.{◌≡◌, ℕ, true, false, List, ◌++◌, length, take, slice_index, string_bytes, Ok, sym, ap, ◌∙◌, encode_utf8_all, rules, prefix_len, IsSplitPoint, take-append_seam, is_blank, is_break, Cursor, cursor_of}
use Rattle.saphyr_scalar.proofs.Choices.{shows}
use Rattle.saphyr_scalar.proofs.Quoted.Inside.{Moved, moved_of, SameBlanks}
use Rattle.saphyr_scalar.proofs.Runs.{cuts_before_blanks}
use Rattle.saphyr_scalar.proofs.scalar.reader.Reader.read_blanks.Goals as goal

grown_by : (text grown : List ℕ) (s t : Cursor) → Moved is_blank text grown s t
    → grown ≡ text ++ encode_utf8_all (take (prefix_len is_blank s.rest) s.rest)
grown_by text grown s t m = sym (ap (λ (x : List ℕ × Cursor). x.0) m.is)

cut : (text grown : List ℕ) (s t : Cursor) (n : ℕ) → Moved is_blank text grown s t → n ≡ length text
    → IsSplitPoint grown n
cut text grown s t n m is = rw (is, grown_by text grown s t m) (cuts_before_blanks text s.rest)

cut_off : (text grown less : List ℕ) (s t : Cursor) (n : ℕ) → Moved is_blank text grown s t → n ≡ length text
    → less ≡ take n grown → less ≡ text
cut_off text grown less s t n m is e =
    e ∙ rw (is, grown_by text grown s t m) (take-append_seam text _)

kept : (text grown : List ℕ) (s t u : Cursor) → Moved is_blank text grown s t → u ≡ t
    → is_break (slice_index t.rest 0) ≡ false → SameBlanks text grown s u
kept text grown s t u m same h =
    let at = ap (λ (x : List ℕ × Cursor). is_break (slice_index x.1.rest 0)) m.is ∙ h in
    rw (at, same) (ap (λ (x : List ℕ × Cursor). Ok x) m.is)

gone : (text grown less : List ℕ) (s t u : Cursor) → Moved is_blank text grown s t → u ≡ t → less ≡ text
    → is_break (slice_index t.rest 0) ≡ true → SameBlanks text less s u
gone text grown less s t u m same cut h =
    let at = ap (λ (x : List ℕ × Cursor). is_break (slice_index x.1.rest 0)) m.is ∙ h in
    rw (at, same, cut) (ap (λ (x : List ℕ × Cursor). Ok (text, x.1)) m.is)

pub truncate-requires : goal.truncate-requires
truncate-requires g c _ =
    let m = moved_of is_blank _ _ (cursor_of c.args.self.now) _ c.in_ok-read_run.ensures in
    cut (string_bytes c.args.text.now) _ (cursor_of c.args.self.now) (cursor_of c.read_run.new.self) _ m
    (search rules)

pub returns-then-not-is_break-clause-moved : goal.returns-then-not-is_break-clause-moved
returns-then-not-is_break-clause-moved g c =
    let m = moved_of is_blank _ _ (cursor_of c.args.self.now) _ c.in_ok-read_run.ensures in
    let there = cursor_of c.read_run.new.self in
    kept (string_bytes c.args.text.now) _ (cursor_of c.args.self.now) there _ m c.look-c.ensures.same
    (shows is_break there.rest _ _ _ c.look-c.ensures.value c.is_break.ensures.test c.if-not-is_break.true)

pub returns-clause-moved : goal.returns-clause-moved
returns-clause-moved g c =
    let before : c.len-before.result ≡ length (string_bytes c.args.text.now) = search rules in
    let m = moved_of is_blank _ _ (cursor_of c.args.self.now) _ c.in_ok-read_run.ensures in
    let there = cursor_of c.read_run.new.self in
    gone (string_bytes c.args.text.now) _ _ (cursor_of c.args.self.now) there _ m c.look-c.ensures.same
    (cut_off (string_bytes c.args.text.now) _ _ (cursor_of c.args.self.now) there _ m before c.truncate.ensures.bytes)
    (shows is_break there.rest _ _ _ c.look-c.ensures.value c.is_break.ensures.test c.if-not-is_break.false)
