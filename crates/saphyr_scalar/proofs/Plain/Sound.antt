-- What is read as a plain scalar is the reading of a piece of the text.
use Rattle.std.proofs.Common.{◌≡◌, ℕ, zero, suc, ◌+◌, ◌-◌, ◌≤◌, Bool, true, false, List, [], ◌∷◌, ◌++◌, length, take, drop, slice_index, Option, Result, Ok, Err, refl, sym, ap, ◌∙◌, arith, subst, encode_utf8_all}
use Rattle.saphyr_scalar.proofs.Common.{if◌then◌else◌, is_blank_or_break, Marker, Refusal, Cursor, ◌>>=◌, refuse_open, along}
use Rattle.std.proofs.lemmas.List.{length-drop}
use Rattle.saphyr_scalar.specs.Known.{may_be_open}
use Rattle.saphyr_scalar.specs.declared.scalar.fault.FaultText.TheVariants as fault
use Rattle.saphyr_scalar.specs.Steps.Quoted.{mid_line}
use Rattle.saphyr_scalar.specs.Steps.Plain.{is_in_word, word_starts, next_word_starts, PlainGap, gap, PlainScalarRead, with_text, scalar_end, word, plain}
use Rattle.saphyr_scalar.specs.Reading.Plain.{IsPlainReading, IsPlainEnd}
use Rattle.saphyr_scalar.specs.Spelling.LaterLines.{ArePlainLines}
use Rattle.saphyr_scalar.proofs.Plain.Words.{word_left, word_len_more, word_len}
use Rattle.saphyr_scalar.proofs.Plain.Pieces.{plain_behind_gap, all_word, word_stops, word_over, goes_says, starts_says}
use Rattle.saphyr_scalar.proofs.Plain.Gaps.{gap_end}
use Rattle.saphyr_scalar.proofs.Plain.Indented.{GoesOn, goes_on}
use Rattle.saphyr_scalar.proofs.Plain.Spelled.{Begins, starts_begins, goes_begins}
use Rattle.saphyr_scalar.proofs.Plain.Runs.{IsNonSpace}
use Rattle.saphyr_scalar.proofs.Plain.GapsRead.{GapReads, gap_reads}
use Rattle.saphyr_scalar.proofs.Plain.WordsRead.{in_word_non_space, Read, WordReads, front_of, last_word, word_more}

-- what was read, from a word on

no_reading : (r : Refusal) (x : Read) → Err r ≡ Ok x → ⊥
no_reading r x e = absurd (cc)

same_reading : (x y : Read) → (let r : PlainScalarRead = Ok x in r ≡ Ok y) → x ≡ y
same_reading x y e = cc

abbrev Hypothesis : ℕ → Bool → ℕ → Marker → Type 0
Hypothesis n f i a = (m : Marker) (xs : List ℕ) → length xs ≤ n → is_in_word f xs ≡ true → Begins m xs → (x : Read)
    → word f i a m xs ≡ Ok x → WordReads f i m xs x

-- A word of a plain scalar and all behind it, if this is known of shorter texts. All characters of the word are taken
-- at once. Behind them the scalar ends, or a gap follows, and then a word of a shorter text. The cases are those of
-- the reading: of the gap (`by_gap`), and of the question whether a word follows (`by_answer`, `by_goes`).
word_turn : (n : ℕ) (f : Bool) (i : ℕ) (a m : Marker) (xs : List ℕ) → Hypothesis n f i a → length xs ≤ suc n
    → is_in_word f xs ≡ true → Begins m xs → (x : Read) → word f i a m xs ≡ Ok x → WordReads f i m xs x
word_turn n f i a m xs hyp short goes begins x is = by_gap (gap i a (mid_line end left)) refl
    (sym (all_word f i a m xs ∙ ap (with_text text) (word_over f i a end left (word_stops f xs))) ∙ is)
  where
    k : ℕ
    k = word_len f xs

    left : List ℕ
    left = drop k xs

    end : Marker
    end = along m k

    text : List ℕ
    text = encode_utf8_all (take k xs)

    Goal : Type 0
    Goal = WordReads f i m xs x

    by_rest : (g : PlainGap) → GapReads i left end g → GoesOn f i g.behind → length g.behind.rest ≤ n
        → Begins g.behind.mark g.behind.rest → (r : PlainScalarRead) → word f i a g.behind.mark g.behind.rest ≡ r
        → with_text text (with_text g.text r) ≡ Ok x → Goal
    by_rest g reads on less starts (Ok y) eq e = subst (WordReads f i m xs) (same_reading _ x e)
        (word_more f i m xs g y goes begins (front_of f xs goes) on reads
        (hyp g.behind.mark g.behind.rest less on.word starts y eq))
    by_rest g reads on less starts (Err r) eq e = absurd (no_reading r x e)

    by_goes : (g : PlainGap) → gap i a (mid_line end left) ≡ Ok g → (b : Bool) (u : Cursor)
        → next_word_starts f i g.behind ≡ Ok (b, u)
        → with_text text (if b then with_text g.text (word f i a u.mark u.rest) else scalar_end f end g) ≡ Ok x → Goal
    by_goes g eq false u q e = subst (WordReads f i m xs) (same_reading _ x e)
        (last_word f i m xs g u goes begins (front_of f xs goes) q (gap_reads i a left end g eq))
    by_goes g eq true u q e =
        let says = goes_says f i true g.behind u q in
        let gone = gap_end i a (mid_line end left) g eq in
        let less : length g.behind.rest ≤ n = shorter (length left) (length g.behind.rest) gone.taken
        (rw length-drop refl) gone.count in
        by_rest g (gap_reads i a left end g eq) (goes_on f i g.behind u q (says.goes refl)) less
        (goes_begins f i g.behind u q) (word f i a g.behind.mark g.behind.rest) refl (rw says.same at e)
      where
        shorter : (d r t : ℕ) → d ≡ length xs - k → t + r ≡ d → r ≤ n
        shorter d r t cut count = omega (arith, word_len_more f xs goes, short)

    by_answer : (g : PlainGap) → gap i a (mid_line end left) ≡ Ok g → (r : Result (Bool × Cursor) Refusal)
        → next_word_starts f i g.behind ≡ r
        → with_text text (r >>= λ b. if b.0 then with_text g.text (word f i a b.1.mark b.1.rest)
        else scalar_end f end g)
        ≡ Ok x → Goal
    by_answer g eq (Ok b) q e = by_goes g eq b.0 b.1 q e
    by_answer g eq (Err r) q e = absurd (no_reading r x e)

    by_gap : (r : Result PlainGap Refusal) → gap i a (mid_line end left) ≡ r
        → with_text text (r >>= plain_behind_gap f i a end) ≡ Ok x → Goal
    by_gap (Ok g) eq e = by_answer g eq (next_word_starts f i g.behind) refl e
    by_gap (Err r) eq e = absurd (no_reading r x e)

word_reads : (n : ℕ) (f : Bool) (i : ℕ) (a : Marker) → Hypothesis n f i a
word_reads zero f i a m xs short goes begins x is = let some = word_left f xs goes in absurd (omega (arith, short))
word_reads (suc n) f i a m xs short goes begins x is =
    word_turn n f i a m xs (word_reads n f i a) short goes begins x is

-- the scalar

-- where something is read a word begins, and what is read is read from there
plain_begins : (f : Bool) (i : ℕ) (s : Cursor) (x : Read) → plain f i s ≡ Ok x
    → (u : Cursor) × (word_starts f s ≡ Ok (true, u)) × (word f i s.mark u.mark u.rest ≡ Ok x)
unfolding plain
plain_begins f i s x is = by (word_starts f s) refl is
  where
    by : (r : Result (Bool × Cursor) Refusal) → word_starts f s ≡ r
        → (r >>= λ b. if b.0 then word f i s.mark b.1.mark b.1.rest else
        refuse_open (may_be_open b.1.rest) fault.PlainEnd s.mark) ≡ Ok x
        → (u : Cursor) × (word_starts f s ≡ Ok (true, u)) × (word f i s.mark u.mark u.rest ≡ Ok x)
    by (Ok (true, u)) q e = (u, q, e)
    by (Ok (false, u)) q e = absurd (no_reading _ x e)
    by (Err r) q e = absurd (no_reading r x e)

-- What was read as a plain scalar is the reading of a piece of the text, and its later lines are indented. All of it
-- is known from the first word on (`word_reads`).
pub plain_lines : (f : Bool) (i : ℕ) (s t : Cursor) (text : List ℕ) (end : Marker) (comment : Option Marker)
    → plain f i s ≡ Ok (text, end, comment, t)
    → (r : IsPlainReading f s text end t) × ArePlainLines f i r.piece (r.white ++ t.rest) × IsPlainEnd f i r.white t
plain_lines f i s t text end comment is =
    let x : Read = (text, end, comment, t) in
    let (u, q, e) = plain_begins f i s x is in
    let says = starts_says f true s u q in
    let r = word_reads (length s.rest) f i s.mark s.mark s.rest (omega arith) (says.goes refl) (starts_begins f s u q)
    x (rw says.same at e) in (
      record {
        piece = r.first ∷ r.others;
        white = r.white;
        is = r.is;
        spelled = r.spelled;
        safe = r.safe;
        front = r.closes.front;
        last = r.closes.last;
        closes = r.closes.is;
        is_non_space = r.closes.non_space;
        follows = r.follows;
        value = r.value;
        ends = r.ends;
        are_white = r.are;
        behind = r.behind;
      },
      r.later,
      r.stops,
    )

pub plain_reads : (f : Bool) (i : ℕ) (s t : Cursor) (text : List ℕ) (end : Marker) (comment : Option Marker)
    → plain f i s ≡ Ok (text, end, comment, t) → IsPlainReading f s text end t
plain_reads f i s t text end comment is = (plain_lines f i s t text end comment is).0

-- its first character

first_non_space : (f : Bool) (xs : List ℕ) → is_in_word f xs ≡ true → IsNonSpace (slice_index xs 0)
first_non_space f [] h = let none = word_left f [] h in absurd (omega arith)
first_non_space f (c ∷ cs) h = in_word_non_space f c cs h

pub plain_non_space : (f : Bool) (i : ℕ) (s t : Cursor) (text : List ℕ) (end : Marker) (comment : Option Marker)
    → plain f i s ≡ Ok (text, end, comment, t) → is_blank_or_break (slice_index s.rest 0) ≡ false
plain_non_space f i s t text end comment is =
    let (u, q, e) = plain_begins f i s (text, end, comment, t) is in
    first_non_space f s.rest ((starts_says f true s u q).goes refl)
