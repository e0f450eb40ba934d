-- A word of a plain scalar, and a gap before more words, are read as a piece of the text.
use Rattle.std.proofs.Common.{◌≡◌, ℕ, suc, ◌+◌, ◌≤◌, Bool, true, false, List, [], ◌∷◌, ◌++◌, length, take, drop, slice_index, Option, Ok, sym, ap, ◌∙◌, arith, IsTrue, append_assoc, encode_utf8_all}
use Rattle.saphyr_scalar.proofs.Common.{append-nil, take-append-drop, length-take-le, encodes-append, is_blank_or_break, Marker, Cursor, along, by_test}
use Rattle.saphyr_scalar.specs.Spelling.Tag.{AreIn}
use Rattle.saphyr_scalar.specs.Values.Folding.{folded}
use Rattle.saphyr_scalar.specs.Steps.Plain.{is_in_word, next_word_starts, comment_of, PlainGap}
use Rattle.saphyr_scalar.specs.Reading.Plain.{end_of_text, IsSpelledPlain, IsSafeInFlow, IsPlainEnd, ends_piece}
use Rattle.saphyr_scalar.proofs.Plain.Words.{word_left, word_len}
use Rattle.saphyr_scalar.proofs.Plain.Pieces.{word_stops}
use Rattle.saphyr_scalar.proofs.Plain.Spelled.{Begins, Closes, word_spelled, white_spelled, word_safe, white_safe, word_follows, word_closes}
use Rattle.saphyr_scalar.proofs.Plain.Runs.{IsNonSpace, AreNonSpace, items_of, non_space_no_feed, folded_word, passed_append, passed_word}
use Rattle.saphyr_scalar.proofs.Plain.GapsRead.{GapReads}
use Rattle.saphyr_scalar.proofs.Plain.NoWordBehind.{no_word_behind}
use Rattle.saphyr_scalar.proofs.Plain.Indented.{GoesOn, IsLine, later_append, later_non_space, later_weaken}
use Rattle.saphyr_scalar.specs.Spelling.LaterLines.{IsPlainLine, ArePlainLines}

-- Words and gaps.

pub in_word_non_space : (f : Bool) (c : ℕ) (cs : List ℕ) → is_in_word f (c ∷ cs) ≡ true → IsNonSpace c
unfolding is_in_word
in_word_non_space f c cs h = grind arith

word_non_space : (f : Bool) (xs : List ℕ) → AreNonSpace (take (word_len f xs) xs)
word_non_space f [] = tt
word_non_space f (c ∷ cs) =
    let one : 1 + word_len f cs ≡ suc (word_len f cs) = omega arith in
    by_test (is_in_word f (c ∷ cs)) (1 + word_len f cs) 0 (λ n. AreNonSpace (take n (c ∷ cs)))
    (λ h. rw one (in_word_non_space f c cs h, word_non_space f cs)) (λ _. tt)

word_within : (f : Bool) (xs : List ℕ) → word_len f xs ≤ length xs
word_within f [] = omega arith
word_within f (c ∷ cs) = by_test (is_in_word f (c ∷ cs)) (1 + word_len f cs) 0 (λ n. n ≤ length (c ∷ cs))
    (λ _. omega (arith, word_within f cs)) (λ _. omega arith)

abbrev pub Read : Type 0
Read = List ℕ × Marker × Option Marker × Cursor

-- what is read from a word on
pub record WordReads (f : Bool) (i : ℕ) (m : Marker) (xs : List ℕ) (x : Read) : Type 0 where
  pub first : ℕ
  pub others : List ℕ
  pub non_space : IsNonSpace first
  pub white : List ℕ
  pub is : xs ≡ (first ∷ others) ++ (white ++ x.3.rest)
  pub spelled : IsSpelledPlain m true (first ∷ others) (white ++ x.3.rest)
  pub safe : f ≡ true → IsSafeInFlow (first ∷ others) (white ++ x.3.rest)
  pub closes : Closes (first ∷ others)
  pub follows : IsTrue (ends_piece (slice_index (white ++ x.3.rest) 0))
  pub value : encode_utf8_all (folded (items_of (first ∷ others))) ≡ x.0
  pub ends : end_of_text m (first ∷ others) ≡ x.1
  pub are : AreIn is_blank_or_break white
  pub behind : end_of_text x.1 white ≡ x.3.mark
  pub later : ArePlainLines f i (first ∷ others) (white ++ x.3.rest)
  pub stops : IsPlainEnd f i white x.3

-- the word at the front
pub record Front (f : Bool) (xs : List ℕ) : Type 0 where
  pub first : ℕ
  pub others : List ℕ
  pub is : take (word_len f xs) xs ≡ first ∷ others
  pub non_space : AreNonSpace (first ∷ others)

pub front_of : (f : Bool) (xs : List ℕ) → is_in_word f xs ≡ true → Front f xs
front_of f [] h = let none = word_left f [] h in absurd (omega arith)
front_of f (c ∷ cs) h =
    let here : word_len f (c ∷ cs) ≡ suc (word_len f cs) = rw h (omega arith) in
    record {
      first = c;
      others = take (word_len f cs) cs;
      is = ap (λ n. take n (c ∷ cs)) here;
      non_space = rw here at (word_non_space f (c ∷ cs));
    }

safe_word : (f : Bool) (xs y behind : List ℕ) → f ≡ true → drop (word_len f xs) xs ≡ y ++ behind
    → IsSafeInFlow y behind → IsSafeInFlow (take (word_len f xs) xs ++ y) behind
safe_word true xs y behind e = word_safe xs y behind
safe_word false xs y behind e = absurd (cc)

-- the last word
pub last_word : (f : Bool) (i : ℕ) (m : Marker) (xs : List ℕ) (g : PlainGap) (u : Cursor) → is_in_word f xs ≡ true
    → Begins m xs → Front f xs → next_word_starts f i g.behind ≡ Ok (false, u)
    → (let n = word_len f xs in GapReads i (drop n xs) (along m n) g)
    → WordReads f i m xs (
      encode_utf8_all (take (word_len f xs) xs)
          ++ [],
      along m (word_len f xs),
      comment_of f g.tabbed g.behind,
      g.behind,
    )
last_word f i m xs g u goes begins w stop r =
    let n = word_len f xs in
    let count : length (w.first ∷ w.others) ≡ n = sym (ap length w.is) ∙ length-take-le n xs (word_within f xs) in
    record {
      first = w.first;
      others = w.others;
      non_space = w.non_space.0;
      white = r.white;
      is = cc (take-append-drop n xs);
      spelled = rw (append-nil (take n xs) ∙ w.is) at (word_spelled f m xs [] (r.white ++ g.behind.rest) goes begins
          r.is tt);
      safe = λ e. rw (append-nil (take n xs) ∙ w.is) at (safe_word f xs [] (r.white ++ g.behind.rest) e r.is tt);
      closes = word_closes w.first w.others w.non_space;
      follows = rw r.is at (word_follows f (drop n xs) (word_stops f xs));
      value = ap encode_utf8_all (ap (λ l. folded (items_of l)) (sym (append-nil (w.first ∷ w.others)))
          ∙ folded_word (w.first ∷ w.others) [] w.non_space ∙ append-nil (w.first ∷ w.others) ∙ sym w.is)
          ∙ sym (append-nil (encode_utf8_all (take n xs)));
      ends = ap (end_of_text m) (sym (append-nil (w.first ∷ w.others)))
          ∙ passed_word m (w.first ∷ w.others) [] w.non_space
          ∙ ap (along m) count;
      are = r.are;
      behind = r.place;
      later = later_non_space (IsPlainLine f i) (w.first ∷ w.others) (r.white ++ g.behind.rest) w.non_space;
      stops = no_word_behind f i r.white g.behind u stop r.stop r.broken;
    }

-- a word, a gap and what is read after it
pub word_more : (f : Bool) (i : ℕ) (m : Marker) (xs : List ℕ) (g : PlainGap) (x : Read) → is_in_word f xs ≡ true
    → Begins m xs → Front f xs → GoesOn f i g.behind
    → (let n = word_len f xs in GapReads i (drop n xs) (along m n) g) → WordReads f i g.behind.mark g.behind.rest x
    → WordReads f i m xs (encode_utf8_all (take (word_len f xs) xs) ++ (g.text ++ x.0), x.1, x.2, x.3)
word_more f i m xs g x goes begins w on r b =
    let n = word_len f xs in
    let word = w.first ∷ w.others in
    let next = b.first ∷ b.others in
    let rest = b.white ++ x.3.rest in
    let count : length word ≡ n = sym (ap length w.is) ∙ length-take-le n xs (word_within f xs) in
    let text : xs ≡ word ++ (r.white ++ (next ++ rest)) = cc (take-append-drop n xs) in
    let read : folded (items_of (word ++ (r.white ++ next))) ≡ word ++ (r.value ++ folded (items_of next)) =
    folded_word word (r.white ++ next) w.non_space
    ∙ ap (λ (l : List ℕ). word ++ l) (r.reads b.first b.others b.non_space) in
    let left : drop n xs ≡ (r.white ++ next) ++ rest = r.is ∙ ap (λ (l : List ℕ). r.white ++ l) b.is
    ∙ sym (append_assoc r.white next rest) in
    let behind : IsSpelledPlain (along m n) false (r.white ++ next) rest =
    white_spelled (along m n) false r.white next rest r.are (non_space_no_feed b.first b.non_space)
    (rw r.place b.spelled) in
    record {
      first = w.first;
      others = w.others ++ (r.white ++ next);
      non_space = w.non_space.0;
      white = b.white;
      spelled = rw w.is at (word_spelled f m xs (r.white ++ next) rest goes begins left behind);
      safe = λ e. rw w.is at (safe_word f xs (r.white ++ next) rest e left
          (white_safe r.white next rest r.are (b.safe e)));
      closes = record {
        front = word ++ (r.white ++ b.closes.front);
        last = b.closes.last;
        is = ap (λ (l : List ℕ). word ++ l) (ap (λ (l : List ℕ). r.white ++ l) b.closes.is
            ∙ sym (append_assoc r.white b.closes.front (b.closes.last ∷ [])))
            ∙ sym (append_assoc word (r.white ++ b.closes.front) (b.closes.last ∷ []));
        non_space = b.closes.non_space;
      };
      follows = b.follows;
      is = text ∙ ap (λ (l : List ℕ). word ++ l) (sym (append_assoc r.white next rest))
          ∙ sym (append_assoc word (r.white ++ next) rest);
      value = ap encode_utf8_all read ∙ encodes-append word (r.value ++ folded (items_of next))
          ∙ ap (λ (l : List ℕ). encode_utf8_all word ++ l) (encodes-append r.value (folded (items_of next))
          ∙ ap (λ (l : List ℕ). l ++ encode_utf8_all (folded (items_of next))) r.text
          ∙ ap (λ (l : List ℕ). g.text ++ l) b.value)
          ∙ ap (λ (l : List ℕ). encode_utf8_all l ++ (g.text ++ x.0)) (sym w.is);
      ends = passed_word m word (r.white ++ next) w.non_space
          ∙ ap (λ k. end_of_text (along m k) (r.white ++ next)) count
          ∙ passed_append (along m n) r.white next (non_space_no_feed b.first b.non_space)
          ∙ ap (λ y. end_of_text y next) r.place ∙ b.ends;
      are = b.are;
      behind = b.behind;
      later = later_append (IsPlainLine f i) word (r.white ++ next) rest
          (later_non_space (IsPlainLine f i) word ((r.white ++ next) ++ rest) w.non_space)
          (later_append (IsPlainLine f i) r.white next rest (rw b.is at
          (later_weaken (IsLine i g.behind) (IsPlainLine f i) (λ line is. is f on) r.white g.behind.rest r.later))
          b.later);
      stops = b.stops;
    }
