-- A plain scalar, read a piece at a time.
use Rattle.saphyr_scalar.proofs.Common.{◌≡◌, ℕ, zero, suc, ◌+◌, ◌<◌, Bool, true, false, List, [], ◌∷◌, ◌++◌, length, take, drop, slice_index, Result, Ok, Err, refl, sym, ap, ◌∙◌, arith, encode_utf8_all, append_assoc, ◌&&◌, ◌==◌, not, nat_lt, encode_utf8, if◌then◌else◌, pred, IsErrAnd, nat_tests, append-nil, hyphen, Marker, Refusal, Stop, Moves, Fails, Cursor, ◌>>=◌, refuse_open, along, by_test}
use Rattle.saphyr_scalar.specs.Known.{may_be_open}
use Rattle.saphyr_scalar.specs.declared.scalar.fault.FaultText.TheVariants as fault
use Rattle.saphyr_scalar.specs.declared.scalar.fault.Stop.TheVariants as stop
use Rattle.saphyr_scalar.specs.Steps.Quoted.{mid_line}
use Rattle.saphyr_scalar.specs.Steps.Plain.{is_in_word, PlainWordsMoved, word_starts, PlainGap, gap_from, gap, next_word_starts, comment_of, PlainScalarRead, with_text, scalar_end, gap_len, word_behind_gap, word, plain}
use Rattle.saphyr_scalar.proofs.Plain.Words.{word_len}
use Rattle.saphyr_scalar.proofs.Moving.{along_none, along_more, bind_same}
use Rattle.saphyr_scalar.proofs.Plain.Gaps.{IsEnd, gap_end}

pub text_twice : (a b : List ℕ) (read : PlainScalarRead) → with_text a (with_text b read) ≡ with_text (a ++ b) read
text_twice a b (Ok x) = rw append_assoc refl
text_twice a b (Err e) = refl

pub no_text : (read : PlainScalarRead) → with_text [] read ≡ read
no_text read = grind arith

pub not_in_word : (f : Bool) → is_in_word f [] ≡ false
unfolding is_in_word
not_in_word f = refl

-- whether a word starts

-- a dash is a character of a word
dash_in_word : (f : Bool) (xs : List ℕ) → slice_index xs 0 ≡ hyphen → is_in_word f xs ≡ true
unfolding is_in_word
dash_in_word f xs h = grind arith

second_of : (a b d : Bool) → (a && b && d) ≡ true → b ≡ true
second_of a b d h = grind arith

abbrev WordAnswer : Type 0
WordAnswer = Result (Bool × Cursor) Refusal

abbrev answer : Bool → Cursor → WordAnswer
answer b s = Ok (b, s)

-- what an answer says: the place stays, and where it is true the word goes on
pub record KeepsWord (f b : Bool) (s t : Cursor) : Type 0 where
  pub same : t ≡ s
  pub goes : b ≡ true → is_in_word f s.rest ≡ true

pub starts_says : (f b : Bool) (s t : Cursor) → word_starts f s ≡ Ok (b, t) → KeepsWord f b s t
unfolding word_starts
starts_says f b s t = grind arith

pub goes_says : (f : Bool) (i : ℕ) (b : Bool) (s t : Cursor) → next_word_starts f i s ≡ Ok (b, t) → KeepsWord f b s t
unfolding next_word_starts
goes_says f i b s t = by_test (s.blank_so_far && not f && nat_lt s.mark.col i) _ _
    (λ r. r ≡ answer b t → KeepsWord f b s t) (λ _ e. (grind arith)) (λ _ e. starts_says f b s t e)

pub goes_not : (f : Bool) (i : ℕ) (s : Cursor) → is_in_word f s.rest ≡ false → next_word_starts f i s ≡ Ok (false, s)
unfolding next_word_starts word_starts
goes_not f i s h = by_test (s.blank_so_far && not f && nat_lt s.mark.col i) _ _ (λ r. r ≡ answer false s) (λ _. refl)
    (λ _. (grind (arith, second_of, dash_in_word, nat_tests)))

-- in a word
pub word_on : (f : Bool) (i : ℕ) (a m : Marker) (c : ℕ) (cs : List ℕ) → is_in_word f (c ∷ cs) ≡ true
    → word f i a m (c ∷ cs) ≡ with_text (encode_utf8 c) (word f i a (along m 1) cs)
unfolding word
word_on f i a m c cs h = rw h refl

abbrev pub WordPart : Bool → ℕ → Marker → Marker → List ℕ → ℕ → Type 0
WordPart f i a m xs n = word f i a m xs ≡ with_text (encode_utf8_all (take n xs)) (word f i a (along m n) (drop n xs))

pub no_part : (f : Bool) (i : ℕ) (a m : Marker) (xs : List ℕ) → WordPart f i a m xs 0
no_part f i a m xs = sym (no_text _) ∙ ap (λ x. with_text [] (word f i a x xs)) (sym (along_none m))

pub more_part : (f : Bool) (i : ℕ) (a m : Marker) (c : ℕ) (cs : List ℕ) (n : ℕ) → is_in_word f (c ∷ cs) ≡ true
    → WordPart f i a (along m 1) cs n → WordPart f i a m (c ∷ cs) (suc n)
more_part f i a m c cs n h r = grind (arith, word_on, text_twice, encode_utf8_all, take, drop, along_more)

pub all_word : (f : Bool) (i : ℕ) (a m : Marker) (xs : List ℕ) → WordPart f i a m xs (word_len f xs)
all_word f i a m [] = no_part f i a m []
all_word f i a m (c ∷ cs) =
    let one : 1 + word_len f cs ≡ suc (word_len f cs) = omega arith in
    by_test (is_in_word f (c ∷ cs)) (1 + word_len f cs) 0 (WordPart f i a m (c ∷ cs))
    (λ h. rw one (more_part f i a m c cs (word_len f cs) h (all_word f i a (along m 1) cs)))
    (λ h. no_part f i a m (c ∷ cs))

-- the character after a word is not of it
pub word_stops : (f : Bool) (xs : List ℕ) → is_in_word f (drop (word_len f xs) xs) ≡ false
word_stops f [] = not_in_word f
word_stops f (c ∷ cs) =
    let one : 1 + word_len f cs ≡ suc (word_len f cs) = omega arith in
    by_test (is_in_word f (c ∷ cs)) (1 + word_len f cs) 0 (λ n. is_in_word f (drop n (c ∷ cs)) ≡ false)
    (λ _. rw one (word_stops f cs)) (λ h. h)

-- another word comes after what ends one
pub word_behind : (f : Bool) (xs ys : List ℕ) → IsEnd xs ys → is_in_word f xs ≡ false → is_in_word f ys ≡ true
    → length ys < length xs
word_behind f xs ys end stops goes = grind (arith, nat_tests)

-- after a gap
abbrev pub plain_behind_gap : Bool → ℕ → Marker → Marker → PlainGap → PlainScalarRead
plain_behind_gap f i a end g = next_word_starts f i g.behind >>= λ b. if b.0 then with_text g.text
    (word f i a b.1.mark b.1.rest) else scalar_end f end g

gap_over : (f : Bool) (i : ℕ) (a end : Marker) (g : PlainGap) → is_in_word f g.behind.rest ≡ false
    → plain_behind_gap f i a end g ≡ scalar_end f end g
gap_over f i a end g h = cc (goes_not f i g.behind h)

between_none : (f : Bool) (i : ℕ) (a end : Marker) (g : PlainGap) (k : ℕ) → word_behind_gap f i a end g k []
    ≡ scalar_end f end g
unfolding word_behind_gap
between_none f i a end g k = grind arith

between_step : (f : Bool) (i : ℕ) (a end : Marker) (g : PlainGap) (c : ℕ) (cs : List ℕ)
    → word_behind_gap f i a end g zero (c ∷ cs)
    ≡ (next_word_starts f i g.behind >>= λ b. if b.0 then with_text (g.text ++ encode_utf8 c)
    (word f i a (along g.behind.mark 1) cs) else scalar_end f end g)
unfolding word_behind_gap
between_step f i a end g c cs = refl

between_more : (f : Bool) (i : ℕ) (a end : Marker) (g : PlainGap) (k c : ℕ) (cs : List ℕ)
    → word_behind_gap f i a end g (suc k) (c ∷ cs) ≡ word_behind_gap f i a end g k cs
unfolding word_behind_gap
between_more f i a end g k c cs = refl

choice : (b : Bool) (x y z : PlainScalarRead) → (b ≡ true → x ≡ y) → (if b then x else z) ≡ (if b then y else z)
choice b x y z h = grind arith

-- the next word's first character
word_first : (f : Bool) (i : ℕ) (a : Marker) (g : PlainGap) (c : ℕ) (cs : List ℕ) (t : Cursor) → c ∷ cs ≡ g.behind.rest
    → t ≡ g.behind → is_in_word f g.behind.rest ≡ true
    → with_text (g.text ++ encode_utf8 c) (word f i a (along g.behind.mark 1) cs)
    ≡ with_text g.text (word f i a t.mark t.rest)
word_first f i a g c cs t is same goes = grind (arith, text_twice, word_on)

between_there : (f : Bool) (i : ℕ) (a end : Marker) (g : PlainGap) (xs : List ℕ) → xs ≡ g.behind.rest
    → word_behind_gap f i a end g zero xs ≡ plain_behind_gap f i a end g
between_there f i a end g [] is = grind (arith, nat_tests, between_none, gap_over, not_in_word)
between_there f i a end g (c ∷ cs) is = grind (arith, nat_tests, between_step, bind_same, goes_says, choice, word_first)

between_all : (f : Bool) (i : ℕ) (a end : Marker) (g : PlainGap) (k : ℕ) (xs : List ℕ) → drop k xs ≡ g.behind.rest
    → word_behind_gap f i a end g k xs ≡ plain_behind_gap f i a end g
between_all f i a end g zero xs is = between_there f i a end g xs is
between_all f i a end g (suc k) [] is =
    between_none f i a end g (suc k) ∙ sym (between_none f i a end g zero) ∙ between_there f i a end g [] is
between_all f i a end g (suc k) (c ∷ cs) is = between_more f i a end g k c cs ∙ between_all f i a end g k cs is

word_end : (f : Bool) (i : ℕ) (a m : Marker)
    → word f i a m [] ≡ scalar_end f m (record { text = []; tabbed = false; behind = mid_line m [] })
unfolding word
word_end f i a m = refl

word_gap : (f : Bool) (i : ℕ) (a m : Marker) (c : ℕ) (cs : List ℕ) → is_in_word f (c ∷ cs) ≡ false
    → word f i a m (c ∷ cs)
    ≡ (gap i a (mid_line m (c ∷ cs)) >>= λ g. if gap_len (c ∷ cs) g == 0 then scalar_end f m g else word_behind_gap
    f i a m g (pred (gap_len (c ∷ cs) g)) cs)
unfolding word
word_gap f i a m c cs h = rw h refl

gap_at_end : (i : ℕ) (a m : Marker)
    → gap i a (mid_line m []) ≡ Ok (record { text = []; tabbed = false; behind = mid_line m [] })
unfolding gap gap_from
gap_at_end i a m = ap (λ x. Ok (record { text = []; tabbed = false; behind = mid_line x [] })) (along_none m)

pub some_count : (n : ℕ) → (n == 0) ≡ false → n ≡ suc (pred n)
some_count n e = grind arith

-- what an end of a text is, by the count of what comes before it
pub dropped_at_end : (xs : List ℕ) (g : PlainGap) → IsEnd xs g.behind.rest → (n : ℕ) → gap_len xs g ≡ n → drop n xs
    ≡ g.behind.rest
dropped_at_end xs g e n h = ap (λ k. drop k xs) (sym (omega (arith, e.count, h))) ∙ sym e.is

pub word_over : (f : Bool) (i : ℕ) (a m : Marker) (xs : List ℕ) → is_in_word f xs ≡ false
    → word f i a m xs ≡ (gap i a (mid_line m xs) >>= plain_behind_gap f i a m)
word_over f i a m [] h =
    word_end f i a m ∙ sym (gap_over f i a m (record { text = []; tabbed = false; behind = mid_line m [] }) h)
    ∙ sym (ap (λ r. r >>= plain_behind_gap f i a m) (gap_at_end i a m))
word_over f i a m (c ∷ cs) h = word_gap f i a m c cs h ∙ bind_same (gap i a (mid_line m (c ∷ cs))) _ _ (λ g is.
    let end = gap_end i a (mid_line m (c ∷ cs)) g is in
    by_test (gap_len (c ∷ cs) g == 0) _ _ (λ (r : PlainScalarRead). r ≡ plain_behind_gap f i a m g) (λ none.
    let no : gap_len (c ∷ cs) g ≡ 0 = grind (arith, nat_tests) in
    sym (gap_over f i a m g (ap (is_in_word f) (sym (dropped_at_end (c ∷ cs) g end 0 no)) ∙ h))) (λ some.
    let k = pred (gap_len (c ∷ cs) g) in
    let more : gap_len (c ∷ cs) g ≡ suc k = some_count (gap_len (c ∷ cs) g) some in
    between_all f i a m g k cs (dropped_at_end (c ∷ cs) g end (suc k) more)))

-- What the calls that read a part leave.

-- words that were put after a text end on their line
moved_at : (f : Bool) (text grown : List ℕ) (s t : Cursor) → PlainWordsMoved f text grown s t
    → mid_line t.mark t.rest ≡ t
moved_at f text grown s t m = ap (λ b. record { rest = t.rest; mark = t.mark; blank_so_far = b }) (sym m.on_line)

-- after a word that was read
pub moved_behind_word : (f : Bool) (i : ℕ) (a : Marker) (text grown : List ℕ) (s t : Cursor)
    → PlainWordsMoved f text grown s t
    → with_text text (word f i a s.mark s.rest) ≡ with_text grown (gap i a t >>= plain_behind_gap f i a t.mark)
moved_behind_word f i a text grown s t m = sym (m.same i a)
    ∙ ap (with_text grown) (word_over f i a t.mark t.rest m.stops
    ∙ ap (λ x. gap i a x >>= plain_behind_gap f i a t.mark) (moved_at f text grown s t m))

pub gap_refused : (f : Bool) (i : ℕ) (a : Marker) (text grown : List ℕ) (s t : Cursor) (r : Refusal)
    → PlainWordsMoved f text grown s t → gap i a t ≡ Err r → with_text text (word f i a s.mark s.rest) ≡ Err r
gap_refused f i a text grown s t r m h = cc (moved_behind_word f i a text grown s t m)

-- a gap after a word
pub record GapMoved (f : Bool) (i : ℕ) (a : Marker) (text grown : List ℕ) (s t : Cursor) (g : PlainGap) : Type 0 where
  pub moved : PlainWordsMoved f text grown s t
  pub is : gap i a t ≡ Ok g

-- a test of where a word starts, whose answer is known
pub started : (starts : Cursor → Result (Bool × Cursor) Refusal) (s t : Cursor) (b d : Bool) → b ≡ d
    → starts s ≡ Ok (b, t) → starts s ≡ Ok (d, t)
started starts s t b d is e = rw is at e

pub behind_both : (f : Bool) (i : ℕ) (a : Marker) (text grown : List ℕ) (s t : Cursor) (g : PlainGap)
    → GapMoved f i a text grown s t g
    → with_text text (word f i a s.mark s.rest) ≡ with_text grown (plain_behind_gap f i a t.mark g)
behind_both f i a text grown s t g m = cc (moved_behind_word f i a text grown s t m.moved)

-- no word after the gap
pub no_turn : (f : Bool) (i : ℕ) (a : Marker) (text grown : List ℕ) (s t : Cursor) (g : PlainGap) (u : Cursor)
    → GapMoved f i a text grown s t g → next_word_starts f i g.behind ≡ Ok (false, u)
    → with_text text (word f i a s.mark s.rest) ≡ Ok (grown, t.mark, comment_of f g.tabbed u, u)
no_turn f i a text grown s t g u m h = behind_both f i a text grown s t g m ∙ ap (λ x. with_text grown
    (x >>= λ b. if b.0 then with_text g.text (word f i a b.1.mark b.1.rest) else scalar_end f t.mark g)) h
    ∙ ap (λ x. Ok (x, t.mark, comment_of f g.tabbed g.behind, g.behind)) (append-nil grown)
    ∙ ap (λ x. Ok (grown, t.mark, comment_of f g.tabbed x, x)) (sym (goes_says f i false g.behind u h).same)

-- the scalar

pub plain_starts : (f : Bool) (i : ℕ) (s t : Cursor) → word_starts f s ≡ Ok (true, t)
    → plain f i s ≡ word f i s.mark t.mark t.rest
unfolding plain
plain_starts f i s t h = cc

-- Behind a text the scalar is what was moved of its first words, and what is left, where `seen` looks at it.
pub words_and_rest : (f : Bool) (i : ℕ) (s there end seen : Cursor) (text grown : List ℕ)
    → word_starts f s ≡ Ok (true, there) → PlainWordsMoved f text grown there end → seen ≡ end
    → with_text grown (word f i s.mark seen.mark seen.rest) ≡ with_text text (plain f i s)
words_and_rest f i s there end seen text grown starts moved same = grind (arith, plain_starts)

-- a refusal that `?` hands on
pub moves_refused : {X Y : Type 0} (view : X → Y) (r : Result X Stop) (f : Result Y Refusal) (refusal : Refusal)
    → IsErrAnd r (λ e. e ≡ stop.Refused refusal) → f ≡ Err refusal → Moves view r f
moves_refused view (Ok x) f refusal h e = absurd h
moves_refused view (Err s) f refusal h e = rw h e

fails_on : {Y Z : Type 0} (e : Stop) (h : Result Z Refusal) (f : Result Y Refusal) → Fails e h
    → ((r : Refusal) → h ≡ Err r → f ≡ Err r) → Fails e f
fails_on stop.OutOfMemory h f b on = tt
fails_on (stop.Refused r) h f b on = on r b

pub moves_failed : {X Y Z : Type 0} (view : X → Y) (r : Result X Stop) (f : Result Y Refusal) (h : Result Z Refusal)
    (e : Stop) → IsErrAnd r (λ x. x ≡ e) → Fails e h
    → ((r : Refusal) → h ≡ Err r → f ≡ Err r) → Moves view r f
moves_failed view (Ok x) f h e is b on = absurd is
moves_failed view (Err s) f h e is b on = rw is (fails_on e h f b on)

pub plain_refused : (f : Bool) (i : ℕ) (s : Cursor) (r : Refusal) → word_starts f s ≡ Err r → plain f i s ≡ Err r
unfolding plain
plain_refused f i s r h = cc

pub no_plain : (f : Bool) (i : ℕ) (s t : Cursor) → word_starts f s ≡ Ok (false, t)
    → plain f i s ≡ refuse_open (may_be_open t.rest) fault.PlainEnd s.mark
unfolding plain
no_plain f i s t h = cc
