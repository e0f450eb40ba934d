-- Quoted scalars are read alike.
use Rattle.scalar_laws.proofs.Common.{◌≡◌, ℕ, zero, suc, ◌+◌, ◌<◌, false, List, ◌∷◌, length, drop, slice_index, refl, sym, ap, ◌∙◌, arith, Result, Ok, Err, encode_utf8, ◌&&◌, ◌==◌, not, Option, Some, None, is_break, is_blank, is_z, is_hex, next_2_are, is_document_indicator, length-drop, Quote, Single, Double, Marker, Refusal, Cursor, ◌>>=◌, along, next_line, pass, passed_over, word_from, AreAlike, AreSame, and_true_left, and_true_right, by_test, not-true, backslash, second_is, no_return}
use Rattle.saphyr_scalar.specs.Values.Escapes.{digit_count, is_scalar_value, short_escape}
use Rattle.saphyr_scalar.specs.Values.Flow as flow
use Rattle.saphyr_scalar.specs.Steps.Quoted.{is_literal, hex_digit_count, digits, escape_by_number, escape_of, escaped_character, TextRead, mid_line, special, special_len, QuotedGap, on_line, over_lines, no_gap, is_left, blank_in, break_in, quoted_line, end_gap, escaped_gap, break_len, if_some, inner_text, inner_text_at, quoted, TextRead}
use Rattle.saphyr_scalar.specs.Steps.Quoted as quotes
use Rattle.saphyr_scalar.proofs.Quoted.Escapes.{escape_place}
use Rattle.scalar_laws.proofs.Breaks.Sides.{Normal, nothing, character, feed, return, pair, first_in, first_same, past_first, behind_first, Places, moved_along, moved_down, alike, normal_of, places_of, NoBreak, no_break_in, one_passed, two_passed}
use Rattle.scalar_laws.proofs.Breaks.Results.{Both, gives, refused, choose_same, choose, choose_first, choose_in, and_known, and_then, and_same, by_ends}
use Rattle.scalar_laws.proofs.Breaks.Separations.{indicator_alike}
use Rattle.scalar_laws.proofs.Breaks.Names.{front_alike}

-- ## Escapes

two_quotes_alike : {r q : List ℕ} → Normal r q → next_2_are r 39 39 ≡ next_2_are q 39 39
two_quotes_alike {r = r} {q = q} n =
    cc (
      second_is r,
      behind_first (λ c. c == 39) refl refl (λ r. slice_index r 0 == 39)
          (λ r q n. first_in (λ c. c == 39) refl n) n,
      second_is q,
    )

slash_alike : {r q : List ℕ} → Normal r q → ((slice_index r 0 == backslash) && not (is_break (slice_index r 1))) ≡
    ((slice_index q 0 == backslash) && not (is_break (slice_index q 1)))
slash_alike {r = r} {q = q} n = grind (arith, second_is, behind_first, first_in)

module _ {text : List ℕ} (a b : Marker) where
  digits_alike : (k v : ℕ) (s t : Cursor) → AreAlike text s t → Both (AreSame text) (digits a k v s) (digits b k v t)
  unfolding digits
  digits_alike zero v s t e = gives (refl, e)
  digits_alike (suc k) v s t e = choose_in is_hex refl refl e (λ is on. rw is (digits_alike k _ _ _ on)) refused

  -- of a letter, behind it
  letter_alike : (o p : Option ℕ) (letter : ℕ) (s t : Cursor) → digit_count letter ≡ p
      → AreAlike text (pass 2 s) (pass 2 t)
      → Both (AreSame text) (escape_of a o letter s) (escape_of b o letter t)
  unfolding escape_of escape_by_number quotes.character
  letter_alike (Some c) p letter s t is on = gives (refl, on)
  letter_alike None None letter s t is on = rw is refused
  letter_alike None (Some n) letter s t is on = rw is (and_same _ _ (digits_alike n 0 (pass 2 s) (pass 2 t) on)
      (λ v u w at. choose (is_scalar_value v) (λ _. gives (refl, at)) (λ _. refused)))

  escape_alike : (s t : Cursor) → NoBreak s.rest → NoBreak (drop 1 s.rest) → AreAlike text s t
      → Both (AreSame text) (escaped_character a s) (escaped_character b t)
  unfolding escaped_character
  escape_alike s t first second e =
      let letter = sym (second_is s.rest) ∙ first_same second (past_first first (normal_of e)) ∙ second_is t.rest in
      rw letter (letter_alike (short_escape (slice_index t.rest 1)) _ (slice_index t.rest 1) s t refl
      (two_passed first second e))

  special_alike : (quote : Quote) (s t : Cursor) → AreAlike text s t
      → Both (AreSame text) (special quote a s) (special quote b t)
  unfolding special
  special_alike Single s t e = grind (arith, two_quotes_alike, normal_of, two_passed)
  special_alike Double s t e = choose_same ((slice_index s.rest 0 == 92) && not (is_break (slice_index s.rest 1)))
      ((slice_index t.rest 0 == 92) && not (is_break (slice_index t.rest 1))) (slash_alike (normal_of e)) (λ h.
      let first = no_break_in (λ c. c == 92) refl refl s.rest (and_true_left _ _ h) in
      let second = ap is_break (second_is s.rest) ∙ not-true _ (and_true_right (slice_index s.rest 0 == 92) _ h) in
      and_same _ _ (escape_alike s t first second e) (λ v u w is. gives (refl, is))) (λ _. gives (refl, e))

-- ## What such a spelling leaves

abbrev pub LeavesRest : List ℕ → Result (Option ℕ × Cursor) Refusal → Type 0
LeavesRest r read = (x : Option ℕ × Cursor) (d : ℕ) → read ≡ Ok x → x.0 ≡ Some d → x.1.rest ≡ r

leaves_none : (r : List ℕ) (s : Cursor) → LeavesRest r (Ok (None, s))
leaves_none r s x d read some = absurd (cc)

leaves_some : (r : List ℕ) (d : ℕ) (s : Cursor) → s.rest ≡ r → LeavesRest r (Ok (Some d, s))
leaves_some r d s e x other read some = search

escape_left : (a m : Marker) (c : ℕ) (cs : List ℕ) (r : Result (ℕ × Cursor) Refusal)
    → escaped_character a (mid_line m (c ∷ cs)) ≡ r
    → LeavesRest (drop (2 + hex_digit_count (slice_index cs 0)) (c ∷ cs)) (r >>= λ e. Ok (Some e.0, e.1))
escape_left a m c cs (Ok e) is = leaves_some _ e.0 e.1 (cc (escape_place a m (c ∷ cs) e is))
escape_left a m c cs (Err e) is = λ x d read some. absurd (cc)

pub special_left : (quote : Quote) (a m : Marker) (c : ℕ) (cs : List ℕ)
    → LeavesRest (drop (special_len quote (slice_index cs 0)) cs) (special quote a (mid_line m (c ∷ cs)))
unfolding special
special_left Single a m c cs = by_test (next_2_are (c ∷ cs) 39 39) _ _ (LeavesRest (drop 1 cs))
    (λ _. leaves_some _ 39 (pass 2 (mid_line m (c ∷ cs))) refl) (λ _. leaves_none _ _)
special_left Double a m c cs =
    let k = hex_digit_count (slice_index cs 0) in
    let two : 2 + k ≡ suc (suc k) = omega arith in
    by_test ((c == 92) && not (is_break (slice_index cs 0))) _ _ (LeavesRest (drop (suc k) cs))
    (λ _. rw two at (escape_left a m c cs (escaped_character a (mid_line m (c ∷ cs))) refl)) (λ _. leaves_none _ _)

-- ## Gaps

abbrev AreEqual : {X : Type 0} → X → X → Type 0
AreEqual x y = x ≡ y

gap_alike : (text : List ℕ) (i : ℕ) (a b : Marker) (gap : QuotedGap) (s t : Cursor) → AreAlike text s t
    → Both AreEqual (end_gap i a gap s) (end_gap i b gap t)
unfolding end_gap quoted_line
gap_alike text i a b (on_line bytes) s t e = choose_first is_z refl e (λ _. refused) (λ _. gives refl)
gap_alike text i a b (over_lines escaped n) s t e = let marker = indicator_alike (normal_of e) in
    and_then {R = AreAlike text} (choose_same ((s.mark.col == 0) && is_document_indicator s.rest)
    ((t.mark.col == 0) && is_document_indicator t.rest) (rw (e.col, marker) refl) (λ _. refused)
    (λ _. choose_first is_z refl e (λ _. refused) (λ _. choose_same (is_left i s.mark) (is_left i t.mark)
    (rw e.col refl) (λ _. refused) (λ _. gives e)))) (λ u v _. gives refl)

blank_alike : (i : ℕ) (gap : QuotedGap) (m n : Marker) (c : ℕ) → m.col ≡ n.col
    → Both AreEqual (blank_in i gap m c) (blank_in i gap n c)
unfolding blank_in
blank_alike i gap m n c h = grind (arith, gives, choose_same, refused)

-- ## Scalars

-- the break that comes first, or one character
break_left : {r q : List ℕ} → Normal r q → Normal (drop (break_len r) r) (drop (break_len q) q)
break_left nothing = nothing
break_left (character c h n) = rw (no_return c h) n
break_left (feed n) = n
break_left (return h n) = rw h n
break_left (pair n) = n

if_alike : {R : List ℕ × Cursor → List ℕ × Cursor → Type 0} (o : Option ℕ) {f g : ℕ → TextRead} {u v : TextRead}
    → ((d : ℕ) → o ≡ Some d → Both R (f d) (g d)) → Both R u v → Both R (if_some o f u) (if_some o g v)
if_alike (Some c) some none = some c refl
if_alike None some none = none

module _ (text : List ℕ) (quote : Quote) (i : ℕ) (a b : Marker) where
  abbrev Inside : Cursor → Cursor → Type 0
  Inside s t = (gap : QuotedGap) → AreAlike text s t
      → Both (AreSame text) (inner_text_at quote i a gap s) (inner_text_at quote i b gap t)

  -- what is read of any shorter text
  abbrev Others : ℕ → Type 0
  Others k = (x y : Cursor) → length x.rest < k → Inside x y

  -- behind characters that are taken off already
  behind : (gap : QuotedGap) (k l : ℕ) (m n : Marker) (r q : List ℕ) → Normal (drop k r) (drop l q)
      → Places text (drop k r) (drop l q) m n → Others (suc (length r))
      → Both (AreSame text) (inner_text quote i a gap k m r) (inner_text quote i b gap l n q)
  behind gap k l m n r q x p others = rw (passed_over quote i a gap k m r, passed_over quote i b gap l n q)
      (others (mid_line m (drop k r)) (mid_line n (drop l q)) (omega (arith, length-drop k r)) gap
      (alike false false refl x p))

  -- after an escaped break
  behind_escaped : (m n : Marker) {r q : List ℕ} → Normal r q → Places text r q m n → Others (suc (length r))
      → let k = break_len r in let l = break_len q in Both (AreSame text)
      (inner_text quote i a (escaped_gap quote (slice_index (drop k r) 0)) k (next_line m k) r)
      (inner_text quote i b (escaped_gap quote (slice_index (drop l q) 0)) l (next_line n l) q)
  behind_escaped m n {r = r} {q = q} x p others =
      let k = break_len r in
      let l = break_len q in
      let same : escaped_gap quote (slice_index (drop k r) 0) ≡ escaped_gap quote (slice_index (drop l q) 0) =
      cc (first_in (λ c. c == flow.mark quote) (grind arith) (break_left x)) in
      rw same (behind _ k l (next_line m k) (next_line n l) r q (break_left x) (moved_down k l p) others)

  -- a word or the closing quote
  from_word : (m n : Marker) (c : ℕ) {r q : List ℕ} → is_break c ≡ false → Normal r q → Places text (c ∷ r) (c ∷ q) m n
      → Others (suc (length r)) → Both (AreSame text) (word_from quote i a m c r) (word_from quote i b n c q)
  from_word m n c {r = r} {q = q} h x p others =
      let one = moved_along 1 1 refl p in
      let on : AreAlike text (mid_line (along m 1) r) (mid_line (along n 1) q) = alike false false refl x one in
      choose (is_literal quote c) (λ _. front_alike (encode_utf8 c) (others _ _ (omega arith) no_gap on))
      (λ _. and_known (special_alike a b quote (mid_line m (c ∷ r)) (mid_line n (c ∷ q))
      (alike false false refl (character c h x) p)) (λ u v first second is.
      rw (← is.0) (if_alike u.0 (λ d some.
      let left = special_left quote a m c r u d first some in
      let other = special_left quote b n c q v d second (sym is.0 ∙ some) in
      front_alike (encode_utf8 d) (behind no_gap _ _ u.1.mark v.1.mark r q (rw (left, other) at (normal_of is.1))
      (rw (left, other) at (places_of is.1)) others))
      (choose (c == flow.mark quote) (λ _. gives (refl, on))
      (λ _. behind_escaped (along m 1) (along n 1) x one others)))))

  inside_by : (m n : Marker) (gap : QuotedGap) {r q : List ℕ} → Normal r q → Places text r q m n → Others (length r)
      → Both (AreSame text) (inner_text quote i a gap 0 m r) (inner_text quote i b gap 0 n q)
  unfolding inner_text
  inside_by m n gap nothing p others = refused
  inside_by m n gap (character c {r = r} {q = q} h x) p others = choose (is_blank c)
      (λ _. and_then (blank_alike i gap m n c p.col) (λ g k is. rw is
      (others (mid_line (along m 1) r) (mid_line (along n 1) q) (omega arith) k
      (alike false false refl x (moved_along 1 1 refl p)))))
      (λ _. rw h (and_then (gap_alike text i a b gap (mid_line m (c ∷ r)) (mid_line n (c ∷ q))
      (alike false false refl (character c h x) p))
      (λ u v is. rw is (front_alike v (from_word m n c h x p others)))))
  inside_by m n gap (feed {r = r} {q = q} x) p others =
      others (mid_line (next_line m 1) r) (mid_line (next_line n 1) q) (omega arith) (break_in gap)
      (alike false false refl x (moved_down 1 1 p))
  inside_by m n gap (return {r = r} {q = q} h x) p others =
      rw h (others (mid_line (next_line m 1) r) (mid_line (next_line n 1) q) (omega arith) (break_in gap)
      (alike false false refl x (moved_down 1 1 p)))
  inside_by m n gap (pair {r = r} {q = q} x) p others =
      others (mid_line (next_line m 2) r) (mid_line (next_line n 1) q) (omega arith) (break_in gap)
      (alike false false refl x (moved_down 2 1 p))

  inside_alike : (s t : Cursor) → Inside s t
  inside_alike = by_ends Inside
      (λ s t others gap e. inside_by s.mark t.mark gap (normal_of e) (places_of e) others)

pub quoted_alike : (quote : Quote) (i : ℕ) {text : List ℕ} {s t : Cursor} → NoBreak s.rest → AreAlike text s t
    → Both (AreSame text) (quoted quote i s) (quoted quote i t)
unfolding quoted
quoted_alike quote i {text = text} {s = s} {t = t} h e =
    inside_alike text quote i s.mark t.mark (pass 1 s) (pass 1 t) no_gap (one_passed h e)
