-- What is read as a tag directive is spelled so.
use Rattle.saphyr_scalar.proofs.Common.{◌≡◌, ℕ, ◌+◌, Bool, true, false, List, [], ◌∷◌, ◌++◌, length, length-append, append_assoc, take, drop, slice_index, nat_eq, cond, Result, Ok, refl, sym, ap, ◌∙◌, arith, subst, encode_utf8_all, inl, inr, ◌||◌, ◌==◌, codes, encode_utf8, prefix_len, eqb-true, take-append-drop, exclamation_mark, is_alpha, is_tag_char, is_blank, is_blank_or_breakz, Marker, Refusal, Uri, Cursor, ◌>>=◌, along, pass_all_blanks, is_missing, refuse_open, or_true_swap, other_than, by_test, run_ends}
use Rattle.saphyr_scalar.specs.declared.scalar.fault.FaultText.TheVariants as fault
use Rattle.saphyr_scalar.specs.Steps.Directive.{handle_behind_word, handle, prefix, behind_prefix, tag_directive}
use Rattle.saphyr_scalar.specs.Spelling.Directive.{ReadDirective, tag_prefix, AreSomeBlanks, IsWholeHandle}
use Rattle.saphyr_scalar.specs.Steps.Quoted.{with_front, with_run, mid_line}
use Rattle.saphyr_scalar.specs.Steps.Tag.{uri_character, decoded_characters, decoded_at, handle_of}
use Rattle.saphyr_scalar.specs.Spelling.Tag.{AreIn, IsHandleText, IsPrefix}
use Rattle.saphyr_scalar.proofs.Moving.{along_more}
use Rattle.saphyr_scalar.proofs.Runs.{run_is_in}
use Rattle.saphyr_scalar.proofs.Properties.TagsRead.{bytes_of_handle, mark_bytes}
use Rattle.saphyr_scalar.proofs.Properties.TagsSpelled.{cut_at, none_value}
use Rattle.saphyr_scalar.proofs.Properties.EscapesSpelled.{decoded_spelled, DecodedOf, character_spelled}
use Rattle.saphyr_scalar.proofs.Directives.TagPrefixesRead.{begins_prefix}
use Rattle.saphyr_scalar.proofs.Steps.{bind_ok, Chosen, ok_same, cond_ok, cond_then}
use Rattle.saphyr_scalar.proofs.Places.{along_three, along_four}
use Rattle.saphyr_scalar.proofs.Directives.NamesSpelled.{run_count}
use Rattle.saphyr_scalar.proofs.Directives.VersionsSpelled.{gap_some}

pub record HandleOf (m : Marker) (xs text : List ℕ) (u : Cursor) : Type 0 where
  pub handle : List ℕ
  pub is : IsHandleText handle
  pub bytes : encode_utf8_all handle ≡ text
  pub whole : IsWholeHandle handle u.rest
  pub begins : slice_index xs 0 ≡ exclamation_mark
  pub rest : xs ≡ handle ++ u.rest
  pub place : u ≡ mid_line (along m (length handle)) u.rest

abbrev OfHandle : Marker → List ℕ → List ℕ × Cursor → Type 0
OfHandle m xs x = HandleOf m xs x.0 x.1

both_fail : (a b : Bool) → a ≡ false → b ≡ false → (a || b) ≡ false
both_fail a b p q = grind arith

-- What was read behind a first `!` is the rest of a handle. The character behind the word tells which: another `!`
-- ends a named handle, and without one the word has to be empty.
word_spelled : (start m : Marker) (ys text : List ℕ) (u : Cursor)
    → handle_behind_word start (with_run is_alpha [] (mid_line (along m 1) ys)) ≡ Ok (text, u)
    → HandleOf m (exclamation_mark ∷ ys) text u
unfolding handle_behind_word
word_spelled start m ys text u =
    let n = prefix_len is_alpha ys in
    let w = take n ys in
    let left = drop n ys in
    let k = along (along m 1) n in
    let bytes = encode_utf8_all w in
    by_test (nat_eq (slice_index left 0) 33) (Ok (handle_of bytes, mid_line (along k 1) (drop 1 left)))
    (cond (nat_eq (length bytes) 0) (Ok (codes "!", mid_line k left))
    (refuse_open (is_missing 0 left) fault.TagDirectiveHandleEndExpected start))
    (λ (r : Result (List ℕ × Cursor) Refusal). r ≡ Ok (text, u) → HandleOf m (33 ∷ ys) text u) (λ mark h.
    let handle = codes "!" ++ (w ++ codes "!") in
    let more : left ≡ 33 ∷ drop 1 left = cut_at 33 left refl (eqb-true (slice_index left 0) 33 mark) in
    let len : length handle ≡ 1 + n + 1 = omega (arith, length-append w (codes "!"), run_count is_alpha ys) in
    subst (OfHandle m (33 ∷ ys))
    (ok_same {A = List ℕ × Cursor} (handle_of bytes, mid_line (along k 1) (drop 1 left)) (text, u) h) (record {
      handle = handle;
      is = inr (w, run_is_in is_alpha ys, refl);
      bytes = sym (bytes_of_handle w);
      whole = λ alone. absurd (let none : w ++ codes "!" ≡ [] = cc in
          let e : length (w ++ codes "!") ≡ 0 = ap (λ (v : List ℕ). length v) none in
          omega (arith, length-append w (codes "!"), e));
      begins = refl;
      rest = cc (take-append-drop n ys, append_assoc w (codes "!") (drop 1 left));
      place = ap (λ j. mid_line j (drop 1 left)) (along_three m 1 n 1 (length handle) len);
    }))
    (λ mark h.
    let is = cond_ok {A = List ℕ × Cursor} (nat_eq (length bytes) 0) (codes "!", mid_line k left) (text, u)
    _ h in
    let none : w ≡ [] = none_value w is.test in
    let count : 1 ≡ 1 + n = omega (arith, run_count is_alpha ys, ap (λ (v : List ℕ). length v) none) in
    subst (OfHandle m (33 ∷ ys)) is.same (record {
      handle = codes "!";
      is = inl refl;
      bytes = mark_bytes;
      whole = λ _. both_fail (is_alpha (slice_index left 0)) (nat_eq (slice_index left 0) 33)
          (run_ends is_alpha ys refl) mark;
      begins = refl;
      rest = ap (λ r. 33 ∷ r) (sym (take-append-drop n ys) ∙ ap (λ v. v ++ left) none);
      place = ap (λ j. mid_line j left) (along_more m 1 n 1 count);
    }))

handle_spelled : (start m : Marker) (xs text : List ℕ) (u : Cursor) → handle start (mid_line m xs) ≡ Ok (text, u)
    → HandleOf m xs text u
unfolding handle
handle_spelled start m xs text u h = grind (arith, cond_then, cut_at, eqb-true, word_spelled)

pub record PrefixOf (m : Marker) (xs text : List ℕ) (u : Cursor) : Type 0 where
  pub value : List ℕ
  pub written : List ℕ
  pub is : IsPrefix value written
  pub bytes : encode_utf8_all value ≡ text
  pub rest : xs ≡ written ++ u.rest
  pub place : u ≡ mid_line (along m (length written)) u.rest

-- A prefix that was read is spelled as one: a first character of the smaller set, and others. The two steps of the
-- reading are taken apart, and their pieces of the text put behind each other.
prefix_spelled : (start m : Marker) (xs text : List ℕ) (u : Cursor) → prefix start (mid_line m xs) ≡ Ok (text, u)
    → PrefixOf m xs text u
unfolding prefix
prefix_spelled start m xs text u h =
    let c0 = slice_index xs 0 in
    let begins : ℕ → Bool = λ x. is_tag_char x || (x == 33) in
    let is = cond_then (begins_prefix c0)
    (uri_character start (mid_line m xs) >>= λ (x : ℕ × Cursor). with_front (encode_utf8 x.0)
    (decoded_at Uri start x.1)) (text, u) _ h in
    let one = bind_ok (uri_character start (mid_line m xs))
    (λ (x : ℕ × Cursor). with_front (encode_utf8 x.0) (decoded_at Uri start x.1)) (text, u) is.same in
    let c = one.given.0 in
    let here = one.given.1 in
    let first = character_spelled (λ x. is_tag_char x || (x == 33)) start m xs c here refl
    (or_true_swap (nat_eq c0 33) (is_tag_char c0) is.test) one.first in
    let two = bind_ok (decoded_at Uri start here) (λ (x : List ℕ × Cursor). Ok (encode_utf8 c ++ x.0, x.1)) (text, u)
    one.next in
    let same = ok_same {A = List ℕ × Cursor} (encode_utf8 c ++ two.given.0, two.given.1) (text, u) two.next in
    let left : two.given.1 ≡ u = ap (λ (x : List ℕ × Cursor). x.1) same in
    let read = subst (λ (y : Cursor). decoded_characters Uri start 0 y.mark y.rest ≡ Ok two.given) first.place
    two.first in
    let others = subst (λ (y : Cursor). DecodedOf Uri (along m (length first.piece)) here.rest two.given.0 y) left
    (decoded_spelled Uri start (along m (length first.piece)) here.rest two.given.0 two.given.1 read) in
    let written = first.piece ++ others.piece in
    record {
      value = c ∷ others.value;
      written = written;
      is = (first.piece, others.piece, first.is, others.is, refl);
      bytes = ap (λ b. encode_utf8 c ++ b) others.bytes ∙ ap (λ (x : List ℕ × Cursor). x.0) same;
      rest = first.text ∙ ap (λ r. first.piece ++ r) others.rest ∙ sym (append_assoc first.piece others.piece u.rest);
      place = cc (along_more m (length first.piece) (length others.piece) (length written)
          (length-append first.piece others.piece));
    }

pub record TagOf (d : ReadDirective) (m : Marker) (xs : List ℕ) (u : Cursor) : Type 0 where
  pub first : List ℕ
  pub handle : List ℕ
  pub second : List ℕ
  pub value : List ℕ
  pub written : List ℕ
  pub says : tag_prefix (encode_utf8_all handle) (encode_utf8_all value) ≡ d
  pub before : AreSomeBlanks first
  pub is_handle : IsHandleText handle
  pub whole : IsWholeHandle handle (second ++ written)
  pub between : AreIn is_blank second
  pub is_prefix : IsPrefix value written
  pub text : xs ≡ first ++ (handle ++ (second ++ (written ++ u.rest)))
  pub place : u ≡ mid_line (along m (length first + length handle + length second + length written)) u.rest

prefix_ended : (start : Marker) (h text : List ℕ) (d : ReadDirective) (k u : Cursor)
    → behind_prefix start h (text, k) ≡ Ok (d, u)
    → Chosen {A = ReadDirective × Cursor} (is_blank_or_breakz (slice_index k.rest 0)) (tag_prefix h text, k) (d, u)
unfolding behind_prefix
prefix_ended start h text d k u e = grind arith

no_mark_first : (c : ℕ) → is_blank_or_breakz c ≡ true → nat_eq c 33 ≡ false
no_mark_first c h = other_than is_blank_or_breakz 33 c refl h

-- the first character of a text, or none, is no character of the set
first_of : (set : ℕ → Bool) (xs more : List ℕ) → set 0 ≡ false → set (slice_index (xs ++ more) 0) ≡ false
    → set (slice_index xs 0) ≡ false
first_of set [] more none h = none
first_of set (c ∷ cs) more none h = h

-- What was read as the value of a tag directive is spelled as one. Its steps are taken apart: the handle and the
-- prefix are known by their own lemmas, and the blanks before them are runs. The first run is not empty, since the
-- directive's name ends where it begins.
pub tag_spelled : (start m : Marker) (xs : List ℕ) (d : ReadDirective) (u : Cursor)
    → is_blank_or_breakz (slice_index xs 0) ≡ true → tag_directive start (mid_line m xs) ≡ Ok (d, u) → TagOf d m xs u
unfolding tag_directive
tag_spelled start m xs d u begins h =
    let n = prefix_len is_blank xs in
    let first = take n xs in
    let one = bind_ok (handle start (pass_all_blanks (mid_line m xs)))
    (λ (h : List ℕ × Cursor). prefix start (pass_all_blanks h.1) >>= λ (x : List ℕ × Cursor). behind_prefix start h.0
    x) (d, u) h in
    let a = handle_spelled start (along m n) (drop n xs) one.given.0 one.given.1 one.first in
    let ys = one.given.1.rest in
    let o = prefix_len is_blank ys in
    let second = take o ys in
    let two = bind_ok (prefix start (pass_all_blanks one.given.1))
    (λ (x : List ℕ × Cursor). behind_prefix start one.given.0 x) (d, u) one.next in
    let ended = prefix_ended start one.given.0 two.given.0 d two.given.1 u two.next in
    let left : two.given.1 ≡ u = ap (λ (x : ReadDirective × Cursor). x.1) ended.same in
    let there = along (along m n) (length a.handle) in
    let read = subst (λ (y : Cursor). prefix start (pass_all_blanks y) ≡ Ok two.given) a.place two.first in
    let b = subst (λ (y : Cursor). PrefixOf (along there o) (drop o ys) two.given.0 y) left
    (prefix_spelled start (along there o) (drop o ys) two.given.0 two.given.1 read) in
    let says : tag_prefix one.given.0 two.given.0 ≡ d = ap (λ (x : ReadDirective × Cursor). x.0) ended.same in
    let total : length first + length a.handle + length second + length b.written
    ≡ n + length a.handle + o + length b.written = omega (arith, run_count is_blank xs, run_count is_blank ys) in
    let parted : ys ≡ (second ++ b.written) ++ u.rest =
    sym (take-append-drop o ys) ∙ ap (λ r. second ++ r) b.rest ∙ sym (append_assoc second b.written u.rest) in
    record {
      first = first;
      handle = a.handle;
      second = second;
      value = b.value;
      written = b.written;
      says = cc;
      before = (
        gap_some (λ c. nat_eq c 33) xs first (drop n xs) no_mark_first begins (sym (take-append-drop n xs))
            (rw a.begins refl),
        run_is_in is_blank xs,
      );
      is_handle = a.is;
      whole = λ alone. first_of (λ c. is_alpha c || nat_eq c 33) (second ++ b.written) u.rest refl
          (subst (λ r. (is_alpha (slice_index r 0) || nat_eq (slice_index r 0) 33) ≡ false) parted (a.whole alone));
      between = run_is_in is_blank ys;
      is_prefix = b.is;
      text = sym (take-append-drop n xs) ∙ ap (λ r. first ++ r) (a.rest
          ∙ ap (λ r. a.handle ++ r) (sym (take-append-drop o ys) ∙ ap (λ r. second ++ r) b.rest));
      place = b.place ∙ ap (λ k. mid_line k u.rest) (along_four m n (length a.handle) o (length b.written)
          (length first + length a.handle + length second + length b.written) total);
    }
