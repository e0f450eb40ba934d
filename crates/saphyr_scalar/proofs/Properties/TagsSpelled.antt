-- What is read as a tag is spelled so.
use Rattle.saphyr_scalar.proofs.Common.{◌≡◌, ◌≢◌, ℕ, ◌+◌, Bool, true, false, List, [], ◌∷◌, ◌++◌, length, length-append, append_assoc, take, drop, slice_index, nat_eq, cond, Result, Ok, refl, sym, ap, ◌∙◌, arith, subst, encode_utf8_all, inl, inr, codes, prefix_len, false≢true, eqb-true, take-append-drop, length-take-le, prefix_len-le-length, exclamation_mark, greater_than, less_than, is_alpha, Marker, Refusal, Uri, Suffix, Cursor, along, pass, by_test}
use Rattle.saphyr_scalar.specs.Steps.Quoted.{mid_line}
use Rattle.saphyr_scalar.specs.Steps.Tag.{decoded_characters, TagRead, verbatim_tag, verbatim_end, handle_of, named_tag, named_tail, primary_tag, tag_behind_word, shorthand_tag, tag, tag_end}
use Rattle.saphyr_scalar.specs.Spelling.Tag.{AreIn, IsTagText, EndsTag}
use Rattle.saphyr_scalar.proofs.Moving.{along_more}
use Rattle.saphyr_scalar.proofs.Runs.{run_is_in}
use Rattle.saphyr_scalar.proofs.Properties.TagsRead.{some_bytes, alpha_on, bytes_of_handle, mark_bytes, then_primary, tag_same}
use Rattle.saphyr_scalar.proofs.Properties.EscapesSpelled.{decoded_spelled, DecodedOf}
use Rattle.saphyr_scalar.proofs.Steps.{bind_ok, ok_same}
use Rattle.saphyr_scalar.proofs.Places.{along_three, along_four}

pub record TagOf (m : Marker) (xs front back : List ℕ) (u : Cursor) : Type 0 where
  pub written : List ℕ
  pub handle : List ℕ
  pub suffix : List ℕ
  pub text : xs ≡ written ++ u.rest
  pub is : IsTagText written handle suffix
  pub place : u ≡ mid_line (along m (length written)) u.rest
  pub front_bytes : encode_utf8_all handle ≡ front
  pub back_bytes : encode_utf8_all suffix ≡ back

-- a place that shows a character that is no NUL has it
pub cut_at : (n : ℕ) (xs : List ℕ) → nat_eq n 0 ≡ false → slice_index xs 0 ≡ n → xs ≡ n ∷ drop 1 xs
cut_at n xs some h = grind arith

verbatim_at : (m : Marker) (xs text : List ℕ) (k : Cursor) → DecodedOf Uri (along m 2) xs text k
    → slice_index k.rest 0 ≡ greater_than → TagOf m (exclamation_mark ∷ less_than ∷ xs) [] text (pass 1 k)
verbatim_at m xs text k is ends =
    let written = codes "!<" ++ (is.piece ++ codes ">") in
    let len : length written ≡ 2 + length is.piece + 1 = omega (arith, length-append is.piece (codes ">")) in
    record {
      written = written;
      handle = [];
      suffix = is.value;
      text = cc (cut_at 62 k.rest refl ends, append_assoc is.piece (codes ">") (drop 1 k.rest));
      is = inr (inl (is.piece, is.is, refl, refl));
      place = ap (pass 1) is.place
          ∙ ap (λ j. mid_line j (drop 1 k.rest)) (along_three m 2 (length is.piece) 1 (length written) len);
      front_bytes = refl;
      back_bytes = is.bytes;
    }

verbatim_ended : (start : Marker) (text front back : List ℕ) (k u : Cursor)
    → verbatim_end start (text, k) ≡ Ok (front, back, u)
    → (slice_index k.rest 0 ≡ greater_than) × (let p : TagRead = ([], text, pass 1 k) in p ≡ (front, back, u))
unfolding verbatim_end
verbatim_ended start text front back k u h = grind arith

abbrev Of : Marker → List ℕ → TagRead → Type 0
Of m xs p = TagOf m xs p.0 p.1 p.2

verbatim_spelled : (m : Marker) (xs front back : List ℕ) (u : Cursor)
    → verbatim_tag (mid_line m (exclamation_mark ∷ less_than ∷ xs)) ≡ Ok (front, back, u)
    → TagOf m (exclamation_mark ∷ less_than ∷ xs) front back u
unfolding verbatim_tag
verbatim_spelled m xs front back u h =
    let one = bind_ok (decoded_characters Uri m 0 (along m 2) xs) (λ (x : List ℕ × Cursor). verbatim_end m x)
    (front, back, u) h in
    let ended = verbatim_ended m one.given.0 front back one.given.1 u one.next in
    subst (Of m (33 ∷ 60 ∷ xs)) ended.1 (verbatim_at m xs one.given.0 one.given.1
    (decoded_spelled Uri m (along m 2) xs one.given.0 one.given.1 one.first) ended.0)

pub none_value : (v : List ℕ) → nat_eq (length (encode_utf8_all v)) 0 ≡ true → v ≡ []
none_value [] h = refl
none_value (c ∷ v) h = let k : false ≡ true = sym (some_bytes (c ∷ v) (λ e. cc)) ∙ h in absurd (false≢true k)

pub some_value : (v : List ℕ) → nat_eq (length (encode_utf8_all v)) 0 ≡ false → v ≢ []
some_value v h e = absurd (false≢true (sym h ∙ ap (λ u. nat_eq (length (encode_utf8_all u)) 0) e))

abbrev none_text : List ℕ → Bool
none_text text = nat_eq (length text) 0

-- `!` alone
non_specific_at : (m : Marker) (xs text : List ℕ) (k : Cursor) → DecodedOf Suffix (along m 1) xs text k
    → none_text text ≡ true → TagOf m (exclamation_mark ∷ xs) [] (codes "!") k
non_specific_at m xs text k is none =
    let piece : is.piece ≡ [] = rw (none_value is.value (ap none_text is.bytes ∙ none)) at is.is in
    record {
      written = codes "!";
      handle = [];
      suffix = codes "!";
      text = ap (λ r. 33 ∷ r) (is.rest ∙ ap (λ r. r ++ k.rest) piece);
      is = inl (refl, refl, refl);
      place = is.place ∙ ap (λ j. mid_line j k.rest) (along_more m 1 (length is.piece) 1 (rw piece refl));
      front_bytes = refl;
      back_bytes = mark_bytes;
    }

-- `!` and a suffix
primary_at : (m : Marker) (xs text : List ℕ) (k : Cursor) → DecodedOf Suffix (along m 1) xs text k
    → none_text text ≡ false → TagOf m (exclamation_mark ∷ xs) (codes "!") text k
primary_at m xs text k is some =
    let written = codes "!" ++ is.piece in
    record {
      written = written;
      handle = codes "!";
      suffix = is.value;
      text = ap (λ r. 33 ∷ r) is.rest;
      is = inr (inr (is.piece, inl refl, some_value is.value (ap none_text is.bytes ∙ some), is.is, refl));
      place = is.place ∙ ap (λ j. mid_line j k.rest) (along_more m 1 (length is.piece) (length written) (omega arith));
      front_bytes = mark_bytes;
      back_bytes = is.bytes;
    }

primary_spelled : (m : Marker) (xs text : List ℕ) (k : Cursor) → DecodedOf Suffix (along m 1) xs text k
    → Of m (exclamation_mark ∷ xs) (primary_tag (text, k))
unfolding primary_tag
primary_spelled m xs text k is =
    by_test {A = TagRead} (none_text text) ([], codes "!", k) (codes "!", text, k) (Of m (33 ∷ xs))
    (non_specific_at m xs text k is) (primary_at m xs text k is)

-- a handle of a word, and a suffix
named_at : (m : Marker) (n : ℕ) (w xs text : List ℕ) (k : Cursor) → length w ≡ n → AreIn is_alpha w
    → DecodedOf Suffix (along (along (along m 1) n) 1) xs text k → none_text text ≡ false
    → TagOf m (exclamation_mark ∷ (w ++ (exclamation_mark ∷ xs))) (handle_of (encode_utf8_all w)) text k
named_at m n w xs text k len are is some =
    let handle = codes "!" ++ (w ++ codes "!") in
    let written = handle ++ is.piece in
    let total : length written ≡ 1 + n + 1 + length is.piece = rw (length-append handle is.piece)
    (omega (arith, length-append w (codes "!"))) in
    record {
      written = written;
      handle = handle;
      suffix = is.value;
      text = ap (λ r. 33 ∷ (w ++ (33 ∷ r))) is.rest ∙ ap (λ r. 33 ∷ r) (simp append_assoc);
      is = inr (inr (is.piece, inr (w, are, refl), some_value is.value (ap none_text is.bytes ∙ some), is.is, refl));
      place = is.place ∙ ap (λ j. mid_line j k.rest) (along_four m 1 n 1 (length is.piece) (length written) total);
      front_bytes = sym (bytes_of_handle w);
      back_bytes = is.bytes;
    }

named_ended : (start : Marker) (word text front back : List ℕ) (k u : Cursor)
    → named_tag start word (text, k) ≡ Ok (front, back, u)
    → (none_text text ≡ false) × (let p : TagRead = (handle_of word, text, k) in p ≡ (front, back, u))
unfolding named_tag
named_ended start word text front back k u h = grind arith

named_spelled : (m : Marker) (n : ℕ) (w xs front back : List ℕ) (u : Cursor) → length w ≡ n → AreIn is_alpha w
    → named_tail m (encode_utf8_all w) (mid_line (along (along (along m 1) n) 1) xs) ≡ Ok (front, back, u)
    → TagOf m (exclamation_mark ∷ (w ++ (exclamation_mark ∷ xs))) front back u
unfolding named_tail
named_spelled m n w xs front back u len are h =
    let there = along (along (along m 1) n) 1 in
    let one = bind_ok (decoded_characters Suffix m 0 there xs)
    (λ (x : List ℕ × Cursor). named_tag m (encode_utf8_all w) x) (front, back, u) h in
    let ended = named_ended m (encode_utf8_all w) one.given.0 front back one.given.1 u one.next in
    subst (Of m (33 ∷ (w ++ (33 ∷ xs)))) ended.1 (named_at m n w xs one.given.0 one.given.1 len are
    (decoded_spelled Suffix m there xs one.given.0 one.given.1 one.first) ended.0)

shorthand_spelled : (m : Marker) (xs front back : List ℕ) (u : Cursor)
    → shorthand_tag (mid_line m (exclamation_mark ∷ xs)) ≡ Ok (front, back, u)
    → TagOf m (exclamation_mark ∷ xs) front back u
unfolding shorthand_tag tag_behind_word
shorthand_spelled m xs front back u =
    let n = prefix_len is_alpha xs in
    let w = take n xs in
    let left = drop n xs in
    by_test (nat_eq (slice_index left 0) 33) _ _
    (λ (r : Result TagRead Refusal). r ≡ Ok (front, back, u) → TagOf m (33 ∷ xs) front back u) (λ mark h.
    let more : left ≡ 33 ∷ drop 1 left = cut_at 33 left refl (eqb-true (slice_index left 0) 33 mark) in
    let whole : w ++ (33 ∷ drop 1 left) ≡ xs = ap (λ r. w ++ r) (sym more) ∙ take-append-drop n xs in
    let len : length w ≡ n = length-take-le n xs (prefix_len-le-length is_alpha xs) in
    rw whole at (named_spelled m n w (drop 1 left) front back u len (run_is_in is_alpha xs) h)) (λ _ h.
    let all = sym (ap then_primary (alpha_on m (along m 1) xs)) ∙ h in
    let one = bind_ok (decoded_characters Suffix m 0 (along m 1) xs) (λ (x : List ℕ × Cursor). Ok (primary_tag x))
    (front, back, u) all in
    let same = ok_same {A = TagRead} (primary_tag one.given) (front, back, u) one.next in
    rw same at (primary_spelled m xs one.given.0 one.given.1
    (decoded_spelled Suffix m (along m 1) xs one.given.0 one.given.1 one.first)))

tag_ended : (in_flow : Bool) (start : Marker) (p : TagRead) (front back : List ℕ) (u : Cursor)
    → tag_end in_flow start p ≡ Ok (front, back, u) → EndsTag in_flow u.rest × (p ≡ (front, back, u))
unfolding tag_end
tag_ended in_flow start p front back u h = grind arith

abbrev Read : Bool → Marker → List ℕ → List ℕ → List ℕ → Cursor → Type 0
Read in_flow m xs front back u = TagOf m xs front back u × EndsTag in_flow u.rest

tag_spelled : (in_flow : Bool) (m : Marker) (xs front back : List ℕ) (u : Cursor)
    → tag in_flow (mid_line m (exclamation_mark ∷ xs)) ≡ Ok (front, back, u)
    → Read in_flow m (exclamation_mark ∷ xs) front back u
unfolding tag
tag_spelled in_flow m xs front back u h =
    let s = mid_line m (33 ∷ xs) in
    let one = bind_ok (cond (nat_eq (slice_index xs 0) 60) (verbatim_tag s) (shorthand_tag s))
    (λ (p : TagRead). tag_end in_flow m p) (front, back, u) h in
    let ended = tag_ended in_flow m one.given front back u one.next in
    let p = one.given in
    let is : Of m (33 ∷ xs) p = by_test (nat_eq (slice_index xs 0) 60) (verbatim_tag s) (shorthand_tag s)
    (λ (r : Result TagRead Refusal). r ≡ Ok p → Of m (33 ∷ xs) p) (λ less v.
    let more : xs ≡ 60 ∷ drop 1 xs = cut_at 60 xs refl (eqb-true (slice_index xs 0) 60 less) in
    let v2 = subst (λ r. verbatim_tag (mid_line m (33 ∷ r)) ≡ Ok p) more v in
    subst (λ r. Of m (33 ∷ r) p) (sym more) (verbatim_spelled m (drop 1 xs) p.0 p.1 p.2 v2))
    (λ _ v. shorthand_spelled m xs p.0 p.1 p.2 v) one.first in
    (subst (Of m (33 ∷ xs)) ended.1 is, ended.0)

pub spells_tag : (in_flow : Bool) (s u : Cursor) (front back : List ℕ) → slice_index s.rest 0 ≡ exclamation_mark
    → tag in_flow s ≡ Ok (front, back, u)
    → (t : List ℕ) × (handle : List ℕ) × (suffix : List ℕ) × (s.rest ≡ t ++ u.rest) × IsTagText t handle suffix
    × EndsTag in_flow u.rest × (u ≡ mid_line (along s.mark (length t)) u.rest) × (encode_utf8_all handle ≡ front)
    × (encode_utf8_all suffix ≡ back)
spells_tag in_flow s u front back begins read =
    let more : s.rest ≡ 33 ∷ drop 1 s.rest = cut_at 33 s.rest refl begins in
    let here = sym (tag_same in_flow s) ∙ read in
    let is = tag_spelled in_flow s.mark (drop 1 s.rest) front back u (rw more at here) in
    let all = is.0 in
    (all.written, all.handle, all.suffix, more ∙ all.text, all.is, is.1, all.place, all.front_bytes, all.back_bytes)
