-- Each spelled tag is read.
use Rattle.saphyr_scalar.proofs.Common.{◌≡◌, ◌≢◌, ℕ, suc, ◌+◌, ◌≤◌, Bool, true, false, List, [], ◌∷◌, ◌++◌, length, length-append, append_assoc, take, drop, slice_index, nat_eq, Result, Ok, refl, sym, ap, ◌∙◌, arith, subst, encode_utf8_all, inl, inr, ◌&&◌, codes, encode_utf8, prefix_len, nat_tests, false≢true, false_from_ne_true, encodes-append, length-le-encodes, exclamation_mark, greater_than, is_alpha, is_tag_char, is_uri_char, is_blank, is_break, is_z, is_breakz, is_blank_or_breakz, is_flow, is_one_of, run_stops, Marker, Refusal, Suffix, Cursor, ◌>>=◌, along, and_true_right, other_than, by_test, either}
use Rattle.std.proofs.Math.Utf8.{encode}
use Rattle.saphyr_scalar.specs.Steps.Quoted.{with_front, mid_line}
use Rattle.saphyr_scalar.specs.Steps.Tag.{uri_character, decoded_characters, TagRead, verbatim_tag, verbatim_end, handle_of, named_tag, named_tail, primary_tag, tag_behind_word, shorthand_tag, tag, tag_end}
use Rattle.saphyr_scalar.specs.Spelling.Tag.{AreIn, IsDecoded, IsTagText, EndsTag}
use Rattle.saphyr_scalar.proofs.Moving.{along_none, along_more}
use Rattle.saphyr_scalar.proofs.Quoted.Inside.{front_twice, no_front}
use Rattle.saphyr_scalar.proofs.Properties.PercentEscapes.{decoded_one_more, reads_on}
use Rattle.saphyr_scalar.proofs.Properties.EscapesRead.{decoded_read, escape_first, character_first}
use Rattle.saphyr_scalar.proofs.Runs.{run_read}

abbrev parts_given : List ℕ → List ℕ → Cursor → Result TagRead Refusal
parts_given handle suffix s = Ok (handle, suffix, s)

-- a character that ends a tag
pub record StopsTag (c : ℕ) : Type 0 where
  pub no_alpha : is_alpha c ≡ false
  pub no_suffix : is_tag_char c ≡ false
  pub no_mark : nat_eq c 33 ≡ false
  pub no_uri : nat_eq c 60 ≡ false

same_as : (c n : ℕ) → nat_eq c n ≡ true → StopsTag n → StopsTag c
same_as c n h is = let e : n ≡ c = grind (arith, nat_tests) in subst StopsTag e is

pub stops_blank : (c : ℕ) → is_blank c ≡ true → StopsTag c
stops_blank c h = either (nat_eq c 32) (nat_eq c 9) (StopsTag c) h
    (λ e. same_as c 32 e (record { no_alpha = refl; no_suffix = refl; no_mark = refl; no_uri = refl }))
    (λ e. same_as c 9 e (record { no_alpha = refl; no_suffix = refl; no_mark = refl; no_uri = refl }))

stops_breakz : (c : ℕ) → is_breakz c ≡ true → StopsTag c
stops_breakz c h = either (is_break c) (is_z c) (StopsTag c) h
    (λ b. either (nat_eq c 10) (nat_eq c 13) (StopsTag c) b
    (λ e. same_as c 10 e (record { no_alpha = refl; no_suffix = refl; no_mark = refl; no_uri = refl }))
    (λ e. same_as c 13 e (record { no_alpha = refl; no_suffix = refl; no_mark = refl; no_uri = refl })))
    (λ e. same_as c 0 e (record { no_alpha = refl; no_suffix = refl; no_mark = refl; no_uri = refl }))

stops_flow : (c : ℕ) → is_flow c ≡ true → StopsTag c
stops_flow c h = either (nat_eq c 44) (is_one_of (91 ∷ 93 ∷ 123 ∷ 125 ∷ []) c) (StopsTag c) h
    (λ e. same_as c 44 e (record { no_alpha = refl; no_suffix = refl; no_mark = refl; no_uri = refl }))
    (λ h. either (nat_eq c 91) (is_one_of (93 ∷ 123 ∷ 125 ∷ []) c) (StopsTag c) h
    (λ e. same_as c 91 e (record { no_alpha = refl; no_suffix = refl; no_mark = refl; no_uri = refl }))
    (λ h. either (nat_eq c 93) (is_one_of (123 ∷ 125 ∷ []) c) (StopsTag c) h
    (λ e. same_as c 93 e (record { no_alpha = refl; no_suffix = refl; no_mark = refl; no_uri = refl }))
    (λ h. either (nat_eq c 123) (is_one_of (125 ∷ []) c) (StopsTag c) h
    (λ e. same_as c 123 e (record { no_alpha = refl; no_suffix = refl; no_mark = refl; no_uri = refl }))
    (λ h. either (nat_eq c 125) (is_one_of [] c) (StopsTag c) h
    (λ e. same_as c 125 e (record { no_alpha = refl; no_suffix = refl; no_mark = refl; no_uri = refl }))
    (λ h. absurd (cc))))))

pub stops : (in_flow : Bool) (x : List ℕ) → EndsTag in_flow x → StopsTag (slice_index x 0)
stops in_flow x h =
    let c = slice_index x 0 in
    either (is_blank_or_breakz c) (in_flow && is_flow c) (StopsTag c) h
    (λ b. either (is_blank c) (is_breakz c) (StopsTag c) b (stops_blank c) (stops_breakz c))
    (λ b. stops_flow c (and_true_right in_flow (is_flow c) b))

alpha_no_flow : (c : ℕ) → is_alpha c ≡ true → is_flow c ≡ false
alpha_no_flow c h = false_from_ne_true (is_flow c) (λ e. absurd (false≢true (sym (stops_flow c e).no_alpha ∙ h)))

alpha_uri : (c : ℕ) → is_alpha c ≡ true → is_uri_char c ≡ true
alpha_uri c h = grind arith

-- characters of words are characters of suffixes, and no percent sign
alpha_tag : (c : ℕ) → is_alpha c ≡ true → is_tag_char c ≡ true
alpha_tag c h = rw (alpha_uri c h, alpha_no_flow c h, other_than is_alpha 33 c refl h) refl

alpha_plain : (c : ℕ) → is_alpha c ≡ true → nat_eq c 37 ≡ false
alpha_plain c h = other_than is_alpha 37 c refl h

plain_character : (start m : Marker) (c : ℕ) (cs : List ℕ) → nat_eq c 37 ≡ false
    → uri_character start (mid_line m (c ∷ cs)) ≡ Ok (c, mid_line (along m 1) cs)
unfolding uri_character
plain_character start m c cs h = rw h refl

alpha_first : (start m : Marker) (c : ℕ) (cs : List ℕ) → is_alpha c ≡ true
    → decoded_characters Suffix start 0 m (c ∷ cs) ≡ with_front (encode_utf8 c) (decoded_characters Suffix start 0
    (along m 1) cs)
alpha_first start m c cs h = decoded_one_more Suffix start m (c ∷ cs) (alpha_tag c h)
    ∙ ap (reads_on Suffix start) (plain_character start m c cs (alpha_plain c h))

-- a word that was read before the rest of a suffix
pub alpha_on : (start m : Marker) (xs : List ℕ)
    → with_front (encode_utf8_all (take (prefix_len is_alpha xs) xs))
    (decoded_characters Suffix start 0 (along m (prefix_len is_alpha xs)) (drop (prefix_len is_alpha xs) xs))
    ≡ decoded_characters Suffix start 0 m xs
alpha_on start m [] = no_front _ ∙ ap (λ k. decoded_characters Suffix start 0 k []) (along_none m)
alpha_on start m (c ∷ cs) =
    let n = prefix_len is_alpha cs in
    let one : 1 + n ≡ suc n = omega arith in
    let word = encode_utf8_all (take n cs) in
    by_test (is_alpha c) (1 + n) 0
    (λ k. with_front (encode_utf8_all (take k (c ∷ cs)))
    (decoded_characters Suffix start 0 (along m k) (drop k (c ∷ cs))) ≡ decoded_characters Suffix start 0 m (c ∷ cs))
    (λ h. rw one (ap (λ k. with_front (encode_utf8 c ++ word) (decoded_characters Suffix start 0 k (drop n cs)))
    (sym (along_more m 1 n (suc n) (omega arith))) ∙ sym (front_twice (encode_utf8 c) word _)
    ∙ ap (with_front (encode_utf8 c)) (alpha_on start (along m 1) cs) ∙ sym (alpha_first start m c cs h)))
    (λ h. no_front _ ∙ ap (λ k. decoded_characters Suffix start 0 k (c ∷ cs)) (along_none m))

-- no `!` comes after the word that a suffix begins with
abbrev NoMark : List ℕ → Type 0
NoMark u = nat_eq (slice_index (drop (prefix_len is_alpha u) u) 0) 33 ≡ false

at_once : (u : List ℕ) → is_alpha (slice_index u 0) ≡ false → nat_eq (slice_index u 0) 33 ≡ false → NoMark u
at_once u no_alpha no_mark = rw (run_stops is_alpha u no_alpha) no_mark

one_on : (c : ℕ) (u : List ℕ) → is_tag_char c ≡ true → NoMark u → NoMark (c ∷ u)
one_on c u in_set h =
    let n = prefix_len is_alpha u in
    let one : 1 + n ≡ suc n = omega arith in
    by_test (is_alpha c) (1 + n) 0 (λ k. nat_eq (slice_index (drop k (c ∷ u)) 0) 33 ≡ false) (λ _. rw one h)
    (λ _. other_than is_tag_char 33 c refl in_set)

no_second_mark : (v t x : List ℕ) → IsDecoded is_tag_char v t → StopsTag (slice_index x 0) → NoMark (t ++ x)
no_second_mark [] t x e stop = rw e (at_once x stop.no_alpha stop.no_mark)
no_second_mark (c ∷ v) t x (character, more, inl (in_set, plain, is), others, e) stop =
    grind (arith, nat_tests, one_on, no_second_mark v more x others stop)
no_second_mark (c ∷ v) t x (character, more, inr (scalar, escaped), others, e) stop =
    grind (arith, nat_tests, append_assoc, escape_first, at_once)

-- no `<` comes after the `!` of a tag with a handle
suffix_first : (v t x : List ℕ) → IsDecoded is_tag_char v t → StopsTag (slice_index x 0)
    → nat_eq (slice_index (t ++ x) 0) 60 ≡ false
suffix_first [] t x e stop = rw e stop.no_uri
suffix_first (c ∷ v) t x (character, more, is, others, e) stop =
    let whole : t ++ x ≡ character ++ (more ++ x) = ap (λ u. u ++ x) e ∙ append_assoc character more x in
    rw whole (other_than is_tag_char 60 _ refl (character_first Suffix c character (more ++ x) is))

word_first : (w y : List ℕ) → AreIn is_alpha w → nat_eq (slice_index (w ++ (exclamation_mark ∷ y)) 0) 60 ≡ false
word_first [] y are = refl
word_first (c ∷ w) y (is, are) = other_than is_alpha 60 c refl is

abbrev pub then_primary : Result (List ℕ × Cursor) Refusal → Result TagRead Refusal
then_primary r = r >>= λ y. Ok (primary_tag y)

abbrev primary_given : List ℕ → Cursor → Result TagRead Refusal
primary_given v s = Ok (primary_tag (v, s))

-- a suffix after `!`
primary_read : (m : Marker) (v back x : List ℕ) → IsDecoded is_tag_char v back → StopsTag (slice_index x 0)
    → shorthand_tag (mid_line m (exclamation_mark ∷ (back ++ x))) ≡ Ok
    (primary_tag (encode_utf8_all v, mid_line (along m (1 + length back)) x))
unfolding shorthand_tag tag_behind_word
primary_read m v back x is stop = rw (no_second_mark v back x is stop)
    (ap then_primary (alpha_on m (along m 1) (back ++ x))
    ∙ ap then_primary (decoded_read Suffix m (along m 1) v back x is stop.no_suffix)
    ∙ ap (λ k. primary_given (encode_utf8_all v) (mid_line k x)) (along_more m 1 (length back) (1 + length back) refl))

pub some_bytes : (v : List ℕ) → v ≢ [] → nat_eq (length (encode_utf8_all v)) 0 ≡ false
some_bytes [] some = absurd (some refl)
some_bytes (c ∷ v) some =
    let le : length (c ∷ v) ≤ length (encode_utf8_all (c ∷ v)) = length-le-encodes (c ∷ v) in grind (arith, nat_tests)

primary_of_some : (v : List ℕ) (s : Cursor) → v ≢ []
    → primary_tag (encode_utf8_all v, s) ≡ (codes "!", encode_utf8_all v, s)
unfolding primary_tag
primary_of_some v s some = rw (some_bytes v some) refl

primary_of_none : (s : Cursor) → primary_tag ([], s) ≡ ([], codes "!", s)
unfolding primary_tag
primary_of_none s = refl

named_of_some : (start : Marker) (word v : List ℕ) (s : Cursor) → v ≢ []
    → named_tag start word (encode_utf8_all v, s) ≡ Ok (handle_of word, encode_utf8_all v, s)
unfolding named_tag
named_of_some start word v s some = rw (some_bytes v some) refl

behind_named : (start m : Marker) (word v back x : List ℕ) → v ≢ [] → IsDecoded is_tag_char v back
    → StopsTag (slice_index x 0)
    → tag_behind_word start (word, mid_line m (exclamation_mark ∷ (back ++ x)))
    ≡ Ok (handle_of word, encode_utf8_all v, mid_line (along m (1 + length back)) x)
unfolding tag_behind_word named_tail
behind_named start m word v back x some is stop =
    grind (arith, decoded_read, named_of_some, encode_utf8_all, along_more)

-- a suffix after `!!` or `!word!`
named_read : (m : Marker) (w v back x : List ℕ) → AreIn is_alpha w → v ≢ [] → IsDecoded is_tag_char v back
    → StopsTag (slice_index x 0)
    → shorthand_tag (mid_line m (exclamation_mark ∷ (w ++ (exclamation_mark ∷ (back ++ x)))))
    ≡ Ok (handle_of (encode_utf8_all w), encode_utf8_all v, mid_line (along m (2 + length w + length back)) x)
unfolding shorthand_tag
named_read m w v back x are some is stop =
    let k = along (along m 1) (length w) in
    ap (tag_behind_word m) (run_read is_alpha (along m 1) w (33 ∷ (back ++ x)) are refl)
    ∙ behind_named m k (encode_utf8_all w) v back x some is stop
    ∙ ap (λ j. parts_given (handle_of (encode_utf8_all w)) (encode_utf8_all v) (mid_line j x))
    (ap (λ j. along j (1 + length back)) (along_more m 1 (length w) (1 + length w) refl)
    ∙ along_more m (1 + length w) (1 + length back) (2 + length w + length back) (omega arith))

-- The whole tag.

pub tag_same : (in_flow : Bool) (s : Cursor) → tag in_flow s ≡ tag in_flow (mid_line s.mark s.rest)
unfolding tag shorthand_tag verbatim_tag
tag_same in_flow s = refl

tag_ends : (in_flow : Bool) (start k : Marker) (handle suffix x : List ℕ) → EndsTag in_flow x
    → tag_end in_flow start (handle, suffix, mid_line k x) ≡ Ok (handle, suffix, mid_line k x)
unfolding tag_end
tag_ends in_flow start k handle suffix x ends = rw ends refl

abbrev then_end : Bool → Marker → Result TagRead Refusal → Result TagRead Refusal
then_end in_flow start r = r >>= λ p. tag_end in_flow start p

shorthand_read : (in_flow : Bool) (m k : Marker) (ys handle suffix x : List ℕ) → nat_eq (slice_index ys 0) 60 ≡ false
    → EndsTag in_flow x → shorthand_tag (mid_line m (exclamation_mark ∷ ys)) ≡ Ok (handle, suffix, mid_line k x)
    → tag in_flow (mid_line m (exclamation_mark ∷ ys)) ≡ Ok (handle, suffix, mid_line k x)
unfolding tag
shorthand_read in_flow m k ys handle suffix x no_uri ends read =
    rw no_uri (ap (then_end in_flow m) read ∙ tag_ends in_flow m k handle suffix x ends)

uri_ends : (start m : Marker) (suffix x : List ℕ)
    → verbatim_end start (suffix, mid_line m (greater_than ∷ x)) ≡ Ok ([], suffix, mid_line (along m 1) x)
unfolding verbatim_end
uri_ends start m suffix x = refl

abbrev ReadsTag : Bool → Marker → List ℕ → List ℕ → List ℕ → List ℕ → Type 0
ReadsTag in_flow m t handle suffix x = tag in_flow (mid_line m (t ++ x)) ≡ Ok
    (encode_utf8_all handle, encode_utf8_all suffix, mid_line (along m (length t)) x)

pub mark_bytes : encode_utf8_all (codes "!") ≡ codes "!"
unfolding encode
mark_bytes = refl

pub bytes_of_handle : (w : List ℕ) → handle_of (encode_utf8_all w) ≡ encode_utf8_all (codes "!" ++ (w ++ codes "!"))
unfolding encode
bytes_of_handle w = sym (ap (λ t. 33 ∷ t) (encodes-append w (33 ∷ [])))

reads_non_specific : (in_flow : Bool) (m : Marker) (x : List ℕ) → EndsTag in_flow x
    → ReadsTag in_flow m (codes "!") [] (codes "!") x
reads_non_specific in_flow m x ends =
    let stop = stops in_flow x ends in
    shorthand_read in_flow m (along m 1) x [] (codes "!") x stop.no_uri ends
    (primary_read m [] [] x refl stop ∙ ap Ok (primary_of_none (mid_line (along m 1) x)))
    ∙ ap (λ v. parts_given [] v (mid_line (along m 1) x)) (sym mark_bytes)

reads_primary : (in_flow : Bool) (m : Marker) (v back x : List ℕ) → v ≢ [] → IsDecoded is_tag_char v back
    → EndsTag in_flow x → ReadsTag in_flow m (codes "!" ++ back) (codes "!") v x
reads_primary in_flow m v back x some is ends =
    let stop = stops in_flow x ends in
    let k = along m (1 + length back) in
    shorthand_read in_flow m k (back ++ x) (codes "!") (encode_utf8_all v) x (suffix_first v back x is stop) ends
    (primary_read m v back x is stop ∙ ap Ok (primary_of_some v (mid_line k x) some))
    ∙ ap (λ h. parts_given h (encode_utf8_all v) (mid_line k x)) (sym mark_bytes)
    ∙ ap (λ n. parts_given (encode_utf8_all (codes "!")) (encode_utf8_all v) (mid_line (along m n) x)) (omega arith)

reads_named : (in_flow : Bool) (m : Marker) (w v back x : List ℕ) → AreIn is_alpha w → v ≢ []
    → IsDecoded is_tag_char v back → EndsTag in_flow x
    → ReadsTag in_flow m ((codes "!" ++ (w ++ codes "!")) ++ back) (codes "!" ++ (w ++ codes "!")) v x
reads_named in_flow m w v back x are some is ends =
    let handle = codes "!" ++ (w ++ codes "!") in
    let whole : (handle ++ back) ++ x ≡ 33 ∷ (w ++ (33 ∷ (back ++ x))) = ap (λ u. 33 ∷ u) (simp append_assoc) in
    let len : 2 + length w + length back ≡ length (handle ++ back) =
    rw (length-append handle back) (omega (arith, length-append w (codes "!"))) in
    let k = along m (2 + length w + length back) in
    cc (
      shorthand_read in_flow m k (w ++ (33 ∷ (back ++ x))) (handle_of (encode_utf8_all w)) (encode_utf8_all v) x
          (word_first w (back ++ x) are) ends (named_read m w v back x are some is (stops in_flow x ends)),
      bytes_of_handle w,
    )

reads_verbatim : (in_flow : Bool) (m : Marker) (v inside x : List ℕ) → IsDecoded is_uri_char v inside
    → EndsTag in_flow x → ReadsTag in_flow m (codes "!<" ++ (inside ++ codes ">")) [] v x
unfolding tag verbatim_tag
reads_verbatim in_flow m v inside x is ends =
    grind (arith, length-append, append_assoc, encode_utf8_all, decoded_read, uri_ends, tag_ends, along_more)

reads_text : (in_flow : Bool) (m : Marker) (t handle suffix x : List ℕ) → IsTagText t handle suffix → EndsTag in_flow x
    → ReadsTag in_flow m t handle suffix x
reads_text in_flow m t handle suffix x u0 ends =
    grind (arith, reads_non_specific, reads_verbatim, reads_primary, reads_named)

pub reads_tag : (in_flow : Bool) (s : Cursor) (t handle suffix x : List ℕ) → s.rest ≡ t ++ x → IsTagText t handle suffix
    → EndsTag in_flow x → tag in_flow s
    ≡ Ok (encode_utf8_all handle, encode_utf8_all suffix, mid_line (along s.mark (length t)) x)
reads_tag in_flow s t handle suffix x e is ends = tag_same in_flow s ∙ ap (λ u. tag in_flow (mid_line s.mark u)) e
    ∙ reads_text in_flow s.mark t handle suffix x is ends
