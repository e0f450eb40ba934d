-- The steps of a tag whose handle and suffix are put behind a text, where each place is told again.
use Rattle.std.proofs.Common.{◌≡◌, append-nil, append_assoc, Bool, ℕ, ◌+◌, ◌<◌, true, false, List, [], ◌∷◌, ◌++◌, drop, length, slice_index, take, Result, Ok, Err, refl, sym, ap, ◌∙◌, arith}
use Rattle.std.specs.Prelude.{◌==◌, codes, encode_utf8, encode_utf8_all}
use Rattle.saphyr_scalar.proofs.Common.{drop-append_seam, nat_tests, encode_ascii, is_alpha, is_tag_char, exclamation_mark, greater_than, Refusal, Suffix, Marker, Cursor, ◌>>=◌, along, pass, is_missing, refuse, refuse_open}
use Rattle.std.proofs.lemmas.List.{get_or-drop, length-append, nil_from_length}
use Rattle.saphyr_scalar.specs.declared.scalar.fault.FaultText.TheVariants as fault
use Rattle.saphyr_scalar.specs.Steps.Quoted.{TextRead, mid_line, with_front, with_run}
use Rattle.saphyr_scalar.specs.Steps.Tag.{TagBehind, TagRead, decoded_at, decoded_characters, decoded_onto, handle_of, is_behind_tag, named_tag, named_tail, primary_tag, tag_behind_word, shorthand_tag, tag_end, verbatim_end, with_tag, with_word}
use Rattle.saphyr_scalar.proofs.Given.{text_given}
use Rattle.saphyr_scalar.proofs.Moving.{along_more, along_none, drop_more}
use Rattle.saphyr_scalar.proofs.NoSeparation.{no_run}
use Rattle.saphyr_scalar.proofs.Properties.TagsRead.{then_primary}
use Rattle.saphyr_scalar.proofs.Steps.{ok_same}

abbrev pub tag_given : ℕ → List ℕ → Cursor → Result TagBehind Refusal
tag_given handle text t = Ok (handle, text, t)

-- ## After a text was read behind another

-- A step on what was read fails where reading failed.
pub step_refused : (before here : List ℕ) (read : TextRead) (f : List ℕ × Cursor → Result TagRead Refusal) (r : Refusal)
    → with_front here read ≡ Err r → with_tag before (read >>= f) ≡ Err r
step_refused before here (Ok x) f r h = absurd (cc)
step_refused before here (Err e) f r h = grind arith

-- what was read behind a text, and the text that it was read behind
pub front_behind : (before grown : List ℕ) (read : TextRead) (t : Cursor) → with_front before read ≡ Ok (grown, t)
    → (read ≡ text_given (drop (length before) grown) t) × (grown ≡ before ++ drop (length before) grown)
front_behind before grown u0 t h = grind (arith, ok_same, drop-append_seam, drop)

-- `>` ends a verbatim tag
pub verbatim_ended : (start : Marker) (before grown : List ℕ) (read : TextRead) (t u : Cursor)
    → with_front before read ≡ Ok (grown, t) → slice_index t.rest 0 ≡ greater_than → u ≡ pass 1 t
    → with_tag before (read >>= verbatim_end start) ≡ tag_given 0 grown u
unfolding verbatim_end
verbatim_ended start before grown read t u h ends past = grind (arith, front_behind, nat_tests, append-nil)

pub verbatim_open : (start : Marker) (before grown : List ℕ) (read : TextRead) (t : Cursor)
    → with_front before read ≡ Ok (grown, t) → (slice_index t.rest 0 ≡ greater_than → ⊥)
    → with_tag before (read >>= verbatim_end start)
    ≡ refuse_open (is_missing 0 t.rest) fault.VerbatimTagEndExpected start
unfolding verbatim_end
verbatim_open start before grown read t h more = grind (arith, front_behind, nat_tests)

-- a suffix behind a handle with a word
pub named_ended : (start : Marker) (before word here grown : List ℕ) (read : TextRead) (t : Cursor)
    → here ≡ before ++ handle_of word → with_front here read ≡ Ok (grown, t) → (length grown ≡ length here → ⊥)
    → with_tag before (read >>= named_tag start word) ≡ tag_given (length (handle_of word)) grown t
unfolding named_tag
named_ended start before word here grown read t is h some = grind (arith, front_behind, length-append, nat_tests)

pub named_alone : (start : Marker) (before word here grown : List ℕ) (read : TextRead) (t : Cursor)
    → with_front here read ≡ Ok (grown, t) → length grown ≡ length here
    → with_tag before (read >>= named_tag start word) ≡ refuse_open (is_missing 0 t.rest) fault.TagSuffixExpected start
unfolding named_tag
named_alone start before word here grown read t h none = grind (arith, front_behind, length-append, nat_tests)

-- ## After the word of a handle

mark_encoded : encode_utf8 exclamation_mark ≡ codes "!"
mark_encoded = encode_ascii 33 (omega arith)

-- `!` and a word were put behind a text
pub record BehindWord (s look : Cursor) (before grown : List ℕ) (c : ℕ) : Type 0 where
  pub word : List ℕ
  pub is : with_run is_alpha [] (pass 1 s) ≡ (word, look)
  pub text : grown ≡ (before ++ codes "!") ++ word
  pub read : c ≡ slice_index look.rest 0

pub behind_word : (s look : Cursor) (before grown : List ℕ) (c : ℕ) → with_word before s ≡ Ok (grown, look)
    → c ≡ slice_index look.rest 0 → BehindWord s look before grown c
behind_word s look before grown c is read = grind arith

pub word_put : (s here there look : Cursor) (before marked grown : List ℕ) → here ≡ pass 1 s
    → marked ≡ before ++ encode_utf8 exclamation_mark
    → ◌≡◌ {A = TextRead} (Ok (with_run is_alpha marked here)) (Ok (grown, there)) → look ≡ there
    → with_word before s ≡ Ok (grown, look)
word_put s here there look before marked grown first mark run same = grind (arith, mark_encoded)

pub mark_left : (s look : Cursor) (before grown : List ℕ) (c : ℕ) → BehindWord s look before grown c
    → c ≡ exclamation_mark → 0 < length look.rest
mark_left s look before grown c b is = some look.rest (sym b.read ∙ is)
  where
    some : (xs : List ℕ) → slice_index xs 0 ≡ 33 → 0 < length xs
    some [] h = absurd (cc)
    some (x ∷ xs) h = omega arith

pub left_inside : (s look : Cursor) (before grown : List ℕ) (c : ℕ) → BehindWord s look before grown c
    → look.blank_so_far ≡ false
left_inside s look before grown c b = sym (ap (λ (x : List ℕ × Cursor). x.1.blank_so_far) b.is)

-- a second `!` follows
pub named_from : (s look there : Cursor) (before grown : List ℕ) (c : ℕ) (b : BehindWord s look before grown c)
    → c ≡ exclamation_mark → there ≡ pass 1 look → named_tail s.mark b.word there ≡ shorthand_tag s
unfolding shorthand_tag tag_behind_word
named_from s look there before grown c b on past = grind (arith, nat_tests)

pub handle_text : (s look : Cursor) (before grown marked : List ℕ) (c : ℕ) (b : BehindWord s look before grown c)
    → marked ≡ grown ++ encode_utf8 exclamation_mark → marked ≡ before ++ handle_of b.word
handle_text s look before grown marked c b is = grind (arith, mark_encoded, append_assoc)

-- Two `!` are a handle whose word is empty.
pub without_word : (s there : Cursor) → slice_index s.rest 1 ≡ exclamation_mark → there ≡ pass 2 s
    → named_tail s.mark [] there ≡ shorthand_tag s
without_word s there second passed =
    named_from s (pass 1 s) there [] (codes "!") (slice_index (drop 1 s.rest) 0)
    (record { word = []; is = no_word; text = refl; read = refl }) next (passed ∙ both)
  where
    next : slice_index (drop 1 s.rest) 0 ≡ exclamation_mark
    next = get_or-drop 1 s.rest 0 0 ∙ second

    no_word : with_run is_alpha [] (pass 1 s) ≡ ([], pass 1 s)
    no_word =
        ap (λ (n : ℕ). ([] ++ encode_utf8_all (take n (drop 1 s.rest)), pass n (pass 1 s)))
        (no_run is_alpha (drop 1 s.rest) (ap (λ (c : ℕ). is_alpha c) next))
        ∙ ap (λ (m : Marker). ([], mid_line m (drop 1 s.rest))) (along_none (along s.mark 1))

    both : pass 2 s ≡ pass 1 (pass 1 s)
    both = λ i. mid_line (sym (along_more s.mark 1 1 2 refl) i) (sym (drop_more 1 1 2 s.rest refl) i)

-- nothing is left of a suffix
pub no_suffix_left : (start : Marker) (text : List ℕ) (s : Cursor) (c : ℕ) → c ≡ slice_index s.rest 0
    → s.blank_so_far ≡ false → is_tag_char c ≡ false → decoded_onto Suffix start text s ≡ Ok (text, s)
unfolding decoded_characters
no_suffix_left start text s c first inside none =
    ap (with_front text) (at_end s.rest (ap (λ (k : ℕ). is_tag_char k) (sym first) ∙ none))
    ∙ ap (λ (w : List ℕ). text_read w (mid_line s.mark s.rest)) (append-nil text)
    ∙ ap (λ (b : Bool). text_read text (record { rest = s.rest; mark = s.mark; blank_so_far = b })) (sym inside)
  where
    text_read : List ℕ → Cursor → Result (List ℕ × Cursor) Refusal
    text_read w t = Ok (w, t)

    at_end : (xs : List ℕ) → is_tag_char (slice_index xs 0) ≡ false
        → decoded_characters Suffix start 0 s.mark xs ≡ text_read [] (mid_line s.mark xs)
    at_end [] h = ap (λ (m : Marker). text_read [] (mid_line m [])) (along_none s.mark)
    at_end (x ∷ xs) h = rw h refl

-- no second `!` does
primary_from : (s look : Cursor) (before grown : List ℕ) (c : ℕ) (b : BehindWord s look before grown c)
    → (c ≡ exclamation_mark → ⊥) → shorthand_tag s ≡ then_primary (decoded_onto Suffix s.mark b.word look)
unfolding shorthand_tag tag_behind_word
primary_from s look before grown c b other = grind (arith, nat_tests)

-- `!` and all that is read behind it
pub primary_refused : (s look : Cursor) (before grown : List ℕ) (c : ℕ) (r : Refusal) → BehindWord s look before grown c
    → (c ≡ exclamation_mark → ⊥) → decoded_onto Suffix s.mark grown look ≡ Err r
    → with_tag before (shorthand_tag s) ≡ Err r
primary_refused s look before grown c r b other h =
    ap (with_tag before) (primary_from s look before grown c b other) ∙ refused (decoded_at Suffix s.mark look) h
  where
    refused : (read : TextRead) → with_front grown read ≡ Err r
        → with_tag before (then_primary (with_front b.word read)) ≡ Err r
    refused (Ok x) h = absurd (cc)
    refused (Err e) h = grind arith

primary_whole : (s look t : Cursor) (before grown whole : List ℕ) (c : ℕ) → BehindWord s look before grown c
    → (c ≡ exclamation_mark → ⊥) → decoded_onto Suffix s.mark grown look ≡ Ok (whole, t)
    → (suffix : List ℕ) × (whole ≡ (before ++ codes "!") ++ suffix)
    × (with_tag before (shorthand_tag s) ≡ with_tag before (Ok (primary_tag (suffix, t))))
primary_whole s look t before grown whole c b other h =
    let one = front_behind grown whole (decoded_at Suffix s.mark look) t h in
    let piece = drop (length grown) whole in (
      b.word ++ piece,
      one.1 ∙ ap (λ g. g ++ piece) b.text ∙ append_assoc (before ++ codes "!") b.word piece,
      ap (with_tag before) (primary_from s look before grown c b other)
          ∙ ap (λ r. with_tag before (then_primary (with_front b.word r))) one.0,
    )

pub alone_read : (s look t : Cursor) (before grown whole : List ℕ) (c : ℕ) → BehindWord s look before grown c
    → (c ≡ exclamation_mark → ⊥) → decoded_onto Suffix s.mark grown look ≡ Ok (whole, t)
    → length whole ≡ length before + 1 → with_tag before (shorthand_tag s) ≡ tag_given 0 whole t
unfolding primary_tag
alone_read s look t before grown whole c b other h none =
    let one = primary_whole s look t before grown whole c b other h in
    let empty : one.0 ≡ [] = nil_from_length one.0 (
    let first = length-append (before ++ codes "!") one.0 in
    let second = length-append before (codes "!") in
    let long = ap length one.1 in omega (arith, none, first, second, long)) in
    one.2 ∙ ap (λ w. with_tag before (Ok (primary_tag (w, t)))) empty
    ∙ λ i. tag_given 0 ((ap (λ b. b ++ codes "!") (append-nil before)
    ∙ sym (one.1 ∙ ap (λ w. (before ++ codes "!") ++ w) empty ∙ append-nil (before ++ codes "!"))) i) t

pub primary_read : (s look t : Cursor) (before grown whole : List ℕ) (c : ℕ) → BehindWord s look before grown c
    → (c ≡ exclamation_mark → ⊥) → decoded_onto Suffix s.mark grown look ≡ Ok (whole, t)
    → (length whole ≡ length before + 1 → ⊥) → with_tag before (shorthand_tag s) ≡ tag_given 1 whole t
unfolding primary_tag
primary_read s look t before grown whole c b other h some =
    let one = primary_whole s look t before grown whole c b other h in
    let first = length-append (before ++ codes "!") one.0 in
    let second = length-append before (codes "!") in
    let long = ap length one.1 in
    let test : (length one.0 == 0) ≡ false = grind (arith, nat_tests, some, first, second, long) in
    one.2 ∙ rw test (λ i. tag_given 1 (sym one.1 i) t)

-- ## A tag ends

pub tag_refused : (before : List ℕ) (read : Result TagRead Refusal) (f : TagRead → Result TagRead Refusal) (r : Refusal)
    → with_tag before read ≡ Err r → with_tag before (read >>= f) ≡ Err r
tag_refused before (Ok x) f r h = absurd (cc)
tag_refused before (Err e) f r h = grind arith

pub tag_ended : (in_flow : Bool) (start : Marker) (before grown : List ℕ) (handle : ℕ) (read : Result TagRead Refusal)
    (t : Cursor) → with_tag before read ≡ tag_given handle grown t → is_behind_tag in_flow (slice_index t.rest 0) ≡ true
    → with_tag before (read >>= tag_end in_flow start) ≡ tag_given handle grown t
unfolding tag_end
tag_ended in_flow start before grown handle read t h ends = grind arith

pub tag_open : (in_flow : Bool) (start : Marker) (before grown : List ℕ) (handle : ℕ) (read : Result TagRead Refusal)
    (t : Cursor) → with_tag before read ≡ tag_given handle grown t
    → is_behind_tag in_flow (slice_index t.rest 0) ≡ false
    → with_tag before (read >>= tag_end in_flow start) ≡ refuse fault.TagEndExpected start
unfolding tag_end
tag_open in_flow start before grown handle read t h ends = grind arith
