-- Each spelled tag directive is read.
use Rattle.saphyr_scalar.proofs.Common.{◌≡◌, ℕ, ◌+◌, Bool, true, false, List, [], ◌∷◌, ◌++◌, length, length-append, append_assoc, slice_index, nat_eq, Result, Ok, refl, sym, ap, ◌∙◌, arith, encode_utf8_all, inl, inr, ◌||◌, ◌==◌, codes, encode_utf8, exclamation_mark, is_alpha, is_tag_char, is_uri_char, is_blank, is_blank_or_breakz, Marker, Refusal, Uri, Cursor, ◌>>=◌, along, pass_all_blanks, or_true_swap, other_than}
use Rattle.saphyr_scalar.specs.Steps.Directive.{handle_behind_word, handle, prefix, behind_prefix, tag_directive}
use Rattle.saphyr_scalar.specs.Spelling.Directive.{ReadDirective, tag_prefix, AreSomeBlanks}
use Rattle.saphyr_scalar.specs.Steps.Quoted.{with_front, mid_line}
use Rattle.saphyr_scalar.specs.Steps.Tag.{uri_character, handle_of}
use Rattle.saphyr_scalar.specs.Spelling.Tag.{IsCharacter, IsHandleText, IsPrefix}
use Rattle.saphyr_scalar.proofs.Moving.{along_none, along_more}
use Rattle.saphyr_scalar.proofs.Properties.PercentEscapes.{reads_on}
use Rattle.saphyr_scalar.proofs.Properties.EscapesRead.{character_read, escape_first, decoded_read}
use Rattle.saphyr_scalar.proofs.Runs.{run_read}
use Rattle.saphyr_scalar.proofs.Properties.TagsRead.{stops_blank, bytes_of_handle, mark_bytes}
use Rattle.saphyr_scalar.proofs.Places.{along_three, along_four}
use Rattle.saphyr_scalar.proofs.Given.{text_given}
use Rattle.saphyr_scalar.proofs.Directives.PartEnds.{ends_at, first_of, blanks_read, said}

handle_read : (start m : Marker) (h y : List ℕ) → IsHandleText h → is_blank (slice_index y 0) ≡ true
    → handle start (mid_line m (h ++ y)) ≡ Ok (encode_utf8_all h, mid_line (along m (length h)) y)
unfolding handle handle_behind_word
handle_read start m h y (inl primary) ends =
    let stop = stops_blank (slice_index y 0) ends in
    rw primary (ap (handle_behind_word start) (run_read is_alpha (along m 1) [] y tt stop.no_alpha)
    ∙ rw (stop.no_mark, along_none (along m 1)) (ap (λ v. text_given v (mid_line (along m 1) y)) (sym mark_bytes)))
handle_read start m h y (inr (w, are, named)) ends =
    let whole : h ++ y ≡ 33 ∷ (w ++ (33 ∷ y)) = cc (append_assoc w (codes "!") y) in
    let len : 1 + length w + 1 ≡ length h = rw named (omega (arith, length-append w (codes "!"))) in
    ap (λ u. handle start (mid_line m u)) whole
    ∙ ap (handle_behind_word start) (run_read is_alpha (along m 1) w (33 ∷ y) are refl)
    ∙ ap (λ k. text_given (handle_of (encode_utf8_all w)) (mid_line k y))
    (along_three m 1 (length w) 1 (length h) (sym len))
    ∙ ap (λ v. text_given v (mid_line (along m (length h)) y)) (bytes_of_handle w ∙ ap encode_utf8_all (sym named))

abbrev pub begins_prefix : ℕ → Bool
begins_prefix c = (c == 33) || is_tag_char c

prefix_first : (c : ℕ) (t y : List ℕ) → IsCharacter (λ x. is_tag_char x || (x == exclamation_mark)) c t
    → begins_prefix (slice_index (t ++ y) 0) ≡ true
prefix_first c t y (inl (in_set, plain, e)) = rw e (or_true_swap (is_tag_char c) (nat_eq c 33) in_set)
prefix_first c t y (inr (scalar, escaped)) = rw (escape_first c t y scalar escaped) refl

prefix_no_blank : (c : ℕ) → begins_prefix c ≡ true → is_blank c ≡ false
prefix_no_blank c h = rw (other_than begins_prefix 32 c refl h, other_than begins_prefix 9 c refl h) refl

written_first : (p t y : List ℕ) → IsPrefix p t → begins_prefix (slice_index (t ++ y) 0) ≡ true
written_first [] t y is = absurd is
written_first (c ∷ p) t y (first, more, is, others, e) =
    let whole : t ++ y ≡ first ++ (more ++ y) = ap (λ u. u ++ y) e ∙ append_assoc first more y in
    rw whole (prefix_first c first (more ++ y) is)

prefix_goes : (start : Marker) (s : Cursor) → begins_prefix (slice_index s.rest 0) ≡ true
    → prefix start s ≡ reads_on Uri start (uri_character start s)
unfolding prefix
prefix_goes start s h = rw h refl

prefix_read : (start m : Marker) (p t y : List ℕ) → IsPrefix p t → is_uri_char (slice_index y 0) ≡ false
    → prefix start (mid_line m (t ++ y)) ≡ Ok (encode_utf8_all p, mid_line (along m (length t)) y)
prefix_read start m [] t y is ends = absurd is
prefix_read start m (c ∷ p) t y (first, more, is, others, e) ends =
    let whole : t ++ y ≡ first ++ (more ++ y) = ap (λ u. u ++ y) e ∙ append_assoc first more y in
    let len : length t ≡ length first + length more = rw (e, length-append) refl in
    let there = along m (length first) in
    ap (λ u. prefix start (mid_line m u)) whole
    ∙ prefix_goes start (mid_line m (first ++ (more ++ y))) (prefix_first c first (more ++ y) is)
    ∙ ap (reads_on Uri start) (character_read (λ x. is_tag_char x || (x == 33)) start m c first (more ++ y) is)
    ∙ ap (with_front (encode_utf8 c)) (decoded_read Uri start there p more y others ends)
    ∙ ap (λ k. text_given (encode_utf8 c ++ encode_utf8_all p) (mid_line k y))
    (along_more m (length first) (length more) (length t) len)

prefix_ends : (start : Marker) (h p : List ℕ) (s : Cursor) → is_blank_or_breakz (slice_index s.rest 0) ≡ true
    → behind_prefix start h (p, s) ≡ Ok (tag_prefix h p, s)
unfolding behind_prefix
prefix_ends start h p s ends = rw ends refl

abbrev then_handle : Marker → Result (List ℕ × Cursor) Refusal → Result (ReadDirective × Cursor) Refusal
then_handle start r = r >>= λ h. prefix start (pass_all_blanks h.1) >>= λ x. behind_prefix start h.0 x

abbrev then_prefix : Marker → List ℕ → Result (List ℕ × Cursor) Refusal → Result (ReadDirective × Cursor) Refusal
then_prefix start h r = r >>= λ x. behind_prefix start h x

handle_first : (h y : List ℕ) → IsHandleText h → is_blank (slice_index (h ++ y) 0) ≡ false
handle_first h y k = grind arith

-- The value of a tag directive is read part by part: blanks, a handle, blanks, a prefix. Each equation passes one
-- part, which ends at the first character of the next.
pub tag_read : (start m : Marker) (first h second p t y : List ℕ) → AreSomeBlanks first → IsHandleText h
    → AreSomeBlanks second
    → IsPrefix p t → is_blank_or_breakz (slice_index y 0) ≡ true
    → tag_directive start (mid_line m (first ++ (h ++ (second ++ (t ++ y)))))
    ≡ Ok (
      tag_prefix (encode_utf8_all h) (encode_utf8_all p),
      mid_line
          (along m (length first + length h + length second + length t)) y,
    )
unfolding tag_directive
tag_read start m first h second p t y before is_h between is_p ends =
    let a = along m (length first) in
    let b = along a (length h) in
    let c = along b (length second) in
    ap (λ s. then_handle start (handle start s))
    (blanks_read m first (h ++ (second ++ (t ++ y))) before.1 (handle_first h (second ++ (t ++ y)) is_h))
    ∙ ap (then_handle start)
    (handle_read start a h (second ++ (t ++ y)) is_h (first_of is_blank second (t ++ y) between.0 between.1))
    ∙ ap (λ s. then_prefix start (encode_utf8_all h) (prefix start s))
    (blanks_read b second (t ++ y) between.1 (prefix_no_blank (slice_index (t ++ y) 0) (written_first p t y is_p)))
    ∙ ap (then_prefix start (encode_utf8_all h))
    (prefix_read start c p t y is_p (ends_at (slice_index y 0) ends).no_uri)
    ∙ prefix_ends start (encode_utf8_all h) (encode_utf8_all p) (mid_line (along c (length t)) y) ends
    ∙ ap (λ k. said (tag_prefix (encode_utf8_all h) (encode_utf8_all p)) (mid_line k y))
    (along_four m (length first) (length h) (length second) (length t)
    (length first + length h + length second + length t) refl)
