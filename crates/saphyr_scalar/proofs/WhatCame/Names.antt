-- Names of anchors and aliases, and tags.
use Rattle.std.proofs.Common.{◌≡◌, ℕ, zero, suc, ◌-◌, ◌<◌, Bool, true, false, List, [], ◌∷◌, ◌++◌, length, drop, slice_index, Ok, refl, ap, ◌∙◌, encode_utf8}
use Rattle.saphyr_scalar.proofs.Common.{◌&&◌, ◌||◌, ◌==◌, drop-drop, is_hex, is_anchor_char, is_alpha, is_blank_or_breakz, is_flow, and_true_right, Marker, Cursor, pass}
use Rattle.saphyr_scalar.specs.Steps.Quoted.{TextRead, with_front, with_run, mid_line}
use Rattle.saphyr_scalar.specs.Steps.Anchor.{anchor, anchor_name_of}
use Rattle.saphyr_scalar.specs.Steps.Tag.{is_encoded, is_trailing, CharacterSet, is_in_set, shows_byte, escaped_byte, utf8_width, leading_bits, trailing_byte, trailing_bytes, encoded_character, behind_leading_byte, percent_escape, uri_character, decoded_at, verbatim_end, verbatim_tag, named_tag, named_tail, primary_tag, tag_behind_word, shorthand_tag, tag_end, tag}
use Rattle.saphyr_scalar.proofs.Properties.EscapesSpelled.{escape_spelled}
use Rattle.saphyr_scalar.proofs.Properties.PercentEscapes.{decoded_one_more, character_shorter, ends_at, has_left}
use Rattle.saphyr_scalar.proofs.Lengths.{by_ends}
use Rattle.saphyr_scalar.specs.Known.{longer}
use Rattle.saphyr_scalar.proofs.WhatCame.Rests.{is_nothing, enough_before, shows, shows_is, later_drop, first_known, second_known, drop_known}
use Rattle.saphyr_scalar.proofs.WhatCame.Steps.{Sure, whole, reports, beside, beside_two, refused, missing_refused, stays, leaves, same_step, choose, choose_first, choose_same, choose_given, only_if, further, and_then, on}
use Rattle.saphyr_scalar.proofs.WhatCame.Runs.{taken, passed, run_came}

module _ (more : List ℕ) where
  pub anchor_came : (s : Cursor) → Sure beside more (drop 1 s.rest) (anchor s) (anchor (longer more s))
  unfolding anchor anchor_name_of
  anchor_came s = on (λ t. anchor_name_of s.mark (with_run is_anchor_char [] t)) (taken more 1 s)
      (on (anchor_name_of s.mark) (run_came more is_anchor_char [] (pass 1 s))
      (choose (length (with_run is_anchor_char [] (pass 1 s)).0 == 0) (λ _. missing_refused 0 _ (λ left. left))
      (λ _. stays)))

  -- ## Escapes

  -- the characters of a byte all came
  no_byte : (r : List ℕ) → slice_index r 2 ≡ 0 → shows_byte r ≡ true → ⊥
  no_byte r none is = let last = and_true_right ((slice_index r 0 == 37) && is_hex (slice_index r 1)) _ is in
      absurd (cc)

  -- so what they say is told, whatever is left
  module _ (start : Marker) (text : List ℕ) (left : is_nothing text ≡ false) where
    byte_over : (s : Cursor) (r : List ℕ) → Sure (whole text) more text (escaped_byte start (record s { rest = r }))
        (escaped_byte start (record s { rest = r ++ more }))
    unfolding escaped_byte
    byte_over s [] = refused refl
    byte_over s (a ∷ []) = only_if (shows_byte (a ∷ [])) _ refl (λ is. absurd (no_byte (a ∷ []) refl is))
    byte_over s (a ∷ b ∷ []) =
        only_if (shows_byte (a ∷ b ∷ [])) _ refl (λ is. absurd (no_byte (a ∷ b ∷ []) refl is))
    byte_over s (a ∷ b ∷ c ∷ cs) = choose (shows_byte (a ∷ b ∷ c ∷ cs)) (λ _. stays) (λ _. reports left)

    byte_came : (s : Cursor) → Sure (whole text) more text (escaped_byte start s) (escaped_byte start (longer more s))
    byte_came s = byte_over s s.rest

    trailing_came : (v : ℕ) (s : Cursor)
        → Sure (whole text) more text (trailing_byte start v s) (trailing_byte start v (longer more s))
    unfolding trailing_byte
    trailing_came v s = and_then _ (byte_came s)
        (λ b _. choose (is_trailing b.0) (λ _. stays) (λ _. reports left))

    bytes_came : (n v : ℕ) (s : Cursor)
        → Sure (whole text) more text (trailing_bytes start n v s) (trailing_bytes start n v (longer more s))
    unfolding trailing_bytes
    bytes_came zero v s = stays
    bytes_came (suc n) v s = and_then _ (trailing_came v s) (λ x _. bytes_came n x.0 x.1)

    percent_came : (s : Cursor)
        → Sure (whole text) more text (percent_escape start s) (percent_escape start (longer more s))
    unfolding percent_escape behind_leading_byte encoded_character
    percent_came s = and_then _ (byte_came s) (λ b _. choose (utf8_width b.0 == 0) (λ _. reports left)
        (λ _. and_then _ (bytes_came (utf8_width b.0 - 1) (leading_bits b.0) b.1)
        (λ x _. choose (is_encoded (utf8_width b.0) x.0) (λ _. stays) (λ _. reports left))))

  module _ (start : Marker) where
    escape_came : (s : Cursor) → is_nothing s.rest ≡ false
        → Sure beside more s.rest (percent_escape start s) (percent_escape start (longer more s))
    unfolding percent_escape escaped_byte
    escape_came s left = let all = percent_came start s.rest left s in record {
      later = λ x e. let piece = escape_spelled start s.mark s.rest x.0 x.1 e in record {
        front = piece.piece;
        is = piece.text;
      };
      same = λ x e _. all.same x e left;
      known = all.known;
      reported = all.reported;
    }

    pub uri_came : (s : Cursor) → Sure beside more s.rest (uri_character start s) (uri_character start (longer more s))
    unfolding uri_character
    uri_came s = choose_first (λ c. c == 37)
        (λ is. escape_came s (shows_is 37 s.rest refl is)) (λ _. leaves (later_drop 1 s.rest) (λ known.
        rw (first_known more s.rest (enough_before false (later_drop 1 s.rest) known), drop_known more 1 s.rest known)))

    pub front_came : (front text : List ℕ) (r q : TextRead) → Sure beside more text r q
        → Sure beside more text (with_front front r) (with_front front q)
    front_came front text r q h = and_then _ h (λ x _. stays)

    abbrev Decoded : CharacterSet → Cursor → Type 0
    Decoded set s = Sure beside more s.rest (decoded_at set start s) (decoded_at set start (longer more s))

    pub decoded_came : (set : CharacterSet) (s : Cursor) → Decoded set s
    decoded_came set s = by_ends (λ s t. Decoded set s) (λ s t others.
        by s (λ x less. others x x less) (is_in_set set (slice_index s.rest 0)) refl) s s
      where
        shows : (s : Cursor) (b : Bool) → is_in_set set (slice_index s.rest 0) ≡ b → is_nothing s.rest ≡ false
            → is_in_set set (slice_index (s.rest ++ more) 0) ≡ b
        shows s b is known = ap (is_in_set set) (first_known more s.rest known) ∙ is

        by : (s : Cursor) → ((x : Cursor) → length x.rest < length s.rest → Decoded set x) → (b : Bool)
            → is_in_set set (slice_index s.rest 0) ≡ b → Decoded set s
        by s others true goes = rw (decoded_one_more set start s.mark s.rest goes) (same_step
            (λ known. decoded_one_more set start s.mark (s.rest ++ more) (shows s true goes known))
            (and_then _ (uri_came (mid_line s.mark s.rest)) (λ x e. front_came (encode_utf8 x.0) _ _ _
            (others x.1 (character_shorter start (mid_line s.mark s.rest) x.1 x.0 (has_left set s.rest goes) e)))))
        by s others false stops = rw (ends_at set start s.mark s.rest stops) (same_step
            (λ known. ends_at set start s.mark (s.rest ++ more) (shows s false stops known)) stays)

  -- ## Tags

  verbatim_came : (s : Cursor) → Sure beside_two more (drop 2 s.rest) (verbatim_tag s) (verbatim_tag (longer more s))
  unfolding verbatim_tag verbatim_end
  verbatim_came s = and_then _ (on (decoded_at _ s.mark) (taken more 2 s) (decoded_came s.mark _ (pass 2 s)))
      (λ x _. choose_first (λ c. c == 62) (λ _. on (λ t. Ok ([], x.0, t)) (passed more 1 x.1) stays)
      (λ _. missing_refused 0 x.1.rest (λ left. left)))

  named_came : (start : Marker) (word : List ℕ) (s : Cursor)
      → Sure beside_two more s.rest (named_tail start word s) (named_tail start word (longer more s))
  unfolding named_tail named_tag
  named_came start word s =
      and_then _ (decoded_came start _ s)
      (λ x _. choose (length x.0 == 0) (λ _. missing_refused 0 x.1.rest (λ left. left)) (λ _. stays))

  behind_word_came : (start : Marker) (w : List ℕ × Cursor)
      → Sure beside_two more w.1.rest (tag_behind_word start w) (tag_behind_word start (w.0, longer more w.1))
  unfolding tag_behind_word primary_tag
  behind_word_came start w = choose_first (λ c. c == 33)
      (λ _. on (named_tail start w.0) (passed more 1 w.1) (named_came start w.0 (pass 1 w.1)))
      (λ _. and_then _ (front_came start w.0 _ _ _ (decoded_came start _ w.1))
      (λ x _. choose_given (length x.0 == 0) (λ _. stays) (λ _. stays)))

  shorthand_came : (s : Cursor) → Sure beside_two more (drop 1 s.rest) (shorthand_tag s) (shorthand_tag (longer more s))
  unfolding shorthand_tag
  shorthand_came s = on (λ t. tag_behind_word s.mark (with_run is_alpha [] t)) (taken more 1 s)
      (on (tag_behind_word s.mark) (run_came more is_alpha [] (pass 1 s)) (behind_word_came s.mark _))

  pub tag_came : (in_flow : Bool) (s : Cursor)
      → Sure beside_two more (drop 1 s.rest) (tag in_flow s) (tag in_flow (longer more s))
  unfolding tag tag_end
  tag_came in_flow s = and_then _ (choose_same (slice_index s.rest 1 == 60) (slice_index (s.rest ++ more) 1 == 60)
      (λ known. ap (λ c. c == 60) (second_known more s.rest known))
      (λ _. further (rw (drop-drop 1 1 s.rest) at (later_drop 1 (drop 1 s.rest))) (verbatim_came s))
      (λ _. shorthand_came s))
      (λ p _. choose_first (λ c. is_blank_or_breakz c || (in_flow && is_flow c)) (λ _. stays) (λ no. reports
      (shows (λ c. is_blank_or_breakz c || (in_flow && is_flow c)) false p.2.rest no (λ e. absurd (cc)))))
