-- Anchors and tags are read alike.
use Rattle.scalar_laws.proofs.Common.{◌≡◌, ℕ, zero, suc, ◌-◌, ◌<◌, Bool, true, false, List, [], ◌++◌, length, drop, slice_index, refl, sym, ap, ◌∙◌, encode_utf8, encode_utf8_all, ◌&&◌, ◌||◌, ◌==◌, prefix_len, less_than, percent_sign, is_hex, is_flow, is_alpha, is_blank_or_breakz, is_anchor_char, is_uri_char, is_tag_char, Marker, Cursor, pass, mid_line, with_run, with_front, TextRead, both_by, AreAlike, AreSame, AreTagsAlike, and_true_left, and_true_right, second_is, third_is}
use Rattle.saphyr_scalar.specs.Steps.Anchor.{anchor, anchor_name_of}
use Rattle.saphyr_scalar.specs.Steps.Tag.{CharacterSet, is_in_set, byte_value, shows_byte, escaped_byte, utf8_width, leading_bits, is_trailing, trailing_byte, trailing_bytes, is_encoded, encoded_character, behind_leading_byte, percent_escape, uri_character, decoded_at, verbatim_end, verbatim_tag, named_tag, named_tail, primary_tag, tag_behind_word, shorthand_tag, tag_end, tag}
use Rattle.saphyr_scalar.proofs.Properties.PercentEscapes.{by_set, decoded_one_more, ends_at, character_shorter, has_left}
use Rattle.scalar_laws.proofs.Breaks.Sides.{Normal, first_in, first_same, past_first, behind_first, second_in, run_same, alike, normal_of, places_of, NoBreak, no_break_in, PartsAlike, part_of, first_part, both_parts, passed_alike, one_passed, two_passed}
use Rattle.scalar_laws.proofs.Breaks.Results.{Both, gives, refused, choose_same, choose, choose_first, choose_in, and_known, and_then, with_same, and_same, by_ends}

-- ## Anchors

pub run_alike : (p : ℕ → Bool) → p 10 ≡ false → p 13 ≡ false → (front : List ℕ) {text : List ℕ} {s t : Cursor}
    → AreAlike text s t → AreSame text (with_run p front s) (with_run p front t)
run_alike p a b front {s = s} {t = t} e = let x = run_same p b a (normal_of e) in (
  ap (λ r. front ++ encode_utf8_all r) x.text,
  passed_alike (prefix_len p s.rest) (prefix_len p t.rest) (part_of x) e,
)

pub anchor_alike : {text : List ℕ} {s t : Cursor} → NoBreak s.rest → AreAlike text s t
    → Both (AreSame text) (anchor s) (anchor t)
unfolding anchor anchor_name_of
anchor_alike {s = s} {t = t} h e =
    with_same (anchor_name_of s.mark) (anchor_name_of t.mark) (run_alike is_anchor_char refl refl [] (one_passed h e))
    (λ name u v is. choose (length name == 0) (λ _. refused) (λ _. gives (refl, is)))

-- ## Percent escapes

pub all_three : (a b c : Bool) → (a && b && c) ≡ (a && (b && c))
all_three true true c = refl
all_three true false c = refl
all_three false b c = refl

abbrev hex_first : List ℕ → Bool
hex_first r = is_hex (slice_index r 0)

abbrev two_hex : List ℕ → Bool
two_hex r = is_hex (slice_index r 0) && hex_first (drop 1 r)

two_hex_alike : (r q : List ℕ) → Normal r q → two_hex r ≡ two_hex q
two_hex_alike r q n = behind_first is_hex refl refl hex_first (λ r q n. first_in is_hex refl n) n

shows_is : (r : List ℕ) → shows_byte r ≡ ((slice_index r 0 == percent_sign) && two_hex (drop 1 r))
shows_is r = all_three (slice_index r 0 == 37) (is_hex (slice_index r 1)) (is_hex (slice_index r 2))
    ∙ rw (second_is r, third_is r) refl

shows_alike : {r q : List ℕ} → Normal r q → shows_byte r ≡ shows_byte q
shows_alike {r = r} {q = q} n =
    shows_is r ∙ behind_first (λ c. c == 37) refl refl two_hex two_hex_alike n ∙ sym (shows_is q)

-- the number that three characters show
byte_part : {r q : List ℕ} → Normal r q → shows_byte r ≡ true → (byte_value r ≡ byte_value q) × PartsAlike 3 3 r q
byte_part {r = r} {q = q} n shows =
    let is = sym (shows_is r) ∙ shows in
    let first = no_break_in (λ c. c == 37) refl refl r (and_true_left _ _ is) in
    let others = and_true_right _ _ is in
    let second = no_break_in is_hex refl refl (drop 1 r) (and_true_left _ _ others) in
    let third = no_break_in is_hex refl refl (drop 1 (drop 1 r)) (and_true_right _ _ others) in
    let n1 = past_first first n in
    let n2 = past_first second n1 in
    let low : slice_index r 2 ≡ slice_index q 2 = sym (third_is r) ∙ first_same third n2 ∙ third_is q in (
      rw (sym (second_is r) ∙ first_same second n1 ∙ second_is q, low) refl,
      both_parts 1 1 2 2 r q (first_part first n) (both_parts 1 1 1 1 (drop 1 r) (drop 1 q)
          (first_part second n1) (first_part third n2)),
    )

has_no_break : (set : CharacterSet) (r : List ℕ) → is_in_set set (slice_index r 0) ≡ true → NoBreak r
has_no_break set r = by_set (λ s. is_in_set s (slice_index r 0) ≡ true → NoBreak r)
    (no_break_in is_uri_char refl refl r) (no_break_in is_tag_char refl refl r) set

has_alike : (set : CharacterSet) {r q : List ℕ} → Normal r q
    → is_in_set set (slice_index r 0) ≡ is_in_set set (slice_index q 0)
has_alike set {r = r} {q = q} n = by_set (λ s. is_in_set s (slice_index r 0) ≡ is_in_set s (slice_index q 0))
    (first_in is_uri_char refl n) (first_in is_tag_char refl n) set

module _ {text : List ℕ} (m n : Marker) where
  byte_alike : (s t : Cursor) → AreAlike text s t → Both (AreSame text) (escaped_byte m s) (escaped_byte n t)
  unfolding escaped_byte
  byte_alike s t e = choose_same (shows_byte s.rest) (shows_byte t.rest) (shows_alike (normal_of e))
      (λ h. let x = byte_part (normal_of e) h in gives (x.0, passed_alike 3 3 x.1 e)) (λ _. refused)

  bytes_alike : (k v : ℕ) (s t : Cursor) → AreAlike text s t
      → Both (AreSame text) (trailing_bytes m k v s) (trailing_bytes n k v t)
  unfolding trailing_bytes trailing_byte
  bytes_alike zero v s t e = gives (refl, e)
  bytes_alike (suc k) v s t e = and_same _ _ (and_same _ _ (byte_alike s t e)
      (λ b u w is. choose (is_trailing b) (λ _. gives (refl, is)) (λ _. refused))) (λ x u w is. bytes_alike k x u w is)

  escape_alike : (s t : Cursor) → AreAlike text s t → Both (AreSame text) (percent_escape m s) (percent_escape n t)
  unfolding percent_escape behind_leading_byte encoded_character
  escape_alike s t e = and_same _ _ (byte_alike s t e) (λ b u w is. choose (utf8_width b == 0) (λ _. refused)
      (λ _. and_same _ _ (bytes_alike (utf8_width b - 1) (leading_bits b) u w is)
      (λ c x y at. choose (is_encoded (utf8_width b) c) (λ _. gives (refl, at)) (λ _. refused))))

  -- a character that is no break, or an escape
  pub character_alike : (s t : Cursor) → NoBreak s.rest → AreAlike text s t
      → Both (AreSame text) (uri_character m s) (uri_character n t)
  unfolding uri_character
  character_alike s t h e = choose_first (λ c. c == 37) refl e (λ _. escape_alike s t e)
      (λ _. gives (first_same h (normal_of e), one_passed h e))

-- ## Runs of characters and escapes

pub front_alike : {text : List ℕ} (a : List ℕ) {r q : TextRead} → Both (AreSame text) r q
    → Both (AreSame text) (with_front a r) (with_front a q)
front_alike a h = and_same _ _ h (λ x s t is. gives (refl, is))

module _ (text : List ℕ) (set : CharacterSet) (m n : Marker) where
  abbrev Decoded : Cursor → Cursor → Type 0
  Decoded s t = AreAlike text s t → Both (AreSame text) (decoded_at set m s) (decoded_at set n t)

  pub decoded_alike : (s t : Cursor) → Decoded s t
  decoded_alike = by_ends Decoded (λ s t others. by s t others (is_in_set set (slice_index s.rest 0)) refl)
    where
      by : (s t : Cursor) → ((x y : Cursor) → length x.rest < length s.rest → Decoded x y) → (b : Bool)
          → is_in_set set (slice_index s.rest 0) ≡ b → Decoded s t
      by s t others true h e = rw (
        decoded_one_more set m s.mark s.rest h,
        decoded_one_more set n t.mark t.rest (sym (has_alike set (normal_of e)) ∙ h),
      ) (and_known (character_alike m n (mid_line s.mark s.rest) (mid_line t.mark t.rest) (has_no_break set s.rest h)
          (alike false false refl (normal_of e) (places_of e))) (λ x y read _ is. rw is.0 (front_alike (encode_utf8 y.0)
          (others x.1 y.1 (character_shorter m (mid_line s.mark s.rest) x.1 x.0 (has_left set s.rest h) read) is.1))))
      by s t others false h e = rw (
        ends_at set m s.mark s.rest h,
        ends_at set n t.mark t.rest (sym (has_alike set (normal_of e)) ∙ h),
      ) (gives (refl, alike false false refl (normal_of e) (places_of e)))

-- ## Tags

module _ {text : List ℕ} where
  verbatim_alike : (s t : Cursor) → NoBreak s.rest → (slice_index s.rest 1 == less_than) ≡ true → AreAlike text s t
      → Both (AreTagsAlike text) (verbatim_tag s) (verbatim_tag t)
  unfolding verbatim_tag verbatim_end
  verbatim_alike s t h second e =
      let next = no_break_in (λ c. c == 60) refl refl (drop 1 s.rest) (rw (second_is s.rest) second) in
      and_same _ _ (decoded_alike text _ s.mark t.mark (pass 2 s) (pass 2 t) (two_passed h next e))
      (λ uri u v is. choose_in (λ c. c == 62) refl refl is (λ _ on. gives (refl, refl, on)) refused)

  named_alike : (m n : Marker) (word : List ℕ) (s t : Cursor) → AreAlike text s t
      → Both (AreTagsAlike text) (named_tail m word s) (named_tail n word t)
  unfolding named_tail named_tag
  named_alike m n word s t e = and_same _ _ (decoded_alike text _ m n s t e)
      (λ suffix u v is. choose (length suffix == 0) (λ _. refused) (λ _. gives (refl, refl, is)))

  shorthand_alike : (s t : Cursor) → NoBreak s.rest → AreAlike text s t
      → Both (AreTagsAlike text) (shorthand_tag s) (shorthand_tag t)
  unfolding shorthand_tag tag_behind_word primary_tag
  shorthand_alike s t h e =
      with_same (tag_behind_word s.mark) (tag_behind_word t.mark) (run_alike is_alpha refl refl [] (one_passed h e))
      (λ word u v is. choose_in (λ c. c == 33) refl refl is (λ _ on. named_alike s.mark t.mark word _ _ on)
      (and_same _ _ (front_alike word (decoded_alike text _ s.mark t.mark u v is))
      (λ suffix x y at. gives (both_by (length suffix == 0) _ _ _ _ _ (AreTagsAlike text) refl (λ _ _. (refl, refl, at))
      (λ _ _. (refl, refl, at))))))

  pub tag_alike : (in_flow : Bool) {s t : Cursor} → NoBreak s.rest → AreAlike text s t
      → Both (AreTagsAlike text) (tag in_flow s) (tag in_flow t)
  unfolding tag tag_end
  tag_alike in_flow {s} {t} h e = and_then (choose_same (slice_index s.rest 1 == 60) (slice_index t.rest 1 == 60)
      (second_in (λ c. c == 60) refl h (normal_of e)) (λ k. verbatim_alike s t h k e) (λ _. shorthand_alike s t h e))
      (λ x y is. choose_first (λ c. is_blank_or_breakz c || (in_flow && is_flow c)) refl is.2 (λ _. gives is)
      (λ _. refused))
