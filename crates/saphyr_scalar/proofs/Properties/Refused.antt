-- Anchors and tags are refused where they begin.
use Rattle.saphyr_scalar.proofs.Common.{◌≡◌, ℕ, zero, suc, Bool, List, [], ◌∷◌, length, slice_index, Result, refl, arith, ◌==◌, is_anchor_char, Marker, Refusal, UriSet, Cursor, along, pass, by_test}
use Rattle.saphyr_scalar.specs.Steps.Quoted.{with_front, with_run}
use Rattle.saphyr_scalar.specs.Steps.Anchor as names
use Rattle.saphyr_scalar.specs.Steps.Anchor.{anchor}
use Rattle.saphyr_scalar.specs.Steps.Tag.{shows_byte, escaped_byte, is_trailing, trailing_byte, trailing_bytes, encoded_character, behind_leading_byte, percent_escape, uri_character, uri_tail, decoded_characters, verbatim_end, verbatim_tag, named_tag, named_tail, tag_behind_word, shorthand_tag, tag_end, tag}
use Rattle.saphyr_scalar.proofs.Given.{Refused, RefusedAt, refused_bind}

-- ## Anchors

pub anchor_refused : (s : Cursor) → RefusedAt s.mark (anchor s)
unfolding anchor names.anchor_name_of
anchor_refused s = by_test (length (with_run is_anchor_char [] (pass 1 s)).0 == 0) _ _ (RefusedAt s.mark) (λ _. refl)
    (λ _. tt)

-- ## Tags

byte_refused : (start : Marker) (s : Cursor) → RefusedAt start (escaped_byte start s)
unfolding escaped_byte
byte_refused start s = by_test (shows_byte s.rest) _ _ (RefusedAt start) (λ _. tt) (λ _. refl)

trailing_refused : (start : Marker) (v : ℕ) (s : Cursor) → RefusedAt start (trailing_byte start v s)
unfolding trailing_byte
trailing_refused start v s = refused_bind (λ e. e.mark ≡ start) (escaped_byte start s) _ (byte_refused start s)
    (λ b e. by_test (is_trailing b.0) _ _ (RefusedAt start) (λ _. tt) (λ _. refl))

bytes_refused : (start : Marker) (n v : ℕ) (s : Cursor) → RefusedAt start (trailing_bytes start n v s)
unfolding trailing_bytes
bytes_refused start zero v s = tt
bytes_refused start (suc n) v s =
    refused_bind (λ e. e.mark ≡ start) (trailing_byte start v s) _ (trailing_refused start v s)
    (λ x e. bytes_refused start n x.0 x.1)

leading_refused : (start : Marker) (b : ℕ) (s : Cursor) → RefusedAt start (behind_leading_byte start b s)
unfolding behind_leading_byte encoded_character
leading_refused start b s = grind (arith, by_test, refused_bind, bytes_refused)

pub character_refused : (start : Marker) (s : Cursor) → RefusedAt start (uri_character start s)
unfolding uri_character percent_escape
character_refused start s = grind (arith, by_test, slice_index, refused_bind, byte_refused, leading_refused)

pub front_refused : (P : Refusal → Type 0) (front : List ℕ) (r : Result (List ℕ × Cursor) Refusal) → Refused P r
    → Refused P (with_front front r)
front_refused P front r h = refused_bind P r _ h (λ x e. tt)

pub decoded_refused : (set : UriSet) (start : Marker) (k : ℕ) (m : Marker) (t : List ℕ)
    → RefusedAt start (decoded_characters set start k m t)
unfolding decoded_characters
decoded_refused set start k m [] = tt
decoded_refused set start zero m (c ∷ cs) =
    grind (
      arith,
      refused_bind,
      character_refused,
      front_refused,
      by_test,
      decoded_refused set start
          (uri_tail (c ∷ cs)) (along m 1) cs,
    )
decoded_refused set start (suc k) m (c ∷ cs) = decoded_refused set start k (along m 1) cs

verbatim_refused : (s : Cursor) → RefusedAt s.mark (verbatim_tag s)
unfolding verbatim_tag verbatim_end
verbatim_refused s = grind (arith, refused_bind, decoded_refused, by_test, slice_index)

word_refused : (start : Marker) (w : List ℕ × Cursor) → RefusedAt start (tag_behind_word start w)
unfolding tag_behind_word named_tail named_tag
word_refused start w = grind (arith, by_test, slice_index, refused_bind, decoded_refused, front_refused)

pub tag_refused : (in_flow : Bool) (s : Cursor) → RefusedAt s.mark (tag in_flow s)
unfolding tag shorthand_tag tag_end
tag_refused in_flow s = grind (arith, by_test, slice_index, verbatim_refused, word_refused, refused_bind)
