-- The characters of a text, when some at its front are passed.
use Rattle.std.proofs.Common.{◌≡◌, ℕ, ◌+◌, ◌-◌, ◌≤◌, List, ◌++◌, length, drop, take, Option, Some, None, IsUtf8, subst, refl, sym, ap, ◌∙◌, arith, encode_utf8_all, length-append, Bool}
use Rattle.std.specs.Prelude.{option_map}
use Rattle.std.specs.List.{prefix_len}
use Rattle.std.specs.Str.{chars, IsCharBoundary}
use Rattle.std.specs.Str.Iter.{chars_steps}
use Rattle.std.specs.declared.str.Chars.{Chars}
use Rattle.std.proofs.lemmas.Str.{chars_past_char, chars-nil, encodes-chars, length-le-encodes, encodes-append, IsCharBoundary-at_seam}
use Rattle.std.proofs.lemmas.List.Sums.{prefix_len-le-length}
use Rattle.std.proofs.lemmas.List.{nil_from_length, take-append-drop, take_at, drop-drop}

passed : (s : Chars) (r : Option ℕ) (t : Chars) → IsUtf8 s.rest.now → chars_steps s r t
    → chars t.rest.now ≡ drop 1 (chars s.rest.now)
passed s None t u h = rw (h.0.1, nil_from_length s.rest.now h.0.0, chars-nil) refl
passed s (Some c) t u h = rw (chars_past_char s.rest.now t.rest.now c u h.0) refl

-- after the first character of a text
pub passed_from : (bs : List ℕ) (s : Chars) (r : Option ℕ) (t : Chars) → IsUtf8 bs → s.rest.now ≡ bs → chars_steps s r t
    → chars t.rest.now ≡ drop 1 (chars bs)
passed_from bs s r t u e h =
    let v : IsUtf8 s.rest.now = subst IsUtf8 (sym e) u in passed s r t v h ∙ ap (λ (xs : List ℕ). drop 1 (chars xs)) e

pub length-chars : (bs : List ℕ) → IsUtf8 bs → length (chars bs) ≤ length bs
length-chars bs u = let h = length-le-encodes (chars bs) in rw (encodes-chars bs u) at h

pub id_map : (o : Option ℕ) {p : Option ℕ} → option_map (λ c. c) o ≡ p → o ≡ p
id_map None e = e
id_map (Some x) e = e

-- rs comes after the first n characters of bs
pub record Front (bs rs : List ℕ) (n : ℕ) : Type 0 where
  pub fits : length rs ≤ length bs
  pub boundary : IsCharBoundary bs (length bs - length rs)
  pub front : take (length bs - length rs) bs ≡ encode_utf8_all (take n (chars bs))

split_at_char : (bs rs : List ℕ) (n : ℕ) → IsUtf8 bs → IsUtf8 rs → chars rs ≡ drop n (chars bs)
    → bs ≡ encode_utf8_all (take n (chars bs)) ++ rs
split_at_char bs rs n u v e =
    sym (encodes-chars bs u) ∙ ap encode_utf8_all (sym (take-append-drop n (chars bs)))
    ∙ encodes-append (take n (chars bs)) (drop n (chars bs))
    ∙ ap (λ (ds : List ℕ). encode_utf8_all (take n (chars bs)) ++ encode_utf8_all ds) (sym e)
    ∙ ap (λ (ds : List ℕ). encode_utf8_all (take n (chars bs)) ++ ds) (encodes-chars rs v)

front_at_seam : (bs xs rs : List ℕ) → IsUtf8 rs → bs ≡ xs ++ rs
    → (length rs ≤ length bs) × IsCharBoundary bs (length bs - length rs) × (take (length bs - length rs) bs ≡ xs)
front_at_seam bs xs rs v e =
    let len : length bs ≡ length xs + length rs = ap length e ∙ length-append xs rs in
    let m : length xs ≡ length bs - length rs = omega (arith, len) in (
      omega (arith, len),
      subst (λ (k : ℕ). IsCharBoundary bs k) m (IsCharBoundary-at_seam bs xs rs e v),
      ap (take (length bs - length rs)) e ∙ take_at xs rs (length bs - length rs) m,
    )

pub front_of : (bs rs : List ℕ) (n : ℕ) → IsUtf8 bs → IsUtf8 rs → chars rs ≡ drop n (chars bs) → Front bs rs n
front_of bs rs n u v e =
    let h = front_at_seam bs (encode_utf8_all (take n (chars bs))) rs v (split_at_char bs rs n u v e) in
    record { fits = h.0; boundary = h.1; front = h.2 }

-- a run of characters is no longer than the text
pub run_fits : (p : ℕ → Bool) (bs : List ℕ) → IsUtf8 bs → prefix_len p (chars bs) ≤ length bs
run_fits p bs u = omega (arith, prefix_len-le-length p (chars bs), length-chars bs u)

-- n characters of a run were passed
pub record Ran (p : ℕ → Bool) (start now : List ℕ) (n : ℕ) : Type 0 where
  pub run : n + prefix_len p now ≡ prefix_len p start
  pub behind : now ≡ drop n start

-- n characters of a run were passed, then w, and then k
pub ran_wide : (p : ℕ → Bool) (start now mid last : List ℕ) (n w k : ℕ) → n + prefix_len p now ≡ prefix_len p start
    → now ≡ drop n start → w + prefix_len p mid ≡ prefix_len p now → mid ≡ drop w now
    → k + prefix_len p last ≡ prefix_len p mid → last ≡ drop k mid → Ran p start last (n + (w + k))
ran_wide p start now mid last n w k a b c d e f = record {
  run = omega (arith, a, c, e);
  behind = f ∙ ap (drop k) d ∙ drop-drop k w now ∙ ap (drop (w + k)) b ∙ drop-drop (w + k) n start;
}
