-- The characters of a text are the list that the calls of `next` on its `chars` give.
use Rattle.std.proofs.Common.{◌≡◌, ℕ, List, [], ◌∷◌, length, Option, Some, None, IsUtf8, refl, sym, ◌∙◌, ap, subst, encode_utf8_all, arith}
use Rattle.std.specs.Prelude.{⊤, slice_get}
use Rattle.std.proofs.Props.{props}
use Rattle.std.specs.Str.{chars}
use Rattle.std.specs.Str.Iter.{chars_rest, chars_steps}
use Rattle.std.specs.declared.str.Chars.{Chars}
use Rattle.std.proofs.lemmas.Str.{chars_past_char, IsUtf8-past_char, encodes-chars}
use Rattle.saphyr_input.specs.Listed.{Lists, Listed, IsCallable, GivesOnly}

callable : (s : Chars) → IsCallable (λ _. ⊤) chars_steps s
callable s = (hlevel props, tt)

chars_end : (s : Chars) → IsUtf8 (chars_rest s) → chars (chars_rest s) ≡ [] → chars_steps s None s
chars_end s utf8 e =
    let empty : chars_rest s ≡ [] = sym (encodes-chars (chars_rest s) utf8) ∙ ap encode_utf8_all e in
    let none : length (chars_rest s) ≡ 0 = ap length empty in
    ((none, refl), (λ some. absurd (omega arith)), sym (ap (λ (cs : List ℕ). slice_get cs 0) e))

next_char_comes : (s : Chars) (x : ℕ) (xs : List ℕ) → IsUtf8 (chars_rest s) → chars (chars_rest s) ≡ x ∷ xs
    → (t : Chars) × chars_steps s (Some x) t
next_char_comes s x xs utf8 e = (
  record s { rest = record s.rest { now = encode_utf8_all xs } },
  (
    sym (encodes-chars (chars_rest s) utf8)
        ∙ ap encode_utf8_all e,
    (λ some. refl),
    sym (ap (λ (cs : List ℕ). slice_get cs 0) e),
  ),
)

gives_only : (s : Chars) (r : Option ℕ) (cs : List ℕ) → chars (chars_rest s) ≡ cs → slice_get cs 0 ≡ r
    → ((t : Chars) × chars_steps s r t) → GivesOnly (λ _. ⊤) chars_steps s r
gives_only s r cs e first p = (
  ∣ p ∣₁,
  λ (q : Option ℕ) (t : Chars) (step : chars_steps s q t). step.2 ∙ ap (λ (ds : List ℕ). slice_get ds 0) e
      ∙ first,
)

lists_from : (xs : List ℕ) (s : Chars) → IsUtf8 (chars_rest s) → chars (chars_rest s) ≡ xs
    → Lists (λ _. ⊤) chars_steps s xs
lists_from [] s utf8 e = (callable s, gives_only s None [] e refl (s, chars_end s utf8 e))
lists_from (x ∷ xs) s utf8 e = (
  callable s,
  gives_only s (Some x) (x ∷ xs) e refl (next_char_comes s x xs utf8 e),
  λ (t : Chars) (step : chars_steps s (Some x) t).
      let past = chars_past_char (chars_rest s) (chars_rest t) x utf8 step.0 in
      lists_from xs t (IsUtf8-past_char (chars_rest s) (chars_rest t) x utf8 step.0) (cc),
)

pub chars_lists : (text : List ℕ) (s : Chars) → IsUtf8 text → chars_rest s ≡ text
    → Lists (λ _. ⊤) chars_steps s (chars text)
chars_lists text s utf8 e = lists_from (chars text) s (subst IsUtf8 (sym e) utf8) (ap chars e)

pub chars_listed : (text : List ℕ) (s : Chars) → IsUtf8 text → chars_rest s ≡ text → Listed (λ _. ⊤) chars_steps s
chars_listed text s utf8 e = (chars text, chars_lists text s utf8 e)
