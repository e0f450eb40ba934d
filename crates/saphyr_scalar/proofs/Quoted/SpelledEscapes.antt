-- What is read as an escape is spelled so.
use Rattle.saphyr_scalar.proofs.Common.{◌≡◌, ℕ, zero, suc, ◌+◌, ◌*◌, ◌≤◌, true, List, [], ◌∷◌, ◌++◌, length, length-append, drop, slice_index, Result, Ok, Err, refl, sym, ap, ◌∙◌, arith, subst, IsTrue, false≢true, Option, Some, None, backslash, is_hex, hex_value, Marker, Refusal, Item, Escaped, Double, Cursor, ◌>>=◌, along, pass, by_test}
use Rattle.saphyr_scalar.specs.Values.Escapes.{digit_count, is_scalar_value, short_escape}
use Rattle.saphyr_scalar.specs.Spelling.Tag.{AreIn}
use Rattle.saphyr_scalar.specs.Steps.Quoted.{digits, character, escape_by_number, escape_of, escaped_character, with_front, mid_line}
use Rattle.saphyr_scalar.specs.Spelling.OneLine as spelling
use Rattle.saphyr_scalar.proofs.Quoted.Clean as quotes
use Rattle.saphyr_scalar.specs.Passing.{IsPassed}
use Rattle.saphyr_scalar.specs.Passing as passing
use Rattle.saphyr_scalar.proofs.Passings.{letter_passed, hex_no_break}
use Rattle.saphyr_scalar.proofs.Quoted.Spellings.{no_break_simple, no_break_digits}

-- a reading that gave something
abbrev pub Gave : Result (ℕ × Cursor) Refusal → ℕ → Cursor → Type 0
Gave r c s = r ≡ Ok (c, s)

abbrev pub GaveText : Result (List ℕ × Cursor) Refusal → List ℕ → Cursor → Type 0
GaveText r b s = r ≡ Ok (b, s)

pub nothing : {X : Type 0} (r : Refusal) (c : ℕ) (s : Cursor) → Gave (Err r) c s → X
nothing r c s e = absurd (cc)

pub nothing_text : {X : Type 0} (r : Refusal) (b : List ℕ) (s : Cursor) → GaveText (Err r) b s → X
nothing_text r b s e = absurd (cc)

gave_first : (a c : ℕ) (s t : Cursor) → Gave (Ok (a, s)) c t → a ≡ c
gave_first a c s t e = grind arith

gave_second : (a c : ℕ) (s t : Cursor) → Gave (Ok (a, s)) c t → s ≡ t
gave_second a c s t e = grind arith

pub text_first : (a b : List ℕ) (s t : Cursor) → GaveText (Ok (a, s)) b t → a ≡ b
text_first a b s t e = grind arith

pub text_second : (a b : List ℕ) (s t : Cursor) → GaveText (Ok (a, s)) b t → s ≡ t
text_second a b s t e = grind arith

-- digits that were read
record Digits (v n : ℕ) (m : Marker) (xs : List ℕ) (w : ℕ) (s : Cursor) : Type 0 where
  ds : List ℕ
  split : xs ≡ ds ++ s.rest
  count : length ds ≡ n
  hex : AreIn is_hex ds
  value : spelling.hexadecimal_from v ds ≡ w
  passes : (n : Marker) (u : List ℕ) → IsPassed s.mark s.rest n u → IsPassed m xs n u

-- Hexadecimal digits that were read are the first characters, as many as were asked for, and spell the number. By
-- induction on how many are left.
digits_spelled : (start : Marker) (n v : ℕ) (t : Cursor) (w : ℕ) (s : Cursor) → Gave (digits start n v t) w s
    → Digits v n t.mark t.rest w s
unfolding digits
digits_spelled start zero v t w s e = record {
  ds = [];
  split = ap (λ (x : Cursor). x.rest) (gave_second v w t s e);
  count = refl;
  hex = tt;
  value = gave_first v w t s e;
  passes = λ n u p. subst (λ (x : Cursor). IsPassed x.mark x.rest n u) (sym (gave_second v w t s e)) p;
}
digits_spelled start (suc n) v t w s e =
    by_test (is_hex (slice_index t.rest 0)) _ _ (λ r. Gave r w s → Digits v (suc n) t.mark t.rest w s)
    (λ hex g. more t.rest hex (digits_spelled start n _ (pass 1 t) w s g)) (λ _ g. nothing _ w s g) e
  where
    more : (xs : List ℕ) → is_hex (slice_index xs 0) ≡ true
        → Digits (v * 16 + hex_value (slice_index xs 0)) n (along t.mark 1) (drop 1 xs) w s
        → Digits v (suc n) t.mark xs w s
    more [] hex d = absurd (false≢true hex)
    more (c ∷ cs) hex d = record {
      ds = c ∷ d.ds;
      split = ap (λ y. c ∷ y) d.split;
      count = ap suc d.count;
      hex = (hex, d.hex);
      value = d.value;
      passes = λ n u p. passing.character t.mark c cs n u (hex_no_break c hex) (d.passes n u p);
    }

-- an escape that was read, after its backslash
pub record Escape (m : Marker) (e : ℕ) (xs : List ℕ) (c : ℕ) (s : Cursor) : Type 0 where
  pub grows : (n : ℕ) (items : List Item) (x : List ℕ) → quotes.IsCleanText n Double s.rest items x
      → quotes.IsCleanText n Double (backslash ∷ e ∷ xs) (Escaped c ∷ items) x
  pub shorter : length s.rest ≤ length xs
  pub passes : (n : Marker) (u : List ℕ) → IsPassed s.mark s.rest n u → IsPassed m (backslash ∷ e ∷ xs) n u

pub then_gave : (r : Result (ℕ × Cursor) Refusal) (f : ℕ × Cursor → Result (ℕ × Cursor) Refusal) (c : ℕ) (s : Cursor)
    → Gave (r >>= f) c s → (w : ℕ) × (u : Cursor) × Gave r w u × Gave (f (w, u)) c s
then_gave (Ok x) f c s e = (x.0, x.1, refl, e)
then_gave (Err r) f c s e = nothing r c s e

pub then_text : (r : Result (ℕ × Cursor) Refusal) (f : ℕ × Cursor → Result (List ℕ × Cursor) Refusal) (b : List ℕ)
    (s : Cursor) → GaveText (r >>= f) b s → (w : ℕ) × (u : Cursor) × Gave r w u × GaveText (f (w, u)) b s
then_text (Ok x) f b s e = (x.0, x.1, refl, e)
then_text (Err r) f b s e = nothing_text r b s e

pub front_gave : (a : List ℕ) (r : Result (List ℕ × Cursor) Refusal) (b : List ℕ) (s : Cursor)
    → GaveText (with_front a r) b s → (y : List ℕ) × GaveText r y s × (a ++ y ≡ b)
front_gave a u0 b s e = grind arith

scalar_gave : (start : Marker) (w c : ℕ) (u s : Cursor) → Gave (character start w u) c s
    → IsTrue (is_scalar_value w) × (w ≡ c) × (u ≡ s)
unfolding character
scalar_gave start w c u s = grind arith

number_spelled : (start m : Marker) (e : ℕ) (xs : List ℕ) (c : ℕ) (s : Cursor) (o : Option ℕ) → digit_count e ≡ o
    → Gave (escape_by_number start o (mid_line m (backslash ∷ e ∷ xs))) c s → Escape m e xs c s
unfolding escape_by_number
number_spelled start m e xs c s None asked g = nothing _ c s g
number_spelled start m e xs c s (Some n) asked g =
    let t = then_gave (digits start n 0 (pass 2 (mid_line m (92 ∷ e ∷ xs)))) _ c s g in
    let d = digits_spelled start n 0 (pass 2 (mid_line m (92 ∷ e ∷ xs))) t.0 t.1 t.2 in
    let k = scalar_gave start t.0 c t.1 s t.3 in
    let split : xs ≡ d.ds ++ s.rest = d.split ∙ ap (λ (u : Cursor). d.ds ++ u.rest) k.2 in
    let is : spelling.IsNumber e c d.ds = record {
      count = asked ∙ ap Some (sym d.count);
      hex = d.hex;
      value = d.value ∙ k.1;
      scalar = subst (λ (n : ℕ). IsTrue (is_scalar_value n)) k.1 k.0;
    } in
    record {
      grows = λ n items x r. subst (λ (y : List ℕ). quotes.IsCleanText n Double (92 ∷ e ∷ y) (Escaped c ∷ items) x)
          (sym split) (quotes.numbered n e c d.ds s.rest items x is r);
      shorter = rw (split, length-append) (omega arith);
      passes = λ n u p. letter_passed m e xs n u (no_break_digits e _ asked)
          (d.passes n u (subst (λ (x : Cursor). IsPassed x.mark x.rest n u) (sym k.2) p));
    }

of_spelled : (start m : Marker) (e : ℕ) (xs : List ℕ) (c : ℕ) (s : Cursor) (o : Option ℕ) → short_escape e ≡ o
    → Gave (escape_of start o e (mid_line m (backslash ∷ e ∷ xs))) c s → Escape m e xs c s
unfolding escape_of
of_spelled start m e xs c s (Some k) is g =
    let same : k ≡ c = gave_first k c (pass 2 (mid_line m (92 ∷ e ∷ xs))) s g in
    let left : xs ≡ s.rest = ap (λ (u : Cursor). u.rest) (gave_second k c (pass 2 (mid_line m (92 ∷ e ∷ xs))) s g) in
    record {
      grows = λ n items x r. rw left (quotes.escaped n e c s.rest items x (is ∙ ap Some same) r);
      shorter = rw left (omega arith);
      passes = λ n u p. letter_passed m e xs n u (no_break_simple e k is)
          (subst (λ (x : Cursor). IsPassed x.mark x.rest n u)
          (sym (gave_second k c (pass 2 (mid_line m (92 ∷ e ∷ xs))) s g)) p);
    }
of_spelled start m e xs c s None is g = number_spelled start m e xs c s (digit_count e) refl g

pub escape_spelled : (start m : Marker) (e : ℕ) (xs : List ℕ) (c : ℕ) (s : Cursor)
    → Gave (escaped_character start (mid_line m (backslash ∷ e ∷ xs))) c s → Escape m e xs c s
unfolding escaped_character
escape_spelled start m e xs c s g = of_spelled start m e xs c s (short_escape e) refl g

pub no_escape : (start m : Marker) (c : ℕ) (s : Cursor)
    → Gave (escaped_character start (mid_line m (backslash ∷ []))) c s → ⊥
unfolding escaped_character escape_of escape_by_number short_escape
no_escape start m c s g = absurd (nothing _ c s g)
