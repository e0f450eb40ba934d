-- A character that is not ASCII is passed without being decoded, where its first byte says how many bytes it has and
-- that it is in the class.
use Rattle.std.proofs.Common.{◌≡◌, ℕ, ◌+◌, ◌-◌, ◌<◌, ◌≤◌, Bool, true, false, List, [], ◌∷◌, ◌++◌, length, drop, get_or, IsUtf8, refl, sym, ap, ◌∙◌, subst, arith, inl, inr, encode_utf8, encode_utf8_all}
use Rattle.std.specs.Char.{len_utf8}
use Rattle.std.specs.List.{prefix_len}
use Rattle.std.specs.Str.{chars, IsCharBoundary}
use Rattle.std.proofs.lemmas.Bool.{cases_lt}
use Rattle.std.proofs.lemmas.List.{drop-drop, get_or_past}
use Rattle.std.proofs.lemmas.Str.{len_utf8_bounds, drop_past_char, IsUtf8-drop, chars_past_char, IsCharBoundary-past_char, IsCharBoundary-from_rest}
use Rattle.saphyr_input.specs.Fronts.{IsFirstByte, IsSized}
use Rattle.saphyr_input.proofs.Ascii.{at_drop, first_byte_is, first_of_run}

-- the first n bytes are k characters of the run of the class
pub record Passed (p : ℕ → Bool) (bs : List ℕ) (n k : ℕ) : Type 0 where
  pub some : 0 < k
  pub few : k ≤ n
  pub boundary : IsCharBoundary bs n
  pub rest : chars (drop n bs) ≡ drop k (chars bs)
  pub run : k + prefix_len p (chars (drop n bs)) ≡ prefix_len p (chars bs)

-- a text that is not empty is its first character and a text
record Parts (bs : List ℕ) : Type 0 where
  rest : List ℕ
  is : bs ≡ encode_utf8 (get_or (chars bs) 0 0) ++ rest
  behind : chars rest ≡ drop 1 (chars bs)

parts : (bs : List ℕ) → IsUtf8 bs → 0 < length bs → Parts bs
parts bs u some = by u.0 u.1.1
  where
    by : (cs : List ℕ) → encode_utf8_all cs ≡ bs → Parts bs
    by [] e = absurd (omega (arith, some, ap length e))
    by (c ∷ cs) e =
        let all : chars bs ≡ c ∷ chars (encode_utf8_all cs) = chars_past_char bs (encode_utf8_all cs) c u (sym e) in
        record { rest = encode_utf8_all cs; is = rw all (sym e); behind = rw all refl }

some_byte : (bs : List ℕ) → 128 ≤ get_or bs 0 0 → 0 < length bs
some_byte bs wide = elim (cases_lt 0 (length bs)) [
  | inl lt ↦ lt
  | inr ge ↦ absurd (omega (arith, wide, get_or_past bs 0 0 ge))
]

pub one_passed : (p : ℕ → Bool) (bs : List ℕ) (n : ℕ) → IsUtf8 bs → p 0 ≡ false → IsSized p (get_or bs 0 0) n
    → Passed p bs n 1
one_passed p bs n u nul sized =
    let c = get_or (chars bs) 0 0 in
    let some = some_byte bs sized.wide in
    let first = first_byte_is bs u some in
    let h = parts bs u some in
    let long : n ≡ 0 + len_utf8 c = omega (arith, sized.long c first) in
    let left : drop n bs ≡ h.rest = ap (λ (k : ℕ). drop k bs) long ∙ drop_past_char bs h.rest 0 c h.is in
    let rest : chars (drop n bs) ≡ drop 1 (chars bs) = ap chars left ∙ h.behind in
    record {
      some = omega arith;
      few = omega (arith, long, len_utf8_bounds c);
      boundary = subst (IsCharBoundary bs) (sym long) (IsCharBoundary-past_char bs h.rest 0 c (omega arith) u h.is);
      rest = rest;
      run = sym (first_of_run p (chars bs) (chars (drop n bs)) nul (sized.is c first) rest);
    }

pub one_more : (p : ℕ → Bool) (bs : List ℕ) (at n k : ℕ) → IsUtf8 bs → p 0 ≡ false → Passed p bs at k
    → IsSized p (get_or bs at 0) n → Passed p bs (at + n) (k + 1)
one_more p bs at n k u nul h sized =
    let next = one_passed p (drop at bs) n (IsUtf8-drop bs at u h.boundary) nul
    (subst (λ (b : ℕ). IsSized p b n) (sym (at_drop bs at)) sized) in
    let behind : drop (at + n) bs ≡ drop n (drop at bs) = sym (drop-drop n at bs) in
    record {
      some = omega arith;
      few = omega (arith, h.few, next.few);
      boundary = IsCharBoundary-from_rest bs at n h.boundary.0 next.boundary;
      rest = ap chars behind ∙ next.rest ∙ ap (drop 1) h.rest ∙ drop-drop 1 k (chars bs);
      run = rw behind (omega (arith, h.run, next.run));
    }

-- so less is left
pub shorter : (p : ℕ → Bool) (bs : List ℕ) (at n k : ℕ) → IsUtf8 bs → p 0 ≡ false → Passed p bs at k
    → IsSized p (get_or bs at 0) n → at < length bs → length bs - (at + n) < length bs - at
shorter p bs at n k u nul h sized more =
    let next = one_passed p (drop at bs) n (IsUtf8-drop bs at u h.boundary) nul
    (subst (λ (b : ℕ). IsSized p b n) (sym (at_drop bs at)) sized) in
    omega (arith, next.few, more)

-- what the byte that a text begins with says
pub sized : (p : ℕ → Bool) (b n m : ℕ) → 128 ≤ b → n ≡ m → ((c : ℕ) → IsFirstByte b c → n ≡ len_utf8 c)
    → ((c : ℕ) → IsFirstByte b c → p c ≡ true) → IsSized p b m
sized p b n m wide same long is = record { wide = wide; long = λ c first. sym same ∙ long c first; is = is }
