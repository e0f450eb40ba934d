-- Pieces at the front of a text, one after the other.
use Rattle.std.proofs.Common.{◌≡◌, ◌≢◌, ℕ, Bool, true, List, [], ◌∷◌, ◌++◌, take, drop, length, ◌-◌, ◌<◌, refl, sym, ap, ◌∙◌, append_assoc, arith, length-append, Option, None, Some, IsUtf8, subst}
use Rattle.std.specs.Prelude.{IfSome, IsTrue, is_some}
use Rattle.std.specs.List.{prefix_len, slice_range}
use Rattle.std.specs.Str.{chars}
use Rattle.std.specs.Str.Iter.{chars_steps}
use Rattle.std.specs.declared.str.Chars.{Chars}
use Rattle.std.proofs.lemmas.Bool.{and_parts}
use Rattle.std.specs.Cmp.Derive.{both_true}
use Rattle.std.proofs.lemmas.Str.{chars_past_char, chars-encodes, encodes-chars, encodes-append, scalars-chars}
use Rattle.std.proofs.lemmas.List.{append-nil, take-append-drop}
use Rattle.std.proofs.Math.Seq.{take-append_seam}
use Rattle.std.proofs.Math.Utf8.{encodes, scalars}
use Rattle.saphyr_input.proofs.Basics.Lists.{cons_not_empty}
use Rattle.saphyr_scalar.specs.Spelling.Tag.{AreIn}
use Rattle.saphyr_scalar.proofs.Runs.{run_is_in}
use Rattle.scalar_laws.specs.Spelling.Spaces.{joined_pieces, AreEach, AreMany}
use Rattle.yaml_standard.specs.Takes.{TakesOff}

-- ## Characters

pub first_passed : (bs : List ℕ) (s t : Chars) (c : ℕ) → IsUtf8 bs → s.rest.now ≡ bs → chars_steps s (Some c) t
    → chars bs ≡ c ∷ chars t.rest.now
first_passed bs s t c u e h =
    let v : IsUtf8 s.rest.now = subst IsUtf8 (sym e) u in
    ap chars (sym e) ∙ chars_past_char s.rest.now t.rest.now c v h.0

pub run_taken : (p : ℕ → Bool) (a b : List ℕ) (n : ℕ) → n ≡ prefix_len p a → b ≡ drop n a → TakesOff (AreIn p) a b
run_taken p a b n count left = record {
  piece = take (prefix_len p a) a;
  is = run_is_in p a;
  cut = sym (ap (λ t. take (prefix_len p a) a ++ t) (left ∙ ap (λ k. drop k a) count)
      ∙ take-append-drop (prefix_len p a) a);
}

-- ## Pieces

-- what a clause says of a value, where there is one
pub found : {A Q : Type 0} {P : A → Type 0} (o : Option A) → ((x : A) → P x → Q) → IfSome o P → is_some o ≡ true → Q
found None f h e = absurd (cc)
found (Some x) f h e = f x h

pub nothing_taken : (P : List ℕ → Type 0) (a : List ℕ) → P [] → TakesOff P a a
nothing_taken P a is = record { piece = []; is = is; cut = refl }

pub taken_so : {P R : List ℕ → Type 0} {a b : List ℕ} → ((p : List ℕ) → P p → R p) → TakesOff P a b → TakesOff R a b
taken_so f s = record { piece = s.piece; is = f s.piece s.is; cut = s.cut }

-- one piece, and another after it
pub then : {P Q R : List ℕ → Type 0} {a b c : List ℕ} → ((p q : List ℕ) → P p → Q q → R (p ++ q)) → TakesOff P a b
    → TakesOff Q b c → TakesOff R a c
then {c = c} f s t = record {
  piece = s.piece ++ t.piece;
  is = f s.piece t.piece s.is t.is;
  cut = s.cut ∙ ap (λ x. s.piece ++ x) t.cut ∙ sym (append_assoc s.piece t.piece c);
}

-- the same, with the pieces first
pub joined : {P Q R : List ℕ → Type 0} {a b c : List ℕ} → TakesOff P a b → TakesOff Q b c
    → ((p q : List ℕ) → P p → Q q → R (p ++ q)) → TakesOff R a c
joined s t f = then f s t

-- characters that are known, and a piece after them
pub known_then : {Q R : List ℕ → Type 0} {a b c : List ℕ} (known : List ℕ) → ((q : List ℕ) → Q q → R (known ++ q))
    → a ≡ known ++ b → TakesOff Q b c → TakesOff R a c
known_then {c = c} known f e t = record {
  piece = known ++ t.piece;
  is = f t.piece t.is;
  cut = e ∙ ap (λ x. known ++ x) t.cut ∙ sym (append_assoc known t.piece c);
}

-- a piece, and known characters after it
pub then_known : {P R : List ℕ → Type 0} {a b c : List ℕ} (known : List ℕ) → ((p : List ℕ) → P p → R (p ++ known))
    → TakesOff P a b → b ≡ known ++ c → TakesOff R a c
then_known {c = c} known f s e = record {
  piece = s.piece ++ known;
  is = f s.piece s.is;
  cut = s.cut ∙ ap (λ x. s.piece ++ x) e ∙ sym (append_assoc s.piece known c);
}

-- some characters of a set
pub some_taken : (set : ℕ → Bool) (c : ℕ) (a b r : List ℕ) → a ≡ c ∷ b → IsTrue (set c) → TakesOff (AreIn set) b r
    → TakesOff (λ t. (t ≢ []) × AreIn set t) a r
some_taken set c a b r e is t = known_then {Q = AreIn set} (c ∷ []) (λ q k. (cons_not_empty c q, (is, k))) e t

-- ## Any number of pieces

each_more : (P : List ℕ → Type 0) (ps : List (List ℕ)) (b : List ℕ) → AreEach P ps → P b → AreEach P (ps ++ b ∷ [])
each_more P [] b h k = (k, tt)
each_more P (p ∷ ps) b h k = (h.0, each_more P ps b h.1 k)

joined_more : (ps : List (List ℕ)) (b : List ℕ) → joined_pieces (ps ++ b ∷ []) ≡ joined_pieces ps ++ b
joined_more [] b = append-nil b
joined_more (p ∷ ps) b = ap (λ t. p ++ t) (joined_more ps b) ∙ sym (append_assoc p (joined_pieces ps) b)

pub many_more : (P : List ℕ → Type 0) (a b : List ℕ) → AreMany P a → P b → AreMany P (a ++ b)
many_more P a b m k =
    (m.0 ++ b ∷ [], each_more P m.0 b m.1 k, ap (λ t. t ++ b) m.2 ∙ sym (joined_more m.0 b))

pub none_of_many : (P : List ℕ → Type 0) (a : List ℕ) → TakesOff (AreMany P) a a
none_of_many P a = nothing_taken (AreMany P) a ([], tt, refl)

pub one_of_many : (P : List ℕ → Type 0) (a b c : List ℕ) → TakesOff (AreMany P) a b → TakesOff P b c
    → TakesOff (AreMany P) a c
one_of_many P a b c s t = then (λ p q m k. many_more P p q m k) s t

-- ## The text between two places

scalars_before : (n m : List ℕ) → scalars (n ++ m) ≡ true → scalars n ≡ true
scalars_before [] m e = refl
scalars_before (c ∷ cs) m e = let w = and_parts _ _ e in both_true w.0 (scalars_before cs m w.1)

pub front_is : (s r x n : List ℕ) (count : ℕ) → IsUtf8 s → IsUtf8 r → count ≡ length s - length r
    → x ≡ slice_range s 0 count → chars s ≡ n ++ chars r → chars x ≡ n
front_is s r x n count us ur many e f =
    let whole : s ≡ encodes n ++ r = sym (encodes-chars s us) ∙ ap encodes f ∙ encodes-append n (chars r)
    ∙ ap (λ y. encodes n ++ y) (encodes-chars r ur) in
    let long = length-append (encodes n) r in
    let k : count - 0 ≡ length (encodes n) =
    omega arith ∙ many ∙ ap (λ y. length y - length r) whole ∙ omega (arith, long) in
    let same : x ≡ encodes n = e ∙ ap (λ y. take y s) k ∙ ap (λ y. take (length (encodes n)) y) whole
    ∙ take-append_seam (encodes n) r in
    ap chars same ∙ chars-encodes n (scalars_before n (chars r) (ap scalars (sym f) ∙ scalars-chars s us))

pub something_before : (s r n : List ℕ) → IsUtf8 s → IsUtf8 r → length r < length s → chars s ≡ n ++ chars r → n ≢ []
something_before s r n us ur shorter e none =
    let same : s ≡ r = sym (encodes-chars s us) ∙ ap encodes (e ∙ ap (λ x. x ++ chars r) none) ∙ encodes-chars r ur in
    let long : length s ≡ length r = ap length same in
    omega (arith, shorter, long)

nothing : (t : List ℕ) → length t ≡ 0 → t ≡ []
nothing [] e = refl
nothing (c ∷ cs) e = absurd (cc)

-- what is as long as its rest is the rest
pub same_text : (s r n : List ℕ) → IsUtf8 s → IsUtf8 r → length s ≡ length r → chars s ≡ n ++ chars r
    → chars s ≡ chars r
same_text s r n us ur alike e =
    let whole : s ≡ encodes n ++ r = sym (encodes-chars s us) ∙ ap encodes e ∙ encodes-append n (chars r)
    ∙ ap (λ y. encodes n ++ y) (encodes-chars r ur) in
    let long : length s ≡ length (encodes n ++ r) = ap length whole in
    let sum = length-append (encodes n) r in
    let none : length (encodes n) ≡ 0 = omega (arith, alike, long, sum) in
    ap chars (whole ∙ ap (λ y. y ++ r) (nothing (encodes n) none))
