-- Percent escapes, one after the other.
use Rattle.std.proofs.Common.{◌≡◌, ◌≢◌, ℕ, ◌+◌, ◌*◌, ◌<◌, Bool, true, List, [], ◌∷◌, ◌++◌, refl, sym, ap, ◌∙◌, subst, append_assoc, length, take, get_or, add-one, inl, inr}
use Rattle.std.specs.Prelude.{IsTrue, encode_utf8}
use Rattle.std.proofs.lemmas.List.{append-nil}
use Rattle.std.proofs.Math.Seq.{take-suc}
use Rattle.saphyr_input.specs.Classes.{IsHex, hex_value}
use Rattle.saphyr_input.proofs.Basics.Lists.{cons_not_empty}
use Rattle.saphyr_scalar.specs.Values.Escapes.{IsScalarValue, is_scalar_value}
use Rattle.saphyr_scalar.proofs.Properties.UniqueBytes.{scalar_is}
use Rattle.saphyr_scalar.specs.Spelling.Tag.{IsByteEscape, AreByteEscapes, IsCharacter, IsDecoded}
use Rattle.yaml_standard.specs.Percent.{IsEscaped, IsOneOf, AreOf, AreSomeOf}
use Rattle.yaml_standard.specs.Takes.{TakesOff}
use Rattle.yaml_standard.proofs.Pieces.{nothing_taken, taken_so, then}

pub byte_taken : (h l x y : ℕ) (a b c d : List ℕ) → a ≡ 37 ∷ b → b ≡ h ∷ c → c ≡ l ∷ d → IsHex h → IsHex l
    → x ≡ hex_value h → y ≡ hex_value l → TakesOff (IsByteEscape (x * 16 + y)) a d
byte_taken h l x y a b c d e f g hex lex xs ys = record {
  piece = 37 ∷ h ∷ l ∷ [];
  is = (h, l, hex, lex, rw (xs, ys) refl, refl);
  cut = e ∙ ap (λ t. 37 ∷ t) (f ∙ ap (λ t. h ∷ t) g);
}

-- ## Bytes

pub no_bytes : (bs a : List ℕ) → TakesOff (AreByteEscapes (take 0 bs)) a a
no_bytes bs a = nothing_taken (AreByteEscapes []) a refl

both_bytes : (bs : List ℕ) (b : ℕ) (p q : List ℕ) → AreByteEscapes bs p → IsByteEscape b q
    → AreByteEscapes (bs ++ b ∷ []) (p ++ q)
both_bytes [] b p q h k = (q, [], k, refl, ap (λ x. x ++ q) h ∙ sym (append-nil q))
both_bytes (d ∷ ds) b p q h k =
    (h.0, h.1 ++ q, h.2, both_bytes ds b h.1 q h.3 k, ap (λ x. x ++ q) h.4 ∙ append_assoc h.0 h.1 q)

pub bytes_more : (i b : ℕ) (bs r s t : List ℕ) → TakesOff (AreByteEscapes (take i bs)) r s
    → TakesOff (IsByteEscape b) s t
    → i < length bs → b ≡ get_or bs i 0 → TakesOff (AreByteEscapes (take (i + 1) bs)) r t
bytes_more i b bs r s t front one lt is =
    let more : take (i + 1) bs ≡ take i bs ++ b ∷ [] = rw (add-one, is) (take-suc bs i 0 lt) in
    rw more
    (then {P = AreByteEscapes (take i bs)} {Q = IsByteEscape b} (λ p q h k. both_bytes (take i bs) b p q h k) front one)

all_of : (bs : List ℕ) → take (length bs) bs ≡ bs
all_of [] = refl
all_of (b ∷ bs) = ap (λ x. b ∷ x) (all_of bs)

pub bytes_whole : (k : ℕ) (bs a b : List ℕ) → k ≡ length bs → TakesOff (AreByteEscapes (take k bs)) a b
    → TakesOff (AreByteEscapes bs) a b
bytes_whole k bs a b e t = subst (λ (x : List ℕ). TakesOff (AreByteEscapes x) a b) (ap (λ n. take n bs) e ∙ all_of bs) t

pub escaped : (w c : ℕ) (xs bs a b : List ℕ) → is_scalar_value w ≡ true → w ≡ c → bs ≡ xs → xs ≡ encode_utf8 c
    → TakesOff (AreByteEscapes bs) a b → TakesOff IsEscaped a b
escaped w c xs bs a b is same d e t =
    taken_so {P = AreByteEscapes bs}
    (λ p h. (c, subst (λ n. IsScalarValue n) same (scalar_is w is), subst (λ x. AreByteEscapes x p) (d ∙ e) h)) t

-- ## Characters

pub one_as_it_is : (set : ℕ → Bool) (c : ℕ) (a b : List ℕ) → a ≡ c ∷ b → IsTrue (set c) → c ≢ 37
    → TakesOff (IsOneOf set) a b
one_as_it_is set c a b e is other = record { piece = c ∷ []; is = (c, inl (is, other, refl)); cut = e }

pub one_escaped : (set : ℕ → Bool) (a b : List ℕ) → TakesOff IsEscaped a b → TakesOff (IsOneOf set) a b
one_escaped set a b t = taken_so {P = IsEscaped} (λ p h. (h.0, inr (h.1, h.2))) t

both_decoded : (set : ℕ → Bool) (cs : List ℕ) (c : ℕ) (p q : List ℕ) → IsDecoded set cs p → IsCharacter set c q
    → IsDecoded set (cs ++ c ∷ []) (p ++ q)
both_decoded set [] c p q h k = (q, [], k, refl, ap (λ x. x ++ q) h ∙ sym (append-nil q))
both_decoded set (d ∷ ds) c p q h k =
    (h.0, h.1 ++ q, h.2, both_decoded set ds c h.1 q h.3 k, ap (λ x. x ++ q) h.4 ∙ append_assoc h.0 h.1 q)

pub none_decoded : (set : ℕ → Bool) (a : List ℕ) → TakesOff (AreOf set) a a
none_decoded set a = nothing_taken (AreOf set) a ([], refl)

pub more_decoded : (set : ℕ → Bool) (a b c : List ℕ) → TakesOff (AreOf set) a b → TakesOff (IsOneOf set) b c
    → TakesOff (AreOf set) a c
more_decoded set a b c s t =
    then {P = AreOf set} {Q = IsOneOf set} (λ p q h k. (h.0 ++ k.0 ∷ [], both_decoded set h.0 k.0 p q h.1 k.1)) s t

pub some_decoded : (set : ℕ → Bool) (a b c : List ℕ) → TakesOff (IsOneOf set) a b → TakesOff (AreOf set) b c
    → TakesOff (AreSomeOf set) a c
some_decoded set a b c s t =
    then {P = IsOneOf set} {Q = AreOf set}
    (λ p q h k. (h.0 ∷ k.0, cons_not_empty h.0 k.0, (p, q, h.1, k.1, refl))) s t
