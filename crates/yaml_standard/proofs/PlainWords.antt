-- The characters of words.
use Rattle.std.proofs.Common.{◌≡◌, ◌≢◌, ℕ, ◌<◌, Bool, true, false, List, [], ◌∷◌, ◌++◌, refl, sym, ap, ◌∙◌, subst, arith, length, length-append}
use Rattle.std.specs.Prelude.{IsTrue, slice_index, ◌==◌}
use Rattle.saphyr_input.proofs.Basics.Lists.{cons_not_empty}
use Rattle.saphyr_input.proofs.Sets.{is_char}
use Rattle.saphyr_scalar.specs.Spelling.Tag.{AreIn}
use Rattle.scalar_laws.specs.Spelling.Plain.{is_plain_safe, ArePlainSafe, IsWordIn}
use Rattle.scalar_laws.proofs.Beginnings.{both_in, heads, tails}
use Rattle.yaml_standard.specs.Takes.{TakesOff}
use Rattle.yaml_standard.specs.Words.{IsSafePart, AreSomeSafe}
use Rattle.yaml_standard.proofs.Pieces.{nothing_taken, then, known_then, then_known}
use Rattle.yaml_laws.proofs.Flow.Words.{both_some, colon_is_safe}

pub no_colons : (a : List ℕ) → TakesOff (AreIn (λ x. x == 58)) a a
no_colons a = nothing_taken _ a tt

pub one_more_colon : (a b c : List ℕ) → TakesOff (AreIn (λ x. x == 58)) a b → b ≡ 58 ∷ c
    → TakesOff (AreIn (λ x. x == 58)) a c
one_more_colon a b c s e = then_known (58 ∷ []) (λ p k. both_in (λ x. x == 58) p (58 ∷ []) k (refl, tt)) s e

pub part_taken : (in_flow : Bool) (x : ℕ) (a b c : List ℕ) → TakesOff (AreIn (λ y. y == 58)) a b → b ≡ x ∷ c
    → IsTrue (is_plain_safe in_flow x) → x ≢ 58 → TakesOff (IsSafePart in_flow) a c
part_taken in_flow x a b c s e safe other = then_known (x ∷ []) (λ p k. (p, x, k, safe, other, refl)) s e

dash_safe : (in_flow : Bool) → IsTrue (is_plain_safe in_flow 45)
dash_safe true = refl
dash_safe false = refl

pub more_end : (t : List ℕ) (c : ℕ) → t ++ c ∷ [] ≢ []
more_end [] c e = cons_not_empty c [] e
more_end (x ∷ xs) c e = cons_not_empty x (xs ++ c ∷ []) e

both_safe : (in_flow : Bool) (p q : List ℕ) → ArePlainSafe in_flow p → ArePlainSafe in_flow q
    → ArePlainSafe in_flow (p ++ q)
both_safe in_flow [] q h k = k
both_safe in_flow (c ∷ cs) q h k = (h.0, λ e. both_some cs q (h.1 e), both_safe in_flow cs q h.2 k)

part_safe : (in_flow : Bool) (colons : List ℕ) (c : ℕ) → AreIn (λ x. x == 58) colons → IsTrue (is_plain_safe in_flow c)
    → c ≢ 58 → ArePlainSafe in_flow (colons ++ c ∷ [])
part_safe in_flow [] c h safe other = (safe, λ e. absurd (other e), tt)
part_safe in_flow (x ∷ xs) c h safe other =
    let is : x ≡ 58 = (is_char x 58).0 h.0 in (
      subst (λ y. IsTrue (is_plain_safe in_flow y)) (sym is) (colon_is_safe in_flow),
      λ e. more_end xs c,
      part_safe in_flow xs c h.1 safe other,
    )

some_part : (in_flow : Bool) (p : List ℕ) → IsSafePart in_flow p → AreSomeSafe in_flow p
some_part in_flow p h = rw h.5 (more_end h.0 h.1, part_safe in_flow h.0 h.1 h.2 h.3 h.4)

pub nothing_safe : (in_flow : Bool) (a : List ℕ) → TakesOff (ArePlainSafe in_flow) a a
nothing_safe in_flow a = nothing_taken _ a tt

pub one_more_part : (in_flow : Bool) (a b c : List ℕ) → TakesOff (ArePlainSafe in_flow) a b
    → TakesOff (IsSafePart in_flow) b c → TakesOff (ArePlainSafe in_flow) a c
one_more_part in_flow a b c s t = then (λ p q h k. both_safe in_flow p q h (some_part in_flow q k).1) s t

pub part_shorter : (in_flow : Bool) (a b : List ℕ) → TakesOff (IsSafePart in_flow) a b → length b < length a
part_shorter in_flow a b t =
    let l = length-append t.piece b in let k = length-append t.is.0 (t.is.1 ∷ []) in
    let m : length t.piece ≡ length (t.is.0 ++ t.is.1 ∷ []) = ap length t.is.5 in
    rw t.cut (omega (arith, l, k, m))

pub some_safe : (in_flow : Bool) (a b c : List ℕ) → TakesOff (IsSafePart in_flow) a b
    → TakesOff (ArePlainSafe in_flow) b c → TakesOff (AreSomeSafe in_flow) a c
some_safe in_flow a b c s t =
    then (λ p q h k. let some = some_part in_flow p h in (both_some p q some.0, both_safe in_flow p q some.1 k)) s t

pub first_is : (p r b : List ℕ) (c : ℕ) → p ≢ [] → c ∷ b ≡ p ++ r → slice_index p 0 ≡ c
first_is [] r b c some e = absurd (some refl)
first_is (x ∷ p) r b c some e = heads c x b (p ++ r) e

pub word_taken : (in_flow : Bool) (x : ℕ) (a b c : List ℕ) → a ≡ x ∷ b → x ≢ 35 → (in_flow ≡ true → x ≢ 45)
    → TakesOff (AreSomeSafe in_flow) a c → TakesOff (IsWordIn in_flow) a c
word_taken in_flow x a b c e no_comment no_dash t =
    let first = first_is t.piece c b x t.is.0 (sym e ∙ t.cut) in
    record {
      piece = t.piece;
      is = record {
        some = t.is.0;
        safe = t.is.1;
        no_comment = λ h. no_comment (sym first ∙ h);
        no_lone_dash = λ inside h. no_dash inside (sym first ∙ ap (λ y. slice_index y 0) h);
      };
      cut = t.cut;
    }

pub dashed_word_taken : (in_flow : Bool) (a b c : List ℕ) → a ≡ 45 ∷ b → TakesOff (AreSomeSafe in_flow) b c
    → TakesOff (IsWordIn in_flow) a c
dashed_word_taken in_flow a b c e t =
    known_then (45 ∷ [])
    (λ q k. record {
      some = cons_not_empty 45 q;
      safe = (dash_safe in_flow, λ h. absurd (omega (arith, h)), k.1);
      no_comment = λ h. omega (arith, h);
      no_lone_dash = λ _ h. k.0 (tails 45 45 q [] h);
    })
    e t
