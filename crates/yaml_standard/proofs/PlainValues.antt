-- A plain scalar has a value, and so has a plain key.
use Rattle.std.proofs.Common.{◌≡◌, ◌≢◌, ℕ, Bool, false, List, [], ◌∷◌, ◌++◌, refl, sym, ap, subst, inl, inr}
use Rattle.std.specs.Prelude.{IsTrue, map, ◌==◌}
use Rattle.std.proofs.lemmas.Bool.Decides.{nat_tests}
use Rattle.std.proofs.Common.{arith}
use Rattle.saphyr_input.specs.Classes.{is_blank}
use Rattle.saphyr_input.proofs.Basics.Lists.{cons_not_empty}
use Rattle.saphyr_scalar.specs.Spelling.Tag.{AreIn}
use Rattle.saphyr_scalar.specs.Values.Flow.{plain_value, raw_item}
use Rattle.saphyr_scalar.specs.Values.Folding.{folded_from}
use Rattle.scalar_laws.specs.Spelling.Plain.{is_plain_safe, ArePlainSafe}
use Rattle.yaml_laws.specs.Grammar.FlowScalars.{IsPlain, IsPlainKey}

safe_raw : (in_flow : Bool) (c : ℕ) → IsTrue (is_plain_safe in_flow c) → ((c == 10) ≡ false) × (is_blank c ≡ false)
safe_raw in_flow c h = (grind (arith, nat_tests), grind (arith, nat_tests))

-- a character of words begins the text
abbrev BeginsSafe : Bool → List ℕ → Type 0
BeginsSafe in_flow t = (c : ℕ) × (cs : List ℕ) × IsTrue (is_plain_safe in_flow c) × (t ≡ c ∷ cs)

value_some : (in_flow : Bool) (t : List ℕ) → BeginsSafe in_flow t → plain_value t ≢ []
value_some in_flow t (c, cs, safe, e) =
    let raw = safe_raw in_flow c safe in
    subst (λ (x : List ℕ). plain_value x ≢ []) (sym e)
    (rw (raw.0, raw.1) (cons_not_empty c (folded_from false (map raw_item cs))))

begins_more : (in_flow : Bool) (t x : List ℕ) → BeginsSafe in_flow t → BeginsSafe in_flow (t ++ x)
begins_more in_flow t x (c, cs, safe, e) = (c, cs ++ x, safe, ap (λ y. y ++ x) e)

word_begins : (in_flow : Bool) (w : List ℕ) → w ≢ [] → ArePlainSafe in_flow w → BeginsSafe in_flow w
word_begins in_flow [] some h = absurd (some refl)
word_begins in_flow (c ∷ cs) some h = (c, cs, h.0, refl)

last_begins : (in_flow : Bool) (w : List ℕ) → w ≢ [] → AreIn (is_plain_safe in_flow) w → BeginsSafe in_flow w
last_begins in_flow [] some h = absurd (some refl)
last_begins in_flow (c ∷ cs) some h = (c, cs, h.0, refl)

plain_begins : (in_flow : Bool) (indent : ℕ) (t : List ℕ) → IsPlain in_flow indent t → BeginsSafe in_flow t
plain_begins in_flow indent t (first, others, word, _, e) =
    subst (λ (x : List ℕ). BeginsSafe in_flow x) (sym e)
    (begins_more in_flow first others (word_begins in_flow first word.0.some word.0.safe))

pub plain_value_some : (in_flow : Bool) (indent : ℕ) (t : List ℕ) → IsPlain in_flow indent t → plain_value t ≢ []
plain_value_some in_flow indent t h = value_some in_flow t (plain_begins in_flow indent t h)

pub key_value_some : (in_flow : Bool) (indent : ℕ) (t : List ℕ) → IsPlainKey in_flow indent t → plain_value t ≢ []
key_value_some in_flow indent t (inl (word, _)) = value_some in_flow t (last_begins in_flow t word.0 word.1)
key_value_some in_flow indent t (inr k) =
    value_some in_flow t
    (subst (λ (x : List ℕ). BeginsSafe in_flow x) (sym k.8)
    (begins_more in_flow k.0 (k.1 ++ (k.2 ++ k.3)) (plain_begins in_flow indent k.0 k.4)))
