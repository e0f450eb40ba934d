-- Breaks that are made line feeds.
use Rattle.std.proofs.Common.{◌≡◌, ◌≢◌, ℕ, Bool, true, false, List, [], ◌∷◌, ◌++◌, refl, sym, ap, ◌∙◌, append_assoc, arith, IsUtf8, encode_utf8_all}
use Rattle.std.specs.Prelude.{◌==◌, encode_utf8, if◌then◌else◌, slice_index}
use Rattle.std.specs.Str.{chars}
use Rattle.std.specs.Cmp.Derive.{both_true}
use Rattle.std.proofs.lemmas.Bool.{and_parts}
use Rattle.std.proofs.lemmas.Bool.Decides.{nat_tests}
use Rattle.std.proofs.lemmas.List.{append-nil}
use Rattle.std.proofs.lemmas.Str.{chars-encodes, encodes-append, scalars-chars}
use Rattle.std.proofs.Math.Utf8.{scalar, scalars}
use Rattle.saphyr_input.specs.Breaks.{normal_break, normalized}

no_return : (c : ℕ) → c ≢ 13 → (c == 13) ≡ false
no_return c h = grind (arith, nat_tests)

pub other_put : (old new others : List ℕ) (c : ℕ) → c ≢ 13 → new ≡ old ++ encode_utf8 c
    → new ≡ old ++ encode_utf8_all (normal_break c others)
other_put old new others c h e = rw (no_return c h) (e ∙ ap (λ t. old ++ t) (sym (append-nil (encode_utf8 c))))

pub feed_put : (old new others : List ℕ) (c : ℕ) → c ≡ 13 → (slice_index others 0 == 10) ≡ false
    → new ≡ old ++ encode_utf8 10 → new ≡ old ++ encode_utf8_all (normal_break c others)
feed_put old new others c is h e = rw (is, h) (e ∙ ap (λ t. old ++ t) (sym (append-nil (encode_utf8 10))))

pub more_feeds : (old new whole a b : List ℕ) (c : ℕ) → old ++ encode_utf8_all (normalized a) ≡ whole → a ≡ c ∷ b
    → new ≡ old ++ encode_utf8_all (normal_break c b) → new ++ encode_utf8_all (normalized b) ≡ whole
more_feeds old new whole a b c written e put =
    ap (λ t. t ++ encode_utf8_all (normalized b)) put
    ∙ append_assoc old (encode_utf8_all (normal_break c b)) (encode_utf8_all (normalized b))
    ∙ ap (λ t. old ++ t) (sym (encodes-append (normal_break c b) (normalized b)))
    ∙ ap (λ t. old ++ encode_utf8_all (normalized t)) (sym e) ∙ written

both_scalars : (p q : List ℕ) → scalars p ≡ true → scalars q ≡ true → scalars (p ++ q) ≡ true
both_scalars [] q h k = k
both_scalars (c ∷ cs) q h k = let w = and_parts _ _ h in both_true w.0 (both_scalars cs q w.1 k)

chosen_scalars : (returns feeds : Bool) (c : ℕ) → scalar c ≡ true
    → scalars (if returns then (if feeds then [] else 10 ∷ []) else c ∷ []) ≡ true
chosen_scalars true true c h = refl
chosen_scalars true false c h = refl
chosen_scalars false feeds c h = both_true h refl

normal_scalars : (t : List ℕ) → scalars t ≡ true → scalars (normalized t) ≡ true
normal_scalars [] h = refl
normal_scalars (c ∷ cs) h =
    let w = and_parts _ _ h in
    both_scalars (normal_break c cs) (normalized cs) (chosen_scalars (c == 13) (slice_index cs 0 == 10) c w.0)
    (normal_scalars cs w.1)

pub all_feeds : (bytes text a : List ℕ) → IsUtf8 text
    → bytes ++ encode_utf8_all (normalized a) ≡ encode_utf8_all (normalized (chars text)) → a ≡ []
    → chars bytes ≡ normalized (chars text)
all_feeds bytes text a utf8 written e =
    let whole : bytes ≡ encode_utf8_all (normalized (chars text)) =
    sym (append-nil bytes) ∙ ap (λ t. bytes ++ encode_utf8_all (normalized t)) (sym e) ∙ written in
    ap chars whole ∙ chars-encodes (normalized (chars text)) (normal_scalars (chars text) (scalars-chars text utf8))
