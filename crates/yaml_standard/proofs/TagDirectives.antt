-- Tag directives.
use Rattle.std.proofs.Common.{◌≡◌, ℕ, List, ◌∷◌, ◌++◌, refl, ap, ◌∙◌, encode_utf8_all}
use Rattle.std.specs.Prelude.{codes, ◌||◌, ◌==◌}
use Rattle.saphyr_input.specs.Classes.{is_tag_char, is_uri_char}
use Rattle.saphyr_scalar.specs.Spelling.Directive.{AreSomeBlanks}
use Rattle.saphyr_scalar.specs.Spelling.Tag.{IsHandleText}
use Rattle.yaml_standard.specs.Directives.{IsSomePrefix, IsTagPrefixOf}
use Rattle.yaml_standard.specs.Percent.{IsOneOf, AreOf}
use Rattle.yaml_standard.specs.Takes.{TakesOff}
use Rattle.yaml_standard.proofs.Pieces.{then, known_then}

pub prefix_taken : (a b c : List ℕ) → TakesOff (IsOneOf (λ x. is_tag_char x || (x == 33))) a b
    → TakesOff (AreOf is_uri_char) b c → TakesOff IsSomePrefix a c
prefix_taken a b c s t =
    then {P = IsOneOf (λ x. is_tag_char x || (x == 33))} {Q = AreOf is_uri_char}
    (λ p q h k. (h.0 ∷ k.0, (p, q, h.1, k.1, refl))) s t

pub tag_name : (a b c d e : List ℕ) → a ≡ 37 ∷ b → b ≡ 84 ∷ c → c ≡ 65 ∷ d → d ≡ 71 ∷ e → a ≡ codes "%TAG" ++ e
tag_name a b c d e f g h i =
    f ∙ ap (λ x. 37 ∷ x) (g ∙ ap (λ x. 84 ∷ x) (h ∙ ap (λ x. 65 ∷ x) i))

-- a handle, and its bytes
abbrev IsHandleOf : List ℕ → List ℕ → Type 0
IsHandleOf bytes t = IsHandleText t × (bytes ≡ encode_utf8_all t)

abbrev IsBlanksAndPrefix : List ℕ → Type 0
IsBlanksAndPrefix t = (blanks written : List ℕ) × AreSomeBlanks blanks × IsSomePrefix written × (t ≡ blanks ++ written)

abbrev IsHandleAndMore : List ℕ → List ℕ → Type 0
IsHandleAndMore bytes t =
    (handle others : List ℕ) × IsHandleOf bytes handle × IsBlanksAndPrefix others × (t ≡ handle ++ others)

abbrev IsBlanksAndMore : List ℕ → List ℕ → Type 0
IsBlanksAndMore bytes t =
    (blanks others : List ℕ) × AreSomeBlanks blanks × IsHandleAndMore bytes others × (t ≡ blanks ++ others)

pub tag_prefix_taken : (bytes a b c d e f : List ℕ) → a ≡ codes "%TAG" ++ b → TakesOff AreSomeBlanks b c
    → (handle : TakesOff IsHandleText c d) → bytes ≡ encode_utf8_all handle.piece → TakesOff AreSomeBlanks d e
    → TakesOff IsSomePrefix e f → TakesOff (IsTagPrefixOf bytes) a f
tag_prefix_taken bytes a b c d e f name s handle same t u =
    let written : TakesOff (IsHandleOf bytes) c d =
    record { piece = handle.piece; is = (handle.is, same); cut = handle.cut } in
    known_then {Q = IsBlanksAndMore bytes} (codes "%TAG")
    (λ q k. let h = k.3 in let p = h.3 in (
      h.0,
      p.3.0,
      h.2.1,
      (
        k.0,
        p.0,
        p.1,
        k.2,
        p.2,
        h.2.0,
        p.3.1,
        ap (λ x. codes "%TAG" ++ x) (k.4 ∙ ap (λ x. k.0 ++ x) (h.4 ∙ ap (λ x. h.0 ++ x) p.4)),
      ),
    )) name
    (then {P = AreSomeBlanks} {Q = IsHandleAndMore bytes} (λ p q h k. (p, q, h, k, refl)) s
    (then {P = IsHandleOf bytes} {Q = IsBlanksAndPrefix} (λ p q h k. (p, q, h, k, refl)) written
    (then {P = AreSomeBlanks} {Q = IsSomePrefix} (λ p q h k. (p, q, h, k, refl)) t u)))
