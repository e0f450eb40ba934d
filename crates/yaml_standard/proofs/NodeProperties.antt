-- Tags, anchors and aliases.
use Rattle.std.proofs.Common.{◌≡◌, ℕ, Bool, List, [], ◌∷◌, ◌++◌, refl, ap, ◌∙◌, Some, None, inl, inr}
use Rattle.std.specs.Prelude.{IsTrue}
use Rattle.saphyr_input.specs.Classes.{is_tag_char, is_uri_char, is_alpha}
use Rattle.saphyr_input.proofs.Basics.Lists.{cons_not_empty}
use Rattle.saphyr_scalar.specs.Spelling.Tag.{AreIn, IsAnchorName, IsHandleText}
use Rattle.scalar_laws.specs.Spelling.Spaces.{IsGap}
use Rattle.saphyr_scanner.specs.Grammar.Characters.{AreAll}
use Rattle.saphyr_scanner.specs.Grammar.Forest.{Handle, Primary, Secondary, Named, NonSpecific, Verbatim, Shorthand}
use Rattle.yaml_laws.specs.Grammar.TagSpelling.{IsHandle}
use Rattle.yaml_standard.specs.NodeProperties.{IsSomeTag, IsSomeAnchor, IsSomeAlias, IsSomeProperties, IsBehindGap}
use Rattle.yaml_standard.specs.Percent.{AreSomeOf}
use Rattle.yaml_standard.specs.Takes.{TakesOff}
use Rattle.yaml_standard.proofs.Pieces.{taken_so, then, known_then, then_known}

-- ## Tags

all_in : (set : ℕ → Bool) (t : List ℕ) → AreIn set t → AreAll (λ c. IsTrue (set c)) t
all_in set [] h = tt
all_in set (c ∷ cs) h = (h.0, all_in set cs h.1)

pub handle_of : (t : List ℕ) → IsHandleText t → (h : Handle) × IsHandle h t
handle_of t (inl e) = (Primary, e)
handle_of t (inr ([], _, e)) = (Secondary, e)
handle_of t (inr (c ∷ cs, h, e)) = (Named (c ∷ cs), (cons_not_empty c cs, all_in is_alpha (c ∷ cs) h, e))

pub mark_alone : (a b : List ℕ) → a ≡ 33 ∷ b → TakesOff IsSomeTag a b
mark_alone a b e = record { piece = 33 ∷ []; is = (NonSpecific, refl); cut = e }

pub verbatim : (a b c d e : List ℕ) → a ≡ 33 ∷ b → b ≡ 60 ∷ c → TakesOff (AreSomeOf is_uri_char) c d → d ≡ 62 ∷ e
    → TakesOff IsSomeTag a e
verbatim a b c d e f g t h =
    known_then {Q = λ q. (inside : List ℕ) × AreSomeOf is_uri_char inside × (q ≡ inside ++ 62 ∷ [])} (33 ∷ 60 ∷ [])
    (λ q k. (Verbatim k.1.0, (k.0, k.1.1, k.1.2, ap (λ x. 33 ∷ 60 ∷ x) k.2))) (f ∙ ap (λ x. 33 ∷ x) g)
    (then_known {P = AreSomeOf is_uri_char} (62 ∷ []) (λ p k. (p, k, refl)) t h)

pub shorthand : (a b c : List ℕ) → TakesOff IsHandleText a b → TakesOff (AreSomeOf is_tag_char) b c
    → TakesOff IsSomeTag a c
shorthand a b c s t =
    then {P = IsHandleText} {Q = AreSomeOf is_tag_char}
    (λ p q h k. let x = handle_of p h in (Shorthand x.0 k.0, (p, q, x.1, k.1, k.2, refl))) s t

-- ## Anchors and aliases

pub anchor_taken : (a b c : List ℕ) → a ≡ 38 ∷ b → TakesOff IsAnchorName b c → TakesOff IsSomeAnchor a c
anchor_taken a b c e t = known_then (38 ∷ []) (λ q k. (q, (k, refl))) e t

pub alias_taken : (a b c : List ℕ) → a ≡ 42 ∷ b → TakesOff IsAnchorName b c → TakesOff IsSomeAlias a c
alias_taken a b c e t = known_then (42 ∷ []) (λ q k. (q, (k, refl))) e t

-- ## Properties

pub behind_the_gap : (indent : ℕ) (P : List ℕ → Type 0) (a b c : List ℕ) → TakesOff (IsGap indent) a b → TakesOff P b c
    → TakesOff (IsBehindGap indent P) a c
behind_the_gap indent P a b c s t = then {P = IsGap indent} {Q = P} (λ p q h k. (p, q, h, k, refl)) s t

pub anchor_alone : (indent : ℕ) (a b : List ℕ) → TakesOff IsSomeAnchor a b → TakesOff (IsSomeProperties indent) a b
anchor_alone indent a b t =
    taken_so {P = IsSomeAnchor} (λ p k. (record { anchor = Some k.0; tag = None }, k.1)) t

pub tag_alone : (indent : ℕ) (a b : List ℕ) → TakesOff IsSomeTag a b → TakesOff (IsSomeProperties indent) a b
tag_alone indent a b t = taken_so {P = IsSomeTag} (λ p k. (record { anchor = None; tag = Some k.0 }, k.1)) t

pub anchor_first : (indent : ℕ) (a b c : List ℕ) → TakesOff IsSomeAnchor a b
    → TakesOff (IsBehindGap indent IsSomeTag) b c → TakesOff (IsSomeProperties indent) a c
anchor_first indent a b c s t =
    then {P = IsSomeAnchor} {Q = IsBehindGap indent IsSomeTag}
    (λ p q h k. (
      record { anchor = Some h.0; tag = Some k.3.0 },
      (p, k.0, k.1, h.1, k.3.1, k.2, inl (ap (λ x. p ++ x) k.4)),
    )) s t

pub tag_first : (indent : ℕ) (a b c : List ℕ) → TakesOff IsSomeTag a b
    → TakesOff (IsBehindGap indent IsSomeAnchor) b c → TakesOff (IsSomeProperties indent) a c
tag_first indent a b c s t =
    then {P = IsSomeTag} {Q = IsBehindGap indent IsSomeAnchor}
    (λ p q h k. (
      record { anchor = Some k.3.0; tag = Some h.0 },
      (k.1, k.0, p, k.3.1, h.1, k.2, inr (ap (λ x. p ++ x) k.4)),
    )) s t
