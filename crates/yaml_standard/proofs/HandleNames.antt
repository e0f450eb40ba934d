-- Handles of tags.
use Rattle.std.proofs.Common.{◌≡◌, ℕ, List, [], ◌∷◌, ◌++◌, refl, ap, inl, inr}
use Rattle.saphyr_input.specs.Classes.{is_alpha}
use Rattle.saphyr_scalar.specs.Spelling.Tag.{AreIn, IsHandleText}
use Rattle.yaml_standard.specs.Takes.{TakesOff}
use Rattle.yaml_standard.proofs.Pieces.{known_then, then_known}

pub primary_handle : (a b : List ℕ) → a ≡ 33 ∷ b → TakesOff IsHandleText a b
primary_handle a b e = record { piece = 33 ∷ []; is = inl refl; cut = e }

pub named_handle : (a b c d : List ℕ) → a ≡ 33 ∷ b → TakesOff (AreIn is_alpha) b c → c ≡ 33 ∷ d
    → TakesOff IsHandleText a d
named_handle a b c d e t f =
    known_then {Q = λ q. (word : List ℕ) × AreIn is_alpha word × (q ≡ word ++ 33 ∷ [])} (33 ∷ [])
    (λ q k. inr (k.0, k.1, ap (λ x. 33 ∷ x) k.2)) e
    (then_known {P = AreIn is_alpha} (33 ∷ []) (λ p k. (p, k, refl)) t f)
