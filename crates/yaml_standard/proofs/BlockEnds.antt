-- What may follow the lines of a block scalar.
use Rattle.std.proofs.Common.{◌≡◌, ◌≢◌, ℕ, ◌<◌, Bool, true, false, List, [], ◌∷◌, ◌++◌, refl, ap, ◌∙◌, subst, arith, slice_index, ◌⊎◌, inl, inr}
use Rattle.std.specs.Prelude.{IsFalse}
use Rattle.saphyr_input.specs.Classes.{is_blank, is_blank_or_breakz, is_breakz}
use Rattle.saphyr_input.proofs.Basics.Booleans.{clash, or_false_left}
use Rattle.saphyr_input.proofs.Sets.{is_char}
use Rattle.saphyr_scalar.specs.Reading.BlockLines.{spaces}
use Rattle.yaml_laws.specs.Grammar.BlockNodes.{IsBehindScalar}
use Rattle.yaml_standard.specs.BlockScalars.{MayEnd, EndsScalar}
use Rattle.yaml_standard.specs.BlockLines.{SplitsSpaces}

unlike : (p : ℕ → Bool) (c d : ℕ) → IsFalse (p c) → p d ≡ true → c ≢ d
unlike p c d fails holds e = clash (p d) holds (subst (λ x. p x ≡ false) e fails)

-- after some spaces
after_spaces : (indent i n c : ℕ) (t rest : List ℕ) → t ≡ spaces n ++ (c ∷ rest) → n < i → c ≢ 0 → c ≢ 32 → c ≢ 10
    → c ≢ 13 → IsBehindScalar indent i t → EndsScalar indent i n t
after_spaces indent i n c t rest cut less no_end no_space no_break no_return ends = (
  c ∷ rest,
  record {
    is = cut;
    within = omega (arith, less);
    finished = λ h. absurd (no_end ((is_char c 0).0 h));
    no_space = λ _. no_space;
    no_break = no_break;
    no_return = no_return;
    no_content = λ h. absurd (omega (arith, less, h));
  },
  ends,
)

line_ends : (indent i n c : ℕ) (t rest : List ℕ) → t ≡ spaces n ++ (c ∷ rest) → n < i → MayEnd indent n c t
    → EndsScalar indent i n t
line_ends indent i n c t rest cut less (inl (tab, filler)) =
    after_spaces indent i n c t rest cut less (rw tab (omega arith)) (rw tab (omega arith)) (rw tab (omega arith))
    (rw tab (omega arith))
    (inr (inr (inr (n, rest, less, cut ∙ ap (λ x. spaces n ++ (x ∷ rest)) tab, filler))))
line_ends indent i n c t rest cut less (inr (other, left)) =
    after_spaces indent i n c t rest cut less (unlike is_blank_or_breakz c 0 other refl)
    (unlike is_blank_or_breakz c 32 other refl) (unlike is_blank_or_breakz c 10 other refl)
    (unlike is_blank_or_breakz c 13 other refl)
    (inr (inr (inl (
      n,
      c,
      rest,
      or_false_left (is_blank c) (is_breakz c) other,
      unlike is_blank_or_breakz c 10 other refl,
      by_left left,
      cut,
    ))))
  where
    by_left : (n < indent) ⊎ (c ≡ 35) → (n < indent) ⊎ ((c ≡ 35) × (n < i))
    by_left (inl h) = inl h
    by_left (inr h) = inr (h, less)

no_character : (indent n : ℕ) (t : List ℕ) (X : Type 0) → MayEnd indent n 0 t → X
no_character indent n t X (inl (tab, filler)) = absurd (omega (arith, tab))
no_character indent n t X (inr (other, left)) = clash true refl other

pub spaced_ends : (indent i n c : ℕ) (t rest : List ℕ) → SplitsSpaces i n t rest → n < i → c ≡ slice_index rest 0
    → MayEnd indent n c t → EndsScalar indent i n t
spaced_ends indent i n c t [] s less is may =
    no_character indent n t (EndsScalar indent i n t) (subst (λ x. MayEnd indent n x t) is may)
spaced_ends indent i n c t (d ∷ ds) s less is may =
    line_ends indent i n d t ds s.1 less (subst (λ x. MayEnd indent n x t) is may)
