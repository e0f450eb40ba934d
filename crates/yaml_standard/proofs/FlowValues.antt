-- The productions of what comes after a key in flow style, from their parts.
use Rattle.std.proofs.Common.{◌≡◌, ◌≢◌, ℕ, Bool, true, false, List, [], ◌∷◌, ◌++◌, refl, inl, inr}
use Rattle.std.specs.Prelude.{IsTrue}
use Rattle.std.specs.List.{list_all}
use Rattle.std.specs.Cmp.Derive.{both_true}
use Rattle.saphyr_input.specs.Classes.{is_blank}
use Rattle.saphyr_scalar.specs.Spelling.Tag.{AreIn}
use Rattle.scalar_laws.specs.Spelling.Spaces.{IsSeparation}
use Rattle.saphyr_scanner.specs.Grammar.Forest.{Node, left_out}
use Rattle.yaml_laws.specs.Grammar.FlowNodes.{IsColonAndValue}
use Rattle.yaml_laws.proofs.InFlow.OnLine.{separation_of_blanks}
use Rattle.yaml_standard.specs.declared.goal.Flow.{Flow}
use Rattle.yaml_standard.specs.declared.goal.Goal.TheVariants as goal
use Rattle.yaml_standard.specs.Goals.{Closes, Derives, IsNodeIn}
use Rattle.yaml_standard.specs.Takes.{TakesOff}
use Rattle.yaml_standard.proofs.Pieces.{joined, known_then, nothing_taken, taken_so}

-- where more is allowed, a value is one still
pub colon_so : (b d : Bool) (value : Node) (V : List ℕ → Type 0) (indent : ℕ) (t : List ℕ) → (IsTrue b → IsTrue d)
    → IsColonAndValue b value V indent t → IsColonAndValue d value V indent t
colon_so b d value V indent t f (inl h) = inl h
colon_so b d value V indent t f (inr (separation, node, is, inl some, v, e)) =
    inr (separation, node, is, inl some, v, e)
colon_so b d value V indent t f (inr (separation, node, is, inr so, v, e)) =
    inr (separation, node, is, inr (f so), v, e)

pub all_blank : (t : List ℕ) → AreIn is_blank t → IsTrue (list_all is_blank t)
all_blank [] h = refl
all_blank (c ∷ cs) h = both_true h.0 (all_blank cs h.1)

-- ## Behind a key

pub no_value : (at : Flow) (a : List ℕ) → Closes (goal.AfterKey at) a a
no_value at a = nothing_taken (λ t. Derives (goal.AfterKey at) t a) a (left_out, inl (refl, refl))

-- separation, a colon and what follows it
colon_behind : (at : Flow) (adjacent : Bool) (a b c d : List ℕ)
    → TakesOff (λ t. IsSeparation at.indent t × (IsTrue adjacent → IsTrue (list_all is_blank t))) a b → b ≡ 58 ∷ c
    → Closes (goal.Value at adjacent) c d → Closes (goal.AfterKey at) a d
colon_behind at adjacent a b c d s e t =
    joined s
    (known_then {Q = λ x. Derives (goal.Value at adjacent) x d}
    {R = λ x. (value : Node) × IsColonAndValue adjacent value (IsNodeIn at value) at.indent x}
    (58 ∷ []) (λ q k. k) e t)
    (λ p q h k. (k.0, inr (p, q, h.0, colon_so adjacent _ k.0 _ at.indent q h.1 k.1, refl)))

pub blanks_and_colon : (at : Flow) (a b c d : List ℕ) → TakesOff (AreIn is_blank) a b → b ≡ 58 ∷ c
    → Closes (goal.Value at true) c d → Closes (goal.AfterKey at) a d
blanks_and_colon at a b c d s e t =
    colon_behind at true a b c d
    (taken_so {P = AreIn is_blank} (λ p h. (separation_of_blanks at.indent p h, λ so. all_blank p h)) s) e t

pub separation_and_colon : (at : Flow) (a b c d : List ℕ) → TakesOff (IsSeparation at.indent) a b → b ≡ 58 ∷ c
    → Closes (goal.Value at false) c d → Closes (goal.AfterKey at) a d
separation_and_colon at a b c d s e t =
    colon_behind at false a b c d (taken_so {P = IsSeparation at.indent} (λ p h. (h, λ so. absurd (cc))) s) e t

-- ## Values

pub value_left_out : (at : Flow) (adjacent : Bool) (a : List ℕ) → Closes (goal.Value at adjacent) a a
value_left_out at adjacent a =
    nothing_taken (λ t. Derives (goal.Value at adjacent) t a) a (left_out, inl (refl, refl))

pub adjacent_value : (at : Flow) (adjacent : Bool) (a b c : List ℕ) → TakesOff (IsSeparation at.indent) a b
    → IsTrue adjacent → Closes (goal.Node at) b c → Closes (goal.Value at adjacent) a c
adjacent_value at adjacent a b c s so t =
    joined s t (λ p q h k. (k.0, inr (p, q, h, inr so, k.1, refl)))

pub separate_value : (at : Flow) (adjacent : Bool) (a b c : List ℕ) → TakesOff (IsSeparation at.indent) a b
    → ((n : List ℕ) → a ≡ n ++ b → n ≢ []) → Closes (goal.Node at) b c → Closes (goal.Value at adjacent) a c
separate_value at adjacent a b c s past t =
    let some : TakesOff (λ p. IsSeparation at.indent p × (p ≢ [])) a b =
    record { piece = s.piece; is = (s.is, past s.piece s.cut); cut = s.cut } in
    joined some t (λ p q h k. (k.0, inr (p, q, h.0, inl h.1, k.1, refl)))
