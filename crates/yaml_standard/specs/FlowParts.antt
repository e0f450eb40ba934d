-- Parts of pairs in flow style (YAML 1.2.2, 7.4.2).
use Rattle.std.specs.Prelude.{◌≡◌, ℕ, ◌⊎◌, Bool, false, List, ◌++◌, codes}
use Rattle.yaml_laws.specs.Grammar.FlowNodes.{IsBehindMark}
use Rattle.yaml_standard.specs.Leaves.{IsKeyAndColon}

-- a `?` and the separation after it
abbrev pub IsQuestionInFlow : ℕ → List ℕ → Type 0
IsQuestionInFlow indent t = (separation : List ℕ) × IsBehindMark indent separation × (t ≡ codes "?" ++ separation)

-- a colon that no key is before, or a key that is a leaf with its colon
abbrev pub IsColonOrKey : Bool → ℕ → Bool → Bool → List ℕ → Type 0
IsColonOrKey in_flow indent on_line adjacent t =
    ((t ≡ codes ":") × (adjacent ≡ false)) ⊎ IsKeyAndColon in_flow indent on_line adjacent t
