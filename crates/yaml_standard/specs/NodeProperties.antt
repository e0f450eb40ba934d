-- Tags, anchors and aliases (YAML 1.2.2, 6.9 and 7.1), whatever they say.
use Rattle.std.specs.Prelude.{◌≡◌, ℕ, List, ◌++◌}
use Rattle.scalar_laws.specs.Spelling.Spaces.{IsGap}
use Rattle.saphyr_scanner.specs.Grammar.Forest.{Tag, Properties}
use Rattle.yaml_laws.specs.Grammar.FlowNodes.{IsAlias, IsAnchor, IsProperties}
use Rattle.yaml_laws.specs.Grammar.TagSpelling.{IsTag}

abbrev pub IsSomeTag : List ℕ → Type 0
IsSomeTag t = (tag : Tag) × IsTag tag t

abbrev pub IsSomeAnchor : List ℕ → Type 0
IsSomeAnchor t = (name : List ℕ) × IsAnchor name t

abbrev pub IsSomeAlias : List ℕ → Type 0
IsSomeAlias t = (name : List ℕ) × IsAlias name t

abbrev pub IsSomeProperties : ℕ → List ℕ → Type 0
IsSomeProperties indent t = (p : Properties) × IsProperties p indent t

-- a gap, and a piece of which P holds
abbrev pub IsBehindGap : ℕ → (List ℕ → Type 0) → List ℕ → Type 0
IsBehindGap indent P t = (gap piece : List ℕ) × IsGap indent gap × P piece × (t ≡ gap ++ piece)
