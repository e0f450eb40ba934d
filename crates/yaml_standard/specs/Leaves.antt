-- Leaves in flow style (YAML 1.2.2, 7.1 to 7.3): aliases, scalars with their properties, and properties alone.
use Rattle.std.specs.Prelude.{◌≡◌, ◌≢◌, ℕ, Bool, true, not, List, [], ◌++◌, length, ◌≤◌, IsTrue, codes}
use Rattle.saphyr_input.specs.Classes.{is_blank}
use Rattle.saphyr_scalar.specs.declared.values.Quote.{Quote}
use Rattle.saphyr_scalar.specs.Spelling.Tag.{AreIn}
use Rattle.scalar_laws.specs.Spelling.Spaces.{IsSeparation}
use Rattle.saphyr_scanner.specs.Grammar.Forest.{Properties, Node}
use Rattle.yaml_laws.specs.Grammar.FlowNodes.{IsBeforeContent, IsBeforeColon, IsFlowNode, IsKeyText, IsOnLine, allows_adjacent, needs_separation}
use Rattle.yaml_standard.specs.Quotes.{IsQuotedScalar}
use Rattle.yaml_standard.specs.declared.leaf.Class.{Class}
use Rattle.yaml_standard.specs.declared.leaf.Class.TheVariants as class

-- before a node's content: nothing, or properties and separation
abbrev pub IsSomeFront : ℕ → List ℕ → Type 0
IsSomeFront indent t = (p : Properties) × IsBeforeContent p indent t

abbrev pub IsSomeQuoted : ℕ → List ℕ → Type 0
IsSomeQuoted indent t = (quote : Quote) × IsQuotedScalar quote indent t

-- what its class says of a leaf
abbrev pub HasClass : Class → Node → Type 0
HasClass class.Named node = Unit {0}
HasClass class.Plain node = IsTrue (not (needs_separation node))
HasClass class.Quoted node =
    IsTrue (not (needs_separation node)) × ((separation : List ℕ) → IsTrue (allows_adjacent node separation))

-- a leaf is no collection, so it needs no room
abbrev pub IsLeafOf : Class → Bool → ℕ → List ℕ → Type 0
IsLeafOf c in_flow indent t = (node : Node) × ((room : ℕ) → IsFlowNode room node in_flow indent t) × HasClass c node

abbrev pub IsLeaf : Bool → ℕ → List ℕ → Type 0
IsLeaf in_flow indent t = (node : Node) × ((room : ℕ) → IsFlowNode room node in_flow indent t)

-- ## Keys

-- on one line, and of 1,024 characters at most (7.4.2 [154], [155])
abbrev pub IsShortLine : List ℕ → Type 0
IsShortLine t = IsOnLine t × (length t ≤ 1024)

-- separation before a colon; on the key's line it is of blanks
abbrev pub IsKeySeparation : Bool → ℕ → List ℕ → Type 0
IsKeySeparation on_line indent t = IsSeparation indent t × (on_line ≡ true → AreIn is_blank t)

abbrev pub SeparatesFrom : Class → List ℕ → Type 0
SeparatesFrom class.Named t = t ≢ []
SeparatesFrom _ t = Unit {0}

-- the same behind a leaf of a class
abbrev pub IsBehindLeaf : Class → Bool → ℕ → List ℕ → Type 0
IsBehindLeaf c on_line indent t = IsKeySeparation on_line indent t × SeparatesFrom c t

-- A leaf that is a key, separation and a colon; `on_line` asks that they are on one line, and `adjacent` tells that a
-- value may come right after the colon.
pub record IsKeyAndColon (in_flow : Bool) (indent : ℕ) (on_line adjacent : Bool) (t : List ℕ) : Type 0 where
  pub key : Node
  pub node : List ℕ
  pub separation : List ℕ
  pub is : (room : ℕ) → IsKeyText (IsFlowNode room key in_flow indent) key in_flow indent node separation
  pub before_colon : IsBeforeColon key separation
  pub separates : IsSeparation indent separation
  pub line : on_line ≡ true → IsOnLine node × AreIn is_blank separation
  pub short : on_line ≡ true → length (node ++ separation) ≤ 1024
  pub adjacent_so : IsTrue adjacent → IsTrue (allows_adjacent key separation)
  pub cut : t ≡ node ++ (separation ++ codes ":")
