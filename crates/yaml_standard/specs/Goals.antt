-- What a goal stands for: a piece of the text that the grammar derives (YAML 1.2.2, chapters 7 and 8). What comes after
-- a piece, up to the text's end, is `behind`.
use Rattle.std.specs.Prelude.{◌≡◌, ◌≢◌, ℕ, ◌⊎◌, Bool, true, false, List, [], ◌∷◌, ◌++◌, Option, IfSome, IsFalse, codes}
use Rattle.std.specs.Borrow.{Bor}
use Rattle.std.specs.List.{list_all}
use Rattle.std.specs.Str.{chars}
use Rattle.saphyr_input.specs.Classes.{is_blank, line_feed}
use Rattle.saphyr_scalar.specs.Spelling.Tag.{AreIn}
use Rattle.scalar_laws.specs.Spelling.Spaces.{IsSeparation, IsEol}
use Rattle.saphyr_scanner.specs.Grammar.Forest.{Node, Alias, Scalar, Seq, Map, Nodes, Pairs, left_out}
use Rattle.saphyr_scanner.specs.Limits.{most_open}
use Rattle.yaml_laws.specs.Grammar.FlowNodes.{IsColonAndValue, IsFlowNode, IsKeyAndValue, IsKeyOnLineAndValue, IsLoneMark, IsPairText, IsSinglePairText, IsValueAlone, AreFlowPairs, AreItems, AreOtherFlowPairs, AreOtherItems}
use Rattle.yaml_laws.specs.Grammar.BlockNodes.{Position, IsBlockNode, IsBlockPair, AreOtherEntries, AreOtherPairs, IsValueMark, indent_at, is_value_ahead, sequence_indent_at}
use Rattle.yaml_laws.specs.Grammar.BlockNodes as grammar
use Rattle.yaml_standard.specs.Leaves.{IsShortLine}
use Rattle.yaml_standard.specs.declared.goal.Flow.{Flow}
use Rattle.yaml_standard.specs.declared.goal.Kind.{Kind}
use Rattle.yaml_standard.specs.declared.goal.Kind.TheVariants as kind
use Rattle.yaml_standard.specs.declared.goal.Place.{Place}
use Rattle.yaml_standard.specs.declared.goal.Place.TheVariants as place
use Rattle.yaml_standard.specs.declared.goal.Goal.{Goal}
use Rattle.yaml_standard.specs.declared.goal.Goal.TheVariants as goal
use Rattle.yaml_standard.specs.declared.goal.Goals.{Goals}
use Rattle.yaml_standard.specs.declared.goal.Goals.TheVariants as goals
use Rattle.yaml_standard.specs.Takes.{TakesOff, TakesBefore}

-- ## Flow style

abbrev pub first_bracket : Kind → ℕ
first_bracket kind.Sequence = 91
first_bracket kind.Mapping = 123

abbrev pub last_bracket : Kind → ℕ
last_bracket kind.Sequence = 93
last_bracket kind.Mapping = 125

abbrev pub IsCollection : Node → Type 0
IsCollection (Alias name) = ⊥
IsCollection (Scalar p style value) = ⊥
IsCollection (Seq p nodes) = Unit {0}
IsCollection (Map p pairs) = Unit {0}

-- a node inside brackets or braces
abbrev pub IsNodeIn : Flow → Node → List ℕ → Type 0
IsNodeIn at node t = IsFlowNode at.room node true at.indent t

abbrev pub IsSomeCollection : Flow → List ℕ → Type 0
IsSomeCollection at t = (node : Node) × IsCollection node × IsNodeIn at node t

-- the entries of a collection, and those behind an entry
abbrev pub AreFlowEntries : Kind → Flow → List ℕ → Type 0
AreFlowEntries kind.Sequence at t = (nodes : Nodes) × AreItems at.room nodes at.indent t
AreFlowEntries kind.Mapping at t = (pairs : Pairs) × AreFlowPairs at.room pairs at.indent t

abbrev pub AreOthers : Kind → Flow → List ℕ → Type 0
AreOthers kind.Sequence at t = (nodes : Nodes) × AreOtherItems at.room nodes at.indent t
AreOthers kind.Mapping at t = (pairs : Pairs) × AreOtherFlowPairs at.room pairs at.indent t

-- separation, entries, and the bracket that ends them
abbrev pub IsRest : (List ℕ → Type 0) → ℕ → ℕ → List ℕ → Type 0
IsRest P indent bracket t =
    (separation entries : List ℕ) × IsSeparation indent separation × P entries
    × (t ≡ separation ++ (entries ++ bracket ∷ []))

-- no separation begins here
abbrev pub EndsEntry : List ℕ → Type 0
EndsEntry t = (c : ℕ) × (others : List ℕ) × IsFalse (is_blank c) × (c ≢ line_feed) × (t ≡ c ∷ others)

-- 7.4.2: a pair, in brackets or in braces
abbrev pub IsPairIn : Bool → Flow → Node → Node → List ℕ → Type 0
IsPairIn true at key value t = IsSinglePairText key value (IsNodeIn at key) (IsNodeIn at value) at.indent t
IsPairIn false at key value t = IsPairText key value (IsNodeIn at key) (IsNodeIn at value) at.indent t

-- 7.4.2 [143], [144]: a key, a value or both
abbrev pub IsKeyOrValue : Bool → Flow → Node → Node → List ℕ → Type 0
IsKeyOrValue true at key value t =
    IsKeyOnLineAndValue key value (IsNodeIn at key) (IsNodeIn at value) at.indent t
    ⊎ IsValueAlone key value (IsNodeIn at value) at.indent t
IsKeyOrValue false at key value t =
    ((value ≡ left_out) × IsNodeIn at key t)
    ⊎ (IsValueAlone key value (IsNodeIn at value) at.indent t
    ⊎ IsKeyAndValue key value (IsNodeIn at key) (IsNodeIn at value) at.indent t)

-- what follows a colon
abbrev pub IsBehindColon : Flow → Bool → Node → List ℕ → Type 0
IsBehindColon at adjacent value t = IsColonAndValue adjacent value (IsNodeIn at value) at.indent (codes ":" ++ t)

-- after a flow collection that is a key: nothing, or separation, a colon and a value
abbrev pub IsAfterKey : Flow → Node → List ℕ → Type 0
IsAfterKey at value t =
    ((value ≡ left_out) × (t ≡ []))
    ⊎ ((separation colon : List ℕ) × IsSeparation at.indent separation
    × IsColonAndValue (list_all is_blank separation) value (IsNodeIn at value) at.indent colon
    × (t ≡ separation ++ colon))

-- P holds of the text from `start` up to what is left
abbrev pub HoldsOfFront : (List ℕ → Type 0) → List ℕ → List ℕ → Type 0
HoldsOfFront P start left = (n : List ℕ) → start ≡ n ++ left → P n

-- blanks and a colon, on one line with what begins at `start`
abbrev pub IsColonBefore : List ℕ → List ℕ → List ℕ → Type 0
IsColonBefore start t behind =
    (blanks : List ℕ) × AreIn is_blank blanks × HoldsOfFront IsShortLine start (codes ":" ++ behind)
    × (t ≡ blanks ++ codes ":")

-- ## Block style

abbrev pub position : Place → Position
position (place.BehindDash m) = grammar.BehindDash m
position (place.BehindMark m) = grammar.BehindMark m
position (place.BehindKey m) = grammar.BehindKey m
position place.BehindMarker = grammar.BehindMarker
position place.AtStart = grammar.AtStart

-- the first column of a block collection
abbrev pub least_at : Kind → Position → ℕ
least_at kind.Sequence place = sequence_indent_at place
least_at kind.Mapping place = indent_at place

abbrev pub IsBlockNodeAt : Node → Position → List ℕ → List ℕ → Type 0
IsBlockNodeAt node at t behind = IsBlockNode most_open node at t behind

abbrev pub IsSomeNode : Position → List ℕ → List ℕ → Type 0
IsSomeNode at t behind = (node : Node) × IsBlockNodeAt node at t behind

abbrev pub IsBlockEntry : Kind → ℕ → List ℕ → List ℕ → Type 0
IsBlockEntry kind.Sequence m t behind =
    (text : List ℕ) × IsSomeNode (grammar.BehindDash m) text behind × (t ≡ codes "-" ++ text)
IsBlockEntry kind.Mapping m t behind =
    (key value : Node) × IsBlockPair most_open key value (IsBlockNodeAt key) (IsBlockNodeAt value) m t behind

abbrev pub AreBlockEntries : Kind → ℕ → List ℕ → List ℕ → Type 0
AreBlockEntries kind.Sequence m t behind = (nodes : Nodes) × AreOtherEntries most_open nodes m t behind
AreBlockEntries kind.Mapping m t behind = (pairs : Pairs) × AreOtherPairs most_open pairs m t behind

-- 8.2.2 [189] to [191]: after a key that follows a `?`: no value, or one
abbrev pub IsAfterMarkedKey : ℕ → List ℕ → List ℕ → Type 0
IsAfterMarkedKey m t behind =
    ((t ≡ []) × IsFalse (is_value_ahead false m 0 behind))
    ⊎ ((colon text : List ℕ) × (value : Node) × IsValueMark m colon
    × IsBlockNodeAt value (grammar.BehindMark m) text behind
    × (t ≡ colon ++ text))

-- ## Goals

abbrev pub Derives : Goal → List ℕ → List ℕ → Type 0
Derives (goal.Node at) t behind = (node : Node) × IsNodeIn at node t
Derives (goal.Entries at kind) t behind = IsRest (AreFlowEntries kind at) at.indent (last_bracket kind) t
Derives (goal.AfterEntry at kind) t behind = IsRest (AreOthers kind at) at.indent (last_bracket kind) t
Derives (goal.Pair at in_brackets) t behind =
    (key value : Node) × (IsPairIn in_brackets at key value t ⊎ (IsLoneMark key value at.indent t × EndsEntry behind))
Derives (goal.KeyOrValue at in_brackets) t behind = (key value : Node) × IsKeyOrValue in_brackets at key value t
Derives (goal.AfterKey at) t behind = (value : Node) × IsAfterKey at value t
Derives (goal.Colon start) t behind = IsColonBefore (chars start.now) t behind
Derives (goal.Value at adjacent) t behind = (value : Node) × IsBehindColon at adjacent value t
Derives (goal.BlockNode at) t behind = IsSomeNode (position at) t behind
Derives (goal.BlockEntry kind m) t behind = IsBlockEntry kind m t behind
Derives (goal.BlockEntries kind m) t behind = AreBlockEntries kind m t behind
Derives (goal.AfterMarkedKey m start) t behind =
    HoldsOfFront (λ key. key ≢ []) (chars start.now) (t ++ behind) × IsAfterMarkedKey m t behind
Derives goal.LineEnd t behind = IsEol t behind

-- the goal's piece is taken off the text
abbrev pub Closes : Goal → List ℕ → List ℕ → Type 0
Closes goal text left = TakesBefore (Derives goal) text left

-- What closes the goal from `rest` on closes a flow collection from `text` on.
abbrev pub OpensCollection : Flow → List ℕ → List ℕ → Goal → Type 0
OpensCollection at text rest goal =
    (end : List ℕ) → Closes goal rest end → TakesOff (IsSomeCollection at) text end

-- The goals close the old one, whose piece begins at `text`, from `rest` on.
abbrev pub Replaces : Goal → List ℕ → List ℕ → Goals → Type 0
Replaces old text rest goals.None = Closes old text rest
Replaces old text rest (goals.One a) = (end : List ℕ) → Closes a rest end → Closes old text end
Replaces old text rest (goals.Two a b) =
    (x end : List ℕ) → Closes a rest x → Closes b x end → Closes old text end
Replaces old text rest (goals.Three a b c) =
    (x y end : List ℕ) → Closes a rest x → Closes b x y → Closes c y end → Closes old text end

-- a step of the goal, if there is one
abbrev pub Steps : Goal → List ℕ → Option (Bor (List ℕ) × Goals) → Type 0
Steps old text step = IfSome step (λ s. Replaces old text (chars s.0.now) s.1)

-- All open goals are closed one after the other, the last one first, and the text ends at `end`.
abbrev pub Close : List Goal → List ℕ → List ℕ → Type 0
Close [] text end = text ≡ end
Close (a ∷ others) text end = (x : List ℕ) × Close others text x × Closes a x end

-- the goals as they lie in the list of what is open: the first one last
abbrev pub stack : Goals → List Goal
stack goals.None = []
stack (goals.One a) = a ∷ []
stack (goals.Two a b) = b ∷ a ∷ []
stack (goals.Three a b c) = c ∷ b ∷ a ∷ []
