-- Nodes in flow style (YAML 1.2.2, 6.9, 7.1, 7.4 and 7.5), in texts whose breaks are line feeds.
-- `indent` is the first column to the right of the enclosing block collection, and 0 at the root; `in_flow` tells
-- whether a node is inside brackets or braces; `room` is how many flow collections may still be opened.
use Rattle.std.specs.Prelude.{◌≡◌, ◌≢◌, ℕ, suc, ◌⊎◌, Bool, true, false, not, ◌==◌, ◌||◌, List, [], ◌∷◌, ◌++◌, IsTrue, IsFalse, Option, Some, None, codes}
use Rattle.std.specs.List.{list_all}
use Rattle.saphyr_input.specs.Classes.{is_blank, is_break, tab, line_feed}
use Rattle.saphyr_input.specs.Indicators.{number_sign}
use Rattle.saphyr_scalar.specs.Spelling.Tag.{AreIn, IsAnchorName}
use Rattle.scalar_laws.specs.Spelling.Spaces.{IsGap, IsSeparation}
use Rattle.saphyr_scanner.specs.Grammar.Forest.{Style, Plain, SingleQuoted, DoubleQuoted, Tag, Properties, no_properties, Node, Alias, Scalar, Seq, Map, Nodes, NoNode, MoreNodes, Pairs, NoPair, MorePairs, left_out}
use Rattle.yaml_laws.specs.Grammar.TagSpelling.{IsTag}
use Rattle.saphyr_scalar.specs.Values.Flow.{plain_value}
use Rattle.yaml_laws.specs.Grammar.FlowScalars.{IsPlainKey, IsFlowScalar}

-- ## Properties and aliases

-- 6.9.2 [101]
abbrev pub IsAnchor : List ℕ → List ℕ → Type 0
IsAnchor name t = IsAnchorName name × (t ≡ codes "&" ++ name)

-- 7.1 [104]
abbrev pub IsAlias : List ℕ → List ℕ → Type 0
IsAlias name t = IsAnchorName name × (t ≡ codes "*" ++ name)

-- 6.9 [96]: an anchor, a tag, or both in either order, on one line or on two
abbrev pub AreProperties : Option (List ℕ) → Option Tag → ℕ → List ℕ → Type 0
AreProperties None None indent t = ⊥
AreProperties (Some name) None indent t = IsAnchor name t
AreProperties None (Some tag) indent t = IsTag tag t
AreProperties (Some name) (Some tag) indent t =
    (anchor gap written : List ℕ) × IsAnchor name anchor × IsTag tag written × IsGap indent gap
    × ((t ≡ anchor ++ (gap ++ written)) ⊎ (t ≡ written ++ (gap ++ anchor)))

abbrev pub IsProperties : Properties → ℕ → List ℕ → Type 0
IsProperties p indent t = AreProperties p.anchor p.tag indent t

-- before a node's content: nothing, or properties and some separation
abbrev pub IsBeforeContent : Properties → ℕ → List ℕ → Type 0
IsBeforeContent p indent t =
    ((p ≡ no_properties) × (t ≡ []))
    ⊎ ((properties separation : List ℕ) × IsProperties p indent properties × (separation ≢ [])
    × IsSeparation indent separation × (t ≡ properties ++ separation))

-- 7.5 [159], [160]: a scalar with its content, or properties alone, which stand for an empty one (7.2)
abbrev pub IsScalarNode : Properties → Style → List ℕ → Bool → ℕ → List ℕ → Type 0
IsScalarNode p style value in_flow indent t =
    ((style ≡ Plain) × (value ≡ []) × IsProperties p indent t)
    ⊎ ((front content : List ℕ) × IsBeforeContent p indent front × IsFlowScalar style value in_flow indent content
    × (t ≡ front ++ content))

-- ## Keys and values

-- on one line
abbrev pub IsOnLine : List ℕ → Type 0
IsOnLine t = AreIn (λ c. not (c == line_feed)) t

-- An alias, and properties alone: a colon right after them would belong to their name.
abbrev pub needs_separation : Node → Bool
needs_separation (Alias name) = true
needs_separation (Scalar p Plain []) = true
needs_separation _ = false

-- 7.4.2 [149]: a value may come right after the colon of a key in quotes, and of a flow collection with blanks alone
-- before its colon.
abbrev pub allows_adjacent : Node → List ℕ → Bool
allows_adjacent (Scalar p SingleQuoted value) separation = true
allows_adjacent (Scalar p DoubleQuoted value) separation = true
allows_adjacent (Seq p nodes) separation = list_all is_blank separation
allows_adjacent (Map p pairs) separation = list_all is_blank separation
allows_adjacent _ separation = false

-- Below, K and V hold of the texts of a key and of a value.

-- a colon, and after it no value, or one after separation, or one at once
abbrev pub IsColonAndValue : Bool → Node → (List ℕ → Type 0) → ℕ → List ℕ → Type 0
IsColonAndValue adjacent value V indent t =
    ((value ≡ left_out) × (t ≡ codes ":"))
    ⊎ ((separation node : List ℕ) × IsSeparation indent separation × ((separation ≢ []) ⊎ IsTrue adjacent) × V node
    × (t ≡ codes ":" ++ (separation ++ node)))

-- the separation between a key and its colon
abbrev pub IsBeforeColon : Node → List ℕ → Type 0
IsBeforeColon key separation = (separation ≢ []) ⊎ IsTrue (not (needs_separation key))

-- properties, or none, and a plain scalar whose last word may end with a colon
abbrev pub IsPlainKeyNode : Node → Bool → ℕ → List ℕ → Type 0
IsPlainKeyNode (Scalar p style value) in_flow indent t =
    (front content : List ℕ) × (style ≡ Plain) × IsBeforeContent p indent front × IsPlainKey in_flow indent content
    × (value ≡ plain_value content) × (t ≡ front ++ content)
IsPlainKeyNode _ in_flow indent t = ⊥

-- a key before separation and a colon; where no separation is, a plain scalar's last word may end with a colon
abbrev pub IsKeyText : (List ℕ → Type 0) → Node → Bool → ℕ → List ℕ → List ℕ → Type 0
IsKeyText K key in_flow indent t separation = K t ⊎ (IsPlainKeyNode key in_flow indent t × (separation ≡ []))

-- 7.4.2 [145], [148]: a key, separation, a colon and a value
abbrev pub IsKeyAndValue : Node → Node → (List ℕ → Type 0) → (List ℕ → Type 0) → ℕ → List ℕ → Type 0
IsKeyAndValue key value K V indent t =
    (node separation colon : List ℕ) × IsKeyText K key true indent node separation × IsSeparation indent separation
    × IsBeforeColon key separation × IsColonAndValue (allows_adjacent key separation) value V indent colon
    × (t ≡ node ++ (separation ++ colon))

-- 7.4.2 [152], [153]: the same in brackets, with the key and its colon on one line
abbrev pub IsKeyOnLineAndValue : Node → Node → (List ℕ → Type 0) → (List ℕ → Type 0) → ℕ → List ℕ → Type 0
IsKeyOnLineAndValue key value K V indent t =
    (node blanks colon : List ℕ) × IsKeyText K key true indent node blanks × IsOnLine node × AreIn is_blank blanks
    × IsBeforeColon key blanks × IsColonAndValue (allows_adjacent key blanks) value V indent colon
    × (t ≡ node ++ (blanks ++ colon))

-- 7.4.2 [146]: no key, and a colon and a value
abbrev pub IsValueAlone : Node → Node → (List ℕ → Type 0) → ℕ → List ℕ → Type 0
IsValueAlone key value V indent t = (key ≡ left_out) × IsColonAndValue false value V indent t

-- whether a tab is in separation outside its comments; the first argument tells that a comment goes on
abbrev pub has_tab_outside : Bool → List ℕ → Bool
has_tab_outside in_comment [] = false
has_tab_outside true (c ∷ cs) = has_tab_outside (not (is_break c)) cs
has_tab_outside false (c ∷ cs) = (c == tab) || has_tab_outside (c == number_sign) cs

-- the separation after a `?`; tabs are in its comments alone
abbrev pub IsBehindMark : ℕ → List ℕ → Type 0
IsBehindMark indent t = (t ≢ []) × IsSeparation indent t × IsFalse (has_tab_outside false t)

-- 7.4.2 [142], [143], [150]: a `?` with a key, a value or both
abbrev pub IsExplicitPair : Node → Node → (List ℕ → Type 0) → (List ℕ → Type 0) → ℕ → List ℕ → Type 0
IsExplicitPair key value K V indent t =
    (separation pair : List ℕ) × IsBehindMark indent separation
    × (((value ≡ left_out) × K pair)
    ⊎ (IsValueAlone key value V indent pair ⊎ IsKeyAndValue key value K V indent pair))
    × (t ≡ codes "?" ++ (separation ++ pair))

-- a `?` alone: the separation after it is all that is there
abbrev pub IsLoneMark : Node → Node → ℕ → List ℕ → Type 0
IsLoneMark key value indent t =
    (separation : List ℕ) × (key ≡ left_out) × (value ≡ left_out) × IsBehindMark indent separation
    × (t ≡ codes "?" ++ separation)

-- ## Entries, each with the separation after it

abbrev pub IsBeforeSeparation : (List ℕ → Type 0) → ℕ → List ℕ → Type 0
IsBeforeSeparation P indent t =
    (piece separation : List ℕ) × P piece × IsSeparation indent separation × (t ≡ piece ++ separation)

-- 7.4.2 [142], [144]: a pair in braces
abbrev pub IsPairText : Node → Node → (List ℕ → Type 0) → (List ℕ → Type 0) → ℕ → List ℕ → Type 0
IsPairText key value K V indent t =
    ((value ≡ left_out) × K t)
    ⊎ (IsKeyAndValue key value K V indent t
    ⊎ (IsValueAlone key value V indent t ⊎ IsExplicitPair key value K V indent t))

abbrev pub IsPair : Node → Node → (List ℕ → Type 0) → (List ℕ → Type 0) → ℕ → List ℕ → Type 0
IsPair key value K V indent t =
    IsLoneMark key value indent t ⊎ IsBeforeSeparation (IsPairText key value K V indent) indent t

-- 7.4.2 [150], [151]: a pair in brackets
abbrev pub IsSinglePairText : Node → Node → (List ℕ → Type 0) → (List ℕ → Type 0) → ℕ → List ℕ → Type 0
IsSinglePairText key value K V indent t =
    IsKeyOnLineAndValue key value K V indent t
    ⊎ (IsValueAlone key value V indent t ⊎ IsExplicitPair key value K V indent t)

abbrev pub IsSinglePair : Node → Node → (List ℕ → Type 0) → (List ℕ → Type 0) → ℕ → List ℕ → Type 0
IsSinglePair key value K V indent t =
    IsLoneMark key value indent t ⊎ IsBeforeSeparation (IsSinglePairText key value K V indent) indent t

-- a comma and separation
abbrev pub IsComma : ℕ → List ℕ → Type 0
IsComma indent t = (separation : List ℕ) × IsSeparation indent separation × (t ≡ codes "," ++ separation)

-- after the last entry: nothing, or a comma
abbrev pub IsLastComma : ℕ → List ℕ → Type 0
IsLastComma indent t = (t ≡ []) ⊎ IsComma indent t

-- a bracket or brace after a collection's properties, with the separation after it
abbrev pub IsOpening : Properties → List ℕ → ℕ → List ℕ → Type 0
IsOpening p bracket indent t =
    (front separation : List ℕ) × IsBeforeContent p indent front × IsSeparation indent separation
    × (t ≡ front ++ (bracket ++ separation))

-- ## Nodes

-- A collection in brackets or braces takes one of the room, and leaves the others to what is inside. A pair in brackets
-- that has no braces of its own takes none.
abbrev mutual
  pub IsFlowNode : ℕ → Node → Bool → ℕ → List ℕ → Type 0
  IsFlowNode room (Alias name) in_flow indent t = IsAlias name t
  IsFlowNode room (Scalar p style value) in_flow indent t = IsScalarNode p style value in_flow indent t
  IsFlowNode room (Seq p nodes) in_flow indent t =
      (left : ℕ) × (opening inside : List ℕ) × (room ≡ suc left) × IsOpening p (codes "[") indent opening
      × AreItems left nodes indent inside × (t ≡ opening ++ (inside ++ codes "]"))
  IsFlowNode room (Map p pairs) in_flow indent t =
      (left : ℕ) × (opening inside : List ℕ) × (room ≡ suc left) × IsOpening p (codes "{") indent opening
      × AreFlowPairs left pairs indent inside × (t ≡ opening ++ (inside ++ codes "}"))

  -- 7.4.1 [138], [139]: the entries of a flow sequence: nodes, and mappings of one pair without braces
  pub AreItems : ℕ → Nodes → ℕ → List ℕ → Type 0
  AreItems room NoNode indent t = t ≡ []
  AreItems room (MoreNodes node nodes) indent t =
      (item others : List ℕ) × (IsBeforeSeparation (IsFlowNode room node true indent) indent item
      ⊎ IsPairItem room node indent item) × AreOtherItems room nodes indent others × (t ≡ item ++ others)

  pub AreOtherItems : ℕ → Nodes → ℕ → List ℕ → Type 0
  AreOtherItems room NoNode indent t = IsLastComma indent t
  AreOtherItems room (MoreNodes node nodes) indent t =
      (comma item others : List ℕ) × IsComma indent comma
      × (IsBeforeSeparation (IsFlowNode room node true indent) indent item ⊎ IsPairItem room node indent item)
      × AreOtherItems room nodes indent others × (t ≡ comma ++ (item ++ others))

  pub IsPairItem : ℕ → Node → ℕ → List ℕ → Type 0
  IsPairItem room (Map p (MorePairs key value NoPair)) indent t =
      (p ≡ no_properties) × IsSinglePair key value (IsFlowNode room key true indent) (IsFlowNode room value true indent)
      indent t
  IsPairItem room _ indent t = ⊥

  -- 7.4.2 [141]: the entries of a flow mapping
  pub AreFlowPairs : ℕ → Pairs → ℕ → List ℕ → Type 0
  AreFlowPairs room NoPair indent t = t ≡ []
  AreFlowPairs room (MorePairs key value pairs) indent t =
      (pair others : List ℕ) × IsPair key value (IsFlowNode room key true indent) (IsFlowNode room value true indent)
      indent pair × AreOtherFlowPairs room pairs indent others × (t ≡ pair ++ others)

  pub AreOtherFlowPairs : ℕ → Pairs → ℕ → List ℕ → Type 0
  AreOtherFlowPairs room NoPair indent t = IsLastComma indent t
  AreOtherFlowPairs room (MorePairs key value pairs) indent t =
      (comma pair others : List ℕ) × IsComma indent comma
      × IsPair key value (IsFlowNode room key true indent) (IsFlowNode room value true indent) indent pair
      × AreOtherFlowPairs room pairs indent others × (t ≡ comma ++ (pair ++ others))
