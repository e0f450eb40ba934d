-- The token grammar: which lists of tokens stand for a forest (YAML 1.2.2, chapters 7 to 9, above the characters).
use Rattle.std.specs.Prelude.{◌≡◌, ◌⊎◌, Bool, true, false, List, [], ◌∷◌, ◌++◌, map, option_map, Option, Some, None, IsTrue, ℕ}
use Rattle.saphyr_scanner.specs.Grammar.Forest.{Style, Plain, Properties, HasProperty, no_properties, Node, Alias, Scalar, Seq, Map, Nodes, NoNode, MoreNodes, Pairs, NoPair, MorePairs, left_out, AreCompatible, Document, Forest}
use Rattle.saphyr_scanner.specs.Grammar.Tokens.{Kind, StreamStart, StreamEnd, DocumentStart, DocumentEnd, ByteOrderMark, BlockSequenceStart, BlockMappingStart, BlockEnd, FlowSequenceStart, FlowSequenceEnd, FlowMappingStart, FlowMappingEnd, BlockEntry, FlowEntry, Key, Value, alias_token, anchor_token, tag_token, scalar_token, directive_token}

-- Where a node is: inside a flow collection, where no block collection is; in block style; or as a key or a value
-- of a block mapping, where a block sequence may be at the mapping's own column (8.2.2).
pub data Context : Type 0 where
  InFlow : Context
  InBlock : Context
  InBlockMapping : Context

abbrev pub AllowsBlock : Context → Type 0
AllowsBlock InFlow = ⊥
AllowsBlock _ = Unit {0}

abbrev pub IsInBlockMapping : Context → Type 0
IsInBlockMapping InBlockMapping = Unit {0}
IsInBlockMapping _ = ⊥

-- ## Properties and scalars (6.9, 7.2)

-- an anchor and a tag, in either order
abbrev pub AreBoth : Option Kind → Option Kind → List Kind → Type 0
AreBoth None None t = t ≡ []
AreBoth (Some anchor) None t = t ≡ anchor ∷ []
AreBoth None (Some tag) t = t ≡ tag ∷ []
AreBoth (Some anchor) (Some tag) t = (t ≡ anchor ∷ tag ∷ []) ⊎ (t ≡ tag ∷ anchor ∷ [])

abbrev pub YieldProperties : Properties → List Kind → Type 0
YieldProperties p t = AreBoth (option_map anchor_token p.anchor) (option_map tag_token p.tag) t

-- a scalar after its properties, which may be alone for an empty one
abbrev pub YieldsScalar : Properties → Style → List ℕ → List Kind → Type 0
YieldsScalar p style value t =
    (t ≡ scalar_token style value ∷ []) ⊎ (HasProperty p × (style ≡ Plain) × (value ≡ []) × (t ≡ []))

-- a node whose tokens are those of N, or one that is left out
abbrev pub YieldsOptional : Node → (List Kind → Type 0) → List Kind → Type 0
YieldsOptional node N t = ((node ≡ left_out) × (t ≡ [])) ⊎ N t

-- ## Collections, whose entries are those of Flow or of Block, after their properties

abbrev pub IsBetween : Kind → Kind → (List Kind → Type 0) → List Kind → Type 0
IsBetween opening closing Inside t = (inside : List Kind) × Inside inside × (t ≡ opening ∷ (inside ++ closing ∷ []))

abbrev pub HasNode : Nodes → Type 0
HasNode NoNode = ⊥
HasNode (MoreNodes _ _) = Unit {0}

-- in brackets (7.4.1), in block style (8.2.1), or at the column of the mapping that it is a part of (8.2.2)
abbrev pub YieldsSequence : Nodes → Context → (List Kind → Type 0) → (List Kind → Type 0) → List Kind → Type 0
YieldsSequence nodes context Flow Block t =
    IsBetween FlowSequenceStart FlowSequenceEnd Flow t
    ⊎ (AllowsBlock context × IsBetween BlockSequenceStart BlockEnd Block t)
    ⊎ (IsInBlockMapping context × HasNode nodes × Block t)

-- in braces (7.4.2) or in block style (8.2.2)
abbrev pub YieldsMapping : Context → (List Kind → Type 0) → (List Kind → Type 0) → List Kind → Type 0
YieldsMapping context Flow Block t =
    IsBetween FlowMappingStart FlowMappingEnd Flow t
    ⊎ (AllowsBlock context × IsBetween BlockMappingStart BlockEnd Block t)

-- after the last entry of a flow collection: nothing, or a comma
abbrev pub IsListEnd : List Kind → Type 0
IsListEnd t = (t ≡ []) ⊎ (t ≡ FlowEntry ∷ [])

-- ## Pairs of a key and a value, whose tokens are those of K and V

abbrev pub YieldsMarkedKey : Node → (List Kind → Type 0) → List Kind → Type 0
YieldsMarkedKey key K t = (node : List Kind) × YieldsOptional key K node × (t ≡ Key ∷ node)

abbrev pub YieldsMarkedValue : Node → (List Kind → Type 0) → List Kind → Type 0
YieldsMarkedValue value V t = (node : List Kind) × YieldsOptional value V node × (t ≡ Value ∷ node)

abbrev pub YieldsMarkedPair : Node → Node → (List Kind → Type 0) → (List Kind → Type 0) → List Kind → Type 0
YieldsMarkedPair key value K V t =
    (front back : List Kind) × YieldsMarkedKey key K front × YieldsMarkedValue value V back × (t ≡ front ++ back)

-- a pair as an entry of brackets (7.4.1)
abbrev pub YieldsSinglePair : Node → Node → (List Kind → Type 0) → (List Kind → Type 0) → List Kind → Type 0
YieldsSinglePair key value K V t = YieldsMarkedPair key value K V t ⊎ ((value ≡ left_out) × YieldsMarkedKey key K t)

-- an entry of braces (7.4.2)
abbrev pub YieldsFlowPair : Node → Node → (List Kind → Type 0) → (List Kind → Type 0) → List Kind → Type 0
YieldsFlowPair key value K V t =
    YieldsMarkedPair key value K V t ⊎ ((value ≡ left_out) × YieldsMarkedKey key K t)
    ⊎ ((key ≡ left_out) × YieldsMarkedValue value V t) ⊎ ((value ≡ left_out) × K t)

abbrev pub BeginsWithValue : List Kind → Type 0
BeginsWithValue (Value ∷ _) = Unit {0}
BeginsWithValue _ = ⊥

-- An entry of a block mapping (8.2.2), with the tokens of the other entries after it. A value belongs to the key
-- before it, where that has none yet.
abbrev pub YieldsBlockPair : Node → Node → (List Kind → Type 0) → (List Kind → Type 0) → List Kind → List Kind → Type 0
YieldsBlockPair key value K V others t =
    YieldsMarkedPair key value K V t ⊎ ((value ≡ left_out) × ¬ (BeginsWithValue others) × YieldsMarkedKey key K t)
    ⊎ ((key ≡ left_out) × YieldsMarkedValue value V t)

-- ## Nodes

abbrev mutual
  -- a node: its properties, and then the tokens of its content in this context
  pub YieldsNode : Node → Context → List Kind → Type 0
  YieldsNode (Alias name) context t = t ≡ alias_token name ∷ []
  YieldsNode (Scalar p style value) context t =
      (properties content : List Kind) × YieldProperties p properties × YieldsScalar p style value content
      × (t ≡ properties ++ content)
  YieldsNode (Seq p nodes) context t =
      (properties content : List Kind) × YieldProperties p properties
      × YieldsSequence nodes context (YieldFlowEntries nodes) (YieldBlockEntries nodes) content
      × (t ≡ properties ++ content)
  YieldsNode (Map p pairs) context t =
      (properties content : List Kind) × YieldProperties p properties
      × YieldsMapping context (YieldFlowPairs pairs) (YieldBlockPairs pairs) content × (t ≡ properties ++ content)

  -- the entries of brackets
  pub YieldFlowEntries : Nodes → List Kind → Type 0
  YieldFlowEntries NoNode t = t ≡ []
  YieldFlowEntries (MoreNodes node nodes) t =
      (entry others : List Kind) × (YieldsNode node InFlow entry ⊎ YieldsPairEntry node entry)
      × YieldOtherFlowEntries nodes others × (t ≡ entry ++ others)

  pub YieldOtherFlowEntries : Nodes → List Kind → Type 0
  YieldOtherFlowEntries NoNode t = IsListEnd t
  YieldOtherFlowEntries (MoreNodes node nodes) t =
      (entry others : List Kind) × (YieldsNode node InFlow entry ⊎ YieldsPairEntry node entry)
      × YieldOtherFlowEntries nodes others × (t ≡ FlowEntry ∷ (entry ++ others))

  -- a mapping of one pair as an entry of brackets
  pub YieldsPairEntry : Node → List Kind → Type 0
  YieldsPairEntry (Map p (MorePairs key value NoPair)) t =
      (p ≡ no_properties) × YieldsSinglePair key value (YieldsNode key InFlow) (YieldsNode value InFlow) t
  YieldsPairEntry _ t = ⊥

  -- the entries of braces
  pub YieldFlowPairs : Pairs → List Kind → Type 0
  YieldFlowPairs NoPair t = t ≡ []
  YieldFlowPairs (MorePairs key value pairs) t =
      (pair others : List Kind) × YieldsFlowPair key value (YieldsNode key InFlow) (YieldsNode value InFlow) pair
      × YieldOtherFlowPairs pairs others × (t ≡ pair ++ others)

  pub YieldOtherFlowPairs : Pairs → List Kind → Type 0
  YieldOtherFlowPairs NoPair t = IsListEnd t
  YieldOtherFlowPairs (MorePairs key value pairs) t =
      (pair others : List Kind) × YieldsFlowPair key value (YieldsNode key InFlow) (YieldsNode value InFlow) pair
      × YieldOtherFlowPairs pairs others × (t ≡ FlowEntry ∷ (pair ++ others))

  -- the entries of a block sequence
  pub YieldBlockEntries : Nodes → List Kind → Type 0
  YieldBlockEntries NoNode t = t ≡ []
  YieldBlockEntries (MoreNodes node nodes) t =
      (entry others : List Kind) × YieldsOptional node (YieldsNode node InBlock) entry × YieldBlockEntries nodes others
      × (t ≡ BlockEntry ∷ (entry ++ others))

  -- the entries of a block mapping
  pub YieldBlockPairs : Pairs → List Kind → Type 0
  YieldBlockPairs NoPair t = t ≡ []
  YieldBlockPairs (MorePairs key value pairs) t =
      (pair others : List Kind)
      × YieldsBlockPair key value (YieldsNode key InBlockMapping) (YieldsNode value InBlockMapping) others pair
      × YieldBlockPairs pairs others × (t ≡ pair ++ others)

-- ## Documents and streams (chapter 9)

-- a node alone
abbrev pub YieldsBareDocument : Document → List Kind → Type 0
YieldsBareDocument d t = (d.explicit ≡ false) × (d.directives ≡ []) × YieldsNode d.node InBlock t

-- directives, `---`, and a node that may be left out
abbrev pub YieldsExplicitDocument : Document → List Kind → Type 0
YieldsExplicitDocument d t =
    (node : List Kind) × (d.explicit ≡ true) × AreCompatible d.directives
    × YieldsOptional d.node (YieldsNode d.node InBlock) node
    × (t ≡ map directive_token d.directives ++ DocumentStart ∷ node)

-- A document. One that comes after another without `...` between is explicit and has no directives.
abbrev pub YieldsDocument : Document → Bool → List Kind → Type 0
YieldsDocument d free t =
    (IsTrue free × YieldsBareDocument d t) ⊎ ((IsTrue free ⊎ (d.directives ≡ [])) × YieldsExplicitDocument d t)

abbrev pub AreMarks : List Kind → Type 0
AreMarks [] = Unit {0}
AreMarks (k ∷ others) = (k ≡ ByteOrderMark) × AreMarks others

abbrev pub AreEndsAndMarks : List Kind → Type 0
AreEndsAndMarks [] = Unit {0}
AreEndsAndMarks (k ∷ others) = ((k ≡ DocumentEnd) ⊎ (k ≡ ByteOrderMark)) × AreEndsAndMarks others

-- After a document: byte order marks, optionally `...` and any number of `...` and marks, and what Others tells, which
-- is given whether there was a `...`.
abbrev pub YieldsBehindDocument : (Bool → List Kind → Type 0) → List Kind → Type 0
YieldsBehindDocument Others t =
    (marks end others : List Kind) × AreMarks marks
    × (((end ≡ []) × Others false others)
    ⊎ ((more : List Kind) × AreEndsAndMarks more × (end ≡ DocumentEnd ∷ more) × Others true others))
    × (t ≡ marks ++ (end ++ others))

-- documents up to the end of the stream
abbrev pub YieldDocuments : Forest → Bool → List Kind → Type 0
YieldDocuments [] free t = t ≡ StreamEnd ∷ []
YieldDocuments (d ∷ ds) free t =
    (document behind : List Kind) × YieldsDocument d free document × YieldsBehindDocument (YieldDocuments ds) behind
    × (t ≡ document ++ behind)

-- the tokens of a stream of documents
abbrev pub Yields : Forest → List Kind → Type 0
Yields forest t = (front documents : List Kind) × AreEndsAndMarks front × YieldDocuments forest true documents
    × (t ≡ StreamStart ∷ (front ++ documents))
