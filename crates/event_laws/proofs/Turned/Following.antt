-- What may still follow in a state of the machine: the tokens, and the parts of a forest that they stand for.
use Rattle.event_laws.proofs.Common.{◌≡◌, ◌⊎◌, true, List, [], ◌∷◌, ◌++◌, Node, Nodes, Pairs, Forest, Kind, InFlow, InBlock, InBlockMapping, BeginsWithValue, YieldsNode, YieldsOptional, YieldsMarkedValue, YieldFlowEntries, YieldOtherFlowEntries, YieldFlowPairs, YieldOtherFlowPairs, YieldBlockEntries, YieldBlockPairs, AreEndsAndMarks, YieldDocuments, YieldsExplicitDocument, YieldsBehindDocument, Yields, State, Part, CloseDocument, CloseSequence, CloseMapping, node_parts, entry_parts, pair_parts, document_parts, parts}
use Rattle.saphyr_scanner.specs.Grammar.Forest as forest
use Rattle.saphyr_scanner.specs.Grammar.Tokens as tokens
use Rattle.saphyr_scanner.specs.Grammar.TokenGrammar as grammar
use Rattle.saphyr_machine.specs.declared.state.State.TheVariants as state

-- ## Tokens with their parts

abbrev pub Claim : Type 1
Claim = List Kind → List Part → Type 0

-- those of A, and after them those of B
pub record Then (A B : Claim) (ks : List Kind) (ps : List Part) : Type 0 where
  pub front : List Kind
  pub back : List Kind
  pub first : List Part
  pub second : List Part
  pub begins : A front first
  pub goes_on : B back second
  pub kinds_are : ks ≡ front ++ back
  pub parts_are : ps ≡ first ++ second

-- exactly these
abbrev pub Exactly : List Kind → List Part → Claim
Exactly these parts ks ps = (ks ≡ these) × (ps ≡ parts)

-- ## Nodes

abbrev pub IsNodeOf : grammar.Context → Claim
IsNodeOf c ks ps = (n : Node) × YieldsNode n c ks × (ps ≡ node_parts n)

-- a node, or one that is left out
abbrev pub IsOptionalOf : grammar.Context → Claim
IsOptionalOf c ks ps = (n : Node) × YieldsOptional n (YieldsNode n c) ks × (ps ≡ node_parts n)

abbrev pub IsSkipped : Claim
IsSkipped = Exactly [] (node_parts forest.left_out)

-- a value with its mark
abbrev pub IsValueOf : grammar.Context → Claim
IsValueOf c ks ps = (n : Node) × YieldsMarkedValue n (YieldsNode n c) ks × (ps ≡ node_parts n)

-- the same, or nothing
abbrev pub IsAnyValueOf : grammar.Context → Claim
IsAnyValueOf c ks ps = IsValueOf c ks ps ⊎ IsSkipped ks ps

-- ## Entries

abbrev pub FirstEntries : Claim
FirstEntries ks ps = (ns : Nodes) × YieldFlowEntries ns ks × (ps ≡ entry_parts ns)

abbrev pub OtherEntries : Claim
OtherEntries ks ps = (ns : Nodes) × YieldOtherFlowEntries ns ks × (ps ≡ entry_parts ns)

abbrev pub FirstPairs : Claim
FirstPairs ks ps = (qs : Pairs) × YieldFlowPairs qs ks × (ps ≡ pair_parts qs)

abbrev pub OtherPairs : Claim
OtherPairs ks ps = (qs : Pairs) × YieldOtherFlowPairs qs ks × (ps ≡ pair_parts qs)

abbrev pub BlockEntries : Claim
BlockEntries ks ps = (ns : Nodes) × YieldBlockEntries ns ks × (ps ≡ entry_parts ns)

abbrev pub BlockPairs : Claim
BlockPairs ks ps = (qs : Pairs) × YieldBlockPairs qs ks × (ps ≡ pair_parts qs)

-- ## Collections, with what follows after them

abbrev pub InSequence : Claim → Claim
InSequence R = Then OtherEntries (Then (Exactly (tokens.FlowSequenceEnd ∷ []) (CloseSequence ∷ [])) R)

abbrev pub AtPairEnd : Claim → Claim
AtPairEnd R = Then (Exactly [] (CloseMapping ∷ [])) (InSequence R)

abbrev pub AtPairValue : Claim → Claim
AtPairValue R = Then (IsAnyValueOf InFlow) (AtPairEnd R)

abbrev pub InMapping : Claim → Claim
InMapping R = Then OtherPairs (Then (Exactly (tokens.FlowMappingEnd ∷ []) (CloseMapping ∷ [])) R)

abbrev pub InBlockPairs : Claim → Claim
InBlockPairs R = Then BlockPairs (Then (Exactly (tokens.BlockEnd ∷ []) (CloseMapping ∷ [])) R)

-- a value that is left out comes before no other
abbrev pub AtBlockValue : Claim → Claim
AtBlockValue R ks ps = Then (IsValueOf InBlockMapping) (InBlockPairs R) ks ps
    ⊎ (¬ (BeginsWithValue ks) × Then IsSkipped (InBlockPairs R) ks ps)

-- ## States

abbrev pub Behind : State → Claim → Claim
Behind state.DocumentContent R = Then (IsOptionalOf InBlock) R
Behind state.BlockNode R = Then (IsNodeOf InBlock) R
Behind state.BlockSequenceEntry R = Then BlockEntries (Then (Exactly (tokens.BlockEnd ∷ []) (CloseSequence ∷ [])) R)
Behind state.IndentlessSequenceEntry R = Then BlockEntries (Then (Exactly [] (CloseSequence ∷ [])) R)
Behind state.BlockMappingKey R = InBlockPairs R
Behind state.BlockMappingValue R = AtBlockValue R
Behind state.FlowSequenceFirstEntry R =
    Then FirstEntries (Then (Exactly (tokens.FlowSequenceEnd ∷ []) (CloseSequence ∷ [])) R)
Behind state.FlowSequenceEntry R = InSequence R
Behind state.FlowSequenceEntryMappingKey R = Then (IsOptionalOf InFlow) (AtPairValue R)
Behind state.FlowSequenceEntryMappingValue R = AtPairValue R
Behind state.FlowSequenceEntryMappingEnd R = AtPairEnd R
Behind state.FlowMappingFirstKey R = Then FirstPairs (Then (Exactly (tokens.FlowMappingEnd ∷ []) (CloseMapping ∷ [])) R)
Behind state.FlowMappingKey R = InMapping R
Behind state.FlowMappingValue R = Then (IsAnyValueOf InFlow) (InMapping R)
Behind state.FlowMappingEmptyValue R = Then IsSkipped (InMapping R)
Behind _ R = λ ks ps. ⊥

-- documents that begin with `---` or directives
abbrev pub AreExplicit : Forest → List Kind → Type 0
AreExplicit [] t = t ≡ tokens.StreamEnd ∷ []
AreExplicit (d ∷ ds) t =
    (document behind : List Kind) × YieldsExplicitDocument d document × YieldsBehindDocument (YieldDocuments ds) behind
    × (t ≡ document ++ behind)

abbrev pub Outside : State → Claim
Outside state.StreamStart ks ps = (f : Forest) × Yields f ks × (ps ≡ parts f)
Outside state.ImplicitDocumentStart ks ps =
    (f : Forest) × (front documents : List Kind) × AreEndsAndMarks front × YieldDocuments f true documents
    × (ks ≡ front ++ documents) × (ps ≡ document_parts f)
Outside state.DocumentStart ks ps =
    (f : Forest) × (front documents : List Kind) × AreEndsAndMarks front × AreExplicit f documents
    × (ks ≡ front ++ documents) × (ps ≡ document_parts f)
Outside state.DocumentEnd ks ps =
    (f : Forest) × YieldsBehindDocument (YieldDocuments f) ks × (ps ≡ CloseDocument ∷ document_parts f)
Outside _ ks ps = ⊥

-- what may follow in a state, with the states after it
abbrev pub FollowsStates : State → List State → Claim
FollowsStates s [] = Outside s
FollowsStates s (other ∷ others) = Behind s (FollowsStates other others)

-- ## Which states follow which

abbrev pub IsOutside : State → Type 0
IsOutside state.StreamStart = Unit {0}
IsOutside state.ImplicitDocumentStart = Unit {0}
IsOutside state.DocumentStart = Unit {0}
IsOutside state.DocumentEnd = Unit {0}
IsOutside _ = ⊥

abbrev pub IsInsideDocument : State → Type 0
IsInsideDocument state.StreamStart = ⊥
IsInsideDocument state.ImplicitDocumentStart = ⊥
IsInsideDocument state.DocumentStart = ⊥
IsInsideDocument state.DocumentEnd = ⊥
IsInsideDocument state.End = ⊥
IsInsideDocument _ = Unit {0}

abbrev pub IsAlive : State → List State → Type 0
IsAlive s [] = IsOutside s
IsAlive s (other ∷ others) = IsInsideDocument s × IsAlive other others

-- ## How what follows begins, where tokens that aren't read tell it

abbrev pub BeginsWithEntry : List Kind → Type 0
BeginsWithEntry (tokens.BlockEntry ∷ _) = Unit {0}
BeginsWithEntry _ = ⊥

abbrev pub IsFree : Kind → Type 0
IsFree tokens.DocumentEnd = ⊥
IsFree tokens.ByteOrderMark = ⊥
IsFree (tokens.VersionDirective _ _) = ⊥
IsFree (tokens.TagDirective _ _) = ⊥
IsFree (tokens.ReservedDirective _) = ⊥
IsFree _ = Unit {0}

-- neither `...` nor a byte order mark nor a directive
abbrev pub BeginsFreely : List Kind → Type 0
BeginsFreely [] = ⊥
BeginsFreely (k ∷ _) = IsFree k

abbrev pub Starts : State → List Kind → List Kind → Type 0
Starts state.BlockMappingKey ahead ks = BeginsWithValue ks → BeginsWithValue ahead
Starts state.BlockMappingValue ahead ks = BeginsWithValue ahead → BeginsWithValue ks
Starts state.FlowMappingValue ahead ks = BeginsWithValue ahead → BeginsWithValue ks
Starts state.IndentlessSequenceEntry ahead ks = BeginsWithEntry ahead → BeginsWithEntry ks
Starts state.DocumentStart ahead ks = BeginsFreely ahead → BeginsFreely ks
Starts _ ahead ks = Unit {0}
