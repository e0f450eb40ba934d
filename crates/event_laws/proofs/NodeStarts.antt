-- Which token a node begins with, and which may come after it.
use Rattle.event_laws.proofs.Common.{◌≡◌, ◌≢◌, ℕ, Bool, true, false, arith, List, [], ◌∷◌, ◌++◌, Option, option_map, refl, ◌∙◌, ◌⊎◌, inl, inr, append_assoc, Span, Tag, HasOne, HasProperty, Properties, Node, Nodes, NoNode, MoreNodes, Kind, alias_token, anchor_token, tag_token, InFlow, InBlock, InBlockMapping, AllowsBlock, IsInBlockMapping, AreBoth, YieldsOptional, YieldsNode, Piece, NodeContext, Flow, Block, BlockMapping, State, End, Part, Leaf, node_parts, Machine, emit, empty_scalar, node_without_content, next_node, node_content_at, event_step}
use lib.Utf8.{encode}
use Rattle.saphyr_scanner.specs.Grammar.Forest as forest
use Rattle.saphyr_scanner.specs.Grammar.Tokens as tokens
use Rattle.saphyr_scanner.specs.Grammar.TokenGrammar as grammar
use Rattle.saphyr_machine.specs.Steps.Nodes as steps
use Rattle.event_laws.proofs.Emitted.Emitting.{SpansByKinds, Memory, Outer, expecting, at}
use Rattle.event_laws.proofs.Remembering.{after_node, SaysParts, EmitsParts, plainly}
use Rattle.event_laws.proofs.Emitted.Nodes.{IsContentKind}

abbrev pub context_of : grammar.Context → NodeContext
context_of InFlow = Flow
context_of InBlock = Block
context_of InBlockMapping = BlockMapping

abbrev pub place_of : NodeContext → grammar.Context
place_of Flow = InFlow
place_of Block = InBlock
place_of BlockMapping = InBlockMapping

-- ## The first token

abbrev pub Starts : grammar.Context → Kind → Type 0
Starts c (tokens.Alias _) = Unit {0}
Starts c (tokens.Anchor _) = Unit {0}
Starts c (tokens.Tag _ _) = Unit {0}
Starts c (tokens.Scalar _ _) = Unit {0}
Starts c tokens.FlowSequenceStart = Unit {0}
Starts c tokens.FlowMappingStart = Unit {0}
Starts c tokens.BlockSequenceStart = AllowsBlock c
Starts c tokens.BlockMappingStart = AllowsBlock c
Starts c tokens.BlockEntry = IsInBlockMapping c
Starts c _ = ⊥

-- tokens of which the first fits
pub record Next (Fits : Kind → Type 0) (ts : List Kind) : Type 0 where
  pub first : Kind
  pub others : List Kind
  pub is : ts ≡ first ∷ others
  pub fits : Fits first

abbrev pub Head : grammar.Context → List Kind → Type 0
Head c = Next (Starts c)

-- tokens that begin with properties, or else with content
property_head : (c : grammar.Context) (anchor : Option (List ℕ)) (tag : Option Tag) (front content t : List Kind)
    → AreBoth (option_map anchor_token anchor) (option_map tag_token tag) front → HasOne anchor tag ⊎ Head c content
    → t ≡ front ++ content → Head c t
property_head c u0 u1 front content t h u2 e = grind arith

begins_with : (c : grammar.Context) (k : Kind) (ks t : List Kind) → t ≡ k ∷ ks → Starts c k → Head c t
begins_with c k ks t e s = record { first = k; others = ks; is = e; fits = s }

scalar_head : (c : grammar.Context) (p : Properties) (style : forest.Style) (value : List ℕ) (content : List Kind)
    → grammar.YieldsScalar p style value content → HasProperty p ⊎ Head c content
scalar_head c p style value content u0 = grind arith

sequence_head : (c : grammar.Context) (nodes : Nodes) (content : List Kind)
    → grammar.YieldsSequence nodes c (grammar.YieldFlowEntries nodes) (grammar.YieldBlockEntries nodes) content
    → Head c content
sequence_head c nodes content (inl h) = begins_with c tokens.FlowSequenceStart _ content h.2 tt
sequence_head c nodes content (inr (inl h)) = begins_with c tokens.BlockSequenceStart _ content h.1.2 h.0
sequence_head c NoNode content (inr (inr h)) = absurd h.1
sequence_head c (MoreNodes node nodes) content (inr (inr h)) = begins_with c tokens.BlockEntry _ content h.2.4 h.0

mapping_head : (c : grammar.Context) (pairs : forest.Pairs) (content : List Kind)
    → grammar.YieldsMapping c (grammar.YieldFlowPairs pairs) (grammar.YieldBlockPairs pairs) content → Head c content
mapping_head c pairs content u0 = grind arith

pub node_head : (n : Node) (c : grammar.Context) (t : List Kind) → YieldsNode n c t → Head c t
node_head (forest.Alias name) c t h = begins_with c (alias_token name) [] t h tt
node_head (forest.Scalar p style value) c t h =
    property_head c p.anchor p.tag h.0 h.1 t h.2 (scalar_head c p style value h.1 h.3) h.4
node_head (forest.Seq p nodes) c t h =
    property_head c p.anchor p.tag h.0 h.1 t h.2 (inr (sequence_head c nodes h.1 h.3)) h.4
node_head (forest.Map p pairs) c t h =
    property_head c p.anchor p.tag h.0 h.1 t h.2 (inr (mapping_head c pairs h.1 h.3)) h.4

-- ## What may come after

abbrev pub MayFollow : grammar.Context → Kind → Type 0
MayFollow InFlow tokens.FlowEntry = Unit {0}
MayFollow InFlow tokens.FlowSequenceEnd = Unit {0}
MayFollow InFlow tokens.FlowMappingEnd = Unit {0}
MayFollow InFlow tokens.Value = Unit {0}
MayFollow InBlock tokens.BlockEntry = Unit {0}
MayFollow InBlock tokens.BlockEnd = Unit {0}
MayFollow InBlock tokens.Key = Unit {0}
MayFollow InBlock tokens.Value = Unit {0}
MayFollow InBlock tokens.StreamEnd = Unit {0}
MayFollow InBlock tokens.DocumentStart = Unit {0}
MayFollow InBlock tokens.DocumentEnd = Unit {0}
MayFollow InBlock tokens.ByteOrderMark = Unit {0}
MayFollow InBlockMapping tokens.Key = Unit {0}
MayFollow InBlockMapping tokens.Value = Unit {0}
MayFollow InBlockMapping tokens.BlockEnd = Unit {0}
MayFollow _ _ = ⊥

pub follow_is_content : (c : grammar.Context) (k : Kind) → MayFollow c k → IsContentKind k
follow_is_content k a h = grind arith

-- after properties it shows that their node has no content
pub follow_ends : (c : grammar.Context) (k : Kind) (q : steps.NodeProperties) (t : Piece) (m : Machine) → MayFollow c k
    → node_content_at k q (context_of c) t m ≡ node_without_content q t m
follow_ends k a q t m h = grind arith

-- ## Nodes that are told

-- From any machine that goes on with a node of these tokens, its events are told, and then those of what follows.
pub record NodeSays (n : Node) (c : grammar.Context) (t : List Kind) : Type 0 where
  pub by : (f : SpansByKinds) (k : Kind) (ks : List Kind) (m : Machine) (x s : State) (ss : Outer) (e : Memory)
      (ps : List Part) → MayFollow c k → m.state ≢ End
      → event_step m ≡ next_node (context_of c) (at f (t ++ k ∷ ks) x (expecting s ss) e)
      → EmitsParts f (k ∷ ks) s ss (after_node n e) ps → SaysParts e m (node_parts n ++ ps)

-- so it is with any tokens that the node may yield
abbrev pub EachSays : Node → grammar.Context → Type 0
EachSays n c = (t : List Kind) → YieldsNode n c t → NodeSays n c t

-- Where a pair ends may depend on the tokens that the node begins.
pub enters : (n : Node) (c : grammar.Context) (t : List Kind) → YieldsNode n c t → NodeSays n c t
    → (f : SpansByKinds) (k : Kind) (ks : List Kind) (machine : List Kind → Machine) (x : State)
    (s : State) (ss : List Kind → Outer) (e : Memory) (ps : List Part)
    → MayFollow c k → ((l : List Kind) → (machine l).state ≢ End) → ((j : Kind) (l : List Kind) → Starts c j
    → event_step (machine (j ∷ l)) ≡ next_node (context_of c) (at f (j ∷ l) x (expecting s (ss (j ∷ l))) e))
    → EmitsParts f (k ∷ ks) s (ss (t ++ k ∷ ks)) (after_node n e) ps
    → SaysParts e (machine (t ++ k ∷ ks)) (node_parts n ++ ps)
enters n c t h g f k ks machine x s ss e ps z more go l =
    let d : Head c t = node_head n c t h in
    g.by f k ks (machine (t ++ k ∷ ks)) x s (ss (t ++ k ∷ ks)) e ps z (more (t ++ k ∷ ks))
    (rw d.is (go d.first (d.others ++ k ∷ ks) d.fits)) l

-- one step tells a node that is left out
pub skipped : (e : Memory) (m n : Machine) (ps : List Part) (span : Span) → m.state ≢ End
    → event_step m ≡ emit empty_scalar span n → SaysParts e n ps
    → SaysParts e m (node_parts forest.left_out ++ ps)
unfolding encode
skipped e m n ps span more q l =
    plainly e m n (Leaf forest.no_properties forest.Plain []) ps empty_scalar span more refl q l

left_out_says : (n : Node) (t : List Kind) (k : Kind) (ks : List Kind) (f : SpansByKinds)
    (machine : List Kind → Machine) (s : State) (ss : List Kind → Outer) (e : Memory) (ps : List Part)
    → n ≡ forest.left_out → t ≡ [] → (EmitsParts f (k ∷ ks) s (ss (k ∷ ks)) (after_node forest.left_out e) ps
    → SaysParts e (machine (k ∷ ks)) (node_parts forest.left_out ++ ps))
    → EmitsParts f (k ∷ ks) s (ss (t ++ k ∷ ks)) (after_node n e) ps
    → SaysParts e (machine (t ++ k ∷ ks)) (node_parts n ++ ps)
left_out_says n t k ks f machine s ss e ps a b q = rw (a, b) q

-- the same of a node that may be left out
pub enters_or_skips : (n : Node) (c : grammar.Context) (t : List Kind) → YieldsOptional n (YieldsNode n c) t
    → (YieldsNode n c t → NodeSays n c t)
    → (f : SpansByKinds) (k : Kind) (ks : List Kind) (machine : List Kind → Machine) (x : State)
    (s : State) (ss : List Kind → Outer) (e : Memory) (ps : List Part)
    → MayFollow c k → ((l : List Kind) → (machine l).state ≢ End)
    → (span : Span) × (event_step (machine (k ∷ ks)) ≡ emit empty_scalar span
    (at f (k ∷ ks) s (ss (k ∷ ks)) e)) → ((j : Kind) (l : List Kind) → Starts c j
    → event_step (machine (j ∷ l)) ≡ next_node (context_of c) (at f (j ∷ l) x (expecting s (ss (j ∷ l))) e))
    → EmitsParts f (k ∷ ks) s (ss (t ++ k ∷ ks)) (after_node n e) ps
    → SaysParts e (machine (t ++ k ∷ ks)) (node_parts n ++ ps)
enters_or_skips n c t (inr h) g f k ks machine x s ss e ps z more skip go l =
    enters n c t h (g h) f k ks machine x s ss e ps z more go l
enters_or_skips n c t (inl h) g f k ks machine x s ss e ps z more (span, skip) go l =
    let q = skipped e (machine (k ∷ ks)) (at f (k ∷ ks) s (ss (k ∷ ks)) e) ps span (more (k ∷ ks)) skip in
    left_out_says n t k ks f machine s ss e ps h.0 h.1 q l

-- ## Nodes that may be left out, behind which a state is expected

abbrev pub place_before : State → grammar.Context
place_before o = place_of (steps.context_before o)

-- a token before which the node is left out
abbrev pub EndsAt : State → Kind → Type 0
EndsAt o k = steps.is_left_out o k ≡ true

starts_there : (o : State) (j : Kind) → Starts (place_before o) j → steps.is_left_out o j ≡ false
starts_there o j h = grind arith

ends_there : (o : State) (k : Kind) → EndsAt o k → MayFollow (place_before o) k
ends_there o k h = grind arith

begins_at : (o x : State) (f : SpansByKinds) (j : Kind) (l : List Kind) (ss : Outer) (e : Memory) (span : Span)
    (b : Bool) → b ≡ false → steps.node_or_nothing_at b o span (record { span = f l; kind = j }) (at f l x ss e)
    ≡ next_node (context_of (place_before o)) (at f (j ∷ l) x (expecting o ss) e)
begins_at o x f j l ss e span b h = grind arith

ends_at : (o x : State) (f : SpansByKinds) (k : Kind) (ks : List Kind) (ss : Outer) (e : Memory) (span : Span)
    (b : Bool) → b ≡ true → steps.node_or_nothing_at b o span (record { span = f ks; kind = k }) (at f ks x ss e)
    ≡ emit empty_scalar span (at f (k ∷ ks) o ss e)
ends_at o x f k ks ss e span b h = rw h refl

-- The machine comes to such a node. Its span is told where it is left out.
pub optional_says : (o : State) (n : Node) (t : List Kind) → YieldsOptional n (YieldsNode n (place_before o)) t
    → (YieldsNode n (place_before o) t → NodeSays n (place_before o) t)
    → (f : SpansByKinds) (k : Kind) (ks : List Kind) (machine : List Kind → Machine) (x : State)
    (ss : List Kind → Outer) (e : Memory) (ps : List Part) (span : List Kind → Span) → EndsAt o k
    → ((l : List Kind) → (machine l).state ≢ End) → ((j : Kind) (l : List Kind) → event_step (machine (j ∷ l))
    ≡ steps.node_or_nothing o (span (j ∷ l)) (record { span = f l; kind = j }) (at f l x (ss (j ∷ l)) e))
    → EmitsParts f (k ∷ ks) o (ss (t ++ k ∷ ks)) (after_node n e) ps
    → SaysParts e (machine (t ++ k ∷ ks)) (node_parts n ++ ps)
optional_says o n t h g f k ks machine x ss e ps span z more go l =
    enters_or_skips n (place_before o) t h g f k ks machine x o ss e ps (ends_there o k z) more
    (span (k ∷ ks), go k ks ∙ ends_at o x f k ks (ss (k ∷ ks)) e (span (k ∷ ks)) _ z)
    (λ j l s. go j l ∙ begins_at o x f j l (ss (j ∷ l)) e (span (j ∷ l)) _ (starts_there o j s)) l

-- After the token `mark`, in the state `x`, such a node is told, behind which `o` is expected.
abbrev pub SaysBehind : Kind → State → State → Type 0
SaysBehind mark x o = (n : Node) (t : List Kind) → YieldsOptional n (YieldsNode n (place_before o)) t
    → (YieldsNode n (place_before o) t → NodeSays n (place_before o) t) → (f : SpansByKinds) (k : Kind) (ks : List Kind)
    (ss : Outer) (e : Memory) (ps : List Part) → EndsAt o k → EmitsParts f (k ∷ ks) o ss (after_node n e) ps
    → EmitsParts f (mark ∷ (t ++ k ∷ ks)) x ss e (node_parts n ++ ps)

pub says_behind : (mark : Kind) (x o : State) (span : SpansByKinds → List Kind → Span) → x ≢ End
    → ((f : SpansByKinds) (j : Kind) (l : List Kind) (ss : Outer) (e : Memory)
    → event_step (at f (mark ∷ j ∷ l) x ss e)
    ≡ steps.node_or_nothing o (span f (j ∷ l)) (record { span = f l; kind = j }) (at f l x ss e))
    → SaysBehind mark x o
says_behind mark x o span more go n t h g f k ks ss e ps z l =
    optional_says o n t h g f k ks (λ l. at f (mark ∷ l) x ss e) x (λ l. ss) e ps (span f) z (λ l. more)
    (λ j l. go f j l ss e) l

-- ## Pairs

-- the tokens of a pair with both marks, and what comes after it
pub marked_tokens : (t front back key value others : List Kind) → front ≡ tokens.Key ∷ key → back ≡ tokens.Value ∷ value
    → t ≡ front ++ back → t ++ others ≡ tokens.Key ∷ (key ++ tokens.Value ∷ (value ++ others))
marked_tokens t front back key value others a b c = rw (c, a, b) (cc (append_assoc key (tokens.Value ∷ value) others))
