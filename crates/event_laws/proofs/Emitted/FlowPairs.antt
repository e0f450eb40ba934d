-- The entries of braces are told.
use Rattle.event_laws.proofs.Common.{◌≡◌, ◌≢◌, List, ◌∷◌, ◌++◌, refl, subst, sym, ◌∙◌, ◌⊎◌, inl, inr, arith, Span, Node, Kind, Key, Value, InFlow, YieldsOptional, YieldsMarkedKey, YieldsMarkedValue, YieldsFlowPair, YieldsNode, Piece, Flow, State, Part, node_parts, Machine, emit, empty_scalar, node_inside}
use Rattle.saphyr_scanner.specs.Grammar.Forest as forest
use Rattle.saphyr_machine.specs.declared.state.State.TheVariants as state
use Rattle.saphyr_machine.specs.Steps.Flow.{flow_mapping_pair_at, flow_mapping_value, flow_mapping_empty_value}
use Rattle.saphyr_machine.specs.Steps.Nodes.{node_behind, node_here}
use Rattle.saphyr_machine.specs.Steps.Expected.{event_step}
use Rattle.event_laws.proofs.Emitted.Emitting.{SpansByKinds, Memory, Outer, at, span_of_token}
use Rattle.event_laws.proofs.Remembering.{after_node, SaysParts, EmitsParts}
use Rattle.event_laws.proofs.NodeStarts.{Starts, MayFollow, NodeSays, EachSays, enters, skipped, EndsAt, optional_says, SaysBehind, says_behind, marked_tokens}

-- what comes after an entry of braces
abbrev pub EndsPair : Kind → Type 0
EndsPair = EndsAt state.FlowMappingKey

pair_end_follows : (k : Kind) → EndsPair k → MayFollow InFlow k × EndsAt state.FlowMappingValue k
pair_end_follows k h = grind arith

-- the machine comes to an entry of braces; the span is the end's, if the mapping ends here
pub record AtPair (f : SpansByKinds) (x : State) (ss : Outer) (e : Memory) (machine : List Kind → Machine) : Type 0
  where
    pub goes_on : (l : List Kind) → (machine l).state ≢ state.End
    pub span : List Kind → Span
    pub steps : (k : Kind) (l : List Kind)
        → event_step (machine (k ∷ l)) ≡ flow_mapping_pair_at k (span (k ∷ l)) (record { span = f l; kind = k })
        (at f l x ss e)

-- Where an entry of braces begins its tokens tell these parts before others. What is remembered changes by `later`.
abbrev pub SaysPair : (List Part → List Part) → (Memory → Memory) → List Kind → Type 0
SaysPair parts later t = (f : SpansByKinds) (k : Kind) (ks : List Kind) (machine : List Kind → Machine) (x : State)
    (ss : Outer) (e : Memory) (ps : List Part) → EndsPair k → AtPair f x ss e machine
    → EmitsParts f (k ∷ ks) state.FlowMappingKey ss (later e) ps → SaysParts e (machine (t ++ k ∷ ks)) (parts ps)

-- the parts of a pair, before others
abbrev pub pair : Node → Node → List Part → List Part
pair key value ps = node_parts key ++ (node_parts value ++ ps)

-- ## Keys

-- a key without its mark
bare_key_begins : (j : Kind) (s : Span) (t : Piece) (m : Machine) → Starts InFlow j
    → flow_mapping_pair_at j s t m ≡ node_inside state.FlowMappingEmptyValue Flow t m
bare_key_begins k s t m h = grind arith

-- ## Values

value_is_missing : (f : SpansByKinds) (k : Kind) (ks : List Kind) (ss : Outer) (e : Memory) → EndsPair k
    → event_step (at f (k ∷ ks) state.FlowMappingValue ss e)
    ≡ emit empty_scalar (f ks) (at f (k ∷ ks) state.FlowMappingKey ss e)
unfolding event_step flow_mapping_value
value_is_missing f k ks ss e h = grind arith

-- ## The pair

-- the value, from its mark on
value_says : SaysBehind Value state.FlowMappingValue state.FlowMappingKey
unfolding event_step flow_mapping_value node_behind
value_says = says_behind Value state.FlowMappingValue state.FlowMappingKey (λ f. f) (λ q. cc) (λ f j l ss e. refl)

-- no value
missing_value_says : (f : SpansByKinds) (k : Kind) (ks : List Kind) (ss : Outer) (e : Memory) (ps : List Part)
    → EndsPair k → EmitsParts f (k ∷ ks) state.FlowMappingKey ss e ps
    → EmitsParts f (k ∷ ks) state.FlowMappingValue ss e (node_parts forest.left_out ++ ps)
missing_value_says f k ks ss e ps z l =
    skipped e (at f (k ∷ ks) state.FlowMappingValue ss e) (at f (k ∷ ks) state.FlowMappingKey ss e) ps
    (f ks) (λ q. cc) (value_is_missing f k ks ss e z) l

-- the key, from its mark on
key_says : (key : Node) (t : List Kind) → YieldsOptional key (YieldsNode key InFlow) t
    → (YieldsNode key InFlow t → NodeSays key InFlow t)
    → (f : SpansByKinds) (k : Kind) (ks : List Kind) (machine : List Kind → Machine) (x : State) (ss : Outer)
    (e : Memory) (ps : List Part) → EndsAt state.FlowMappingValue k → AtPair f x ss e machine
    → EmitsParts f (k ∷ ks) state.FlowMappingValue ss (after_node key e) ps
    → SaysParts e (machine (Key ∷ (t ++ k ∷ ks))) (node_parts key ++ ps)
unfolding node_here span_of_token
key_says key t h g f k ks machine x ss e ps z a l = optional_says state.FlowMappingValue key t
    h g f k ks (λ l. machine (Key ∷ l)) x (λ l. ss) e ps (span_of_token f) z (λ l. a.goes_on (Key ∷ l))
    (λ j l. a.steps Key (j ∷ l)) l

-- a pair whose value is left out, by its key's tokens
alone_says : (key : Node) (t : List Kind) → YieldsMarkedKey key (YieldsNode key InFlow) t ⊎ YieldsNode key InFlow t
    → EachSays key InFlow → SaysPair (pair key forest.left_out) (after_node key) t
unfolding event_step flow_mapping_empty_value
alone_says key t (inl h) g f k ks machine x ss e ps z a l =
    rw h.2 (key_says key h.0 h.1 (g h.0) f k ks machine x ss e _ (pair_end_follows k z).1
    a (missing_value_says f k ks ss (after_node key e) ps z l))
alone_says key t (inr h) g f k ks machine x ss e ps z a l =
    let e' : Memory = after_node key e in
    let second : EmitsParts f (k ∷ ks) state.FlowMappingEmptyValue ss e' (node_parts forest.left_out ++ ps) =
    skipped e' (at f (k ∷ ks) state.FlowMappingEmptyValue ss e') (at f (k ∷ ks) state.FlowMappingKey ss e') ps
    (f ks) (λ q. cc) refl l in
    enters key InFlow t h (g t h) f k ks machine x state.FlowMappingEmptyValue (λ l. ss) e
    (node_parts forest.left_out ++ ps) (pair_end_follows k z).0 a.goes_on
    (λ j l s. a.steps j l ∙ bare_key_begins j _ _ _ s) second

-- a pair whose key is left out
keyless_says : (value : Node) (t : List Kind) → YieldsMarkedValue value (YieldsNode value InFlow) t
    → EachSays value InFlow → SaysPair (pair forest.left_out value) (after_node value) t
keyless_says value t h g f k ks machine x ss e ps z a l =
    let rest : List Kind = h.0 ++ k ∷ ks in
    rw h.2 (skipped e (machine (Value ∷ rest)) (at f (Value ∷ rest) state.FlowMappingValue ss e)
    (node_parts value ++ ps) (f rest) (a.goes_on (Value ∷ rest)) (a.steps Value rest)
    (value_says value h.0 h.1 (g h.0) f k ks ss e ps z l))

-- the pair as an entry of braces
pub pair_says : (key value : Node) (t : List Kind)
    → YieldsFlowPair key value (YieldsNode key InFlow) (YieldsNode value InFlow) t → EachSays key InFlow
    → EachSays value InFlow → SaysPair (pair key value) (λ e. after_node value (after_node key e)) t
unfolding node_here
pair_says key value t (inl h) gk gv f k ks machine x ss e ps z a l =
    let kt : List Kind = h.2.0 in
    let vt : List Kind = h.3.0 in
    rw (marked_tokens t h.0 h.1 kt vt (k ∷ ks) h.2.2 h.3.2 h.4)
    (key_says key kt h.2.1 (gk kt) f Value (vt ++ k ∷ ks) machine x ss e _ refl a
    (value_says value vt h.3.1 (gv vt) f k ks ss (after_node key e) ps z l))
pair_says key value t (inr (inl h)) gk gv f k ks machine x ss e ps z a l =
    subst (λ (v : Node). EmitsParts f (k ∷ ks) state.FlowMappingKey ss (after_node v (after_node key e)) ps
    → SaysParts e (machine (t ++ k ∷ ks)) (node_parts key ++ (node_parts v ++ ps))) (sym h.0)
    (alone_says key t (inl h.1) gk f k ks machine x ss e ps z a) l
pair_says key value t (inr (inr (inl h))) gk gv f k ks machine x ss e ps z a l =
    subst (λ (v : Node). EmitsParts f (k ∷ ks) state.FlowMappingKey ss (after_node value (after_node v e)) ps
    → SaysParts e (machine (t ++ k ∷ ks)) (node_parts v ++ (node_parts value ++ ps))) (sym h.0)
    (keyless_says value t h.1 gv f k ks machine x ss e ps z a) l
pair_says key value t (inr (inr (inr h))) gk gv f k ks machine x ss e ps z a l =
    subst (λ (v : Node). EmitsParts f (k ∷ ks) state.FlowMappingKey ss (after_node v (after_node key e)) ps
    → SaysParts e (machine (t ++ k ∷ ks)) (node_parts key ++ (node_parts v ++ ps))) (sym h.0)
    (alone_says key t (inr h.1) gk f k ks machine x ss e ps z a) l
