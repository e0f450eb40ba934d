-- The entries of brackets, of which a pair of a key and a value may be one, are told.
use Rattle.event_laws.proofs.Common.{◌≡◌, ◌≢◌, List, ◌∷◌, ◌++◌, None, refl, subst, sym, ◌∙◌, inl, inr, arith, Marker, no_properties, Node, Kind, FlowSequenceEnd, FlowEntry, Key, Value, InFlow, YieldsOptional, YieldsMarkedKey, YieldsSinglePair, YieldsNode, Piece, Flow, State, Part, OpenMapping, CloseMapping, node_parts, MappingStart, MappingEnd, empty_scalar, Machine, emit}
use Rattle.saphyr_scanner.specs.Grammar.Forest as forest
use Rattle.saphyr_machine.specs.declared.state.State.TheVariants as state
use Rattle.saphyr_machine.specs.Steps.Nodes.{node_here, node_inside}
use Rattle.saphyr_machine.specs.Steps.Flow.{flow_sequence_first_entry_at, flow_sequence_entry_mapping_key, flow_sequence_entry_mapping_value, flow_sequence_entry_mapping_node, flow_sequence_entry_mapping_end}
use Rattle.saphyr_machine.specs.Steps.Expected.{event_step}
use Rattle.event_laws.proofs.Emitted.Emitting.{SpansByKinds, Memory, Outer, ending, at, span_of_token}
use Rattle.event_laws.proofs.Remembering.{after_node, SaysParts, EmitsParts, plainly}
use Rattle.event_laws.proofs.NodeStarts.{Starts, MayFollow, NodeSays, EachSays, enters, skipped, EndsAt, optional_says, marked_tokens}

-- what comes after an entry of brackets
abbrev pub EndsEntry : Kind → Type 0
EndsEntry FlowEntry = Unit {0}
EndsEntry FlowSequenceEnd = Unit {0}
EndsEntry _ = ⊥

entry_ends : (k : Kind) → EndsEntry k → MayFollow InFlow k × EndsAt state.FlowSequenceEntryMappingEnd k
    × EndsAt state.FlowSequenceEntryMappingValue k
entry_ends k h = grind arith

-- an entry begins with the first token of a node
entry_begins : (k : Kind) (t : Piece) (m : Machine) → Starts InFlow k
    → flow_sequence_first_entry_at k t m ≡ node_inside state.FlowSequenceEntry Flow t m
entry_begins k t m h = grind arith

-- the machine comes to an entry of brackets
pub record AtEntry (f : SpansByKinds) (x : State) (ss : Outer) (e : Memory) (machine : List Kind → Machine) : Type
    0 where
  pub goes_on : (l : List Kind) → (machine l).state ≢ state.End
  pub steps : (k : Kind) (l : List Kind)
      → event_step (machine (k ∷ l)) ≡ flow_sequence_first_entry_at k (record { span = f l; kind = k }) (at f l x ss e)

-- Where an entry of brackets begins its tokens tell these parts before others. What is remembered changes by `later`.
abbrev pub SaysEntry : (List Part → List Part) → (Memory → Memory) → List Kind → Type 0
SaysEntry parts later t = (f : SpansByKinds) (k : Kind) (ks : List Kind) (machine : List Kind → Machine) (x : State)
    (ss : Outer) (e : Memory) (ps : List Part) → EndsEntry k → AtEntry f x ss e machine
    → EmitsParts f (k ∷ ks) state.FlowSequenceEntry ss (later e) ps → SaysParts e (machine (t ++ k ∷ ks)) (parts ps)

-- an entry that is a node
pub entry_says : (n : Node) (t : List Kind) → YieldsNode n InFlow t → NodeSays n InFlow t
    → SaysEntry (λ ps. node_parts n ++ ps) (after_node n) t
entry_says n t h g f k ks machine x ss e ps z a l =
    enters n InFlow t h g f k ks machine x state.FlowSequenceEntry (λ l. ss) e ps
    (entry_ends k z).0 a.goes_on
    (λ j l s. a.steps j l ∙ entry_begins j _ _ s) l

-- ## A pair

pair_ends_at : (f : SpansByKinds) (place : Marker) (l : List Kind) (ss : Outer) (e : Memory) (ps : List Part)
    → EmitsParts f l state.FlowSequenceEntry ss e ps
    → EmitsParts f l state.FlowSequenceEntryMappingEnd (ending place ss) e (CloseMapping ∷ ps)
unfolding event_step flow_sequence_entry_mapping_end
pair_ends_at f place l ss e ps h =
    plainly e (at f l state.FlowSequenceEntryMappingEnd (ending place ss) e) (at f l state.FlowSequenceEntry ss e)
    CloseMapping ps MappingEnd (record { start = place; end = place }) (λ q. cc) refl refl h

-- the key, up to what comes after it
key_says : (key : Node) (t : List Kind) → YieldsOptional key (YieldsNode key InFlow) t
    → (YieldsNode key InFlow t → NodeSays key InFlow t) → (f : SpansByKinds) (k : Kind) (ks : List Kind)
    (ss : Outer) (e : Memory) (ps : List Part) → EndsAt state.FlowSequenceEntryMappingValue k
    → EmitsParts f (k ∷ ks) state.FlowSequenceEntryMappingValue ss (after_node key e) ps
    → EmitsParts f (t ++ k ∷ ks) state.FlowSequenceEntryMappingKey ss e (node_parts key ++ ps)
unfolding event_step flow_sequence_entry_mapping_key node_here span_of_token
key_says key t h g f k ks ss e ps z l =
    optional_says state.FlowSequenceEntryMappingValue key t h g f k ks
    (λ l. at f l state.FlowSequenceEntryMappingKey ss e) state.FlowSequenceEntryMappingKey (λ l. ss) e ps
    (span_of_token f) z (λ l q. cc) (λ j l. refl) l

-- the value, from its mark on, and the end of the pair
value_says : (value : Node) (t : List Kind) → YieldsOptional value (YieldsNode value InFlow) t
    → (YieldsNode value InFlow t → NodeSays value InFlow t) → (f : SpansByKinds) (k : Kind) (ks : List Kind)
    (ss : Outer) (e : Memory) (ps : List Part) → EndsEntry k
    → EmitsParts f (k ∷ ks) state.FlowSequenceEntry ss (after_node value e) ps
    → EmitsParts f (Value ∷ (t ++ k ∷ ks)) state.FlowSequenceEntryMappingValue ss e
    (node_parts value ++ CloseMapping ∷ ps)
unfolding event_step flow_sequence_entry_mapping_value flow_sequence_entry_mapping_node span_of_token
value_says value t h g f k ks ss e ps z l =
    optional_says state.FlowSequenceEntryMappingEnd value t h g f k ks
    (λ l. at f (Value ∷ l) state.FlowSequenceEntryMappingValue ss e) state.FlowSequenceEntryMappingValue
    (λ l. ending (span_of_token f l).end ss) e (CloseMapping ∷ ps) (span_of_token f) (entry_ends k z).1
    (λ l q. cc) (λ j l. refl) (pair_ends_at f _ (k ∷ ks) ss (after_node value e) ps l)

-- no value at all
missing_value_says : (f : SpansByKinds) (k : Kind) (ks : List Kind) (ss : Outer) (e : Memory) (ps : List Part)
    → EndsEntry k → EmitsParts f (k ∷ ks) state.FlowSequenceEntry ss e ps
    → EmitsParts f (k ∷ ks) state.FlowSequenceEntryMappingValue ss e
    (node_parts forest.left_out ++ CloseMapping ∷ ps)
unfolding event_step flow_sequence_entry_mapping_value
missing_value_says f k ks ss e ps z l =
    skipped e (at f (k ∷ ks) state.FlowSequenceEntryMappingValue ss e)
    (at f (k ∷ ks) state.FlowSequenceEntryMappingEnd (ending (f ks).end ss) e) (CloseMapping ∷ ps) (f ks) (λ q. cc)
    (missing k z) (pair_ends_at f _ (k ∷ ks) ss e ps l)
  where
    missing : (k : Kind) → EndsEntry k → event_step (at f (k ∷ ks) state.FlowSequenceEntryMappingValue ss e)
        ≡ emit empty_scalar (f ks) (at f (k ∷ ks) state.FlowSequenceEntryMappingEnd (ending (f ks).end ss) e)
    missing k h = grind arith

pair_opens : (f : SpansByKinds) (l : List Kind) (machine : List Kind → Machine) (x : State) (ss : Outer)
    (e : Memory) (ps : List Part) → AtEntry f x ss e machine → EmitsParts f l state.FlowSequenceEntryMappingKey ss e ps
    → SaysParts e (machine (Key ∷ l)) (OpenMapping no_properties ∷ ps)
pair_opens f l machine x ss e ps a h =
    plainly e (machine (Key ∷ l)) (at f l state.FlowSequenceEntryMappingKey ss e) (OpenMapping no_properties) ps
    (MappingStart 0 None) (f l) (a.goes_on (Key ∷ l)) refl (a.steps Key l) h

-- the parts of a pair, before others
abbrev pub single_pair : Node → Node → List Part → List Part
single_pair key value ps = OpenMapping no_properties ∷ (node_parts key ++ (node_parts value ++ CloseMapping ∷ ps))

-- a pair with no value
key_alone_says : (key : Node) (t : List Kind) → YieldsMarkedKey key (YieldsNode key InFlow) t → EachSays key InFlow
    → SaysEntry (single_pair key forest.left_out) (after_node key) t
key_alone_says key t h gk f k ks machine x ss e ps z a l =
    rw h.2 (pair_opens f (h.0 ++ k ∷ ks) machine x ss e
    (node_parts key ++ (node_parts forest.left_out ++ CloseMapping ∷ ps)) a
    (key_says key h.0 h.1 (gk h.0) f k ks ss e _ (entry_ends k z).2
    (missing_value_says f k ks ss (after_node key e) ps z l)))

-- the pair as an entry of brackets
pub pair_says : (key value : Node) (t : List Kind)
    → YieldsSinglePair key value (YieldsNode key InFlow) (YieldsNode value InFlow) t → EachSays key InFlow
    → EachSays value InFlow → SaysEntry (single_pair key value) (λ e. after_node value (after_node key e)) t
pair_says key value t (inl h) gk gv f k ks machine x ss e ps z a l =
    let kt : List Kind = h.2.0 in
    let vt : List Kind = h.3.0 in
    rw (marked_tokens t h.0 h.1 kt vt (k ∷ ks) h.2.2 h.3.2 h.4)
    (pair_opens f (kt ++ Value ∷ (vt ++ k ∷ ks)) machine x ss e
    (node_parts key ++ (node_parts value ++ CloseMapping ∷ ps)) a
    (key_says key kt h.2.1 (gk kt) f Value (vt ++ k ∷ ks) ss e _ refl
    (value_says value vt h.3.1 (gv vt) f k ks ss (after_node key e) ps z l)))
pair_says key value t (inr h) gk gv f k ks machine x ss e ps z a l =
    subst (λ (v : Node). EmitsParts f (k ∷ ks) state.FlowSequenceEntry ss (after_node v (after_node key e)) ps
    → SaysParts e (machine (t ++ k ∷ ks)) (single_pair key v ps)) (sym h.0)
    (key_alone_says key t h.1 gk f k ks machine x ss e ps z a) l
