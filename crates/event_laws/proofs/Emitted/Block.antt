-- The entries of block collections are told.
use Rattle.event_laws.proofs.Common.{◌≡◌, List, ◌∷◌, ◌++◌, refl, subst, sym, inl, inr, arith, Node, Kind, BlockEntry, Key, Value, InBlockMapping, YieldsMarkedKey, YieldsMarkedValue, YieldsBlockPair, BeginsWithValue, YieldsNode, State, Part, node_parts, emit, empty_scalar}
use Rattle.saphyr_scanner.specs.Grammar.Forest as forest
use Rattle.saphyr_machine.specs.declared.state.State.TheVariants as state
use Rattle.saphyr_machine.specs.Steps.Block.{block_sequence_entry, indentless_sequence_entry, block_mapping_key, block_mapping_value}
use Rattle.saphyr_machine.specs.Steps.Nodes.{node_behind, node_here}
use Rattle.saphyr_machine.specs.Steps.Expected.{event_step}
use Rattle.event_laws.proofs.Emitted.Emitting.{SpansByKinds, Memory, Outer, at, span_of_token}
use Rattle.event_laws.proofs.Remembering.{after_node, EmitsParts}
use Rattle.event_laws.proofs.NodeStarts.{MayFollow, EachSays, skipped, EndsAt, SaysBehind, says_behind, marked_tokens}

-- ## Entries

pub entry_says : SaysBehind BlockEntry state.BlockSequenceEntry state.BlockSequenceEntry
unfolding event_step block_sequence_entry node_behind
entry_says = says_behind BlockEntry state.BlockSequenceEntry state.BlockSequenceEntry (λ f. f) (λ q. cc)
    (λ f j l ss e. refl)

pub indentless_says : SaysBehind BlockEntry state.IndentlessSequenceEntry state.IndentlessSequenceEntry
unfolding event_step indentless_sequence_entry node_behind
indentless_says = says_behind BlockEntry state.IndentlessSequenceEntry state.IndentlessSequenceEntry (λ f. f)
    (λ q. cc) (λ f j l ss e. refl)

-- the key, from its mark on
key_says : SaysBehind Key state.BlockMappingKey state.BlockMappingValue
unfolding event_step block_mapping_key node_here span_of_token
key_says = says_behind Key state.BlockMappingKey state.BlockMappingValue span_of_token (λ q. cc) (λ f j l ss e. refl)

-- the value, from its mark on
value_says : SaysBehind Value state.BlockMappingValue state.BlockMappingKey
unfolding event_step block_mapping_value node_behind
value_says = says_behind Value state.BlockMappingValue state.BlockMappingKey (λ f. f) (λ q. cc) (λ f j l ss e. refl)

-- what comes after a key or a value of a mapping ends nodes that are left out
pub mapping_ends : (k : Kind) → MayFollow InBlockMapping k → EndsAt state.BlockMappingKey k
    × EndsAt state.BlockMappingValue k × EndsAt state.IndentlessSequenceEntry k
mapping_ends k h = grind arith

-- ## Pairs

value_is_missing : (f : SpansByKinds) (k : Kind) (ks : List Kind) (ss : Outer) (e : Memory)
    → MayFollow InBlockMapping k → ¬ (BeginsWithValue (k ∷ ks))
    → event_step (at f (k ∷ ks) state.BlockMappingValue ss e)
    ≡ emit empty_scalar (f ks) (at f (k ∷ ks) state.BlockMappingKey ss e)
unfolding event_step block_mapping_value
value_is_missing f k ks ss e h n = grind arith

-- a pair whose value is left out
alone_says : (key : Node) (t : List Kind) → YieldsMarkedKey key (YieldsNode key InBlockMapping) t
    → EachSays key InBlockMapping
    → (f : SpansByKinds) (k : Kind) (ks : List Kind) (ss : Outer) (e : Memory) (ps : List Part)
    → MayFollow InBlockMapping k → ¬ (BeginsWithValue (k ∷ ks))
    → EmitsParts f (k ∷ ks) state.BlockMappingKey ss (after_node key e) ps
    → EmitsParts f (t ++ k ∷ ks) state.BlockMappingKey ss e (node_parts key ++ (node_parts forest.left_out ++ ps))
alone_says key t h g f k ks ss e ps z n l =
    let e' : Memory = after_node key e in
    let second : EmitsParts f (k ∷ ks) state.BlockMappingValue ss e' (node_parts forest.left_out ++ ps) =
    skipped e' (at f (k ∷ ks) state.BlockMappingValue ss e') (at f (k ∷ ks) state.BlockMappingKey ss e') ps (f ks)
    (λ q. cc) (value_is_missing f k ks ss e' z n) l in
    rw h.2 (key_says key h.0 h.1 (g h.0) f k ks ss e (node_parts forest.left_out ++ ps) (mapping_ends k z).1 second)

-- a pair whose key is left out
keyless_says : (value : Node) (t : List Kind) → YieldsMarkedValue value (YieldsNode value InBlockMapping) t
    → EachSays value InBlockMapping
    → (f : SpansByKinds) (k : Kind) (ks : List Kind) (ss : Outer) (e : Memory) (ps : List Part)
    → MayFollow InBlockMapping k → EmitsParts f (k ∷ ks) state.BlockMappingKey ss (after_node value e) ps
    → EmitsParts f (t ++ k ∷ ks) state.BlockMappingKey ss e (node_parts forest.left_out ++ (node_parts value ++ ps))
unfolding event_step block_mapping_key
keyless_says value t h g f k ks ss e ps z l =
    let rest : List Kind = h.0 ++ k ∷ ks in
    let second = value_says value h.0 h.1 (g h.0) f k ks ss e ps (mapping_ends k z).0 l in
    rw h.2
    (skipped e (at f (Value ∷ rest) state.BlockMappingKey ss e) (at f (Value ∷ rest) state.BlockMappingValue ss e)
    (node_parts value ++ ps) (f rest) (λ q. cc) refl second)

pub pair_says : (key value : Node) (others t : List Kind)
    → YieldsBlockPair key value (YieldsNode key InBlockMapping) (YieldsNode value InBlockMapping) others t
    → EachSays key InBlockMapping → EachSays value InBlockMapping
    → (f : SpansByKinds) (k : Kind) (ks : List Kind) (ss : Outer) (e : Memory) (ps : List Part)
    → MayFollow InBlockMapping k → (¬ (BeginsWithValue others) → ¬ (BeginsWithValue (k ∷ ks)))
    → EmitsParts f (k ∷ ks) state.BlockMappingKey ss (after_node value (after_node key e)) ps
    → EmitsParts f (t ++ k ∷ ks) state.BlockMappingKey ss e (node_parts key ++ (node_parts value ++ ps))
pair_says key value others t (inl h) gk gv f k ks ss e ps z n l =
    let kt : List Kind = h.2.0 in
    let vt : List Kind = h.3.0 in
    rw (marked_tokens t h.0 h.1 kt vt (k ∷ ks) h.2.2 h.3.2 h.4)
    (key_says key kt h.2.1 (gk kt) f Value (vt ++ k ∷ ks) ss e (node_parts value ++ ps) refl
    (value_says value vt h.3.1 (gv vt) f k ks ss (after_node key e) ps (mapping_ends k z).0 l))
pair_says key value others t (inr (inl h)) gk gv f k ks ss e ps z n l =
    subst (λ (v : Node). EmitsParts f (k ∷ ks) state.BlockMappingKey ss (after_node v (after_node key e)) ps
    → EmitsParts f (t ++ k ∷ ks) state.BlockMappingKey ss e (node_parts key ++ (node_parts v ++ ps))) (sym h.0)
    (alone_says key t h.2 gk f k ks ss e ps z (n h.1)) l
pair_says key value others t (inr (inr h)) gk gv f k ks ss e ps z n l =
    subst (λ (v : Node). EmitsParts f (k ∷ ks) state.BlockMappingKey ss (after_node value (after_node v e)) ps
    → EmitsParts f (t ++ k ∷ ks) state.BlockMappingKey ss e (node_parts v ++ (node_parts value ++ ps))) (sym h.0)
    (keyless_says value t h.1 gv f k ks ss e ps z) l
