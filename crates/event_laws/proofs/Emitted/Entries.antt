-- Collections' entries are told, one after the other.
use Rattle.event_laws.proofs.Common.{◌≡◌, List, [], ◌∷◌, ◌++◌, refl, subst, sym, ◌⊎◌, inl, inr, append_assoc, arith, no_properties, Properties, Node, Map, Nodes, NoNode, MoreNodes, Pairs, NoPair, MorePairs, Kind, BlockEnd, FlowSequenceEnd, FlowMappingEnd, BlockEntry, FlowEntry, InFlow, InBlock, InBlockMapping, YieldsOptional, IsListEnd, YieldsSinglePair, YieldsFlowPair, YieldsBlockPair, YieldsNode, YieldsPairEntry, YieldOtherFlowEntries, YieldOtherFlowPairs, YieldBlockEntries, YieldBlockPairs, State, Part, OpenMapping, CloseSequence, CloseMapping, node_parts, entry_parts, pair_parts, SequenceEnd, MappingEnd, emit}
use Rattle.saphyr_machine.specs.declared.state.State.TheVariants as state
use Rattle.saphyr_machine.specs.Steps.Flow.{flow_sequence_first_entry, flow_sequence_entry, flow_mapping_first_key, flow_mapping_pair_behind_comma, flow_mapping_key}
use Rattle.saphyr_machine.specs.Steps.Block.{block_sequence_entry, indentless_sequence_entry, block_mapping_key}
use Rattle.saphyr_machine.specs.Steps.Expected.{event_step}
use Rattle.event_laws.proofs.Emitted.Emitting.{SpansByKinds, Memory, Outer, expecting, at, span_of_token}
use Rattle.event_laws.proofs.Remembering.{after_node, after_nodes, after_pairs, SaysParts, EmitsParts, plainly}
use Rattle.event_laws.proofs.NodeStarts.{Next, MayFollow, NodeSays, EachSays, EndsAt}
use Rattle.event_laws.proofs.Emitted.SinglePairs.{EndsEntry, SaysEntry, entry_says}
use Rattle.event_laws.proofs.Emitted.SinglePairs as single
use Rattle.event_laws.proofs.Emitted.FlowPairs.{EndsPair}
use Rattle.event_laws.proofs.Emitted.FlowPairs as flow
use Rattle.event_laws.proofs.Emitted.Block.{mapping_ends, indentless_says}
use Rattle.event_laws.proofs.Emitted.Block as block
use Rattle.event_laws.proofs.Emitted.Collections.{SayUpTo, PairsSay, OtherEntriesSay, OtherPairsSay, FlowEntriesSay, FlowPairsSay, BlockEntriesSay, IndentlessSay, BlockPairsSay, flow_entries_next, flow_pairs_next, block_entries_next, block_pairs_next, no_value}

-- ## The ends of collections

pub no_entries : FlowEntriesSay NoNode []
unfolding event_step flow_sequence_first_entry
no_entries = record {
  by = λ f ks s ss e ps l. plainly e _ (at f ks s ss e) CloseSequence ps SequenceEnd (f ks) (λ q. cc) refl refl l;
}

pub no_other_entries : (t : List Kind) → IsListEnd t → OtherEntriesSay NoNode t
unfolding event_step flow_sequence_entry flow_sequence_first_entry
no_other_entries t (inl h) = rw h (record {
  by = λ f ks s ss e ps l. plainly e _ (at f ks s ss e) CloseSequence ps SequenceEnd (f ks) (λ q. cc) refl refl l;
})
no_other_entries t (inr h) = rw h (record {
  by = λ f ks s ss e ps l. plainly e _ (at f ks s ss e) CloseSequence ps SequenceEnd (f ks) (λ q. cc) refl refl l;
})

pub no_pairs : FlowPairsSay NoPair []
unfolding event_step flow_mapping_first_key
no_pairs = record {
  by = λ f ks s ss e ps l. plainly e _ (at f ks s ss e) CloseMapping ps MappingEnd (f ks) (λ q. cc) refl refl l;
}

pub no_other_pairs : (t : List Kind) → IsListEnd t → OtherPairsSay NoPair t
unfolding event_step flow_mapping_key flow_mapping_pair_behind_comma
no_other_pairs t (inl h) = rw h (record {
  by = λ f ks s ss e ps l. plainly e _ (at f ks s ss e) CloseMapping ps MappingEnd (f ks) (λ q. cc) refl refl l;
})
no_other_pairs t (inr h) = rw h (record {
  by = λ f ks s ss e ps l. plainly e _ (at f ks s ss e) CloseMapping ps MappingEnd (f (FlowMappingEnd ∷ ks)) (λ q. cc)
      refl refl l;
})

pub no_block_entries : BlockEntriesSay NoNode []
unfolding event_step block_sequence_entry
no_block_entries = record {
  by = λ f ks s ss e ps l. plainly e _ (at f ks s ss e) CloseSequence ps SequenceEnd (f ks) (λ q. cc) refl refl l;
}

pub no_block_pairs : BlockPairsSay NoPair []
unfolding event_step block_mapping_key
no_block_pairs = record {
  by = λ f ks s ss e ps l. plainly e _ (at f ks s ss e) CloseMapping ps MappingEnd (f ks) (λ q. cc) refl refl l;
}

indentless_ends : (f : SpansByKinds) (k : Kind) (ks : List Kind) (s : State) (ss : Outer) (e : Memory)
    (ps : List Part) → MayFollow InBlockMapping k → EmitsParts f (k ∷ ks) s ss e ps
    → EmitsParts f (k ∷ ks) state.IndentlessSequenceEntry (expecting s ss) e (CloseSequence ∷ ps)
unfolding event_step indentless_sequence_entry
indentless_ends f k ks s ss e ps z l =
    plainly e (at f (k ∷ ks) state.IndentlessSequenceEntry (expecting s ss) e) (at f (k ∷ ks) s ss e) CloseSequence ps
    SequenceEnd (f ks) (λ q. cc) refl (stops k z) l
  where
    stops : (k : Kind) → MayFollow InBlockMapping k
        → event_step (at f (k ∷ ks) state.IndentlessSequenceEntry (expecting s ss) e)
        ≡ emit SequenceEnd (f ks) (at f (k ∷ ks) s ss e)
    stops k h = grind arith

pub no_indentless_entries : IndentlessSay NoNode []
no_indentless_entries = record { by = indentless_ends }

-- ## An entry, and those after it

-- an entry, with the token after it shown
entry_emitted : (Fits : Kind → Type 0) (f : SpansByKinds) (front v t rest : List Kind) (x y : State) (ss : Outer)
    (e e' : Memory) (entry ps : List Part) → Next Fits (v ++ rest) → t ≡ front ++ v
    → ((k : Kind) (ks : List Kind) → v ++ rest ≡ k ∷ ks → Fits k → EmitsParts f (k ∷ ks) y ss e' ps
    → EmitsParts f (front ++ k ∷ ks) x ss e (entry ++ ps)) → EmitsParts f (v ++ rest) y ss e' ps
    → EmitsParts f (t ++ rest) x ss e (entry ++ ps)
entry_emitted u0 f front v t rest x y ss e u1 entry ps n w go l = grind (arith, append_assoc)

-- an entry told with the token after it shown, and the others told in the state `y`
first_and_others : (Fits : Kind → Type 0) (close : Kind) (x y : State) (closing : Part) (entry inside : List Part)
    (now later : Memory → Memory) (front v t : List Kind) → ((ks : List Kind) → Next Fits (v ++ close ∷ ks))
    → t ≡ front ++ v
    → ((f : SpansByKinds) (k : Kind) (ls ks : List Kind) (ss : Outer) (e : Memory) (ps : List Part)
    → v ++ close ∷ ks ≡ k ∷ ls → Fits k → EmitsParts f (k ∷ ls) y ss (now e) ps
    → EmitsParts f (front ++ k ∷ ls) x ss e (entry ++ ps)) → SayUpTo close y closing inside later v
    → SayUpTo close x closing (entry ++ inside) (λ e. later (now e)) t
first_and_others Fits close x y closing entry inside now later front v t next w go others = record {
  by = λ f ks s ss e ps l. rw (append_assoc entry inside (closing ∷ ps))
      (entry_emitted Fits f front v t (close ∷ ks) x y (expecting s ss) e (now e) entry (inside ++ closing ∷ ps)
      (next ks) w (λ k ls same z r. go f k ls ks (expecting s ss) e (inside ++ closing ∷ ps) same z r)
      (others.by f ks s ss (now e) ps l));
}

-- the same of a pair
pair_and_others : (Fits : Kind → Type 0) (close : Kind) (x y : State) (key value : Node) (qs : Pairs)
    (front v t : List Kind) → ((ks : List Kind) → Next Fits (v ++ close ∷ ks)) → t ≡ front ++ v
    → ((f : SpansByKinds) (k : Kind) (ls ks : List Kind) (ss : Outer) (e : Memory) (ps : List Part)
    → v ++ close ∷ ks ≡ k ∷ ls → Fits k → EmitsParts f (k ∷ ls) y ss (after_node value (after_node key e)) ps
    → EmitsParts f (front ++ k ∷ ls) x ss e (node_parts key ++ (node_parts value ++ ps))) → PairsSay close y qs v
    → PairsSay close x (MorePairs key value qs) t
pair_and_others Fits close x y key value qs front v t next w go others =
    rw (append_assoc (node_parts key) (node_parts value) (pair_parts qs)) at
    (first_and_others Fits close x y CloseMapping (node_parts key ++ node_parts value) (pair_parts qs)
    (λ e. after_node value (after_node key e)) (after_pairs qs) front v t next w
    (λ f k ls ks ss e ps same z r. rw (append_assoc (node_parts key) (node_parts value) ps)
    (go f k ls ks ss e ps same z r)) others)

-- ## Brackets

pub record EntrySays (n : Node) (t : List Kind) : Type 0 where
  pub by : SaysEntry (λ ps. node_parts n ++ ps) (after_node n) t

-- a node, or a pair
pub either_says : (n : Node) (t : List Kind) → YieldsNode n InFlow t ⊎ YieldsPairEntry n t
    → (YieldsNode n InFlow t → NodeSays n InFlow t) → (YieldsPairEntry n t → EntrySays n t) → EntrySays n t
either_says n t u0 g p = grind (arith, entry_says)

same_pair : (a b ps : List Part) (c : Part) → ((a ++ (b ++ [])) ++ c ∷ []) ++ ps ≡ a ++ (b ++ c ∷ ps)
same_pair a b ps c = simp append_assoc

-- the mapping of one pair
pub wrapped_pair : (p : Properties) (key value : Node) (t : List Kind) → p ≡ no_properties
    → YieldsSinglePair key value (YieldsNode key InFlow) (YieldsNode value InFlow) t → EachSays key InFlow
    → EachSays value InFlow → EntrySays (Map p (MorePairs key value NoPair)) t
wrapped_pair p key value t bare h gk gv =
    let one : EntrySays (Map no_properties (MorePairs key value NoPair)) t = record {
      by = λ f k ks machine x ss e ps z a l. subst
          (λ (qs : List Part). SaysParts e (machine (t ++ k ∷ ks)) (OpenMapping no_properties ∷ qs))
          (sym (same_pair (node_parts key) (node_parts value) ps CloseMapping))
          (single.pair_says key value t h gk gv f k ks machine x ss e ps z a l);
    } in
    rw bare one

pub first_entries : (n : Node) (ns : Nodes) (u v t : List Kind) → YieldOtherFlowEntries ns v → t ≡ u ++ v
    → EntrySays n u → OtherEntriesSay ns v → FlowEntriesSay (MoreNodes n ns) t
unfolding event_step flow_sequence_first_entry
first_entries n ns u v t h w first others =
    first_and_others EndsEntry FlowSequenceEnd state.FlowSequenceFirstEntry state.FlowSequenceEntry CloseSequence
    (node_parts n) (entry_parts ns) (after_node n) (after_nodes ns) u v t
    (λ ks. flow_entries_next EndsEntry ns v FlowSequenceEnd ks tt tt h) w
    (λ f k ls ks ss e ps same z r. first.by f k ls (λ l. at f l state.FlowSequenceFirstEntry ss e)
    state.FlowSequenceFirstEntry ss e ps z (record { goes_on = λ l q. cc; steps = λ k l. refl }) r) others

pub other_entries : (n : Node) (ns : Nodes) (u v t : List Kind) → YieldOtherFlowEntries ns v → t ≡ FlowEntry ∷ (u ++ v)
    → EntrySays n u → OtherEntriesSay ns v → OtherEntriesSay (MoreNodes n ns) t
unfolding event_step flow_sequence_first_entry flow_sequence_entry
other_entries n ns u v t h w first others =
    first_and_others EndsEntry FlowSequenceEnd state.FlowSequenceEntry state.FlowSequenceEntry CloseSequence
    (node_parts n) (entry_parts ns) (after_node n) (after_nodes ns) (FlowEntry ∷ u) v t
    (λ ks. flow_entries_next EndsEntry ns v FlowSequenceEnd ks tt tt h) w
    (λ f k ls ks ss e ps same z r. first.by f k ls (λ l. at f (FlowEntry ∷ l) state.FlowSequenceEntry ss e)
    state.FlowSequenceEntry ss e ps z (record { goes_on = λ l q. cc; steps = λ k l. refl }) r) others

-- ## Braces

pub first_pairs : (key value : Node) (qs : Pairs) (u v t : List Kind) → YieldOtherFlowPairs qs v → t ≡ u ++ v
    → YieldsFlowPair key value (YieldsNode key InFlow) (YieldsNode value InFlow) u → EachSays key InFlow
    → EachSays value InFlow → OtherPairsSay qs v → FlowPairsSay (MorePairs key value qs) t
unfolding event_step flow_mapping_first_key span_of_token
first_pairs key value qs u v t h w d gk gv others =
    pair_and_others EndsPair FlowMappingEnd state.FlowMappingFirstKey state.FlowMappingKey key value qs u v t
    (λ ks. flow_pairs_next EndsPair qs v FlowMappingEnd ks refl refl h) w
    (λ f k ls ks ss e ps same z r. flow.pair_says key value u d gk gv f k ls
    (λ l. at f l state.FlowMappingFirstKey ss e) state.FlowMappingFirstKey ss e ps z
    (record { goes_on = λ l q. cc; span = span_of_token f; steps = λ k l. refl }) r) others

pub other_pairs : (key value : Node) (qs : Pairs) (u v t : List Kind) → YieldOtherFlowPairs qs v
    → t ≡ FlowEntry ∷ (u ++ v) → YieldsFlowPair key value (YieldsNode key InFlow) (YieldsNode value InFlow) u
    → EachSays key InFlow → EachSays value InFlow → OtherPairsSay qs v → OtherPairsSay (MorePairs key value qs) t
unfolding event_step flow_mapping_key flow_mapping_pair_behind_comma
other_pairs key value qs u v t h w d gk gv others =
    pair_and_others EndsPair FlowMappingEnd state.FlowMappingKey state.FlowMappingKey key value qs (FlowEntry ∷ u) v t
    (λ ks. flow_pairs_next EndsPair qs v FlowMappingEnd ks refl refl h) w
    (λ f k ls ks ss e ps same z r. flow.pair_says key value u d gk gv f k ls
    (λ l. at f (FlowEntry ∷ l) state.FlowMappingKey ss e) state.FlowMappingKey ss e ps z
    (record { goes_on = λ l q. cc; span = f; steps = λ k l. refl }) r) others

-- ## Block collections

pub block_entries : (n : Node) (ns : Nodes) (u v t : List Kind) → YieldsOptional n (YieldsNode n InBlock) u
    → YieldBlockEntries ns v → t ≡ BlockEntry ∷ (u ++ v) → (YieldsNode n InBlock u → NodeSays n InBlock u)
    → BlockEntriesSay ns v → BlockEntriesSay (MoreNodes n ns) t
block_entries n ns u v t d h w g others =
    first_and_others (EndsAt state.BlockSequenceEntry) BlockEnd state.BlockSequenceEntry state.BlockSequenceEntry
    CloseSequence (node_parts n) (entry_parts ns) (after_node n) (after_nodes ns) (BlockEntry ∷ u) v t
    (λ ks. block_entries_next (EndsAt state.BlockSequenceEntry) ns v BlockEnd ks refl refl h) w
    (λ f k ls ks ss e ps same z r. block.entry_says n u d g f k ls ss e ps z r) others

pub indentless_entries : (n : Node) (ns : Nodes) (u v t : List Kind) → YieldsOptional n (YieldsNode n InBlock) u
    → YieldBlockEntries ns v → t ≡ BlockEntry ∷ (u ++ v) → (YieldsNode n InBlock u → NodeSays n InBlock u)
    → IndentlessSay ns v → IndentlessSay (MoreNodes n ns) t
indentless_entries n ns u v t d h w g others = record {
  by = λ f j js s ss e ps y l. rw (append_assoc (node_parts n) (entry_parts ns) (CloseSequence ∷ ps))
      (entry_emitted (EndsAt state.IndentlessSequenceEntry) f (BlockEntry ∷ u) v t (j ∷ js)
      state.IndentlessSequenceEntry state.IndentlessSequenceEntry (expecting s ss) e (after_node n e) (node_parts n)
      (entry_parts ns ++ CloseSequence ∷ ps)
      (block_entries_next (EndsAt state.IndentlessSequenceEntry) ns v j js refl (mapping_ends j y).2 h) w
      (λ k ls same z r. indentless_says n u d g f k ls (expecting s ss) e (entry_parts ns ++ CloseSequence ∷ ps) z r)
      (others.by f j js s ss (after_node n e) ps y l));
}

pub block_pairs : (key value : Node) (qs : Pairs) (u v t : List Kind)
    → YieldsBlockPair key value (YieldsNode key InBlockMapping) (YieldsNode value InBlockMapping) v u
    → YieldBlockPairs qs v → t ≡ u ++ v → EachSays key InBlockMapping
    → EachSays value InBlockMapping → BlockPairsSay qs v → BlockPairsSay (MorePairs key value qs) t
block_pairs key value qs u v t d h w gk gv others =
    pair_and_others (MayFollow InBlockMapping) BlockEnd state.BlockMappingKey state.BlockMappingKey key value qs u v t
    (λ ks. block_pairs_next qs v ks h) w
    (λ f k ls ks ss e ps same z r. block.pair_says key value v u d gk gv f k ls ss e ps z
    (λ no. rw same at (no_value v ks no)) r) others
