-- Collections are told, where their entries are.
use Rattle.event_laws.proofs.Common.{◌≡◌, ℕ, Option, List, [], ◌∷◌, ◌++◌, refl, ap, ◌∙◌, inl, inr, append_assoc, arith, Node, Nodes, NoNode, MoreNodes, Pairs, NoPair, MorePairs, Kind, BlockSequenceStart, BlockMappingStart, BlockEnd, FlowSequenceStart, FlowSequenceEnd, FlowMappingStart, FlowMappingEnd, BlockEntry, FlowEntry, InFlow, InBlock, InBlockMapping, BeginsWithValue, YieldsNode, YieldFlowEntries, YieldOtherFlowEntries, YieldFlowPairs, YieldOtherFlowPairs, YieldBlockEntries, YieldBlockPairs, State, Part, OpenSequence, CloseSequence, OpenMapping, CloseMapping, entry_parts, pair_parts, Happening, ResolvedTag, SequenceStart, MappingStart, emit, NodeProperties, span_up_to, node_content_at, node_parts, sym, subst}
use Rattle.saphyr_scanner.specs.Grammar.Forest as forest
use Rattle.saphyr_scanner.specs.Grammar.TokenGrammar as grammar
use Rattle.saphyr_machine.specs.declared.state.State.TheVariants as state
use Rattle.event_laws.proofs.Emitted.Emitting.{SpansByKinds, Memory, Outer, expecting, at}
use Rattle.event_laws.proofs.Remembering.{noted, after, after_nodes, after_pairs, with_properties, event_in, SaysParts, EmitsParts, after_node}
use Rattle.event_laws.proofs.Emitted.Nodes.{node_opens, IsContentKind}
use Rattle.event_laws.proofs.NodeStarts.{context_of, Next, MayFollow, NodeSays}

-- ## What a collection's entries are to tell

-- In the state `x` the tokens, and `close` after them, tell the parts `inside`, and `closing` after them. What is
-- remembered changes by `after`.
pub record SayUpTo (close : Kind) (x : State) (closing : Part) (inside : List Part) (after : Memory → Memory)
    (t : List Kind) : Type 0 where
  pub by : (f : SpansByKinds) (ks : List Kind) (s : State) (ss : Outer) (e : Memory) (ps : List Part)
      → EmitsParts f ks s ss (after e) ps → EmitsParts f (t ++ close ∷ ks) x (expecting s ss) e (inside ++ closing ∷ ps)

abbrev pub EntriesSay : Kind → State → Nodes → List Kind → Type 0
EntriesSay close x ns = SayUpTo close x CloseSequence (entry_parts ns) (after_nodes ns)

abbrev pub PairsSay : Kind → State → Pairs → List Kind → Type 0
PairsSay close x qs = SayUpTo close x CloseMapping (pair_parts qs) (after_pairs qs)

abbrev pub FlowEntriesSay : Nodes → List Kind → Type 0
FlowEntriesSay = EntriesSay FlowSequenceEnd state.FlowSequenceFirstEntry

abbrev pub FlowPairsSay : Pairs → List Kind → Type 0
FlowPairsSay = PairsSay FlowMappingEnd state.FlowMappingFirstKey

abbrev pub OtherEntriesSay : Nodes → List Kind → Type 0
OtherEntriesSay = EntriesSay FlowSequenceEnd state.FlowSequenceEntry

abbrev pub OtherPairsSay : Pairs → List Kind → Type 0
OtherPairsSay = PairsSay FlowMappingEnd state.FlowMappingKey

abbrev pub BlockEntriesSay : Nodes → List Kind → Type 0
BlockEntriesSay = EntriesSay BlockEnd state.BlockSequenceEntry

abbrev pub BlockPairsSay : Pairs → List Kind → Type 0
BlockPairsSay = PairsSay BlockEnd state.BlockMappingKey

pub record IndentlessSay (ns : Nodes) (t : List Kind) : Type 0 where
  pub by : (f : SpansByKinds) (k : Kind) (ks : List Kind) (s : State) (ss : Outer) (e : Memory) (ps : List Part)
      → MayFollow InBlockMapping k → EmitsParts f (k ∷ ks) s ss (after_nodes ns e) ps
      → EmitsParts f (t ++ k ∷ ks) state.IndentlessSequenceEntry (expecting s ss) e
      (entry_parts ns ++ CloseSequence ∷ ps)

-- ## Collections

-- tokens of a collection between two tokens
between : (front inside t : List Kind) (opening closing : Kind) (rest : List Kind)
    → t ≡ front ++ opening ∷ (inside ++ closing ∷ []) → t ++ rest ≡ front ++ opening ∷ (inside ++ closing ∷ rest)
between front inside t opening closing rest a = grind (arith, append_assoc)

-- A collection between two tokens is told, after its properties, where what is inside is.
opens : {close : Kind} {y : State} {closing : Part} {inside : List Part} {later : Memory → Memory} {u : List Kind}
    (n : Node) (c : grammar.Context) (opening : Kind) (first : Part) (make : ℕ → Option ResolvedTag → Happening)
    (p : forest.Properties) (front t : List Kind) → node_parts n ≡ first ∷ (inside ++ closing ∷ [])
    → ((e : Memory) → after_node n e ≡ later (noted p.anchor e)) → grammar.YieldProperties p front
    → IsContentKind opening → t ≡ front ++ opening ∷ (u ++ close ∷ [])
    → ((e : Memory) → (event_in e first ≡ with_properties make e p) × (noted p.anchor e ≡ after first e))
    → ((f : SpansByKinds) (x s : State) (ss : Outer) (e : Memory) (q : NodeProperties) (l : List Kind)
    → node_content_at opening q (context_of c) (record { span = f l; kind = opening }) (at f l x (expecting s ss) e)
    ≡ emit (make q.anchor q.tag) (span_up_to q (f l).end) (at f l y (expecting s ss) e))
    → SayUpTo close y closing inside later u → NodeSays n c t
opens {close} {y} {closing} {inside} {later} {u} n c opening first make p front t parts remembers h is w same step g =
    record {
      by = λ f k ks m x s ss e ps z more q l.
          let rest : List Kind = k ∷ ks in
          let all : List Kind = u ++ close ∷ rest in
          let last = subst (λ (v : Memory). EmitsParts f rest s ss v ps) (remembers e) l in
          let emitted : EmitsParts f all y (expecting s ss) (noted p.anchor e) ((inside ++ closing ∷ []) ++ ps) =
          rw (append_assoc inside (closing ∷ []) ps) (g.by f rest s ss (noted p.anchor e) ps last) in
          subst (λ (v : List Part). SaysParts e m (v ++ ps)) (sym parts)
          (node_opens f (context_of c) x (expecting s ss) e m (at f all y (expecting s ss) (noted p.anchor e)) p front
          opening all first ((inside ++ closing ∷ []) ++ ps) make (h, is)
          (more, cc (between front u t opening close rest w)) (same e).0
          (λ r has. (span_up_to r (f all).end, step f x s ss (noted p.anchor e) r all)) (rw (← (same e).1) emitted));
    }

block_sequence : (p : forest.Properties) (ns : Nodes) (c : grammar.Context) (front content t : List Kind)
    → grammar.YieldProperties p front → grammar.AllowsBlock c
    → grammar.IsBetween BlockSequenceStart BlockEnd (YieldBlockEntries ns) content → t ≡ front ++ content
    → ((u : List Kind) → YieldBlockEntries ns u → BlockEntriesSay ns u) → NodeSays (forest.Seq p ns) c t
block_sequence p ns InFlow front content t h b d a g = elim b [ ]
block_sequence p ns c front content t h b d a g =
    opens (forest.Seq p ns) c BlockSequenceStart (OpenSequence p) SequenceStart p front t refl (λ e. refl) h tt
    (a ∙ ap (λ l. front ++ l) d.2) (λ e. (refl, refl)) (λ f x s ss e q l. refl) (g d.0 d.1)

block_mapping : (p : forest.Properties) (qs : Pairs) (c : grammar.Context) (front content t : List Kind)
    → grammar.YieldProperties p front → grammar.AllowsBlock c
    → grammar.IsBetween BlockMappingStart BlockEnd (YieldBlockPairs qs) content → t ≡ front ++ content
    → ((u : List Kind) → YieldBlockPairs qs u → BlockPairsSay qs u) → NodeSays (forest.Map p qs) c t
block_mapping p qs InFlow front content t h b d a g = elim b [ ]
block_mapping p qs c front content t h b d a g =
    opens (forest.Map p qs) c BlockMappingStart (OpenMapping p) MappingStart p front t refl (λ e. refl) h tt
    (a ∙ ap (λ l. front ++ l) d.2) (λ e. (refl, refl)) (λ f x s ss e q l. refl) (g d.0 d.1)

-- a sequence at the column of its mapping begins with its first entry's token, which is left before the machine
indentless_sequence : (p : forest.Properties) (ns : Nodes) (c : grammar.Context) (front content others t : List Kind)
    → grammar.YieldProperties p front → grammar.IsInBlockMapping c → content ≡ BlockEntry ∷ others
    → t ≡ front ++ content → IndentlessSay ns content → NodeSays (forest.Seq p ns) c t
indentless_sequence p ns InFlow front content others t h b d a g = elim b [ ]
indentless_sequence p ns InBlock front content others t h b d a g = elim b [ ]
indentless_sequence p ns InBlockMapping front content others t h b d a g = record {
  by = λ f k ks m x s ss e ps z more q l.
      let rest : List Kind = others ++ k ∷ ks in
      let same : t ++ k ∷ ks ≡ front ++ BlockEntry ∷ rest = rw (a, d)
      (append_assoc front (BlockEntry ∷ others) (k ∷ ks)) in
      let emitted : EmitsParts f (BlockEntry ∷ rest) state.IndentlessSequenceEntry (expecting s ss) (noted p.anchor e)
      (entry_parts ns ++ CloseSequence ∷ ps) = rw d at (g.by f k ks s ss (noted p.anchor e) ps z l) in
      let inside : EmitsParts f (BlockEntry ∷ rest) state.IndentlessSequenceEntry (expecting s ss) (noted p.anchor e)
      ((entry_parts ns ++ CloseSequence ∷ []) ++ ps) =
      rw (append_assoc (entry_parts ns) (CloseSequence ∷ []) ps) emitted in
      node_opens f (context_of InBlockMapping) x (expecting s ss) e m
      (at f (BlockEntry ∷ rest) state.IndentlessSequenceEntry (expecting s ss) (noted p.anchor e)) p front BlockEntry
      rest (OpenSequence p) ((entry_parts ns ++ CloseSequence ∷ []) ++ ps) SequenceStart (h, tt) (more, cc) refl
      (λ r has. (span_up_to r (f rest).end, refl)) inside;
}

first_dash : (ns : Nodes) (content : List Kind) → grammar.HasNode ns → YieldBlockEntries ns content
    → (others : List Kind) × (content ≡ BlockEntry ∷ others)
first_dash NoNode content h d = elim h [ ]
first_dash (MoreNodes n ns) content h d = (d.0 ++ d.1, d.4)

pub sequence_says : (p : forest.Properties) (ns : Nodes) (c : grammar.Context) (t : List Kind)
    → YieldsNode (forest.Seq p ns) c t → ((u : List Kind) → YieldFlowEntries ns u → FlowEntriesSay ns u)
    → ((u : List Kind) → YieldBlockEntries ns u → BlockEntriesSay ns u)
    → ((u : List Kind) → YieldBlockEntries ns u → IndentlessSay ns u) → NodeSays (forest.Seq p ns) c t
sequence_says p ns c t h flow block indentless = by_content h.3
  where
    by_content : grammar.YieldsSequence ns c (YieldFlowEntries ns) (YieldBlockEntries ns) h.1
        → NodeSays (forest.Seq p ns) c t
    by_content (inl d) =
        opens (forest.Seq p ns) c FlowSequenceStart (OpenSequence p) SequenceStart p h.0 t refl (λ e. refl) h.2 tt
        (h.4 ∙ ap (λ l. h.0 ++ l) d.2) (λ e. (refl, refl)) (λ f x s ss e q l. refl) (flow d.0 d.1)
    by_content (inr (inl d)) = block_sequence p ns c h.0 h.1 t h.2 d.0 d.1 h.4 block
    by_content (inr (inr d)) =
        let first : (others : List Kind) × (h.1 ≡ BlockEntry ∷ others) = first_dash ns h.1 d.1 d.2 in
        indentless_sequence p ns c h.0 h.1 first.0 t h.2 d.0 first.1 h.4 (indentless h.1 d.2)

pub mapping_says : (p : forest.Properties) (qs : Pairs) (c : grammar.Context) (t : List Kind)
    → YieldsNode (forest.Map p qs) c t → ((u : List Kind) → YieldFlowPairs qs u → FlowPairsSay qs u)
    → ((u : List Kind) → YieldBlockPairs qs u → BlockPairsSay qs u) → NodeSays (forest.Map p qs) c t
mapping_says p qs c t h flow block = by_content h.3
  where
    by_content : grammar.YieldsMapping c (YieldFlowPairs qs) (YieldBlockPairs qs) h.1 → NodeSays (forest.Map p qs) c t
    by_content (inl d) =
        opens (forest.Map p qs) c FlowMappingStart (OpenMapping p) MappingStart p h.0 t refl (λ e. refl) h.2 tt
        (h.4 ∙ ap (λ l. h.0 ++ l) d.2) (λ e. (refl, refl)) (λ f x s ss e q l. refl) (flow d.0 d.1)
    by_content (inr d) = block_mapping p qs c h.0 h.1 t h.2 d.0 d.1 h.4 block

-- ## Ends

-- the token after an entry
next_is : (Fits : Kind → Type 0) (t : List Kind) (k : Kind) (ks rest : List Kind) → t ≡ k ∷ ks → Fits k
    → Next Fits (t ++ rest)
next_is Fits t k ks rest e h = record { first = k; others = ks ++ rest; is = ap (λ l. l ++ rest) e; fits = h }

end_is : (Fits : Kind → Type 0) (t : List Kind) (k : Kind) (ks : List Kind) → t ≡ [] → Fits k → Next Fits (t ++ k ∷ ks)
end_is Fits t k ks e h = record { first = k; others = ks; is = ap (λ l. l ++ k ∷ ks) e; fits = h }

pub flow_entries_next : (Fits : Kind → Type 0) (ns : Nodes) (t : List Kind) (close : Kind) (ks : List Kind)
    → Fits FlowEntry → Fits close → YieldOtherFlowEntries ns t → Next Fits (t ++ close ∷ ks)
flow_entries_next u0 u1 t close ks a b h = grind arith

pub flow_pairs_next : (Fits : Kind → Type 0) (qs : Pairs) (t : List Kind) (close : Kind) (ks : List Kind)
    → Fits FlowEntry → Fits close → YieldOtherFlowPairs qs t → Next Fits (t ++ close ∷ ks)
flow_pairs_next u0 u1 t close ks a b h = grind arith

pub block_entries_next : (Fits : Kind → Type 0) (ns : Nodes) (t : List Kind) (close : Kind) (ks : List Kind)
    → Fits BlockEntry → Fits close → YieldBlockEntries ns t → Next Fits (t ++ close ∷ ks)
block_entries_next Fits NoNode t close ks a b h = end_is Fits t close ks h b
block_entries_next Fits (MoreNodes n ns) t close ks a b h = next_is Fits t BlockEntry _ (close ∷ ks) h.4 a

-- the first token of an entry of a block mapping
pair_next : (key value : Node) (K V : List Kind → Type 0) (others t : List Kind)
    → grammar.YieldsBlockPair key value K V others t → Next (MayFollow InBlockMapping) t
pair_next key value u0 u1 others t u2 = grind arith

pub block_pairs_next : (qs : Pairs) (t : List Kind) (ks : List Kind) → YieldBlockPairs qs t
    → Next (MayFollow InBlockMapping) (t ++ BlockEnd ∷ ks)
block_pairs_next NoPair t ks h = end_is (MayFollow InBlockMapping) t BlockEnd ks h tt
block_pairs_next (MorePairs key value qs) t ks h =
    let n = pair_next key value (YieldsNode key InBlockMapping) (YieldsNode value InBlockMapping) h.1 h.0 h.2 in
    next_is (MayFollow InBlockMapping) t n.first (n.others ++ h.1) (BlockEnd ∷ ks) (h.4 ∙ ap (λ l. l ++ h.1) n.is)
    n.fits

pub no_value : (t ks : List Kind) → ¬ (BeginsWithValue t) → ¬ (BeginsWithValue (t ++ BlockEnd ∷ ks))
no_value u0 ks n h = grind arith
