-- Whatever is open can be closed: a shortest completion of each state, whose events depend on nothing before them, and
-- have its tokens.
use Rattle.event_laws.proofs.Common.{◌≡◌, ◌≢◌, List, [], ◌∷◌, ◌++◌, Some, refl, inl, inr, arith, Span, Plain, NoNode, NoPair, Kind, StreamStart, StreamEnd, BlockEnd, BlockEntry, FlowSequenceEnd, FlowMappingEnd, Value, scalar_token, Piece, InFlow, InBlock, InBlockMapping, State, BelongsToNone, IsOf, HaveTokens, no_span, unplaced_events, unplaced_tokens, Part, OpenStream, CloseStream, CloseDocument, Leaf, CloseSequence, CloseMapping, Happening, empty_scalar}
use Rattle.saphyr_scanner.specs.Grammar.Forest as forest
use Rattle.saphyr_machine.specs.declared.state.State.TheVariants as state
use Rattle.event_laws.proofs.BareParts.{AreBare}
use Rattle.event_laws.specs.EventsTaken as taking
use Rattle.saphyr_machine.specs.Events as events
use Rattle.event_laws.proofs.Emitted.Emitting.{Memory}
use Rattle.event_laws.proofs.Remembering.{after, event_in, events_in}
use Rattle.event_laws.proofs.Turned.Following.{Claim, Then, Exactly, IsNodeOf, IsOptionalOf, IsSkipped, IsAnyValueOf, FirstEntries, OtherEntries, FirstPairs, OtherPairs, BlockEntries, BlockPairs, InSequence, AtPairEnd, AtPairValue, InMapping, InBlockPairs, FollowsStates, IsOutside, IsInsideDocument, IsAlive, Starts}
use Rattle.event_laws.proofs.Turned.Turning.{put}
use Rattle.event_laws.proofs.Turned.Entries.{marked_value, any_value, collection_ends}
use Rattle.event_laws.proofs.Turned.Block.{one_entry}

-- ## Events of parts, whatever was remembered before them

abbrev EmitsAlways : List Part → List Happening → Type 0
EmitsAlways ps es = (e : Memory) → events_in e ps ≡ Some es

behind_part : (p : Part) (ps : List Part) (w : Happening) (es : List Happening)
    → ((e : Memory) → event_in e p ≡ Some w) → EmitsAlways ps es → EmitsAlways (p ∷ ps) (w ∷ es)
behind_part p ps w es h k e = cc (h e, k (after p e))

-- ## Completions

abbrev unplaced : Kind → Piece
unplaced k = record { span = no_span; kind = k }

abbrev Have : List (Happening × Span) → List Piece → Type 0
Have es ts = HaveTokens [] es ts

pub record Completion (s : State) (ss : List State) : Type 0 where
  pub kinds : List Kind
  pub parts : List Part
  pub emitted : List Happening
  pub follows : FollowsStates s ss kinds parts
  pub starts : (ahead : List Kind) → Starts s ahead kinds
  pub bare : AreBare parts
  pub emits : (e : Memory) → events_in e parts ≡ Some emitted
  pub have : HaveTokens [] (unplaced_events emitted) (unplaced_tokens kinds)
  pub some : emitted ≢ []

complete : (s : State) (ss : List State) (kinds : List Kind) (first : Part) (parts : List Part) (what : Happening)
    (emitted : List Happening) → FollowsStates s ss kinds (first ∷ parts)
    → ((ahead : List Kind) → Starts s ahead kinds) → AreBare (first ∷ parts)
    → ((e : Memory) → event_in e first ≡ Some what) → EmitsAlways parts emitted
    → Have (unplaced_events (what ∷ emitted)) (unplaced_tokens kinds)
    → Completion s ss
complete s ss kinds first parts what emitted follows starts bare is others have = record {
  kinds = kinds;
  parts = first ∷ parts;
  emitted = what ∷ emitted;
  follows = follows;
  starts = starts;
  bare = bare;
  emits = behind_part first parts what emitted is others;
  have = have;
  some = λ e. cc;
}

-- an event without a token
alone : (what : Happening) {es : List (Happening × Span)} {ts : List Piece} → IsOf what no_span [] (ts ++ [])
    → Have es ts → Have ((what, no_span) ∷ es) ts
alone what {es} {ts} i h = taking.event what no_span es [] ts i h

-- an event with a token
with_token : (what : Happening) (k : Kind) {es : List (Happening × Span)} {ts : List Piece}
    → IsOf what no_span (unplaced k ∷ []) (ts ++ []) → Have es ts
    → Have ((what, no_span) ∷ es) (unplaced k ∷ ts)
with_token what k {es} {ts} i h = taking.event what no_span es (unplaced k ∷ []) ts i h

passing : (k : Kind) {es : List (Happening × Span)} {ts : List Piece} → BelongsToNone k → Have es ts
    → Have es (unplaced k ∷ ts)
passing k {es} {ts} b h = taking.passed es (unplaced k) ts b h

left_out : {es : List (Happening × Span)} {ts : List Piece} → Have es ts → Have ((empty_scalar, no_span) ∷ es) ts
left_out h = alone empty_scalar (inr (inr (refl, refl, refl, refl, refl))) h

bracket_ended : {es : List (Happening × Span)} {ts : List Piece} → Have es ts
    → Have ((events.SequenceEnd, no_span) ∷ es) (unplaced FlowSequenceEnd ∷ ts)
bracket_ended h = with_token events.SequenceEnd FlowSequenceEnd (inr (_, inl refl, refl)) h

brace_ended : {es : List (Happening × Span)} {ts : List Piece} → Have es ts
    → Have ((events.MappingEnd, no_span) ∷ es) (unplaced FlowMappingEnd ∷ ts)
brace_ended h = with_token events.MappingEnd FlowMappingEnd (inr (_, inl refl, refl)) h

block_mapping_ended : {es : List (Happening × Span)} {ts : List Piece} → Have es ts
    → Have ((events.MappingEnd, no_span) ∷ es) (unplaced BlockEnd ∷ ts)
block_mapping_ended h = with_token events.MappingEnd BlockEnd (inr (_, inr refl, refl)) h

-- a pair in brackets, and these
pair_ended : {es : List (Happening × Span)} {ts : List Piece} → Have es ts
    → Have ((events.MappingEnd, no_span) ∷ (events.SequenceEnd, no_span) ∷ es) (unplaced FlowSequenceEnd ∷ ts)
pair_ended h = alone events.MappingEnd (inl refl) (bracket_ended h)

stream_ends : Have (unplaced_events (events.StreamEnd ∷ [])) (unplaced_tokens (StreamEnd ∷ []))
stream_ends = alone events.StreamEnd refl (passing StreamEnd tt taking.nothing)

outside : (s : State) → IsOutside s → Completion s []
outside state.StreamStart i = complete _ _ (StreamStart ∷ StreamEnd ∷ []) OpenStream (CloseStream ∷ [])
    events.StreamStart (events.StreamEnd ∷ []) ([], ([], StreamEnd ∷ [], tt, refl, refl), refl) (λ ahead. tt)
    (tt, (tt, tt)) (λ e. refl) (λ e. refl) (alone events.StreamStart refl (passing StreamStart tt stream_ends))
outside state.ImplicitDocumentStart i =
    complete _ _ (StreamEnd ∷ []) CloseStream [] events.StreamEnd [] ([], [], StreamEnd ∷ [], tt, refl, refl, refl)
    (λ ahead. tt) (tt, tt) (λ e. refl) (λ e. refl) stream_ends
outside state.DocumentStart i =
    complete _ _ (StreamEnd ∷ []) CloseStream [] events.StreamEnd [] ([], [], StreamEnd ∷ [], tt, refl, refl, refl)
    (λ ahead b. tt) (tt, tt) (λ e. refl) (λ e. refl) stream_ends
outside state.DocumentEnd i = complete _ _ (StreamEnd ∷ []) CloseDocument (CloseStream ∷ []) events.DocumentEnd
    (events.StreamEnd ∷ []) ([], ([], [], StreamEnd ∷ [], tt, inl (refl, refl), refl), refl) (λ ahead. tt)
    (tt, (tt, tt)) (λ e. refl) (λ e. refl) (alone events.DocumentEnd (refl, tt) stream_ends)
outside _ i = elim i [ ]

mapping_closes : (ps : List Part) (es : List Happening) → EmitsAlways ps es
    → EmitsAlways (CloseMapping ∷ ps) (events.MappingEnd ∷ es)
mapping_closes ps es = behind_part CloseMapping ps events.MappingEnd es (λ e. refl)

sequence_closes : (ps : List Part) (es : List Happening) → EmitsAlways ps es
    → EmitsAlways (CloseSequence ∷ ps) (events.SequenceEnd ∷ es)
sequence_closes ps es = behind_part CloseSequence ps events.SequenceEnd es (λ e. refl)

pair_closes : (ps : List Part) (es : List Happening) → EmitsAlways ps es
    → EmitsAlways (CloseMapping ∷ CloseSequence ∷ ps) (events.MappingEnd ∷ events.SequenceEnd ∷ es)
pair_closes ps es h = mapping_closes (CloseSequence ∷ ps) (events.SequenceEnd ∷ es) (sequence_closes ps es h)

abbrev leaf : Part
leaf = Leaf forest.no_properties Plain []

maybe : (R : Claim) (ks : List Kind) (ps : List Part) → R ks ps → Then (IsOptionalOf InFlow) R ks (leaf ∷ ps)
maybe R ks ps r = put (IsOptionalOf InFlow) R [] (leaf ∷ []) ks ps (forest.left_out, inl (refl, refl), refl) r

entries_end : (R : Claim) (ks : List Kind) (ps : List Part) → R ks ps
    → InSequence R (FlowSequenceEnd ∷ ks) (CloseSequence ∷ ps)
entries_end R ks ps r = collection_ends OtherEntries R (FlowSequenceEnd ∷ []) CloseSequence ks ps
    (NoNode, inl refl, refl) r

pairs_end : (R : Claim) (ks : List Kind) (ps : List Part) → R ks ps
    → InMapping R (FlowMappingEnd ∷ ks) (CloseMapping ∷ ps)
pairs_end R ks ps r = collection_ends OtherPairs R (FlowMappingEnd ∷ []) CloseMapping ks ps (NoPair, inl refl, refl) r

block_pairs_end : (R : Claim) (ks : List Kind) (ps : List Part) → R ks ps
    → InBlockPairs R (BlockEnd ∷ ks) (CloseMapping ∷ ps)
block_pairs_end R ks ps r = collection_ends BlockPairs R (BlockEnd ∷ []) CloseMapping ks ps (NoPair, refl, refl) r

pair_ends : (R : Claim) (ks : List Kind) (ps : List Part) → R ks ps
    → AtPairEnd R (FlowSequenceEnd ∷ ks) (CloseMapping ∷ CloseSequence ∷ ps)
pair_ends u0 ks ps r = grind (arith, put, entries_end)

pair_value : (R : Claim) (ks : List Kind) (ps : List Part) → R ks ps
    → AtPairValue R (FlowSequenceEnd ∷ ks) (leaf ∷ CloseMapping ∷ CloseSequence ∷ ps)
pair_value R ks ps r = put (IsAnyValueOf InFlow) (AtPairEnd R) [] (leaf ∷ []) _ _ (inr (refl, refl))
    (pair_ends R ks ps r)

-- A state inside a document is completed by the shortest end of its collection, before the completion of the states
-- outside it. Where the grammar asks for a node first, one is left out. Three states ask that what follows begins with
-- a `-` or a `:` if what was ahead did, so theirs begin with one.
inside : (s other : State) (ss : List State) → IsInsideDocument s → Completion other ss → Completion s (other ∷ ss)
inside state.DocumentContent o ss i c = complete _ _ c.kinds leaf c.parts empty_scalar c.emitted
    (put (IsOptionalOf InBlock) (FollowsStates o ss) [] (leaf ∷ []) c.kinds c.parts
    (forest.left_out, inl (refl, refl), refl) c.follows) (λ ahead. tt) (refl, c.bare)
    (λ e. refl) c.emits
    (left_out c.have)
inside state.BlockNode o ss i c = complete _ _ (scalar_token Plain [] ∷ c.kinds) leaf c.parts empty_scalar c.emitted
    (put (IsNodeOf InBlock) (FollowsStates o ss) (scalar_token Plain [] ∷ []) (leaf ∷ []) c.kinds c.parts
    (forest.left_out, ([], scalar_token Plain [] ∷ [], refl, inl refl, refl), refl) c.follows) (λ ahead. tt)
    (refl, c.bare)
    (λ e. refl) c.emits
    (with_token empty_scalar (scalar_token Plain []) (inl (([], _, inl refl, refl, refl), refl)) c.have)
inside state.BlockSequenceEntry o ss i c = complete _ _ (BlockEnd ∷ c.kinds) CloseSequence c.parts
    events.SequenceEnd c.emitted
    (collection_ends BlockEntries (FollowsStates o ss) (BlockEnd ∷ []) CloseSequence c.kinds c.parts
    (NoNode, refl, refl) c.follows) (λ ahead. tt) (tt, c.bare)
    (λ e. refl) c.emits
    (with_token events.SequenceEnd BlockEnd (inr (_, inr refl, refl)) c.have)
inside state.IndentlessSequenceEntry o ss i c = complete _ _ (BlockEntry ∷ c.kinds) leaf (CloseSequence ∷ c.parts)
    empty_scalar (events.SequenceEnd ∷ c.emitted)
    (one_entry (Then (Exactly [] (CloseSequence ∷ [])) (FollowsStates o ss)) c.kinds (leaf ∷ CloseSequence ∷ c.parts)
    (put (IsOptionalOf InBlock) _ [] (leaf ∷ []) c.kinds (CloseSequence ∷ c.parts)
    (forest.left_out, inl (refl, refl), refl)
    (collection_ends BlockEntries (FollowsStates o ss) [] CloseSequence c.kinds c.parts (NoNode, refl, refl)
    c.follows))) (λ ahead b. tt) (refl, (tt, c.bare))
    (λ e. refl) (sequence_closes c.parts c.emitted c.emits)
    (passing BlockEntry tt (left_out (alone events.SequenceEnd (inl refl) c.have)))
inside state.BlockMappingKey o ss i c =
    complete _ _ (BlockEnd ∷ c.kinds) CloseMapping c.parts events.MappingEnd c.emitted
    (block_pairs_end (FollowsStates o ss) c.kinds c.parts c.follows) (λ ahead b. absurd b) (tt, c.bare)
    (λ e. refl) c.emits
    (block_mapping_ended c.have)
inside state.BlockMappingValue o ss i c = complete _ _ (Value ∷ BlockEnd ∷ c.kinds) leaf (CloseMapping ∷ c.parts)
    empty_scalar (events.MappingEnd ∷ c.emitted) (inl
    (marked_value InBlockMapping (InBlockPairs (FollowsStates o ss)) (BlockEnd ∷ c.kinds)
    (leaf ∷ CloseMapping ∷ c.parts)
    (put (IsOptionalOf InBlockMapping) (InBlockPairs (FollowsStates o ss)) [] (leaf ∷ []) _ _
    (forest.left_out, inl (refl, refl), refl) (block_pairs_end (FollowsStates o ss) c.kinds c.parts c.follows))))
    (λ ahead b. tt) (refl, (tt, c.bare))
    (λ e. refl) (mapping_closes c.parts c.emitted c.emits)
    (passing Value tt (left_out (block_mapping_ended c.have)))
inside state.FlowSequenceFirstEntry o ss i c = complete _ _ (FlowSequenceEnd ∷ c.kinds) CloseSequence c.parts
    events.SequenceEnd c.emitted
    (collection_ends FirstEntries (FollowsStates o ss) (FlowSequenceEnd ∷ []) CloseSequence c.kinds c.parts
    (NoNode, refl, refl) c.follows) (λ ahead. tt) (tt, c.bare)
    (λ e. refl) c.emits
    (bracket_ended c.have)
inside state.FlowSequenceEntry o ss i c = complete _ _ (FlowSequenceEnd ∷ c.kinds) CloseSequence c.parts
    events.SequenceEnd c.emitted
    (entries_end (FollowsStates o ss) c.kinds c.parts c.follows) (λ ahead. tt) (tt, c.bare)
    (λ e. refl) c.emits
    (bracket_ended c.have)
inside state.FlowSequenceEntryMappingKey o ss i c =
    complete _ _ (FlowSequenceEnd ∷ c.kinds) leaf (leaf ∷ CloseMapping ∷ CloseSequence ∷ c.parts)
    empty_scalar (empty_scalar ∷ events.MappingEnd ∷ events.SequenceEnd ∷ c.emitted)
    (maybe (AtPairValue (FollowsStates o ss)) _ _ (pair_value (FollowsStates o ss) c.kinds c.parts c.follows))
    (λ ahead. tt) (refl, (refl, (tt, (tt, c.bare))))
    (λ e. refl) (behind_part leaf (CloseMapping ∷ CloseSequence ∷ c.parts) empty_scalar
    (events.MappingEnd ∷ events.SequenceEnd ∷ c.emitted) (λ e. refl) (pair_closes c.parts c.emitted c.emits))
    (left_out (left_out (pair_ended c.have)))
inside state.FlowSequenceEntryMappingValue o ss i c =
    complete _ _ (FlowSequenceEnd ∷ c.kinds) leaf (CloseMapping ∷ CloseSequence ∷ c.parts)
    empty_scalar (events.MappingEnd ∷ events.SequenceEnd ∷ c.emitted)
    (pair_value (FollowsStates o ss) c.kinds c.parts c.follows) (λ ahead. tt) (refl, (tt, (tt, c.bare)))
    (λ e. refl) (pair_closes c.parts c.emitted c.emits)
    (left_out (pair_ended c.have))
inside state.FlowSequenceEntryMappingEnd o ss i c =
    complete _ _ (FlowSequenceEnd ∷ c.kinds) CloseMapping (CloseSequence ∷ c.parts)
    events.MappingEnd (events.SequenceEnd ∷ c.emitted)
    (pair_ends (FollowsStates o ss) c.kinds c.parts c.follows) (λ ahead. tt) (tt, (tt, c.bare))
    (λ e. refl) (sequence_closes c.parts c.emitted c.emits)
    (pair_ended c.have)
inside state.FlowMappingFirstKey o ss i c = complete _ _ (FlowMappingEnd ∷ c.kinds) CloseMapping c.parts
    events.MappingEnd c.emitted
    (collection_ends FirstPairs (FollowsStates o ss) (FlowMappingEnd ∷ []) CloseMapping c.kinds c.parts
    (NoPair, refl, refl) c.follows) (λ ahead. tt) (tt, c.bare)
    (λ e. refl) c.emits
    (brace_ended c.have)
inside state.FlowMappingKey o ss i c = complete _ _ (FlowMappingEnd ∷ c.kinds) CloseMapping c.parts
    events.MappingEnd c.emitted
    (pairs_end (FollowsStates o ss) c.kinds c.parts c.follows) (λ ahead. tt) (tt, c.bare)
    (λ e. refl) c.emits
    (brace_ended c.have)
inside state.FlowMappingValue o ss i c = complete _ _ (Value ∷ FlowMappingEnd ∷ c.kinds) leaf (CloseMapping ∷ c.parts)
    empty_scalar (events.MappingEnd ∷ c.emitted)
    (any_value InFlow (InMapping (FollowsStates o ss)) _ _
    (marked_value InFlow (InMapping (FollowsStates o ss)) (FlowMappingEnd ∷ c.kinds) (leaf ∷ CloseMapping ∷ c.parts)
    (maybe (InMapping (FollowsStates o ss)) _ _ (pairs_end (FollowsStates o ss) c.kinds c.parts c.follows))))
    (λ ahead b. tt) (refl, (tt, c.bare))
    (λ e. refl) (mapping_closes c.parts c.emitted c.emits)
    (passing Value tt (left_out (brace_ended c.have)))
inside state.FlowMappingEmptyValue o ss i c = complete _ _ (FlowMappingEnd ∷ c.kinds) leaf (CloseMapping ∷ c.parts)
    empty_scalar (events.MappingEnd ∷ c.emitted)
    (put IsSkipped (InMapping (FollowsStates o ss)) [] (leaf ∷ []) _ _ (refl, refl)
    (pairs_end (FollowsStates o ss) c.kinds c.parts c.follows))
    (λ ahead. tt) (refl, (tt, c.bare))
    (λ e. refl) (mapping_closes c.parts c.emitted c.emits)
    (left_out (brace_ended c.have))
inside _ o ss i c = elim i [ ]

pub completed : (ss : List State) (s : State) → IsAlive s ss → Completion s ss
completed [] s a = outside s a
completed (other ∷ ss) s a = inside s other ss a.0 (completed ss other a.1)
