-- The steps inside flow sequences are turned.
use Rattle.event_laws.proofs.OwnTokens.{whole}
use Rattle.event_laws.proofs.Common.{◌≡◌, List, [], ◌∷◌, ◌++◌, refl, ap, ◌∙◌, ◌⊎◌, inl, inr, append-nil, arith, Marker, Node, Map, Nodes, NoNode, MoreNodes, NoPair, MorePairs, Kind, FlowSequenceEnd, FlowEntry, Key, Value, InFlow, YieldsNode, YieldsPairEntry, YieldsSinglePair, YieldFlowEntries, YieldOtherFlowEntries, Flow, Part, CloseSequence, OpenMapping, CloseMapping, node_parts, SequenceEnd, is_left_out, node_or_nothing_at}
use Rattle.saphyr_scanner.specs.Grammar.Forest as forest
use Rattle.saphyr_machine.specs.declared.state.State.TheVariants as state
use Rattle.saphyr_machine.specs.Steps.Machine.{with_pair_end}
use Rattle.saphyr_machine.specs.Steps.Flow.{flow_sequence_first_entry_at, flow_sequence_first_entry, flow_sequence_entry_at, flow_sequence_entry, flow_sequence_entry_mapping_key, flow_sequence_entry_mapping_node, flow_sequence_entry_mapping_value_at, flow_sequence_entry_mapping_value, pair_ended_at, pair_ended_from, flow_sequence_entry_mapping_end}
use Rattle.event_laws.proofs.Turned.Following.{Claim, Then, Exactly, IsNodeOf, IsOptionalOf, IsAnyValueOf, FirstEntries, OtherEntries, InSequence, AtPairEnd, AtPairValue, FollowsStates}
use Rattle.event_laws.proofs.Turned.Turning.{Aside, piece_of, machine, Turned, regroup, replace, join_behind, put, both_parts}
use Rattle.event_laws.proofs.Turned.Entries.{Turns, TurnsAt, by_token, passes, leaves_out, optional_turned, here_turned, enters, marked_value, any_value, closes}

-- ## Entries

abbrev IsEntryOf : Claim
IsEntryOf ks ps = (n : Node) × (YieldsNode n InFlow ks ⊎ YieldsPairEntry n ks) × (ps ≡ node_parts n)

abbrev AtFirst : Claim → Claim
AtFirst R = Then FirstEntries (Then (Exactly (FlowSequenceEnd ∷ []) (CloseSequence ∷ [])) R)

entry_join : (a b : List Kind) (p q : List Part) → IsEntryOf a p → OtherEntries b q → FirstEntries (a ++ b) (p ++ q)
entry_join a b p q x y = (MoreNodes x.0 y.0, (a, b, x.1, y.1, refl), both_parts x.2 y.2)

entry_first : (R : Claim) (ks : List Kind) (ps : List Part) → Then IsEntryOf (InSequence R) ks ps → AtFirst R ks ps
entry_first u0 ks ps h = grind (arith, regroup, entry_join)

node_first : (R : Claim) (ks : List Kind) (ps : List Part)
    → Then (IsNodeOf InFlow) (InSequence R) ks ps → AtFirst R ks ps
node_first u0 ks ps h = grind (arith, entry_first, replace)

comma_join : (ns : Nodes) (t : List Kind) → YieldFlowEntries ns t → YieldOtherFlowEntries ns (FlowEntry ∷ t)
comma_join u0 t h = grind arith

behind_comma : (R : Claim) (ks : List Kind) (ps : List Part) → AtFirst R ks ps → InSequence R (FlowEntry ∷ ks) ps
behind_comma R ks ps h =
    replace FirstEntries (Then (Exactly (FlowSequenceEnd ∷ []) (CloseSequence ∷ [])) R) OtherEntries (FlowEntry ∷ []) []
    ks ps (λ u q g. (g.0, comma_join g.0 u g.1, g.2)) h

-- ## Pairs

abbrev IsPairInside : Claim
IsPairInside ks ps = (key value : Node)
    × YieldsSinglePair key value (YieldsNode key InFlow) (YieldsNode value InFlow) (Key ∷ ks)
    × (ps ≡ node_parts key ++ node_parts value)

pair_join : (a b : List Kind) (p q : List Part) → IsOptionalOf InFlow a p → IsAnyValueOf InFlow b q
    → IsPairInside (a ++ b) (p ++ q)
pair_join a b p q x (inl y) = (x.0, y.0, inl (Key ∷ a, b, (a, x.1, refl), y.1, refl), both_parts x.2 y.2)
pair_join a b p q x (inr y) = (
  x.0,
  forest.left_out,
  inr (refl, (a, x.1, cc (append-nil a))),
  both_parts x.2 y.1,
)

single_parts : (key value : Node) (p : List Part) → p ≡ node_parts key ++ node_parts value
    → (let l : List Part = OpenMapping forest.no_properties ∷ (p ++ CloseMapping ∷ []) in l)
    ≡ node_parts (Map forest.no_properties (MorePairs key value NoPair))
single_parts key value p e = cc (append-nil (node_parts value))

single_join : (a b : List Kind) (p q : List Part) → IsPairInside a p → Exactly [] (CloseMapping ∷ []) b q
    → IsEntryOf (Key ∷ (a ++ b)) (OpenMapping forest.no_properties ∷ (p ++ q))
single_join a b p q x y =
    let tokens : a ++ b ≡ a = cc (append-nil a) in (
      Map forest.no_properties (MorePairs x.0 x.1 NoPair),
      inr (refl, rw tokens x.2),
      ap
          (λ (l : List Part). OpenMapping forest.no_properties ∷ (p ++ l)) y.1 ∙ single_parts x.0 x.1 p x.3,
    )

pair_first : (R : Claim) (ks : List Kind) (ps : List Part)
    → Then (IsOptionalOf InFlow) (AtPairValue R) ks ps → AtFirst R (Key ∷ ks) (OpenMapping forest.no_properties ∷ ps)
pair_first R ks ps h = entry_first R (Key ∷ ks) (OpenMapping forest.no_properties ∷ ps)
    (join_behind IsPairInside (Exactly [] (CloseMapping ∷ [])) (InSequence R) IsEntryOf (Key ∷ [])
    (OpenMapping forest.no_properties ∷ []) ks ps single_join
    (regroup (IsOptionalOf InFlow) (IsAnyValueOf InFlow) (AtPairEnd R) IsPairInside ks ps pair_join h))

-- ## Steps

first_entry_at_turned : TurnsAt (λ _. AtFirst) flow_sequence_first_entry_at
first_entry_at_turned FlowSequenceEnd sp = closes (λ _. AtFirst) FirstEntries FlowSequenceEnd SequenceEnd CloseSequence
    (λ e. (refl, refl)) refl (λ t span ts k. inr (t, inl k, refl)) (NoNode, refl, refl) (λ _ R ks ps f. f) sp sp
first_entry_at_turned Key sp = λ ts r x s ss e w a. record {
  used = piece_of Key sp ∷ [];
  part = OpenMapping forest.no_properties;
  taken = refl;
  emits = refl;
  remembers = refl;
  few = omega arith;
  places = whole (piece_of Key sp ∷ []) _ _
      (inr (inr (record { span = sp; kind = Key }, refl, refl)), refl);
  alive = (tt, a);
  makes = λ ks ps f b. pair_first (FollowsStates s ss) ks ps f;
}
first_entry_at_turned k sp = enters (λ _. AtFirst) Flow state.FlowSequenceEntry k tt tt (λ _. node_first) sp

pub first_entry_turned : Turns (λ _. AtFirst) flow_sequence_first_entry
unfolding flow_sequence_first_entry
first_entry_turned = by_token (λ _. AtFirst) flow_sequence_first_entry_at first_entry_at_turned

other_entry_at_turned : TurnsAt (λ _. InSequence) flow_sequence_entry_at
other_entry_at_turned FlowSequenceEnd sp = closes (λ _. InSequence) OtherEntries FlowSequenceEnd SequenceEnd
    CloseSequence (λ e. (refl, refl)) refl (λ t span ts k. inr (t, inl k, refl)) (NoNode, inl refl, refl)
    (λ _ R ks ps f. f) sp sp
other_entry_at_turned FlowEntry sp = passes (λ _. AtFirst) (λ _. InSequence) FlowEntry flow_sequence_first_entry tt
    (λ _. behind_comma) first_entry_turned sp
other_entry_at_turned _ sp = λ ts r x s ss e w a. tt

pub other_entry_turned : Turns (λ _. InSequence) flow_sequence_entry
unfolding flow_sequence_entry
other_entry_turned = by_token (λ _. InSequence) flow_sequence_entry_at other_entry_at_turned

-- a key, which may be left out
abbrev AtKey : Claim → Claim
AtKey R = Then (IsOptionalOf InFlow) (AtPairValue R)

pub pair_key_turned : Turns (λ _. AtKey) flow_sequence_entry_mapping_key
unfolding flow_sequence_entry_mapping_key
pair_key_turned = here_turned state.FlowSequenceEntryMappingValue tt tt

-- a value after its mark
abbrev AtValue : Claim → Claim
AtValue R = Then (IsOptionalOf InFlow) (AtPairEnd R)

abbrev ending : Marker → Aside → Aside
ending place r = record r { pair_ends = place ∷ r.pair_ends }

value_turned : Turns (λ _. AtValue) flow_sequence_entry_mapping_node
unfolding flow_sequence_entry_mapping_node
value_turned = by_token (λ _. AtValue)
    (λ k t m. node_or_nothing_at (is_left_out state.FlowSequenceEntryMappingEnd k) state.FlowSequenceEntryMappingEnd
    t.span t (with_pair_end t.span.end m))
    (λ k sp ts r. optional_turned (is_left_out state.FlowSequenceEntryMappingEnd k) state.FlowSequenceEntryMappingEnd k
    tt tt sp sp ts (ending sp.end r))

pair_value_at_turned : TurnsAt (λ _. AtPairValue) flow_sequence_entry_mapping_value_at
pair_value_at_turned Value sp ts r = passes (λ _. AtValue) (λ _. AtPairValue) Value flow_sequence_entry_mapping_node tt
    (λ _ R ks ps h. any_value InFlow (AtPairEnd R) _ ps (marked_value InFlow (AtPairEnd R) ks ps h)) value_turned sp
    ts r
pair_value_at_turned k sp ts r = leaves_out (λ _. AtPairValue) state.FlowSequenceEntryMappingEnd k tt
    (λ _ R ks ps f b. put (IsAnyValueOf InFlow) (AtPairEnd R) [] (node_parts forest.left_out) ks ps
    (inr (refl, refl)) f) sp sp ts (ending sp.end r)

pub pair_value_turned : Turns (λ _. AtPairValue) flow_sequence_entry_mapping_value
unfolding flow_sequence_entry_mapping_value
pair_value_turned = by_token (λ _. AtPairValue) flow_sequence_entry_mapping_value_at pair_value_at_turned

pair_ends_at : (place : Marker) (others : List Marker) → Turns (λ _. AtPairEnd) (pair_ended_at place others)
pair_ends_at place others ts r x s ss e w a = record {
  used = [];
  part = CloseMapping;
  taken = refl;
  emits = refl;
  remembers = refl;
  few = omega arith;
  places = whole [] _ _ (inl refl);
  alive = (tt, a);
  makes = λ ks ps f b. put (Exactly [] (CloseMapping ∷ [])) (InSequence (FollowsStates s ss)) [] (CloseMapping ∷ []) ks
      ps (refl, refl) f;
}

pub pair_end_turned : Turns (λ _. AtPairEnd) flow_sequence_entry_mapping_end
unfolding flow_sequence_entry_mapping_end
pair_end_turned ts r x s ss e w a = by r.pair_ends
  where
    by : (ps : List Marker)
        → Turned (AtPairEnd (FollowsStates s ss)) e ts (pair_ended_from ps (machine ts r x (s ∷ ss) e))
    by [] = pair_ends_at _ [] ts r x s ss e w a
    by (place ∷ others) = pair_ends_at place others ts r x s ss e w a
