-- The steps inside flow mappings are turned.
use Rattle.event_laws.proofs.Common.{◌≡◌, List, [], ◌∷◌, ◌++◌, refl, ap, ◌∙◌, inl, inr, append_assoc, append-nil, arith, Span, Plain, Node, Pairs, NoPair, MorePairs, Kind, FlowMappingEnd, FlowEntry, Key, Value, Piece, InFlow, BeginsWithValue, YieldsNode, YieldsFlowPair, YieldFlowPairs, YieldOtherFlowPairs, Flow, Part, Leaf, CloseMapping, node_parts, pair_parts, MappingEnd, left_out_event, node_behind, node_here}
use Rattle.saphyr_scanner.specs.Grammar.Forest as forest
use Rattle.saphyr_machine.specs.declared.state.State.TheVariants as state
use Rattle.saphyr_machine.specs.Steps.Flow.{flow_mapping_pair_at, flow_mapping_first_key, flow_mapping_pair_behind_comma, flow_mapping_key_at, flow_mapping_key, flow_mapping_value_at, flow_mapping_value, flow_mapping_empty_value}
use Rattle.event_laws.proofs.Turned.Following.{Claim, Then, Exactly, IsNodeOf, IsOptionalOf, IsSkipped, IsAnyValueOf, FirstPairs, OtherPairs, InMapping}
use Rattle.event_laws.proofs.Turned.Turning.{piece_of, regroup, replace, join_behind, put, both_parts}
use Rattle.event_laws.proofs.Turned.Entries.{WantedIn, Turns, TurnsAt, by_token, passes, leaves_out, enters, behind_turned, here_turned, marked_value, any_value, closes}

-- ## Pairs

abbrev IsPairOf : Claim
IsPairOf ks ps = (key value : Node) × YieldsFlowPair key value (YieldsNode key InFlow) (YieldsNode value InFlow) ks
    × (ps ≡ node_parts key ++ node_parts value)

abbrev AtFirst : Claim → Claim
AtFirst R = Then FirstPairs (Then (Exactly (FlowMappingEnd ∷ []) (CloseMapping ∷ [])) R)

pair_join : (a b : List Kind) (p q : List Part) → IsPairOf a p → OtherPairs b q → FirstPairs (a ++ b) (p ++ q)
pair_join a b p q x y = (
  MorePairs x.0 x.1 y.0,
  (a, b, x.2, y.1, refl),
  both_parts x.3 y.2 ∙ append_assoc (node_parts x.0) (node_parts x.1) (pair_parts y.0),
)

pair_first : (R : Claim) (ks : List Kind) (ps : List Part) → Then IsPairOf (InMapping R) ks ps → AtFirst R ks ps
pair_first u0 ks ps h = grind (arith, regroup, pair_join)

-- a pair with its key marked
marked_join : (a b : List Kind) (p q : List Part) → IsOptionalOf InFlow a p → IsAnyValueOf InFlow b q
    → IsPairOf (Key ∷ (a ++ b)) (p ++ q)
marked_join a b p q x (inl y) = (x.0, y.0, inl (Key ∷ a, b, (a, x.1, refl), y.1, refl), both_parts x.2 y.2)
marked_join a b p q x (inr y) = (
  x.0,
  forest.left_out,
  inr (inl (refl, (a, x.1, cc (append-nil a)))),
  both_parts x.2 y.1,
)

marked_first : (R : Claim) (ks : List Kind) (ps : List Part)
    → Then (IsOptionalOf InFlow) (Then (IsAnyValueOf InFlow) (InMapping R)) ks ps → AtFirst R (Key ∷ ks) ps
marked_first R ks ps h = pair_first R (Key ∷ ks) ps
    (join_behind (IsOptionalOf InFlow) (IsAnyValueOf InFlow) (InMapping R) IsPairOf (Key ∷ []) [] ks ps marked_join h)

-- a key alone
alone_join : (a b : List Kind) (p q : List Part) → IsNodeOf InFlow a p → IsSkipped b q → IsPairOf (a ++ b) (p ++ q)
alone_join a b p q x y =
    let tokens : a ++ b ≡ a = cc (append-nil a) in
    (x.0, forest.left_out, inr (inr (inr (refl, rw tokens x.1))), both_parts x.2 y.1)

no_value : (R : Claim) (ks : List Kind) (ps : List Part) → InMapping R ks ps → BeginsWithValue ks → ⊥
no_value u0 ks ps h = grind arith

keyless : (R : Claim) (front back ks : List Kind) (first second ps : List Part)
    → IsAnyValueOf InFlow front first → InMapping R back second → ks ≡ front ++ back → ps ≡ first ++ second
    → BeginsWithValue ks → Then IsPairOf (InMapping R) ks (Leaf forest.no_properties Plain [] ∷ ps)
keyless R front back ks first second ps (inl v) h e q b = record {
  front = front;
  back = back;
  first = Leaf forest.no_properties Plain [] ∷ first;
  second = second;
  begins = (
    forest.left_out,
    v.0,
    inr (inr (inl (refl, v.1))),
    ap
        (λ (l : List Part). Leaf forest.no_properties Plain [] ∷ l) v.2,
  );
  goes_on = h;
  kinds_are = e;
  parts_are = simp q;
}
keyless R front back ks first second ps (inr v) h e q b =
    absurd (no_value R back second h (rw (e ∙ ap (λ (l : List Kind). l ++ back) v.0) at b))

keyless_first : (R : Claim) (ks : List Kind) (ps : List Part) → Then (IsAnyValueOf InFlow) (InMapping R) ks ps
    → BeginsWithValue ks → AtFirst R ks (Leaf forest.no_properties Plain [] ∷ ps)
keyless_first u0 ks ps h b = grind (arith, pair_first, keyless)

-- after a comma
comma_join : (qs : Pairs) (t : List Kind) → YieldFlowPairs qs t → YieldOtherFlowPairs qs (FlowEntry ∷ t)
comma_join u0 t h = grind arith

behind_comma : (R : Claim) (ks : List Kind) (ps : List Part) → AtFirst R ks ps → InMapping R (FlowEntry ∷ ks) ps
behind_comma R ks ps h =
    replace FirstPairs (Then (Exactly (FlowMappingEnd ∷ []) (CloseMapping ∷ [])) R) OtherPairs (FlowEntry ∷ []) [] ks ps
    (λ u q g. (g.0, comma_join g.0 u g.1, g.2)) h

-- ## Steps

-- after the token of a key
abbrev AtKey : Claim → Claim
AtKey R = Then (IsOptionalOf InFlow) (Then (IsAnyValueOf InFlow) (InMapping R))

pair_at_turned : (span : Piece → Span) → TurnsAt (λ _. AtFirst) (λ k t. flow_mapping_pair_at k (span t) t)
pair_at_turned span Key sp = passes (λ _. AtKey) (λ _. AtFirst) Key (node_here state.FlowMappingValue) tt
    (λ _. marked_first) (here_turned state.FlowMappingValue tt tt) sp
pair_at_turned span Value sp = leaves_out (λ _. AtFirst) state.FlowMappingValue Value tt
    (λ _ R ks ps f b. keyless_first R ks ps f (b tt)) sp sp
pair_at_turned span FlowMappingEnd sp = closes (λ _. AtFirst) FirstPairs FlowMappingEnd MappingEnd CloseMapping
    (λ e. (refl, refl)) refl (λ t span ts k. inr (t, inl k, refl)) (NoPair, refl, refl) (λ _ R ks ps f. f)
    (span (piece_of FlowMappingEnd sp)) sp
pair_at_turned span k sp = enters (λ _. AtFirst) Flow state.FlowMappingEmptyValue k tt tt
    (λ _ R ks ps h. pair_first R ks ps (regroup (IsNodeOf InFlow) IsSkipped (InMapping R) IsPairOf ks ps alone_join h))
    sp

pub first_pair_turned : Turns (λ _. AtFirst) flow_mapping_first_key
unfolding flow_mapping_first_key
first_pair_turned = by_token (λ _. AtFirst) (λ k t. flow_mapping_pair_at k t.span t) (pair_at_turned (λ t. t.span))

behind_comma_turned : (span : Span) → Turns (λ _. AtFirst) (flow_mapping_pair_behind_comma span)
unfolding flow_mapping_pair_behind_comma
behind_comma_turned span = by_token (λ _. AtFirst) (λ k. flow_mapping_pair_at k span) (pair_at_turned (λ _. span))

other_pair_at_turned : TurnsAt (λ _. InMapping) flow_mapping_key_at
other_pair_at_turned FlowMappingEnd sp = closes (λ _. InMapping) OtherPairs FlowMappingEnd MappingEnd CloseMapping
    (λ e. (refl, refl)) refl (λ t span ts k. inr (t, inl k, refl)) (NoPair, inl refl, refl) (λ _ R ks ps f. f) sp sp
other_pair_at_turned FlowEntry sp = passes (λ _. AtFirst) (λ _. InMapping) FlowEntry (flow_mapping_pair_behind_comma sp)
    tt (λ _. behind_comma) (behind_comma_turned sp) sp
other_pair_at_turned _ sp = λ ts r x s ss e w a. tt

pub other_pair_turned : Turns (λ _. InMapping) flow_mapping_key
unfolding flow_mapping_key
other_pair_turned = by_token (λ _. InMapping) flow_mapping_key_at other_pair_at_turned

-- after the token of a value
abbrev AtValue : Claim → Claim
AtValue R = Then (IsOptionalOf InFlow) (InMapping R)

mapping_value_at_turned : TurnsAt (WantedIn state.FlowMappingValue) flow_mapping_value_at
mapping_value_at_turned Value sp = passes (λ _. AtValue) (WantedIn state.FlowMappingValue) Value
    (node_behind state.FlowMappingKey sp) tt
    (λ _ R ks ps h. (any_value InFlow (InMapping R) _ ps (marked_value InFlow (InMapping R) ks ps h), λ b. tt))
    (behind_turned state.FlowMappingKey tt tt sp) sp
mapping_value_at_turned k sp = leaves_out (WantedIn state.FlowMappingValue) state.FlowMappingKey k tt
    (λ _ R ks ps f b. (
      put (IsAnyValueOf InFlow) (InMapping R) [] (node_parts forest.left_out) ks ps (inr (refl, refl)) f,
      λ c. absurd c,
    )) sp sp

pub mapping_value_turned : Turns (WantedIn state.FlowMappingValue) flow_mapping_value
unfolding flow_mapping_value
mapping_value_turned = by_token (WantedIn state.FlowMappingValue) flow_mapping_value_at mapping_value_at_turned

pub empty_value_turned : Turns (λ _ R. Then IsSkipped (InMapping R)) flow_mapping_empty_value
unfolding flow_mapping_empty_value
empty_value_turned = by_token (λ _ R. Then IsSkipped (InMapping R))
    (λ k t. left_out_event t state.FlowMappingKey t.span)
    (λ k sp. leaves_out (λ _ R. Then IsSkipped (InMapping R)) state.FlowMappingKey k tt
    (λ _ R ks ps f b. put IsSkipped (InMapping R) [] (node_parts forest.left_out) ks ps (refl, refl) f) sp sp)
