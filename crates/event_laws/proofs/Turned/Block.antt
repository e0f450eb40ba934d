-- The steps inside block collections are turned.
use Rattle.event_laws.proofs.OwnTokens.{whole}
use Rattle.event_laws.proofs.Common.{◌≡◌, List, [], ◌∷◌, ◌++◌, refl, ◌∙◌, inl, inr, append_assoc, arith, Plain, Node, NoNode, MoreNodes, NoPair, MorePairs, Kind, BlockEnd, BlockEntry, Key, Value, InBlock, InBlockMapping, BeginsWithValue, YieldsNode, YieldsMarkedPair, Part, Leaf, CloseSequence, CloseMapping, node_parts, pair_parts, SequenceEnd, MappingEnd, node_behind, node_here}
use Rattle.saphyr_scanner.specs.Grammar.Forest as forest
use Rattle.saphyr_machine.specs.declared.state.State.TheVariants as state
use Rattle.saphyr_machine.specs.Steps.Block.{block_sequence_entry_at, block_sequence_entry, indentless_sequence_entry_at, indentless_sequence_entry, block_mapping_key_at, block_mapping_key, block_mapping_value_at, block_mapping_value}
use Rattle.event_laws.proofs.Turned.Following.{Claim, Then, Exactly, IsOptionalOf, IsSkipped, IsValueOf, BlockEntries, BlockPairs, InBlockPairs, AtBlockValue, FollowsStates}
use Rattle.event_laws.proofs.Turned.Turning.{regroup, join_behind, put, both_parts}
use Rattle.event_laws.proofs.Turned.Entries.{WantedIn, Turns, TurnsAt, by_token, passes, leaves_out, behind_turned, here_turned, marked_value, collection_ends, closes}

-- ## Entries of sequences

abbrev InEntries : Claim → Claim
InEntries R = Then BlockEntries (Then (Exactly (BlockEnd ∷ []) (CloseSequence ∷ [])) R)

abbrev InIndentless : Claim → Claim
InIndentless R = Then BlockEntries (Then (Exactly [] (CloseSequence ∷ [])) R)

pub one_entry : (T : Claim) (ks : List Kind) (ps : List Part)
    → Then (IsOptionalOf InBlock) (Then BlockEntries T) ks ps → Then BlockEntries T (BlockEntry ∷ ks) ps
one_entry T ks ps h =
    join_behind (IsOptionalOf InBlock) BlockEntries T BlockEntries (BlockEntry ∷ []) [] ks ps
    (λ a b p q x y. (MoreNodes x.0 y.0, (a, b, x.1, y.1, refl), both_parts x.2 y.2)) h

-- after the token of an entry
abbrev AtNode : Claim → Claim
AtNode R = Then (IsOptionalOf InBlock) (InEntries R)

sequence_entry_at_turned : TurnsAt (λ _. InEntries) block_sequence_entry_at
sequence_entry_at_turned BlockEnd sp = closes (λ _. InEntries) BlockEntries BlockEnd SequenceEnd CloseSequence
    (λ e. (refl, refl)) refl (λ t span ts k. inr (t, inr k, refl)) (NoNode, refl, refl) (λ _ R ks ps f. f) sp sp
sequence_entry_at_turned BlockEntry sp = passes (λ _. AtNode) (λ _. InEntries) BlockEntry
    (node_behind state.BlockSequenceEntry sp)
    tt (λ _ R. one_entry (Then (Exactly (BlockEnd ∷ []) (CloseSequence ∷ [])) R))
    (behind_turned state.BlockSequenceEntry tt tt sp) sp
sequence_entry_at_turned _ sp = λ ts r x s ss e w a. tt

pub sequence_entry_turned : Turns (λ _. InEntries) block_sequence_entry
unfolding block_sequence_entry
sequence_entry_turned = by_token (λ _. InEntries) block_sequence_entry_at sequence_entry_at_turned

-- ## The same at the column of the mapping around them

abbrev AtIndentless : Claim → Claim
AtIndentless R = Then (IsOptionalOf InBlock) (InIndentless R)

indentless_entry_at_turned : TurnsAt (WantedIn state.IndentlessSequenceEntry) indentless_sequence_entry_at
indentless_entry_at_turned BlockEntry sp = passes (λ _. AtIndentless) (WantedIn state.IndentlessSequenceEntry)
    BlockEntry (node_behind state.IndentlessSequenceEntry sp) tt
    (λ _ R ks ps h. (one_entry (Then (Exactly [] (CloseSequence ∷ [])) R) ks ps h, λ b. tt))
    (behind_turned state.IndentlessSequenceEntry tt tt sp) sp
indentless_entry_at_turned k sp = λ ts r x s ss e w a. record {
  used = [];
  part = CloseSequence;
  taken = refl;
  emits = refl;
  remembers = refl;
  few = omega arith;
  places = whole [] _ _ (inl refl);
  alive = a;
  makes = λ ks ps f b. (
    collection_ends BlockEntries (FollowsStates s ss) [] CloseSequence ks ps (NoNode, refl, refl) f,
    λ c. absurd c,
  );
}

pub indentless_entry_turned : Turns (WantedIn state.IndentlessSequenceEntry) indentless_sequence_entry
unfolding indentless_sequence_entry
indentless_entry_turned = by_token (WantedIn state.IndentlessSequenceEntry) indentless_sequence_entry_at
    indentless_entry_at_turned

-- ## Pairs

abbrev IsMarked : Claim
IsMarked ks ps = (key value : Node)
    × YieldsMarkedPair key value (YieldsNode key InBlockMapping) (YieldsNode value InBlockMapping) (Key ∷ ks)
    × (ps ≡ node_parts key ++ node_parts value)

pair_join : (a b : List Kind) (p q : List Part) → IsMarked a p → BlockPairs b q → BlockPairs (Key ∷ (a ++ b)) (p ++ q)
pair_join a b p q x y = (
  MorePairs x.0 x.1 y.0,
  (Key ∷ a, b, inl x.2, y.1, refl),
  both_parts x.3 y.2 ∙ append_assoc (node_parts x.0) (node_parts x.1) (pair_parts y.0),
)

with_value : (R : Claim) (ks : List Kind) (ps : List Part)
    → Then (IsOptionalOf InBlockMapping) (Then (IsValueOf InBlockMapping) (InBlockPairs R)) ks ps
    → InBlockPairs R (Key ∷ ks) ps
with_value R ks ps h =
    join_behind IsMarked BlockPairs (Then (Exactly (BlockEnd ∷ []) (CloseMapping ∷ [])) R) BlockPairs (Key ∷ []) [] ks
    ps pair_join
    (regroup (IsOptionalOf InBlockMapping) (IsValueOf InBlockMapping) (InBlockPairs R) IsMarked ks ps
    (λ a b p q x y. (x.0, y.0, (Key ∷ a, b, (a, x.1, refl), y.1, refl), both_parts x.2 y.2)) h)

value_more : (t u : List Kind) → BeginsWithValue t → BeginsWithValue (t ++ u)
value_more k u h = grind arith

without_value : (R : Claim) (front back ks : List Kind) (first second ps : List Part)
    → IsOptionalOf InBlockMapping front first → (BeginsWithValue back → ⊥) → Then IsSkipped (InBlockPairs R) back second
    → ks ≡ front ++ back → ps ≡ first ++ second → InBlockPairs R (Key ∷ ks) ps
without_value R front back ks first second ps x none h e q =
    let g : InBlockPairs R h.back h.second = h.goes_on in
    let rest : back ≡ g.front ++ g.back = cc in
    let others : BeginsWithValue g.front → ⊥ = λ b. none (rw rest (value_more g.front g.back b)) in
    record {
      front = Key ∷ (front ++ g.front);
      back = g.back;
      first = node_parts x.0 ++ (node_parts forest.left_out ++ pair_parts g.begins.0);
      second = g.second;
      begins = (
        MorePairs x.0 forest.left_out g.begins.0,
        (Key ∷ front, g.front, inr (inl (refl, others, (front, x.1, refl))), g.begins.1, refl),
        refl,
      );
      goes_on = g.goes_on;
      kinds_are = cc (append_assoc front g.front g.back);
      parts_are = cc (append_assoc (node_parts x.0) (node_parts forest.left_out ++ pair_parts g.begins.0) g.second);
    }

keyed : (R : Claim) (ks : List Kind) (ps : List Part)
    → Then (IsOptionalOf InBlockMapping) (AtBlockValue R) ks ps → InBlockPairs R (Key ∷ ks) ps
keyed R ks ps h = by h.goes_on
  where
    by : AtBlockValue R h.back h.second → InBlockPairs R (Key ∷ ks) ps
    by (inl v) = with_value R ks ps
        (record {
          front = h.front;
          back = h.back;
          first = h.first;
          second = h.second;
          begins = h.begins;
          goes_on = v;
          kinds_are = h.kinds_are;
          parts_are = h.parts_are;
        })
    by (inr v) = without_value R h.front h.back ks h.first h.second ps h.begins v.0 v.1 h.kinds_are h.parts_are

-- a value without a key
keyless_join : (a b : List Kind) (p q : List Part) → IsValueOf InBlockMapping a p → BlockPairs b q
    → BlockPairs (a ++ b) (Leaf forest.no_properties Plain [] ∷ (p ++ q))
keyless_join a b p q x y = (
  MorePairs forest.left_out x.0 y.0,
  (a, b, inr (inr (refl, x.1)), y.1, refl),
  cc (both_parts x.2 y.2),
)

keyless : (R : Claim) (ks : List Kind) (ps : List Part) → AtBlockValue R ks ps
    → BeginsWithValue ks → InBlockPairs R ks (Leaf forest.no_properties Plain [] ∷ ps)
keyless R ks ps (inr v) b = absurd (v.0 b)
keyless R ks ps (inl v) b = join_behind (IsValueOf InBlockMapping) BlockPairs
    (Then (Exactly (BlockEnd ∷ []) (CloseMapping ∷ [])) R) BlockPairs [] (Leaf forest.no_properties Plain [] ∷ []) ks ps
    keyless_join v

-- after the token of a key
abbrev AtKey : Claim → Claim
AtKey R = Then (IsOptionalOf InBlockMapping) (AtBlockValue R)

mapping_key_at_turned : TurnsAt (WantedIn state.BlockMappingKey) block_mapping_key_at
mapping_key_at_turned Key sp = passes (λ _. AtKey) (WantedIn state.BlockMappingKey) Key
    (node_here state.BlockMappingValue) tt (λ _ R ks ps h. (keyed R ks ps h, λ b. absurd b))
    (here_turned state.BlockMappingValue tt tt) sp
mapping_key_at_turned Value sp = leaves_out (WantedIn state.BlockMappingKey) state.BlockMappingValue Value tt
    (λ _ R ks ps f b. (keyless R ks ps f (b tt), λ c. tt)) sp sp
mapping_key_at_turned BlockEnd sp = closes (WantedIn state.BlockMappingKey) BlockPairs BlockEnd MappingEnd CloseMapping
    (λ e. (refl, refl)) refl (λ t span ts k. inr (t, inr k, refl)) (NoPair, refl, refl)
    (λ _ R ks ps f. (f, λ c. absurd c)) sp sp
mapping_key_at_turned _ sp = λ ts r x s ss e w a. tt

pub mapping_key_turned : Turns (WantedIn state.BlockMappingKey) block_mapping_key
unfolding block_mapping_key
mapping_key_turned = by_token (WantedIn state.BlockMappingKey) block_mapping_key_at mapping_key_at_turned

-- after the token of a value
abbrev AtValue : Claim → Claim
AtValue R = Then (IsOptionalOf InBlockMapping) (InBlockPairs R)

mapping_value_at_turned : TurnsAt (WantedIn state.BlockMappingValue) block_mapping_value_at
mapping_value_at_turned Value sp = passes (λ _. AtValue) (WantedIn state.BlockMappingValue) Value
    (node_behind state.BlockMappingKey sp) tt
    (λ _ R ks ps h. (inl (marked_value InBlockMapping (InBlockPairs R) ks ps h), λ b. tt))
    (behind_turned state.BlockMappingKey tt tt sp) sp
mapping_value_at_turned k sp = leaves_out (WantedIn state.BlockMappingValue) state.BlockMappingKey k tt
    (λ _ R ks ps f b. (
      inr (b, put IsSkipped (InBlockPairs R) [] (node_parts forest.left_out) ks ps (refl, refl) f),
      λ c. absurd c,
    )) sp sp

pub mapping_value_turned : Turns (WantedIn state.BlockMappingValue) block_mapping_value
unfolding block_mapping_value
mapping_value_turned = by_token (WantedIn state.BlockMappingValue) block_mapping_value_at mapping_value_at_turned
