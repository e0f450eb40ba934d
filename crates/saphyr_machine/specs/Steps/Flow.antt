-- The steps inside flow collections (YAML 1.2.2, 7.4).
use Rattle.std.specs.Prelude.{Bool, true, false, List, [], ◌∷◌, None, Result}
use Rattle.saphyr_scalar.specs.declared.scalar.position.Marker.{Marker}
use Rattle.saphyr_scalar.specs.declared.scalar.position.Span.{Span}
use Rattle.saphyr_scalar.specs.declared.scalar.fault.Refusal.{Refusal}
use Rattle.saphyr_scalar.specs.declared.scalar.fault.FaultText.TheVariants as fault
use Rattle.saphyr_scanner.specs.Grammar.Tokens.{Kind, FlowSequenceEnd, FlowMappingEnd, FlowEntry, Key, Value}
use Rattle.saphyr_scanner.specs.Views.Tokens.{Piece}
use Rattle.saphyr_machine.specs.declared.context.NodeContext.TheVariants.{Flow}
use Rattle.saphyr_machine.specs.declared.state.State.TheVariants as state
use Rattle.saphyr_machine.specs.Events.{SequenceEnd, MappingStart, MappingEnd}
use Rattle.saphyr_machine.specs.Steps.Machine.{◌>>=◌, Machine, Emitted, emit, refusal_at, taken_token, pop, with_state, with_pair_end, text_start, left_out_event}
use Rattle.saphyr_machine.specs.Steps.Nodes.{node_behind, node_here, node_inside, node_or_nothing}

-- ## Sequences

-- an entry begins with the token, or the sequence ends
abbrev pub flow_sequence_first_entry_at : Kind → Piece → Machine → Result Emitted Refusal
flow_sequence_first_entry_at FlowSequenceEnd t m = emit SequenceEnd t.span (pop m)
flow_sequence_first_entry_at Key t m = emit (MappingStart 0 None) t.span
    (with_state state.FlowSequenceEntryMappingKey m)
flow_sequence_first_entry_at _ t m = node_inside state.FlowSequenceEntry Flow t m

unfoldable pub flow_sequence_first_entry : Machine → Result Emitted Refusal
flow_sequence_first_entry m = do
  t ← taken_token m
  flow_sequence_first_entry_at t.0.kind t.0 t.1

abbrev pub flow_sequence_entry_at : Kind → Piece → Machine → Result Emitted Refusal
flow_sequence_entry_at FlowSequenceEnd t m = emit SequenceEnd t.span (pop m)
flow_sequence_entry_at FlowEntry t m = flow_sequence_first_entry m
flow_sequence_entry_at _ t m = refusal_at fault.FlowSequenceEndExpected t

unfoldable pub flow_sequence_entry : Machine → Result Emitted Refusal
flow_sequence_entry m = do
  t ← taken_token m
  flow_sequence_entry_at t.0.kind t.0 t.1

-- an entry, which is the first or comes after a comma
abbrev pub flow_sequence_turn : Bool → Machine → Result Emitted Refusal
flow_sequence_turn true m = flow_sequence_first_entry m
flow_sequence_turn false m = flow_sequence_entry m

-- ## Pairs of a sequence that begin with `?`

-- a key that is left out leaves what follows it
unfoldable pub flow_sequence_entry_mapping_key : Machine → Result Emitted Refusal
flow_sequence_entry_mapping_key m = node_here state.FlowSequenceEntryMappingValue m

-- after the colon of such a pair; the pair ends after the first token of its value
unfoldable pub flow_sequence_entry_mapping_node : Machine → Result Emitted Refusal
flow_sequence_entry_mapping_node m = do
  t ← taken_token m
  node_or_nothing state.FlowSequenceEntryMappingEnd t.0.span t.0 (with_pair_end t.0.span.end t.1)

abbrev pub flow_sequence_entry_mapping_value_at : Kind → Piece → Machine → Result Emitted Refusal
flow_sequence_entry_mapping_value_at Value t m = flow_sequence_entry_mapping_node m
flow_sequence_entry_mapping_value_at _ t m =
    left_out_event t state.FlowSequenceEntryMappingEnd t.span (with_pair_end t.span.end m)

unfoldable pub flow_sequence_entry_mapping_value : Machine → Result Emitted Refusal
flow_sequence_entry_mapping_value m = do
  t ← taken_token m
  flow_sequence_entry_mapping_value_at t.0.kind t.0 t.1

abbrev pub pair_ended_at : Marker → List Marker → Machine → Result Emitted Refusal
pair_ended_at place others m = emit MappingEnd (record { start = place; end = place })
    (record m { state = state.FlowSequenceEntry; pair_ends = others })

-- There is always a place, so the first case doesn't come.
abbrev pub pair_ended_from : List Marker → Machine → Result Emitted Refusal
pair_ended_from [] m = pair_ended_at text_start [] m
pair_ended_from (place ∷ others) m = pair_ended_at place others m

unfoldable pub flow_sequence_entry_mapping_end : Machine → Result Emitted Refusal
flow_sequence_entry_mapping_end m = pair_ended_from m.pair_ends m

-- ## Mappings

-- A pair begins with the token, or the mapping ends, where its end has the span of the comma or brace before it.
abbrev pub flow_mapping_pair_at : Kind → Span → Piece → Machine → Result Emitted Refusal
flow_mapping_pair_at Key s t m = node_here state.FlowMappingValue m
flow_mapping_pair_at Value s t m = left_out_event t state.FlowMappingValue t.span m
flow_mapping_pair_at FlowMappingEnd s t m = emit MappingEnd s (pop m)
flow_mapping_pair_at _ s t m = node_inside state.FlowMappingEmptyValue Flow t m

unfoldable pub flow_mapping_first_key : Machine → Result Emitted Refusal
flow_mapping_first_key m = do
  t ← taken_token m
  flow_mapping_pair_at t.0.kind t.0.span t.0 t.1

unfoldable pub flow_mapping_pair_behind_comma : Span → Machine → Result Emitted Refusal
flow_mapping_pair_behind_comma s m = do
  t ← taken_token m
  flow_mapping_pair_at t.0.kind s t.0 t.1

abbrev pub flow_mapping_key_at : Kind → Piece → Machine → Result Emitted Refusal
flow_mapping_key_at FlowMappingEnd t m = emit MappingEnd t.span (pop m)
flow_mapping_key_at FlowEntry t m = flow_mapping_pair_behind_comma t.span m
flow_mapping_key_at _ t m = refusal_at fault.FlowMappingEndExpected t

unfoldable pub flow_mapping_key : Machine → Result Emitted Refusal
flow_mapping_key m = do
  t ← taken_token m
  flow_mapping_key_at t.0.kind t.0 t.1

abbrev pub flow_mapping_value_at : Kind → Piece → Machine → Result Emitted Refusal
flow_mapping_value_at Value t m = node_behind state.FlowMappingKey t.span m
flow_mapping_value_at _ t m = left_out_event t state.FlowMappingKey t.span m

unfoldable pub flow_mapping_value : Machine → Result Emitted Refusal
flow_mapping_value m = do
  t ← taken_token m
  flow_mapping_value_at t.0.kind t.0 t.1

-- the value of a pair that has a key alone
unfoldable pub flow_mapping_empty_value : Machine → Result Emitted Refusal
flow_mapping_empty_value m = do
  t ← taken_token m
  left_out_event t.0 state.FlowMappingKey t.0.span t.1
