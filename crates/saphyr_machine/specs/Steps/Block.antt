-- The steps inside block collections (YAML 1.2.2, 8.2).
use Rattle.std.specs.Prelude.{Result}
use Rattle.saphyr_scalar.specs.declared.scalar.fault.Refusal.{Refusal}
use Rattle.saphyr_scalar.specs.declared.scalar.fault.FaultText.TheVariants as fault
use Rattle.saphyr_scanner.specs.Grammar.Tokens.{Kind, BlockEnd, BlockEntry, Key, Value}
use Rattle.saphyr_scanner.specs.Views.Tokens.{Piece}
use Rattle.saphyr_machine.specs.declared.context.NodeContext.TheVariants.{Block}
use Rattle.saphyr_machine.specs.declared.state.State.TheVariants as state
use Rattle.saphyr_machine.specs.Events.{SequenceEnd, MappingEnd}
use Rattle.saphyr_machine.specs.Steps.Machine.{◌>>=◌, Machine, Emitted, emit, refusal_at, taken_token, put_back, pop, left_out_event}
use Rattle.saphyr_machine.specs.Steps.Nodes.{node, node_behind, node_here}

-- a node that begins with the next token
unfoldable pub block_node : Machine → Result Emitted Refusal
block_node m = do
  t ← taken_token m
  node Block t.0 t.1

-- ## Sequences

abbrev pub block_sequence_entry_at : Kind → Piece → Machine → Result Emitted Refusal
block_sequence_entry_at BlockEnd t m = emit SequenceEnd t.span (pop m)
block_sequence_entry_at BlockEntry t m = node_behind state.BlockSequenceEntry t.span m
block_sequence_entry_at _ t m = refusal_at fault.SequenceEntryExpected t

unfoldable pub block_sequence_entry : Machine → Result Emitted Refusal
block_sequence_entry m = do
  t ← taken_token m
  block_sequence_entry_at t.0.kind t.0 t.1

-- ## Sequences at the column of the mapping around them

abbrev pub indentless_sequence_entry_at : Kind → Piece → Machine → Result Emitted Refusal
indentless_sequence_entry_at BlockEntry t m = node_behind state.IndentlessSequenceEntry t.span m
indentless_sequence_entry_at _ t m = emit SequenceEnd t.span (pop (put_back t m))

unfoldable pub indentless_sequence_entry : Machine → Result Emitted Refusal
indentless_sequence_entry m = do
  t ← taken_token m
  indentless_sequence_entry_at t.0.kind t.0 t.1

-- ## Mappings

-- a key that is left out has the span of what follows
abbrev pub block_mapping_key_at : Kind → Piece → Machine → Result Emitted Refusal
block_mapping_key_at Key t m = node_here state.BlockMappingValue m
block_mapping_key_at Value t m = left_out_event t state.BlockMappingValue t.span m
block_mapping_key_at BlockEnd t m = emit MappingEnd t.span (pop m)
block_mapping_key_at _ t m = refusal_at fault.BlockMappingKeyExpected t

unfoldable pub block_mapping_key : Machine → Result Emitted Refusal
block_mapping_key m = do
  t ← taken_token m
  block_mapping_key_at t.0.kind t.0 t.1

abbrev pub block_mapping_value_at : Kind → Piece → Machine → Result Emitted Refusal
block_mapping_value_at Value t m = node_behind state.BlockMappingKey t.span m
block_mapping_value_at _ t m = left_out_event t state.BlockMappingKey t.span m

unfoldable pub block_mapping_value : Machine → Result Emitted Refusal
block_mapping_value m = do
  t ← taken_token m
  block_mapping_value_at t.0.kind t.0 t.1
