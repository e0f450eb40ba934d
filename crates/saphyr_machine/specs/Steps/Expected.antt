-- The step of a machine, by what is expected.
use Rattle.std.specs.Prelude.{Result, Err}
use Rattle.saphyr_scalar.specs.declared.scalar.fault.Refusal.{Refusal}
use Rattle.saphyr_machine.specs.declared.state.State.{State}
use Rattle.saphyr_machine.specs.declared.state.State.TheVariants as state
use Rattle.saphyr_machine.specs.Steps.Machine.{Machine, Emitted, ending_refusal}
use Rattle.saphyr_machine.specs.Steps.Documents as document
use Rattle.saphyr_machine.specs.Steps.Block as block
use Rattle.saphyr_machine.specs.Steps.Flow as flow

abbrev pub event_step_at : State → Machine → Result Emitted Refusal
event_step_at state.StreamStart m = document.stream_start m
event_step_at state.ImplicitDocumentStart m = document.implicit_start m
event_step_at state.DocumentStart m = document.explicit_start m
event_step_at state.DocumentContent m = document.document_content m
event_step_at state.DocumentEnd m = document.document_end m
event_step_at state.BlockNode m = block.block_node m
event_step_at state.BlockSequenceEntry m = block.block_sequence_entry m
event_step_at state.IndentlessSequenceEntry m = block.indentless_sequence_entry m
event_step_at state.BlockMappingKey m = block.block_mapping_key m
event_step_at state.BlockMappingValue m = block.block_mapping_value m
event_step_at state.FlowSequenceFirstEntry m = flow.flow_sequence_first_entry m
event_step_at state.FlowSequenceEntry m = flow.flow_sequence_entry m
event_step_at state.FlowSequenceEntryMappingKey m = flow.flow_sequence_entry_mapping_key m
event_step_at state.FlowSequenceEntryMappingValue m = flow.flow_sequence_entry_mapping_value m
event_step_at state.FlowSequenceEntryMappingEnd m = flow.flow_sequence_entry_mapping_end m
event_step_at state.FlowMappingFirstKey m = flow.flow_mapping_first_key m
event_step_at state.FlowMappingKey m = flow.flow_mapping_key m
event_step_at state.FlowMappingValue m = flow.flow_mapping_value m
event_step_at state.FlowMappingEmptyValue m = flow.flow_mapping_empty_value m
event_step_at state.End m = Err (ending_refusal m.tokens.refusal)

-- the next event
unfoldable pub event_step : Machine → Result Emitted Refusal
event_step m = event_step_at m.state m
