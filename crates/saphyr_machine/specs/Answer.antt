-- The events that a machine still has to give.
use Rattle.std.specs.Prelude.{ℕ, zero, suc, ◌+◌, ◌*◌, Bool, true, false, if◌then◌else◌, List, [], ◌∷◌, length, Option, Some, None, Result, Ok, Err}
use Rattle.saphyr_scalar.specs.Texts.{fault_text}
use Rattle.saphyr_scalar.specs.declared.scalar.position.Marker.{Marker}
use Rattle.saphyr_scalar.specs.declared.scalar.position.Span.{Span}
use Rattle.saphyr_scalar.specs.declared.scalar.fault.Refusal.{Refusal}
use Rattle.saphyr_scanner.specs.Grammar.Tokens as tokens
use Rattle.saphyr_scanner.specs.Grammar.Tokens.{Kind}
use Rattle.saphyr_scanner.specs.Views.Tokens.{Piece}
use Rattle.saphyr_machine.specs.declared.state.State.{State}
use Rattle.saphyr_machine.specs.declared.state.State.TheVariants as state
use Rattle.saphyr_machine.specs.Events.{Happening}
use Rattle.saphyr_machine.specs.Steps.Machine.{Machine, Emitted}
use Rattle.saphyr_machine.specs.Steps.Expected.{event_step}

-- what ends the events before their end: a refusal with its place and its text, or that memory ran out
pub data Ending : Type 0 where
  Refused : Marker → List ℕ → Ending
  OutOfMemory : Ending

-- The events still to come, and the fault after them, if one ends them.
pub record Answer : Type 0 where
  pub events : List (Happening × Span)
  pub fault : Option Ending

abbrev pub empty_answer : Answer
empty_answer = record { events = []; fault = None }

abbrev pub fault_alone : Ending → Answer
fault_alone f = record { events = []; fault = Some f }

abbrev pub with_first_event : Happening × Span → Answer → Answer
with_first_event e a = record { events = e ∷ a.events; fault = a.fault }

abbrev pub ending_of : Refusal → Ending
ending_of e = Refused e.mark (fault_text e.text)

abbrev pub answer_of_step : Result Emitted Refusal → (Machine → Answer) → Answer
answer_of_step (Ok x) go = with_first_event (x.what, x.span) (go x.machine)
answer_of_step (Err e) go = fault_alone (ending_of e)

abbrev pub answer_unless_ended : State → Answer → Answer
answer_unless_ended state.End a = empty_answer
answer_unless_ended _ a = a

-- the events of n steps
abbrev pub answer_of_steps : ℕ → Machine → Answer
answer_of_steps zero m = empty_answer
answer_of_steps (suc n) m = answer_unless_ended m.state (answer_of_step (event_step m) (λ k. answer_of_steps n k))

-- ## How many steps a machine can make

-- how many events come at most from a state before a token is used up, counted so that each such step has less left
abbrev pub weight : State → ℕ
weight state.End = 0
weight state.ImplicitDocumentStart = 4
weight state.DocumentEnd = 2
weight state.BlockMappingKey = 3
weight state.BlockMappingValue = 2
weight state.FlowSequenceEntryMappingKey = 4
weight state.FlowSequenceEntryMappingValue = 3
weight state.FlowSequenceEntryMappingEnd = 2
weight state.FlowMappingFirstKey = 3
weight state.FlowMappingValue = 2
weight state.FlowMappingEmptyValue = 2
weight _ = 1

abbrev pub is_value : Kind → Bool
is_value tokens.Value = true
is_value _ = false

abbrev pub begins_with_value : List Piece → Bool
begins_with_value [] = false
begins_with_value (t ∷ ts) = is_value t.kind

-- a key of a block mapping is left out before a value alone
abbrev pub weight_before : State → List Piece → ℕ
weight_before state.BlockMappingKey ts = if begins_with_value ts then 3 else 1
weight_before s ts = weight s

abbrev pub total_weight : List State → ℕ
total_weight [] = 0
total_weight (s ∷ ss) = weight s + total_weight ss

abbrev pub open_size : Machine → ℕ
open_size m = 10 * length m.tokens.pieces + total_weight m.states

abbrev pub machine_size : Machine → ℕ
machine_size m = open_size m + weight_before m.state m.tokens.pieces

-- the events that are still to come
unfoldable pub remaining_answer : Machine → Answer
remaining_answer m = answer_of_steps (suc (machine_size m)) m
