-- The steps at a node: its properties and its content (YAML 1.2.2, 6.9 and chapters 7 and 8).
use Rattle.std.specs.Prelude.{ℕ, Bool, true, false, nat_lt, ◌||◌, is_some, if◌then◌else◌, List, [], Option, Some, None, Result, Ok, Err}
use Rattle.saphyr_scalar.specs.declared.scalar.position.Marker.{Marker}
use Rattle.saphyr_scalar.specs.declared.scalar.position.Span.{Span}
use Rattle.saphyr_scalar.specs.declared.scalar.style.ScalarStyle.TheVariants.{Plain}
use Rattle.saphyr_scalar.specs.declared.scalar.fault.Refusal.{Refusal}
use Rattle.saphyr_scalar.specs.declared.scalar.fault.FaultText.TheVariants as fault
use Rattle.saphyr_scanner.specs.Grammar.Tokens as tokens
use Rattle.saphyr_scanner.specs.Grammar.Tokens.{Kind}
use Rattle.saphyr_scanner.specs.Views.Tokens.{Piece}
use Rattle.saphyr_machine.specs.declared.context.NodeContext.{NodeContext}
use Rattle.saphyr_machine.specs.declared.context.NodeContext.TheVariants as context
use Rattle.saphyr_machine.specs.declared.state.State.{State}
use Rattle.saphyr_machine.specs.declared.state.State.TheVariants as state
use Rattle.saphyr_machine.specs.Events as events
use Rattle.saphyr_machine.specs.Events.{ResolvedTag}
use Rattle.saphyr_machine.specs.Steps.Machine.{◌>>=◌, Machine, Names, Emitted, emit, refusal_at, taken_token, put_back, pop, with_state, push, left_out_event, meaning, with_anchor, next_id}
use Rattle.saphyr_machine.specs.Steps.Contexts.{allows_block, allows_indentless}
use Rattle.saphyr_machine.specs.Steps.Tags.{resolved_tag_at}

-- from where to where properties are, the id of their anchor, 0 for none, and their tag
pub record NodeProperties : Type 0 where
  pub start : Marker
  pub behind : Marker
  pub anchor : ℕ
  pub tag : Option ResolvedTag

abbrev pub no_node_properties : Marker → NodeProperties
no_node_properties place = record { start = place; behind = place; anchor = 0; tag = None }

abbrev pub has_property : NodeProperties → Bool
has_property p = nat_lt 0 p.anchor || is_some p.tag

-- from the properties up to a place
abbrev pub span_up_to : NodeProperties → Marker → Span
span_up_to p place = record { start = p.start; end = place }

-- properties alone stand for an empty scalar
abbrev pub node_without_content : NodeProperties → Piece → Machine → Result Emitted Refusal
node_without_content p t m =
    if has_property p then emit (events.Scalar [] Plain p.anchor p.tag) (span_up_to p p.behind)
    (pop (put_back t m))
    else refusal_at fault.NodeContentExpected t

-- ## Collections that begin or end

abbrev pub begun_sequence : State → ℕ → Option ResolvedTag → Span → Machine → Emitted
begun_sequence s anchor tag span m =
    record { what = events.SequenceStart anchor tag; span = span; machine = with_state s m }

abbrev pub begun_mapping : State → ℕ → Option ResolvedTag → Span → Machine → Emitted
begun_mapping s anchor tag span m =
    record { what = events.MappingStart anchor tag; span = span; machine = with_state s m }

-- behind properties
abbrev pub sequence_opening : State → NodeProperties → Piece → Machine → Result Emitted Refusal
sequence_opening s p t m = Ok (begun_sequence s p.anchor p.tag (span_up_to p t.span.end) m)

abbrev pub mapping_opening : State → NodeProperties → Piece → Machine → Result Emitted Refusal
mapping_opening s p t m = Ok (begun_mapping s p.anchor p.tag (span_up_to p t.span.end) m)

abbrev pub ended_sequence : Span → Machine → Result Emitted Refusal
ended_sequence span m = emit events.SequenceEnd span (pop m)

abbrev pub ended_mapping : Span → Machine → Result Emitted Refusal
ended_mapping span m = emit events.MappingEnd span (pop m)

-- ## Content

-- the content of a node begins with the token
abbrev pub node_content_at : Kind → NodeProperties → NodeContext → Piece → Machine → Result Emitted Refusal
node_content_at (tokens.Scalar style text) p c t m =
    emit (events.Scalar text style p.anchor p.tag) (span_up_to p t.span.end) (pop m)
node_content_at tokens.FlowSequenceStart p c t m = sequence_opening state.FlowSequenceFirstEntry p t m
node_content_at tokens.FlowMappingStart p c t m = mapping_opening state.FlowMappingFirstKey p t m
node_content_at tokens.BlockSequenceStart p c t m =
    if allows_block c then sequence_opening state.BlockSequenceEntry p t m else node_without_content p t m
node_content_at tokens.BlockMappingStart p c t m =
    if allows_block c then mapping_opening state.BlockMappingKey p t m else node_without_content p t m
node_content_at tokens.BlockEntry p c t m =
    if allows_indentless c then sequence_opening state.IndentlessSequenceEntry p t (put_back t m)
    else node_without_content p t m
node_content_at _ p c t m = node_without_content p t m

unfoldable pub node_content : NodeProperties → NodeContext → Piece → Machine → Result Emitted Refusal
node_content p c t m = node_content_at t.kind p c t m

-- the content of a node after its properties
unfoldable pub next_content : NodeProperties → NodeContext → Machine → Result Emitted Refusal
next_content p c m = do
  t ← taken_token m
  node_content p c t.0 t.1

abbrev pub alias_of : Option ℕ → Span → Machine → Result Emitted Refusal
alias_of (Some id) s m = emit (events.Alias id) s (pop m)
alias_of None s m = Err (record { text = fault.UnknownAnchor; mark = s.start; may_change = false })

unfoldable pub alias_node : List ℕ → Span → Machine → Result Emitted Refusal
alias_node name s m = alias_of (meaning name m.anchors.ids) s m

abbrev pub register : List ℕ → Machine → Machine
register name m = record m { anchors = with_anchor name m.anchors }

-- ## Properties, and the machine behind them

-- after an anchor that got the id
abbrev pub properties_behind_anchor_at : Kind → ℕ → Span → Piece → Machine → Result (NodeProperties × Machine) Refusal
properties_behind_anchor_at (tokens.Tag handle suffix) id s t m = do
  tag ← resolved_tag_at m.prefixes handle suffix s.start
  Ok (record { start = s.start; behind = t.span.end; anchor = id; tag = Some tag }, m)
properties_behind_anchor_at _ id s t m =
    Ok (record { start = s.start; behind = s.end; anchor = id; tag = None }, put_back t m)

unfoldable pub properties_behind_anchor : List ℕ → Span → Machine → Result (NodeProperties × Machine) Refusal
properties_behind_anchor name s m = do
  t ← taken_token (register name m)
  properties_behind_anchor_at t.0.kind (next_id m.anchors) s t.0 t.1

-- after a tag
abbrev pub properties_behind_tag_at : Kind → ResolvedTag → Span → Piece → Machine → NodeProperties × Machine
properties_behind_tag_at (tokens.Anchor name) tag s t m =
    (record { start = s.start; behind = t.span.end; anchor = next_id m.anchors; tag = Some tag }, register name m)
properties_behind_tag_at _ tag s t m =
    (record { start = s.start; behind = s.end; anchor = 0; tag = Some tag }, put_back t m)

unfoldable pub properties_behind_tag
    : List ℕ → List ℕ → Span → Machine → Result (NodeProperties × Machine) Refusal
properties_behind_tag handle suffix s m = do
  tag ← resolved_tag_at m.prefixes handle suffix s.start
  t ← taken_token m
  Ok (properties_behind_tag_at t.0.kind tag s t.0 t.1)

-- a node may begin with the token
abbrev pub properties_at : Kind → Piece → Machine → Result (NodeProperties × Machine) Refusal
properties_at (tokens.Anchor name) t m = properties_behind_anchor name t.span m
properties_at (tokens.Tag handle suffix) t m = properties_behind_tag handle suffix t.span m
properties_at _ t m = Ok (no_node_properties t.span.start, put_back t m)

abbrev pub next_properties : Machine → Result (NodeProperties × Machine) Refusal
next_properties m = do
  t ← taken_token m
  properties_at t.0.kind t.0 t.1

-- the content behind them
abbrev pub content_behind : NodeContext → NodeProperties × Machine → Result Emitted Refusal
content_behind c p = next_content p.0 c p.1

-- a node begins with the token
abbrev pub node_at : Kind → NodeContext → Piece → Machine → Result Emitted Refusal
node_at (tokens.Alias name) c t m = alias_node name t.span m
node_at (tokens.Anchor name) c t m = properties_behind_anchor name t.span m >>= content_behind c
node_at (tokens.Tag handle suffix) c t m = properties_behind_tag handle suffix t.span m >>= content_behind c
node_at _ c t m = node_content (no_node_properties t.span.start) c t m

unfoldable pub node : NodeContext → Piece → Machine → Result Emitted Refusal
node c t m = node_at t.kind c t m

-- a node inside a collection, which goes on in the state after it
abbrev pub node_inside : State → NodeContext → Piece → Machine → Result Emitted Refusal
node_inside s c t m = node c t (push s m)

-- ## A node that may be left out

-- whether a node, behind which the state is expected, is left out before a token
abbrev pub is_left_out : State → Kind → Bool
is_left_out state.BlockSequenceEntry tokens.BlockEntry = true
is_left_out state.BlockSequenceEntry tokens.BlockEnd = true
is_left_out state.IndentlessSequenceEntry tokens.BlockEntry = true
is_left_out state.IndentlessSequenceEntry tokens.Key = true
is_left_out state.IndentlessSequenceEntry tokens.Value = true
is_left_out state.IndentlessSequenceEntry tokens.BlockEnd = true
is_left_out state.BlockMappingKey tokens.Key = true
is_left_out state.BlockMappingKey tokens.Value = true
is_left_out state.BlockMappingKey tokens.BlockEnd = true
is_left_out state.BlockMappingValue tokens.Key = true
is_left_out state.BlockMappingValue tokens.Value = true
is_left_out state.BlockMappingValue tokens.BlockEnd = true
is_left_out state.FlowSequenceEntryMappingValue tokens.Value = true
is_left_out state.FlowSequenceEntryMappingValue tokens.FlowEntry = true
is_left_out state.FlowSequenceEntryMappingValue tokens.FlowSequenceEnd = true
is_left_out state.FlowSequenceEntryMappingEnd tokens.FlowEntry = true
is_left_out state.FlowSequenceEntryMappingEnd tokens.FlowSequenceEnd = true
is_left_out state.FlowMappingKey tokens.FlowEntry = true
is_left_out state.FlowMappingKey tokens.FlowMappingEnd = true
is_left_out state.FlowMappingValue tokens.Value = true
is_left_out state.FlowMappingValue tokens.FlowEntry = true
is_left_out state.FlowMappingValue tokens.FlowMappingEnd = true
is_left_out _ _ = false

-- the context of a node, behind which the state is expected
abbrev pub context_before : State → NodeContext
context_before state.BlockSequenceEntry = context.Block
context_before state.IndentlessSequenceEntry = context.Block
context_before state.BlockMappingKey = context.BlockMapping
context_before state.BlockMappingValue = context.BlockMapping
context_before _ = context.Flow

abbrev pub node_or_nothing_at : Bool → State → Span → Piece → Machine → Result Emitted Refusal
node_or_nothing_at true s span t m = left_out_event t s span m
node_or_nothing_at false s span t m = node_inside s (context_before s) t m

-- a node that begins with the token, or, where it is left out before the token, an empty scalar with this span
abbrev pub node_or_nothing : State → Span → Piece → Machine → Result Emitted Refusal
node_or_nothing s span t m = node_or_nothing_at (is_left_out s t.kind) s span t m

-- ## Nodes that begin with the next token

-- after the indicator of an entry or of a value, whose span a node has that is left out
unfoldable pub node_behind : State → Span → Machine → Result Emitted Refusal
node_behind s span m = do
  t ← taken_token m
  node_or_nothing s span t.0 t.1

-- a node that has the span of the next token where it is left out
unfoldable pub node_here : State → Machine → Result Emitted Refusal
node_here s m = do
  t ← taken_token m
  node_or_nothing s t.0.span t.0 t.1

abbrev pub next_node : NodeContext → Machine → Result Emitted Refusal
next_node c m = do
  t ← taken_token m
  node c t.0 t.1

abbrev pub next_inside : State → NodeContext → Machine → Result Emitted Refusal
next_inside s c m = do
  t ← taken_token m
  node_inside s c t.0 t.1

-- the tag at a place, and the machine behind it
abbrev pub tag_taken : Names (List ℕ) → List ℕ → List ℕ → Marker → Machine → Result (ResolvedTag × Machine) Refusal
tag_taken prefixes handle suffix place m = do
  tag ← resolved_tag_at prefixes handle suffix place
  Ok (tag, m)
