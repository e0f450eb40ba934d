-- How events nest (YAML 1.2.2, 3.2.1): a stream has documents, a document has one node, a mapping has keys and values
-- in turn, and each end belongs to what has begun last.
use Rattle.std.specs.Prelude.{◌≡◌, List, [], ◌∷◌, map, Option, Some, None, option_map, option_and_then}
use Rattle.saphyr_scalar.specs.declared.scalar.position.Span.{Span}
use Rattle.saphyr_machine.specs.Answer.{Ending, Answer}
use Rattle.saphyr_machine.specs.Events.{Happening, Nothing, StreamStart, StreamEnd, DocumentStart, DocumentEnd, Alias, Scalar, SequenceStart, SequenceEnd, MappingStart, MappingEnd}

-- what is around a place
pub data NestPlace : Type 0 where
  BeforeStream : NestPlace
  InStream : NestPlace
  BehindStream : NestPlace
  BeforeRoot : NestPlace
  BehindRoot : NestPlace
  InSequence : NestPlace
  BeforeKey : NestPlace
  BeforeValue : NestPlace

-- what is around a place, the innermost first
pub record Nest : Type 0 where
  pub innermost : NestPlace
  pub outer : List NestPlace

-- before the first event
abbrev pub nest_before_stream : Nest
nest_before_stream = record { innermost = BeforeStream; outer = [] }

-- after the last
abbrev pub nest_behind_stream : Nest
nest_behind_stream = record { innermost = BehindStream; outer = [] }

-- the place after a node
abbrev pub place_behind_node : NestPlace → Option NestPlace
place_behind_node BeforeRoot = Some BehindRoot
place_behind_node InSequence = Some InSequence
place_behind_node BeforeKey = Some BeforeValue
place_behind_node BeforeValue = Some BeforeKey
place_behind_node _ = None

abbrev pub place_behind_document : NestPlace → Option NestPlace
place_behind_document InStream = Some InStream
place_behind_document _ = None

abbrev pub place_behind_stream_start : NestPlace → Option NestPlace
place_behind_stream_start BeforeStream = Some InStream
place_behind_stream_start _ = None

abbrev pub place_behind_stream_end : NestPlace → Option NestPlace
place_behind_stream_end InStream = Some BehindStream
place_behind_stream_end _ = None

-- the same with another innermost place
abbrev pub with_next_place : (NestPlace → Option NestPlace) → Nest → Option Nest
with_next_place behind n = option_map (λ place. record n { innermost = place }) (behind n.innermost)

abbrev pub nest_inside : NestPlace → Nest → Nest
nest_inside place n = record { innermost = place; outer = n.innermost ∷ n.outer }

-- what is around, where there is something
abbrev pub nest_of_outer : List NestPlace → Option Nest
nest_of_outer [] = None
nest_of_outer (place ∷ places) = Some (record { innermost = place; outer = places })

abbrev pub nest_around : Nest → Option Nest
nest_around n = nest_of_outer n.outer

abbrev pub end_document : Nest → NestPlace → Option Nest
end_document n BehindRoot = option_and_then (with_next_place place_behind_document) (nest_around n)
end_document n _ = None

abbrev pub end_sequence : Nest → NestPlace → Option Nest
end_sequence n InSequence = option_and_then (with_next_place place_behind_node) (nest_around n)
end_sequence n _ = None

abbrev pub end_mapping : Nest → NestPlace → Option Nest
end_mapping n BeforeKey = option_and_then (with_next_place place_behind_node) (nest_around n)
end_mapping n _ = None

-- after an event, if it may come
abbrev pub nest_behind_event : Happening → Nest → Option Nest
nest_behind_event Nothing n = None
nest_behind_event StreamStart n = with_next_place place_behind_stream_start n
nest_behind_event StreamEnd n = with_next_place place_behind_stream_end n
nest_behind_event (DocumentStart explicit) n = Some (nest_inside BeforeRoot n)
nest_behind_event DocumentEnd n = end_document n n.innermost
nest_behind_event (Alias id) n = with_next_place place_behind_node n
nest_behind_event (Scalar text style id tag) n = with_next_place place_behind_node n
nest_behind_event (SequenceStart id tag) n = Some (nest_inside InSequence n)
nest_behind_event SequenceEnd n = end_sequence n n.innermost
nest_behind_event (MappingStart id tag) n = Some (nest_inside BeforeKey n)
nest_behind_event MappingEnd n = end_mapping n n.innermost

-- after events, if they may come in this order
abbrev pub nest_behind_all : List Happening → Nest → Option Nest
nest_behind_all [] n = Some n
nest_behind_all (h ∷ hs) n = option_and_then (nest_behind_all hs) (nest_behind_event h n)

-- ## What a parser gives

-- events without their spans
abbrev pub happenings : List (Happening × Span) → List Happening
happenings events = map (λ (e : Happening × Span). e.0) events

abbrev pub IsStreamStart : Happening → Type 0
IsStreamStart StreamStart = Unit {0}
IsStreamStart _ = ⊥

abbrev pub BeginsStream : List (Happening × Span) → Option Ending → Type 0
BeginsStream (e ∷ events) fault = IsStreamStart e.0
BeginsStream [] (Some f) = Unit {0}
BeginsStream [] None = ⊥

-- nothing was handed out: the stream's start comes next, or a fault
abbrev pub IsAtStart : Answer → Type 0
IsAtStart a = BeginsStream a.events a.fault

abbrev pub IsWhole : Option Ending → Option Nest → Type 0
IsWhole fault None = ⊥
IsWhole None (Some nest) = nest ≡ nest_behind_stream
IsWhole (Some f) (Some nest) = Unit {0}

-- the events nest, and are complete where no fault ends them
abbrev pub IsNested : Answer → Type 0
IsNested a = IsWhole a.fault (nest_behind_all (happenings a.events) nest_before_stream)
