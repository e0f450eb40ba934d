-- What loading the next document answers, and what it leaves (YAML 1.2.2, 3.1.2).
use Rattle.std.specs.Prelude.{◌≡◌, ◌⊎◌, ◌<◌, false, List, [], ◌∷◌, ◌++◌, Option, Some, None, Result, Ok, Err}
use Rattle.saphyr_scalar.specs.declared.scalar.position.Span.{Span}
use Rattle.saphyr_parser.specs.Events.{Happening, StreamStart, StreamEnd, DocumentStart}
use Rattle.saphyr_parser.specs.Answer.{Answer, Ending, empty_answer}
use Rattle.saphyr_parser.specs.Cursor.{EventCursor, count, to_come}
use Rattle.saphyr_parser.specs.Calls.{AdvancesOver, IsOver, Looks}
use Rattle.saphyr_parser.specs.Nesting.{nest_before_stream, nest_behind_all, happenings, IsWhole}
use Rattle.yaml_tree.specs.declared.fault.TreeFault.{TreeFault}
use Rattle.yaml_tree.specs.declared.fault.TreeFault.TheVariants as fault
use Rattle.yaml_tree.specs.declared.tally.Limits.{Limits}
use Rattle.yaml_tree.specs.declared.document.Document.{Document}
use Rattle.yaml_tree.specs.Unloading.{document_events}
use Rattle.yaml_tree.specs.Counting.{no_nodes, StayWithin}
use Rattle.yaml_tree.specs.Loading.{FailsToTake}
use Rattle.yaml_tree.specs.Leaving.{HasHandedOut, LeavesFrom}

-- ## Where a document may come next

-- an event that is around documents, or begins one
abbrev pub IsAroundDocuments : Happening → Type 0
IsAroundDocuments StreamStart = Unit {0}
IsAroundDocuments (DocumentStart explicit) = Unit {0}
IsAroundDocuments StreamEnd = Unit {0}
IsAroundDocuments _ = ⊥

abbrev pub GoOnBetween : List (Happening × Span) → Type 0
GoOnBetween [] = Unit {0}
GoOnBetween (e ∷ es) = IsAroundDocuments e.0

-- the next event isn't one of a document that has begun
abbrev pub ComesBetweenDocuments : Answer → Type 0
ComesBetweenDocuments a = GoOnBetween a.events

-- the stream's start in front, where it was handed out before
abbrev pub with_stream_start : List Happening → List Happening
with_stream_start (StreamStart ∷ hs) = StreamStart ∷ hs
with_stream_start hs = StreamStart ∷ hs

-- With the stream's start in front events nest, and are complete where no fault ends them; or none is left.
abbrev pub NestOn : List Happening → Option Ending → Type 0
NestOn [] fault = Unit {0}
NestOn hs fault = IsWhole fault (nest_behind_all (with_stream_start hs) nest_before_stream)

-- ## Answers

-- this event or none
abbrev pub AtMost : Happening → List Happening → Type 0
AtMost h hs = (hs ≡ []) ⊎ (hs ≡ h ∷ [])

-- The document's events were passed, and the stream's start where that came first. All others are left.
pub record PassesDocument (limits : Limits) (document : Document) (all left : Answer) : Type 0 where
  pub start : List Happening
  pub passed : List (Happening × Span)
  pub first : AtMost StreamStart start
  pub own : happenings passed ≡ start ++ document_events document
  pub split : all.events ≡ passed ++ left.events
  pub fault : all.fault ≡ left.fault
  pub within : StayWithin limits (happenings passed) no_nodes

-- No more was to come than the start and the end of a stream. Nothing is left.
pub record PassesNoDocument (all left : Answer) : Type 0 where
  pub start : List Happening
  pub end : List Happening
  pub first : AtMost StreamStart start
  pub last : AtMost StreamEnd end
  pub events : happenings all.events ≡ start ++ end
  pub fault : all.fault ≡ None
  pub nothing : left ≡ empty_answer

-- A fault, before which no document ended, and what it leaves. No text's events fail to nest.
abbrev pub FailsInDocument : Limits → TreeFault → Answer → Answer → Type 0
FailsInDocument limits f all left = FailsToTake false (NestOn (happenings all.events) all.fault → ⊥) limits f all left

-- What a call answers, and what it leaves of all that was still to come. The limits are on this document alone.
abbrev pub LoadsDocument : Limits → Result (Option Document) TreeFault → Answer → Answer → Type 0
LoadsDocument limits (Ok (Some document)) all left = PassesDocument limits document all left
LoadsDocument limits (Ok None) all left = PassesNoDocument all left
LoadsDocument limits (Err fault.NotFresh) all left =
    ((ComesBetweenDocuments all → ⊥) × (left ≡ all))
    ⊎ (ComesBetweenDocuments all × FailsInDocument limits fault.NotFresh all left)
LoadsDocument limits (Err (fault.Parse f)) all left = FailsInDocument limits (fault.Parse f) all left
LoadsDocument limits (Err f) all left = ComesBetweenDocuments all × FailsInDocument limits f all left

-- Less is left after a document, so that a loop over documents ends.
abbrev pub LeavesLess : Result (Option Document) TreeFault → Answer → Answer → Type 0
LeavesLess (Ok (Some document)) all left = count left < count all
LeavesLess _ all left = Unit {0}

-- Call after call gave these documents, and the last one left this.
abbrev pub LoadsEach : Limits → List Document → Answer → Answer → Type 0
LoadsEach limits [] all left = left ≡ all
LoadsEach limits (document ∷ documents) all left =
    (middle : Answer) × LoadsDocument limits (Ok (Some document)) all middle × LoadsEach limits documents middle left

-- ## Parsers that are left

-- After a look at the next event: after the document, after all events, after the fault that was met, or after
-- the event that could not be taken. Where the parser is inside a document, nothing else is done.
abbrev pub LeavesBehindLook : {X : Type 0} → Result (Option X) TreeFault → EventCursor → EventCursor → Type 0
LeavesBehindLook (Ok (Some document)) looked new = HasHandedOut looked new
LeavesBehindLook (Ok None) looked new = AdvancesOver (to_come looked).events looked new × IsOver new
LeavesBehindLook (Err fault.NotFresh) looked new =
    (new ≡ looked) ⊎ (ComesBetweenDocuments (to_come looked) × HasHandedOut looked new)
LeavesBehindLook (Err f) looked new = LeavesFrom {X = Option Document} (Err f) looked new

-- The parser that a call leaves.
pub record LeavesBehindDocument {X : Type 0} (result : Result (Option X) TreeFault) (old new : EventCursor)
    : Type 0 where
  pub looked : EventCursor
  pub looks : Looks old looked
  pub leaves : LeavesBehindLook result looked new
