-- What loading documents answers, and what it leaves.
use Rattle.std.specs.Prelude.{◌≡◌, ◌⊎◌, ◌<◌, Bool, true, false, List, [], ◌∷◌, ◌++◌, Some, None, Result, Ok, Err, Vec, string_bytes}
use Rattle.std.specs.Global.{Global}
use Rattle.saphyr_scalar.specs.declared.scalar.position.Marker.{Marker}
use Rattle.saphyr_parser.specs.Types.Fault.{Fault}
use Rattle.saphyr_parser.specs.Types.Fault.TheVariants as parse
use Rattle.saphyr_parser.specs.Events.{Happening, DocumentEnd}
use Rattle.saphyr_parser.specs.Answer.{Answer, Refused, empty_answer}
use Rattle.saphyr_parser.specs.Cursor.{count, Stays}
use Rattle.yaml_tree.specs.declared.fault.TreeFault.{TreeFault}
use Rattle.yaml_tree.specs.declared.fault.TreeFault.TheVariants as fault
use Rattle.yaml_tree.specs.declared.tally.Limits.{Limits}
use Rattle.yaml_tree.specs.declared.document.Document.{Document}
use Rattle.yaml_tree.specs.Unloading.{unload}
use Rattle.saphyr_parser.specs.Nesting.{happenings, IsAtStart, IsNested}
use Rattle.yaml_tree.specs.Counting.{no_nodes, counts_behind_all, Fits, StayWithin}
use Rattle.yaml_tree.specs.TallySeen.{Exceeds}
use Rattle.yaml_tree.specs.Tables.{Event}

-- ## Which events are taken

-- none of these events ends a document
abbrev pub EndNoDocument : List Happening → Type 0
EndNoDocument [] = Unit {0}
EndNoDocument (h ∷ hs) = (h ≡ DocumentEnd → ⊥) × EndNoDocument hs

-- Where all events are wanted, those behind the end of a document are too.
abbrev pub GoOn : Bool → List Happening → Type 0
GoOn true hs = Unit {0}
GoOn false hs = EndNoDocument hs

-- The events up to the first end of a document were taken, and this holds of them. All others are left.
pub record TakesToEnd (Holds : List Event → Type 0) (all left : Answer) : Type 0 where
  pub taken : List Event
  pub inner : List Event
  pub last : Event
  pub split : all.events ≡ taken ++ left.events
  pub fault : all.fault ≡ left.fault
  pub up_to : taken ≡ inner ++ last ∷ []
  pub ends : last.0 ≡ DocumentEnd
  pub inside : EndNoDocument (happenings inner)
  pub holds : Holds taken

-- No fault ended the events. All were taken, and this holds of them.
pub record TakesRest (Holds : List Event → Type 0) (all left : Answer) : Type 0 where
  pub fault : all.fault ≡ None
  pub nothing : left ≡ empty_answer
  pub holds : Holds all.events

-- ## Faults

-- Why the last of these events, whose span starts here, can't be taken: it doesn't nest, and then this holds; memory
-- runs out, though it is within the limits; or it is past a limit.
abbrev pub Forbids : Type 0 → TreeFault → Limits → List Happening → Marker → Type 0
Forbids Ill fault.NotFresh limits hs place = Ill
Forbids Ill fault.OutOfMemory limits hs place = Fits limits (counts_behind_all hs no_nodes)
Forbids Ill f limits hs place = Exceeds f limits (counts_behind_all hs no_nodes) place

-- The last event that was handed out could not be taken. Those after it are left.
pub record Stops (wanted : Bool) (f : TreeFault) (limits : Limits) (all left : Answer) : Type 0 where
  pub taken : List Event
  pub event : Event
  pub split : all.events ≡ taken ++ (event ∷ left.events)
  pub fault : all.fault ≡ left.fault
  pub inside : GoOn wanted (happenings taken)
  pub within : StayWithin limits (happenings taken) no_nodes
  pub why : Forbids ⊥ f limits (happenings taken ++ event.0 ∷ []) event.1.start

-- the parser's memory ran out after these events, before anything that was still to come
pub record RunsOut (wanted : Bool) (limits : Limits) (all : Answer) : Type 0 where
  pub taken : List Event
  pub lost : Answer
  pub split : all.events ≡ taken ++ lost.events
  pub fault : all.fault ≡ lost.fault
  pub some_lost : 0 < count lost
  pub inside : GoOn wanted (happenings taken)
  pub within : StayWithin limits (happenings taken) no_nodes

-- the parser's fault, after which nothing is left
abbrev pub FailsToParse : Bool → Limits → Fault → Answer → Answer → Type 0
FailsToParse wanted limits (parse.Scan e) all left = (all.fault ≡ Some (Refused e.mark (string_bytes e.info)))
    × GoOn wanted (happenings all.events) × StayWithin limits (happenings all.events) no_nodes × (left ≡ empty_answer)
FailsToParse wanted limits parse.OutOfMemory all left = RunsOut wanted limits all × (left ≡ empty_answer)
FailsToParse wanted limits _ all left = ⊥

-- A fault, and what it leaves of all that was still to come. Where events don't nest this holds.
abbrev pub FailsToTake : Bool → Type 0 → Limits → TreeFault → Answer → Answer → Type 0
FailsToTake wanted Ill limits (fault.Parse f) all left = FailsToParse wanted limits f all left
FailsToTake wanted Ill limits fault.NotFresh all left = Ill
FailsToTake wanted Ill limits f all left = Stops wanted f limits all left

-- What a loader takes of all that is still to come: up to the end of a document, where not all events are wanted, or
-- all; and what holds of these.
abbrev pub TakesComing : Bool → (AtEnd Holds : List Event → Type 0) → Type 0 → Limits → Result Bool TreeFault → Answer
    → Answer → Type 0
TakesComing wanted AtEnd Holds Ill limits (Ok true) all left = (wanted ≡ false) × TakesToEnd AtEnd all left
TakesComing wanted AtEnd Holds Ill limits (Ok false) all left =
    TakesRest (λ es. GoOn wanted (happenings es) × Holds es) all left
TakesComing wanted AtEnd Holds Ill limits (Err f) all left = FailsToTake wanted Ill limits f all left

-- ## Answers

-- No text's events fail to nest.
abbrev pub FailsToLoad : Limits → TreeFault → Answer → Answer → Type 0
FailsToLoad limits f all left = FailsToTake true (IsNested all → ⊥) limits f all left

-- events were handed out before, and nothing is passed
abbrev pub IsLate : Answer → Answer → Type 0
IsLate all left = (IsAtStart all → ⊥) × (left ≡ all)

-- What a call answers, and what it leaves of all that was still to come. Memory may run out before it knows where the
-- parser is.
abbrev pub LoadsDocuments : Limits → Result (Vec Document Global) TreeFault → Answer → Answer → Type 0
LoadsDocuments limits (Ok documents) all left = (unload documents.items ≡ happenings all.events) × (all.fault ≡ None)
    × StayWithin limits (happenings all.events) no_nodes × (left ≡ empty_answer)
LoadsDocuments limits (Err fault.NotFresh) all left =
    IsLate all left ⊎ (IsAtStart all × FailsToLoad limits fault.NotFresh all left)
LoadsDocuments limits (Err (fault.Parse f)) all left = FailsToLoad limits (fault.Parse f) all left
LoadsDocuments limits (Err f) all left = IsAtStart all × FailsToLoad limits f all left

-- whether nothing was handed out, where only lack of memory changes what is to come
abbrev pub BeginsSo : Bool → Answer → Answer → Type 0
BeginsSo true all mid = Stays all mid × IsAtStart mid
BeginsSo false all mid = IsLate all mid
