-- What contracts see of a loader that takes one document.
use Rattle.std.specs.Prelude.{◌≡◌, ◌⊎◌, Bool, true, false, List, [], ◌∷◌, ◌++◌, Option, Some, None, Result, Ok, Err}
use Rattle.std.specs.List.{flat_map}
use Rattle.saphyr_parser.specs.Events.{Happening, StreamStart}
use Rattle.saphyr_parser.specs.Answer.{Answer}
use Rattle.saphyr_parser.specs.Cursor.{EventCursor, Stays}
use Rattle.saphyr_parser.specs.Nesting.{Nest, InStream, BehindStream, nest_behind_stream, happenings}
use Rattle.yaml_tree.specs.declared.fault.TreeFault.{TreeFault}
use Rattle.yaml_tree.specs.declared.fault.TreeFault.TheVariants as fault
use Rattle.yaml_tree.specs.declared.document.Document.{Document}
use Rattle.yaml_tree.specs.declared.open.Open.{Open}
use Rattle.yaml_tree.specs.declared.builder.Builder.{Builder}
use Rattle.yaml_tree.specs.declared.document_loading.Place.{Place}
use Rattle.yaml_tree.specs.declared.document_loading.Place.TheVariants.{BeforeStream, Between, Inside}
use Rattle.yaml_tree.specs.Unloading.{document_events, unload}
use Rattle.yaml_tree.specs.OpenSeen.{open_events, place_of}
use Rattle.yaml_tree.specs.BuilderSeen.{builder_events, nest_of}
use Rattle.yaml_tree.specs.Leaving.{HasHandedOut, LeavesFrom}
use Rattle.yaml_tree.specs.DocumentLoading.{ComesBetweenDocuments, with_stream_start}

-- ## Where a parser is

-- Documents go on here after these events, of which the next ones aren't.
abbrev pub GoesOnBehind : List Happening → Answer → Type 0
GoesOnBehind before a =
    ComesBetweenDocuments a × (with_stream_start (happenings a.events) ≡ before ++ happenings a.events)

-- What a look finds, where only lack of memory changes what is to come.
abbrev pub FindsPlace : Place → Answer → Answer → Type 0
FindsPlace BeforeStream all mid = Stays all mid × GoesOnBehind [] mid
FindsPlace Between all mid = Stays all mid × GoesOnBehind (StreamStart ∷ []) mid
FindsPlace Inside all mid = (ComesBetweenDocuments all → ⊥) × (mid ≡ all)

-- the parser after a document, or after all events, or after a fault
abbrev pub LeavesPart : Result Bool TreeFault → EventCursor → EventCursor → Type 0
LeavesPart (Ok true) first last = HasHandedOut first last
LeavesPart (Ok false) first last = LeavesFrom {X = Bool} (Ok false) first last
LeavesPart (Err f) first last = LeavesFrom {X = Bool} (Err f) first last

-- ## The document that has ended

abbrev pub nest_in_stream : Nest
nest_in_stream = record { innermost = InStream; outer = [] }

-- The document that has ended last in a stream that goes on, or that there is none or the stream has ended.
abbrev pub IsLastOf : Result (Option Document) TreeFault → Open → Type 0
IsLastOf (Ok (Some document)) o = (place_of o ≡ InStream) × (documents : List Document)
    × (open_events o ≡ (StreamStart ∷ flat_map document_events documents) ++ document_events document)
IsLastOf (Ok None) o = ((place_of o ≡ InStream) × (open_events o ≡ StreamStart ∷ []))
    ⊎ ((place_of o ≡ BehindStream) × (documents : List Document) × (open_events o ≡ unload documents))
IsLastOf (Err fault.NotFresh) o = (place_of o ≡ InStream → ⊥) × (place_of o ≡ BehindStream → ⊥)
IsLastOf (Err _) o = ⊥

-- the same of all that a builder holds
abbrev pub HoldsLast : Result (Option Document) TreeFault → Builder → Type 0
HoldsLast (Ok (Some document)) b = (nest_of b ≡ nest_in_stream) × (documents : List Document)
    × (builder_events b ≡ (StreamStart ∷ flat_map document_events documents) ++ document_events document)
HoldsLast (Ok None) b = ((nest_of b ≡ nest_in_stream) × (builder_events b ≡ StreamStart ∷ []))
    ⊎ ((nest_of b ≡ nest_behind_stream) × (documents : List Document) × (builder_events b ≡ unload documents))
HoldsLast (Err fault.NotFresh) b = (nest_of b ≡ nest_in_stream → ⊥) × (nest_of b ≡ nest_behind_stream → ⊥)
HoldsLast (Err _) b = ⊥
