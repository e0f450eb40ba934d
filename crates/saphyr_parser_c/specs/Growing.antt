-- Loading the next document of a parser as a tree: of a whole text, or of one that comes in pieces.
use Rattle.std.specs.Prelude.{◌≡◌, ◌⊎◌, ◌<◌, ◌+◌, ℕ, ℤ, Bool, true, false, List, [], ◌∷◌, ◌++◌, Some, None, Result, Ok, Err, if◌then◌else◌}
use Rattle.std.specs.Prelude as std
use mathlib.Core.Option.{Option, none, some}
use Rattle.std.specs.declared.boxed.Box.{Box}
use Rattle.std.specs.Global.{Global}
use Rattle.saphyr_scalar.specs.declared.scalar.position.Marker.{Marker}
use Rattle.saphyr_scalar.specs.declared.scalar.position.Span.{Span}
use Rattle.saphyr_parser.specs.Types.Event.{Event as Given}
use Rattle.saphyr_parser.specs.Types.Fault.{Fault}
use Rattle.saphyr_parser.specs.Views.Events.{happening}
use Rattle.saphyr_parser.specs.Calls.{AdvancesOver, FailsWith, IsOver}
use Rattle.saphyr_parser.specs.Cursor.{EventCursor, count, event_of, to_come}
use Rattle.saphyr_parser.specs.Events.{DocumentEnd}
use Rattle.saphyr_parser.specs.Nesting.{happenings}
use Rattle.saphyr_pieces.specs.Pieces.{wants_more}
use Rattle.yaml_tree.specs.declared.fault.TreeFault.{TreeFault}
use Rattle.yaml_tree.specs.declared.fault.TreeFault.TheVariants as tree
use Rattle.yaml_tree.specs.declared.tally.Limits.{Limits}
use Rattle.yaml_tree.specs.declared.table.NodeTable.{NodeTable}
use Rattle.yaml_tree.specs.declared.table_loading.Grower.{Grower}
use Rattle.yaml_tree.specs.Counting.{StayWithin, no_nodes}
use Rattle.yaml_tree.specs.DocumentLoading.{IsAroundDocuments, LeavesBehindDocument}
use Rattle.yaml_tree.specs.GrowerSeen.{HasNoneOpen}
use Rattle.yaml_tree.specs.Loading.{EndNoDocument, Forbids}
use Rattle.yaml_tree.specs.TableLoading.{LoadsNextTable}
use Rattle.yaml_tree.specs.TableSeen.{HasGrownWithin}
use Rattle.yaml_tree.specs.Tables.{Event, IsEmptyTable, IsTable}
use Rattle.saphyr_parser_c.specs.declared.coming.Coming.{Coming}
use Rattle.saphyr_parser_c.specs.declared.growing.Stop.{Stop}
use Rattle.saphyr_parser_c.specs.declared.growing.Stop.TheVariants as stop
use Rattle.saphyr_parser_c.specs.declared.inner.Inner.{Inner}
use Rattle.saphyr_parser_c.specs.declared.shown.CEvent.{CEvent}
use Rattle.saphyr_parser_c.specs.declared.source.Source.{Source}
use Rattle.saphyr_parser_c.specs.declared.source.Source.TheVariants as source
use Rattle.saphyr_parser_c.specs.declared.status.Status.{Status}
use Rattle.saphyr_parser_c.specs.declared.status.Status.TheVariants as status
use Rattle.saphyr_parser_c.specs.Coming.{KeepsRest, WritesWaiting, at_bytes, end_of_last}
use Rattle.saphyr_parser_c.specs.Exports.{WritesNone}
use Rattle.saphyr_parser_c.specs.Inner.{EndsAtFault, IsAtFrom, KeepsTrees, handed}
use Rattle.saphyr_parser_c.specs.Shown.{HasFields, no_fields}
use Rattle.saphyr_parser_c.specs.Status.{code_of}
use Rattle.saphyr_parser_c.specs.Trees.{IsEmptyEvent, WritesUnloaded}

-- ## What is told

-- the table is the parser's, or there is none
abbrev pub WritesNext : Result (std.Option NodeTable) TreeFault → Status → CEvent → Inner → Type 0
WritesNext (Ok (Some table)) s c after = (s ≡ status.Loaded) × IsEmptyEvent c × (after.table ≡ table)
WritesNext (Ok None) s c after = (s ≡ status.End) × IsEmptyEvent c × IsEmptyTable after.table
WritesNext (Err f) s c after = WritesUnloaded f s c after × IsEmptyTable after.table

-- ## Events of a text that comes in pieces

-- what was shown, or is to be handed out next
abbrev pub Item : Type 0
Item = std.Option (Result (Given × Span) Fault)

-- where the last event ends that was read, which what was shown is; and a fault that was shown is the last
abbrev pub EndsFrom : Bool → Coming → Item → Marker → Type 0
EndsFrom false coming shown last = coming.last_end ≡ last
EndsFrom true coming shown last = (coming.last_end ≡ end_of_last shown last) × EndsAtFault shown coming

-- Where a parser may be in the events of the whole text, if these bytes come later, and where the last event before
-- that ends.
abbrev pub Spot : Type 1
Spot = List ℕ → EventCursor → Marker → Type 0

abbrev pub spot_in : Source → Bool → Item → Spot
spot_in (source.Whole c) is_shown item later at last = ⊥
spot_in (source.Pieces coming) is_shown item later at last =
    IsAtFrom is_shown coming.value item later at × EndsFrom is_shown coming.value item last

abbrev pub spot_of : Inner → Spot
spot_of inner later at last = spot_in inner.source inner.shown (handed inner) later at last

abbrev pub WantsNoMore : Source → Type 0
WantsNoMore (source.Whole c) = Unit {0}
WantsNoMore (source.Pieces coming) = wants_more coming.value.parser ≡ false

-- the same, and no more of the text is wanted
abbrev pub last_spot_of : Inner → Spot
last_spot_of inner later at last = spot_of inner later at last × WantsNoMore inner.source

-- where the last of these events ends, or the one before them
abbrev pub end_behind : List Event → Marker → Marker
end_behind [] last = last
end_behind (e ∷ es) last = end_behind es e.1.end

-- Whatever comes later, these events come next in the whole text, and the parser is behind them.
abbrev pub PassesThese : List Event → Spot → Spot → Type 0
PassesThese es before after = (later : List ℕ) (at : EventCursor) (last : Marker) → before later at last
    → (behind : EventCursor) × AdvancesOver es at behind × after later behind (end_behind es last)

-- the same, and nothing is left behind them
abbrev pub PassesAll : List Event → Spot → Spot → Type 0
PassesAll es before after = (later : List ℕ) (at : EventCursor) (last : Marker) → before later at last
    → (behind : EventCursor) × AdvancesOver es at behind × IsOver behind × after later behind (end_behind es last)

-- the same, and behind them comes this fault
abbrev pub PassesToFault : Fault → List Event → Spot → Spot → Type 0
PassesToFault f es before after = (later : List ℕ) (at : EventCursor) (last : Marker) → before later at last
    → (behind : EventCursor) × (end : EventCursor) × AdvancesOver es at behind × FailsWith f behind end
    × after later end (end_behind es last)

-- the text stays one that comes in pieces, and nothing is added to it
abbrev pub KeepsText : Source → Source → Type 0
KeepsText (source.Whole c) new = Unit {0}
KeepsText (source.Pieces old) new = (coming : Box Coming Global) × (new ≡ source.Pieces coming)
    × KeepsRest old.value coming.value

-- The next event depends on bytes that did not come, of which more wait than may, or not. The last one ends here.
abbrev pub WaitsIn : Source → Bool → Status → Marker → Type 0
WaitsIn (source.Whole c) is_shown s place = Unit {0}
WaitsIn (source.Pieces coming) is_shown s place = (is_shown ≡ false) × WritesWaiting s coming.value
    × (wants_more coming.value.parser ≡ true) × (place ≡ coming.value.last_end)

abbrev pub WaitsSo : Status → Marker → Inner → Type 0
WaitsSo s place inner = WaitsIn inner.source inner.shown s place

-- ## The next document of such a text

abbrev pub BegunTree : Type 0
BegunTree = std.Option (Box Grower Global)

-- the first of these events begins a document, or is around documents; of no events this holds
abbrev pub BeginBetween : Type 0 → List Event → Type 0
BeginBetween OfNone [] = OfNone
BeginBetween OfNone (e ∷ es) = IsAroundDocuments e.0

-- Of the document so far exactly these events were taken, within these limits. One that has not begun has those of the
-- call.
abbrev pub HasBegun : Limits → Limits → List Event → BegunTree → Type 0
HasBegun given limits es None = (limits ≡ given) × (es ≡ [])
HasBegun given limits es (Some grower) =
    HasGrownWithin limits es grower.value × EndNoDocument (happenings es) × BeginBetween ⊥ es

-- More events of the document were taken, behind those before. None is lost, and none will be taken again.
abbrev pub TakesMore : Limits → BegunTree → BegunTree → Spot → Spot → Type 0
TakesMore given old new before after = (limits : Limits) (es : List Event) → HasBegun given limits es old
    → (took : List Event) × PassesThese took before after × HasBegun limits limits (es ++ took) new

-- A document ended with the last event that was passed, and the table is of all its events: those that were taken
-- before, and these.
pub record ClosesDocument (limits : Limits) (es : List Event) (t : NodeTable) (before after : Spot) : Type 0 where
  pub took : List Event
  pub last : Event
  pub passes : PassesThese (took ++ last ∷ []) before after
  pub begins : BeginBetween ⊥ ((es ++ took) ++ last ∷ [])
  pub inside : EndNoDocument (happenings (es ++ took))
  pub ends : last.0 ≡ DocumentEnd
  pub within : StayWithin limits (happenings ((es ++ took) ++ last ∷ [])) no_nodes
  pub table : IsTable ((es ++ took) ++ last ∷ []) t

-- no document's end was to come
pub record EndsNoDocument (es : List Event) (before after : Spot) : Type 0 where
  pub took : List Event
  pub passes : PassesAll took before after
  pub begins : BeginBetween (Unit {0}) (es ++ took)
  pub inside : EndNoDocument (happenings (es ++ took))

-- the parser's own fault comes before the document's end; it is the last
pub record MeetsFault (f : Fault) (limits : Limits) (es : List Event) (before after : Spot) : Type 0 where
  pub took : List Event
  pub passes : PassesToFault f took before after
  pub begins : BeginBetween (Unit {0}) (es ++ took)
  pub inside : EndNoDocument (happenings (es ++ took))
  pub within : StayWithin limits (happenings (es ++ took)) no_nodes

-- the last event that was passed could not be taken
pub record CannotTake (f : TreeFault) (limits : Limits) (es : List Event) (before after : Spot) : Type 0 where
  pub took : List Event
  pub event : Event
  pub passes : PassesThese (took ++ event ∷ []) before after
  pub begins : BeginBetween ⊥ ((es ++ took) ++ event ∷ [])
  pub inside : EndNoDocument (happenings (es ++ took))
  pub within : StayWithin limits (happenings (es ++ took)) no_nodes
  pub why : Forbids ⊥ f limits (happenings ((es ++ took) ++ event ∷ [])) event.1.start

-- no document has begun, and what comes next is inside one: whatever comes later, the place stays
pub record ComesInside (es : List Event) (before : Spot) (is_shown : Bool) (item : Item) (after : Spot) : Type 0 where
  pub none_before : es ≡ []
  pub event : Given × Span
  pub shown : is_shown ≡ true
  pub next : item ≡ Some (Ok event)
  pub inside : IsAroundDocuments (happening event.0) → ⊥
  pub stays : PassesThese [] before after

-- an event could not be taken, or there was no memory for a document that begins
abbrev pub LacksMemory : Limits → List Event → Spot → Spot → Type 0
LacksMemory limits es before after =
    CannotTake tree.OutOfMemory limits es before after ⊎ ((es ≡ []) × PassesThese [] before after)

-- what became of a document of which these events were taken before
abbrev pub LoadsRest : Limits → List Event → Result (std.Option NodeTable) TreeFault → Spot → Inner → Type 0
LoadsRest limits es (Ok (Some t)) before after = ClosesDocument limits es t before (spot_of after)
LoadsRest limits es (Ok None) before after = EndsNoDocument es before (spot_of after)
LoadsRest limits es (Err (tree.Parse f)) before after = MeetsFault f limits es before (last_spot_of after)
LoadsRest limits es (Err tree.OutOfMemory) before after = LacksMemory limits es before (spot_of after)
LoadsRest limits es (Err tree.NotFresh) before after =
    ComesInside es before after.shown (handed after) (spot_of after)
LoadsRest limits es (Err f) before after = CannotTake f limits es before (spot_of after)

-- the same whichever these are, and nothing is kept of the document
abbrev pub LoadsRestOf : Limits → Result (std.Option NodeTable) TreeFault → BegunTree → Spot → Inner → Type 0
LoadsRestOf given result old before after = (after.growing ≡ None)
    × ((limits : Limits) (es : List Event) → HasBegun given limits es old → LoadsRest limits es result before after)

-- The document isn't there yet, and what came of it is kept. Its last event ends here.
abbrev pub WaitsForDocument : Limits → Status → Marker → BegunTree → Spot → Inner → Type 0
WaitsForDocument given s place old before after =
    WaitsSo s place after × TakesMore given old after.growing before (spot_of after)

abbrev pub WritesWaited : Limits → Inner → Status → CEvent → Inner → Type 0
WritesWaited given before s c after = (place : Marker)
    × WaitsForDocument given s place before.growing (spot_of before) after × HasFields no_fields place place c
    × IsEmptyTable after.table

-- the document isn't there yet, or what became of it is told
abbrev pub LoadsComing : Limits → Inner → Status → CEvent → Inner → Type 0
LoadsComing given before status.More c after = WritesWaited given before status.More c after
LoadsComing given before status.TooMuch c after = WritesWaited given before status.TooMuch c after
LoadsComing given before s c after = (result : Result (std.Option NodeTable) TreeFault)
    × LoadsRestOf given result before.growing (spot_of before) after × WritesNext result s c after

abbrev pub LoadsFromPieces : Limits → Inner → Status → CEvent → Inner → Type 0
LoadsFromPieces limits before s c after = KeepsText before.source after.source × LoadsComing limits before s c after

-- ## Documents, however a text is cut

-- where a parser is once these bytes came, and the end of the text or not
abbrev pub once_came : List ℕ → Bool → Spot → Spot
once_came came false start later at last = start (came ++ later) at last
once_came came true start later at last = start came at last

-- The next document of the whole text, from where a parser was first, is this table, or none is left; and it is behind
-- that.
abbrev pub LoadsAsWhole : Limits → std.Option NodeTable → Spot → Spot → Type 0
LoadsAsWhole limits found start after = (later : List ℕ) (at : EventCursor) (last : Marker) → start later at last
    → (behind : EventCursor) × (end : Marker) × LoadsNextTable limits (Ok found) (to_come at) (to_come behind)
    × after later behind end

-- ## The call

abbrev pub LoadsNextFrom : Limits → Source → Inner → Status → CEvent → Inner → Type 0
LoadsNextFrom limits (source.Whole old) before s c after = (new : EventCursor)
    × (result : Result (std.Option NodeTable) TreeFault) × (after.source ≡ source.Whole new)
    × LoadsNextTable limits result (to_come old) (to_come new) × LeavesBehindDocument result old new
    × WritesNext result s c after
LoadsNextFrom limits (source.Pieces old) before s c after = LoadsFromPieces limits before s c after

abbrev pub LoadsNextToC : Limits → Inner → Status → CEvent → Inner → Type 0
LoadsNextToC limits before s c after = LoadsNextFrom limits before.source before s c after

abbrev pub LoadsNext : Limits → Option Inner → ℤ → CEvent → Option Inner → Type 0
LoadsNext limits none code c new = WritesNone code c new
LoadsNext limits (some old) code c new = (inner : Inner) × (s : Status) × (new ≡ some inner) × (code ≡ code_of s)
    × LoadsNextToC limits old s c inner

-- ## Inner steps

-- the text and the trees stay
pub record StaysAbout (before after : Inner) : Type 0 where
  pub text : KeepsText before.source after.source
  pub trees : KeepsTrees before after

abbrev pub IsInPieces : Source → Type 0
IsInPieces (source.Whole c) = ⊥
IsInPieces (source.Pieces coming) = Unit {0}

-- what comes next is shown, or it waits
abbrev pub ShowsNext : Result (Unit {0}) Stop → Inner → Inner → Type 0
ShowsNext (Ok u) before after = (before.shown ≡ false → IsInPieces before.source) × (after.shown ≡ true)
    × (before.shown ≡ true → after ≡ before)
ShowsNext (Err (stop.Wait s place)) before after = (before.shown ≡ false) × WaitsSo s place after
ShowsNext (Err (stop.Fault f)) before after = ⊥

-- what is shown is an event inside a document
abbrev pub ShowsInside : Item → Type 0
ShowsInside (Some (Ok e)) = IsAroundDocuments (happening e.0) → ⊥
ShowsInside _ = ⊥

-- what is shown is no event inside a document
abbrev pub ShowsBetween : Item → Type 0
ShowsBetween (Some (Ok e)) = IsAroundDocuments (happening e.0)
ShowsBetween _ = Unit {0}

-- these events were taken between documents, or the first is shown
abbrev pub AreBetween : List Event → Inner → Type 0
AreBetween es inner = BeginBetween ((inner.shown ≡ true) × ShowsBetween (handed inner)) es

-- a document that has begun goes on, or one begins where the parser is between documents
abbrev pub Begins : Limits → Result (Box Grower Global) Stop → Inner → Inner → Type 0
Begins given (Ok grower) before after = (limits : Limits) (es : List Event) → HasBegun given limits es before.growing
    → HasGrownWithin limits es grower.value × EndNoDocument (happenings es) × AreBetween es after
Begins given (Err (stop.Wait s place)) before after = (before.growing ≡ None) × WaitsSo s place after
Begins given (Err (stop.Fault tree.OutOfMemory)) before after = before.growing ≡ None
Begins given (Err (stop.Fault tree.NotFresh)) before after =
    (before.growing ≡ None) × (after.shown ≡ true) × ShowsInside (handed after)
Begins given (Err (stop.Fault _)) before after = ⊥

-- how many events are left of what came, if nothing more comes
abbrev pub left_in : Source → Bool → ℕ
left_in (source.Whole c) is_shown = if is_shown then 1 else 0
left_in (source.Pieces coming) is_shown = count (to_come (at_bytes coming.value [])) + (if is_shown then 1 else 0)

abbrev pub left_of : Inner → ℕ
left_of inner = left_in inner.source inner.shown

-- what was shown comes next
abbrev pub IsShownFirst : Event → Inner → Type 0
IsShownFirst e before =
    before.shown ≡ true → (shown : Given × Span) × (handed before ≡ Some (Ok shown)) × (event_of shown ≡ e)

-- the next event was passed
pub record PassesOne (before after : Inner) : Type 0 where
  pub event : Event
  pub passes : PassesThese (event ∷ []) (spot_of before) (spot_of after)
  pub first : IsShownFirst event before

-- The next event was taken behind these: the last of a document or another one. Or nothing is left, it waits, or the
-- event can't be taken.
abbrev pub TakesOne : Limits → List Event → Result (std.Option Bool) Stop → Inner → Inner → Grower → Grower → Type 0
TakesOne limits es (Ok None) before after old new = (one : PassesOne before after)
    × HasGrownWithin limits (es ++ one.event ∷ []) new × (one.event.0 ≡ DocumentEnd → ⊥)
TakesOne limits es (Ok (Some true)) before after old new = (one : PassesOne before after)
    × HasGrownWithin limits (es ++ one.event ∷ []) new × (one.event.0 ≡ DocumentEnd) × HasNoneOpen new.growth
TakesOne limits es (Ok (Some false)) before after old new = PassesAll [] (spot_of before) (spot_of after)
TakesOne limits es (Err (stop.Wait s place)) before after old new =
    PassesThese [] (spot_of before) (spot_of after) × (new ≡ old) × (before.shown ≡ false)
TakesOne limits es (Err (stop.Fault (tree.Parse f))) before after old new =
    PassesToFault f [] (spot_of before) (last_spot_of after) × (after.shown ≡ false)
TakesOne limits es (Err (stop.Fault f)) before after old new = (one : PassesOne before after)
    × Forbids ⊥ f limits (happenings (es ++ one.event ∷ [])) one.event.1.start

-- where it waits, why
abbrev pub WaitsIf : {X : Type 0} → Result X Stop → Inner → Type 0
WaitsIf (Err (stop.Wait s place)) after = WaitsSo s place after
WaitsIf _ after = Unit {0}

-- events were taken up to the end of a document, or as many as came
abbrev pub TakesUpToEnd : Limits → List Event → Result Bool Stop → Spot → Inner → Grower → Type 0
TakesUpToEnd limits es (Ok true) before after new = (took : List Event) × (last : Event)
    × PassesThese (took ++ last ∷ []) before (spot_of after) × EndNoDocument (happenings (es ++ took))
    × HasGrownWithin limits ((es ++ took) ++ last ∷ []) new × (last.0 ≡ DocumentEnd) × HasNoneOpen new.growth
    × BeginBetween ⊥ ((es ++ took) ++ last ∷ [])
TakesUpToEnd limits es (Ok false) before after new = EndsNoDocument es before (spot_of after)
TakesUpToEnd limits es (Err (stop.Wait s place)) before after new = (took : List Event)
    × PassesThese took before (spot_of after) × HasGrownWithin limits (es ++ took) new
    × EndNoDocument (happenings (es ++ took)) × BeginBetween ⊥ (es ++ took)
TakesUpToEnd limits es (Err (stop.Fault (tree.Parse f))) before after new =
    MeetsFault f limits es before (last_spot_of after) × (after.shown ≡ false)
TakesUpToEnd limits es (Err (stop.Fault tree.NotFresh)) before after new = ⊥
TakesUpToEnd limits es (Err (stop.Fault f)) before after new = CannotTake f limits es before (spot_of after)

-- behind a fault of the parser nothing is shown
abbrev pub IsHandedOut : TreeFault → Inner → Type 0
IsHandedOut (tree.Parse f) after = after.shown ≡ false
IsHandedOut _ after = Unit {0}

-- a document's table, or why there is none
abbrev pub LoadsSo : Limits → Result (std.Option NodeTable) Stop → Inner → Inner → Type 0
LoadsSo given (Ok found) before after = LoadsRestOf given (Ok found) before.growing (spot_of before) after
LoadsSo given (Err (stop.Fault f)) before after = (after.growing ≡ None)
    × ((limits : Limits) (es : List Event) → HasBegun given limits es before.growing
    → LoadsRest limits es (Err f) (spot_of before) after × IsHandedOut f after)
LoadsSo given (Err (stop.Wait s place)) before after =
    WaitsForDocument given s place before.growing (spot_of before) after
