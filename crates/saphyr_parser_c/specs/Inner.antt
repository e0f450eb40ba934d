-- What the calls on a parser with its event do.
use Rattle.std.specs.Prelude.{◌≡◌, ℕ, Bool, true, false, List, Option, Some, None, Result, Ok, Err, IsUtf8}
use Rattle.std.specs.Borrow.{Bor}
use Rattle.std.specs.Str.{chars}
use Rattle.std.specs.declared.alloc.AllocError.{AllocError}
use Rattle.std.specs.declared.boxed.Box.{Box}
use Rattle.std.specs.Global.{Global}
use Rattle.saphyr_scalar.specs.declared.scalar.position.Marker.{Marker}
use Rattle.saphyr_scalar.specs.declared.scalar.position.Span.{Span}
use Rattle.saphyr_parser.specs.Limits.{most_characters}
use Rattle.saphyr_parser.specs.Types.Event.{Event}
use Rattle.saphyr_parser.specs.Types.Fault.{Fault}
use Rattle.saphyr_scanner.specs.Steps.Remaining.{scan}
use Rattle.saphyr_machine.specs.declared.progress.Progress.TheVariants as progress
use Rattle.saphyr_parser.specs.Calls.{EndsTheStream, GivesNext, Peeks, item_at}
use Rattle.saphyr_parser.specs.Cursor.{EventCursor, HandsOutNext, at_start, event_of, keeping_tags, to_come}
use Rattle.saphyr_parser.specs.Promises.{KeepsSpans, ReadsClosedYaml, ReadsJson, ReadsYaml, TakesEvents}
use Rattle.saphyr_pieces.specs.Pieces.{wants_more}
use Rattle.yaml_tree.specs.Tables.{IsEmptyTable}
use Rattle.saphyr_parser_c.specs.declared.coming.Coming.{Coming}
use Rattle.saphyr_parser_c.specs.declared.inner.Inner.{Inner}
use Rattle.saphyr_parser_c.specs.declared.shown.CEvent.{CEvent}
use Rattle.saphyr_parser_c.specs.declared.source.Source.{Source}
use Rattle.saphyr_parser_c.specs.declared.source.Source.TheVariants as source
use Rattle.saphyr_parser_c.specs.declared.status.Status.{Status}
use Rattle.saphyr_parser_c.specs.declared.status.Status.TheVariants as status
use Rattle.saphyr_parser_c.specs.Coming.{Adds, IsOfNothing, at_bytes, end_of_last}
use Rattle.saphyr_parser_c.specs.Coming.{IsCopyOfPieces, KeepsRest, WritesWaiting}
use Rattle.saphyr_parser_c.specs.Encoding.{BeginsAsUtf16}
use Rattle.saphyr_parser_c.specs.Same.{IsSameFault}
use Rattle.saphyr_parser_c.specs.Shown.{HasFields, WritesC, WritesLent, no_fields}

-- what was handed out last, which is in the places for an event and for a fault
abbrev pub handed : Inner → Option (Result (Event × Span) Fault)
handed inner = item_at inner.next inner.fault inner.progress

-- What a parser at the start of a text promises: those of `Parser::new_from_str`.
pub record Promises (text : List ℕ) (parser : EventCursor) : Type 0 where
  pub decided : parser ≡ at_start (scan most_characters text)
  pub json : ReadsJson most_characters text parser
  pub yaml : ReadsYaml most_characters text parser
  pub closed : ReadsClosedYaml most_characters text parser
  pub spans : KeepsSpans text parser
  pub taken : TakesEvents text parser

-- nothing that was handed out or shown is kept
abbrev pub KeepsNone : Inner → Type 0
KeepsNone inner = (handed inner ≡ None) × (inner.shown ≡ false)

-- it has no trees, and no part of one
abbrev pub HasNoTrees : Inner → Type 0
HasNoTrees inner = IsEmptyTable inner.table × (inner.growing ≡ None)

-- its trees stay, and what came of the next one
abbrev pub KeepsTrees : Inner → Inner → Type 0
KeepsTrees before after = (after.table ≡ before.table) × (after.growing ≡ before.growing)

-- nothing was handed out, shown or loaded here
abbrev pub IsFresh : Inner → Type 0
IsFresh inner = KeepsNone inner × HasNoTrees inner

-- a parser at the start of a text in UTF-8, which keeps the prefixes of tags or not, and no event yet
pub record IsOverText (text : List ℕ) (keep : Bool) (inner : Inner) : Type 0 where
  pub utf8 : IsUtf8 text
  pub fresh : EventCursor
  pub promises : Promises (chars text) fresh
  pub parser : inner.source ≡ source.Whole (keeping_tags keep fresh)
  pub event : IsFresh inner

-- the source of a text that comes in pieces
abbrev pub IsSourceOf : Coming → Source → Type 0
IsSourceOf coming s = (b : Box Coming Global) × (s ≡ source.Pieces b) × (b.value ≡ coming)

-- a parser of a text that comes in pieces, of which nothing came
pub record IsOfPieces (keep : Bool) (characters bytes : ℕ) (inner : Inner) : Type 0 where
  pub coming : Box Coming Global
  pub nothing : IsOfNothing keep characters bytes coming.value
  pub source : inner.source ≡ source.Pieces coming
  pub event : IsFresh inner

-- why there is none
abbrev pub RefusesText : List ℕ → Status → Type 0
RefusesText text status.NotUtf8 = (IsUtf8 text → ⊥) × (BeginsAsUtf16 text → ⊥)
RefusesText text status.Utf16 = (IsUtf8 text → ⊥) × BeginsAsUtf16 text
RefusesText text status.NoMemory = IsUtf8 text
RefusesText text _ = ⊥

-- ## The parser of a whole text

-- What is handed out is the head of the events to come, and is written; it is kept until the next call.
pub record HandsOfWhole (old new : EventCursor) (inner : Inner) (s : Status) (c : CEvent) : Type 0 where
  pub hands : HandsOutNext (handed inner) (to_come old) (to_come new)
  pub gives : GivesNext (handed inner) old new
  pub over : EndsTheStream new
  pub writes : WritesC (handed inner) s c

-- What is written is what the parser shows.
pub record ShowsOfWhole (old new : EventCursor) (s : Status) (c : CEvent) : Type 0 where
  pub shown : Option (Result (Bor (Event × Span)) (Bor Fault))
  pub peeks : Peeks old shown new
  pub writes : WritesLent shown s c

-- ## A text that comes in pieces

-- Where the parser of a text in pieces is in the events of the whole text, if these bytes come later: at this place, or
-- behind what is there, which was only shown.
abbrev pub IsAtFrom : Bool → Coming → Option (Result (Event × Span) Fault) → List ℕ → EventCursor → Type 0
IsAtFrom false coming shown later c = at_bytes coming later ≡ c
IsAtFrom true coming shown later c = GivesNext shown c (at_bytes coming later)

abbrev pub IsAt : Coming → Inner → List ℕ → EventCursor → Type 0
IsAt coming inner later c = IsAtFrom inner.shown coming (handed inner) later c

-- It depends on bytes that did not come. No event is written, but where the last one ends, and the place stays.
pub record WaitsForMore (old : Coming) (before : Inner) (s : Status) (c : CEvent) (new : Coming) (after : Inner)
    : Type 0 where
  pub status : WritesWaiting s new
  pub not_shown : before.shown ≡ false
  pub blank : HasFields no_fields old.last_end old.last_end c
  pub event : KeepsNone after
  pub wants : wants_more new.parser ≡ true
  pub growing : after.growing ≡ before.growing
  pub place : (later : List ℕ) (at : EventCursor) → IsAt old before later at → IsAt new after later at

-- The last event ends where that does which is read, if one is. What was shown was read before.
abbrev pub MovesLastEndFrom : Bool → Coming → Coming → Inner → Type 0
MovesLastEndFrom false old new after = new.last_end ≡ end_of_last (handed after) old.last_end
MovesLastEndFrom true old new after = new.last_end ≡ old.last_end

abbrev pub MovesLastEnd : Coming → Inner → Coming → Inner → Type 0
MovesLastEnd old before new after = MovesLastEndFrom before.shown old new after

-- the same item, wherever its texts are
abbrev pub IsSameItem : Option (Result (Event × Span) Fault) → Option (Result (Event × Span) Fault) → Type 0
IsSameItem None copy = copy ≡ None
IsSameItem (Some (Ok e)) copy = (f : Event × Span) × (copy ≡ Some (Ok f)) × (event_of f ≡ event_of e)
IsSameItem (Some (Err f)) copy = (g : Fault) × (copy ≡ Some (Err g)) × IsSameFault f g

-- what was shown, the same again
abbrev pub ShowsAgain : Coming → Inner → Coming → Inner → Type 0
ShowsAgain old before new after = before.shown ≡ true → IsSameItem (handed before) (handed after) × (new ≡ old)

-- a fault is the last: no more of the text is wanted
abbrev pub EndsAtFault : Option (Result (Event × Span) Fault) → Coming → Type 0
EndsAtFault (Some (Err f)) c = wants_more c.parser ≡ false
EndsAtFault _ c = Unit {0}

-- Whatever comes later, what is handed out comes next in the whole text, and is written; it is kept until the next
-- call. What was shown is handed out. Behind a fault no more is wanted, as it is where that was shown. A tree that has
-- begun would lack it, and is given up.
pub record HandsOfPieces (old : Coming) (before : Inner) (s : Status) (c : CEvent) (new : Coming) (after : Inner)
    : Type 0 where
  pub gives : (later : List ℕ) (at : EventCursor) → IsAt old before later at
      → GivesNext (handed after) at (at_bytes new later)
  pub again : ShowsAgain old before new after
  pub ended : before.shown ≡ false → EndsAtFault (handed after) new
  pub shown : after.shown ≡ false
  pub given_up : after.growing ≡ None
  pub writes : WritesC (handed after) s c

-- The same is shown, also where it was before, and stays to be handed out. Behind a fault no more is wanted.
pub record ShowsOfPieces (old : Coming) (before : Inner) (s : Status) (c : CEvent) (new : Coming) (after : Inner)
    : Type 0 where
  pub place : (later : List ℕ) (at : EventCursor) → IsAt old before later at → IsAt new after later at
  pub again : ShowsAgain old before new after
  pub ended : before.shown ≡ false → EndsAtFault (handed after) new
  pub shown : after.shown ≡ true
  pub writes : WritesC (handed after) s c

abbrev pub HandsOfComing : Status → CEvent → Coming → Inner → Coming → Inner → Type 0
HandsOfComing status.More c old before new after = WaitsForMore old before status.More c new after
HandsOfComing status.TooMuch c old before new after = WaitsForMore old before status.TooMuch c new after
HandsOfComing s c old before new after = HandsOfPieces old before s c new after

abbrev pub ShowsOfComing : Status → CEvent → Coming → Inner → Coming → Inner → Type 0
ShowsOfComing status.More c old before new after = WaitsForMore old before status.More c new after
ShowsOfComing status.TooMuch c old before new after = WaitsForMore old before status.TooMuch c new after
ShowsOfComing s c old before new after = ShowsOfPieces old before s c new after

-- ## Each call

abbrev pub HandsFrom : Source → Inner → Status → CEvent → Inner → Type 0
HandsFrom (source.Whole old) before s c after =
    (new : EventCursor) × (after.source ≡ source.Whole new) × (after.shown ≡ before.shown)
    × HandsOfWhole old new after s c
HandsFrom (source.Pieces old) before s c after =
    (new : Box Coming Global) × (after.source ≡ source.Pieces new) × KeepsRest old.value new.value
    × MovesLastEnd old.value before new.value after × HandsOfComing s c old.value before new.value after

-- what comes next is handed out, or it waits for more of the text; the trees stay
abbrev pub HandsToC : Inner → Status → CEvent → Inner → Type 0
HandsToC before s c after = HandsFrom before.source before s c after × (after.table ≡ before.table)

abbrev pub ShowsFrom : Source → Inner → Status → CEvent → Inner → Type 0
ShowsFrom (source.Whole old) before s c after =
    (new : EventCursor) × (after.source ≡ source.Whole new) × (after.shown ≡ before.shown) × ShowsOfWhole old new s c
    × (handed after ≡ handed before)
ShowsFrom (source.Pieces old) before s c after =
    (new : Box Coming Global) × (after.source ≡ source.Pieces new) × KeepsRest old.value new.value
    × MovesLastEnd old.value before new.value after × ShowsOfComing s c old.value before new.value after

-- what comes next is shown, or it waits for more of the text; the trees stay
abbrev pub ShowsToC : Inner → Status → CEvent → Inner → Type 0
ShowsToC before s c after = ShowsFrom before.source before s c after × KeepsTrees before after

abbrev pub AddsBytesFrom : Source → List ℕ → Inner → Status → Inner → Type 0
AddsBytesFrom (source.Whole old) bytes before s after = (s ≡ status.Whole) × (after ≡ before)
AddsBytesFrom (source.Pieces old) bytes before s after =
    (new : Box Coming Global) × (after.source ≡ source.Pieces new) × Adds bytes old.value s new.value
    × (after ≡ record before { source = after.source })

-- The next bytes of a text in pieces are added. What was shown stays to be handed out.
abbrev pub AddsToC : List ℕ → Inner → Status → Inner → Type 0
AddsToC bytes before s after = AddsBytesFrom before.source bytes before s after

abbrev pub IsSourceCopy : Source → Source → Type 0
IsSourceCopy (source.Whole old) copy = copy ≡ source.Whole old
IsSourceCopy (source.Pieces old) copy =
    (new : Box Coming Global) × (copy ≡ source.Pieces new) × IsCopyOfPieces old.value new.value

abbrev pub IsShownCopy : Bool → Inner → Inner → Type 0
IsShownCopy false inner copy = KeepsNone copy
IsShownCopy true inner copy = (copy.shown ≡ true) × IsSameItem (handed inner) (handed copy)

-- a parser at the same place, which handed out nothing and has no trees
abbrev pub IsCopyOfParser : Inner → Inner → Type 0
IsCopyOfParser inner copy =
    IsSourceCopy inner.source copy.source × IsShownCopy inner.shown inner copy × HasNoTrees copy

abbrev pub KeepsFrom : Source → Bool → Source → Type 0
KeepsFrom (source.Whole old) keep new = new ≡ source.Whole (keeping_tags keep old)
KeepsFrom (source.Pieces old) keep new =
    (coming : Box Coming Global) × (new ≡ source.Pieces coming) × KeepsRest old.value coming.value
    × ((later : List ℕ) → at_bytes coming.value later ≡ keeping_tags keep (at_bytes old.value later))
    × (coming.value.last_end ≡ old.value.last_end)

-- it has that setting, and nothing else changes
abbrev pub SetsKeepTags : Bool → Inner → Inner → Type 0
SetsKeepTags keep before after =
    KeepsFrom before.source keep after.source × (after ≡ record before { source = after.source })

-- ## Inner steps

-- a tree that has begun is given up
abbrev pub GivesUp : Inner → Inner → Type 0
GivesUp before after = after ≡ record before { growing = None }

abbrev pub Waits : Inner → Status → Marker → Status → CEvent → Inner → Type 0
Waits before why place s c after =
    (s ≡ why) × HasFields no_fields place place c × (after ≡ record before { progress = progress.Over })

-- what is kept is written; its texts may move
pub record WritesKept (before : Inner) (s : Status) (c : CEvent) (after : Inner) : Type 0 where
  pub same : IsSameItem (handed before) (handed after)
  pub others : (after.source ≡ before.source) × (after.shown ≡ before.shown) × KeepsTrees before after
  pub writes : WritesC (handed after) s c

abbrev pub CopiesShown : Inner → Inner → Result Unit AllocError → Inner → Type 0
CopiesShown inner before (Ok done) after =
    (after.source ≡ before.source) × KeepsTrees before after
    × (IsFresh before → IsShownCopy inner.shown inner after)
CopiesShown inner before (Err e) after = Unit {0}
