-- A parser of a text in UTF-8 that comes in pieces, and what the calls that add to it do.
use Rattle.std.specs.Prelude.{◌≡◌, ◌≤◌, ◌<◌, ◌==◌, ◌-◌, ◌^◌, min, ℕ, Bool, false, List, [], ◌++◌, length, if◌then◌else◌, Option, Some, None, Result, Ok}
use Rattle.std.specs.Str.{chars, encode_utf8_all}
use Rattle.std.specs.Global.{Global}
use Rattle.std.specs.declared.vec.Vec.{Vec}
use Rattle.saphyr_scalar.specs.declared.scalar.position.Marker.{Marker}
use Rattle.saphyr_scalar.specs.declared.scalar.position.Span.{Span}
use Rattle.saphyr_scanner.specs.Steps.Remaining.{scan}
use Rattle.saphyr_machine.specs.declared.progress.Progress.{Progress}
use Rattle.saphyr_machine.specs.Steps.Machine.{text_start}
use Rattle.saphyr_parser.specs.Calls.{item_at}
use Rattle.saphyr_parser.specs.Cursor.{EventCursor, at_start, keeping_tags}
use Rattle.saphyr_parser.specs.Limits.{most_characters}
use Rattle.saphyr_parser.specs.Types.Event.{Event}
use Rattle.saphyr_parser.specs.Types.Fault.{Fault}
use Rattle.saphyr_pieces.specs.Pieces.{LosesText, NeedsNoMore, at, waiting, wants_more}
use Rattle.saphyr_parser_c.specs.declared.coming.Coming.{Coming}
use Rattle.saphyr_parser_c.specs.declared.coming.Extent.{Extent}
use Rattle.saphyr_parser_c.specs.declared.coming.Extent.TheVariants as extent
use Rattle.saphyr_parser_c.specs.declared.status.Status.{Status}
use Rattle.saphyr_parser_c.specs.declared.status.Status.TheVariants as status
use Rattle.saphyr_parser_c.specs.Encoding.{BeginsAsUtf16, IsCutCharacter, IsUtf8SoFar}

-- Where the parser is in the events of the whole text, if these bytes come after those that came.
abbrev pub at_bytes : Coming → List ℕ → EventCursor
at_bytes c later = at c.parser (chars (c.waiting.items ++ later))

-- A limit that a caller sets, up to the most that there may be. 0 sets none.
abbrev pub bounded : ℕ → ℕ → ℕ
bounded limit most = if limit == 0 then most else min limit most

-- nothing came: whatever comes, it is the parser of that, with these limits of its characters and of what waits
abbrev pub IsOfNothing : Bool → ℕ → ℕ → Coming → Type 0
IsOfNothing keep characters bytes c =
    ((later : List ℕ) → at_bytes c later
    ≡ keeping_tags keep (at_start (scan (bounded characters most_characters) (chars later))))
    × (c.waiting.items ≡ []) × (c.extent ≡ extent.Nothing) × (c.most_waiting ≡ bounded bytes (2 ^ 64 - 1))
    × (c.last_end ≡ text_start)

-- no event comes: of what may wait no more bytes wait, or more do
abbrev pub WritesWaiting : Status → Coming → Type 0
WritesWaiting status.More c = length (encode_utf8_all (waiting c.parser)) ≤ c.most_waiting
WritesWaiting status.TooMuch c = c.most_waiting < length (encode_utf8_all (waiting c.parser))
WritesWaiting _ c = ⊥

-- ## Where the last event ends

-- where this item ends, if it is an event, and else where the one before did
abbrev pub end_of_last : Option (Result (Event × Span) Fault) → Marker → Marker
end_of_last (Some (Ok e)) before = e.1.end
end_of_last _ before = before

-- the place goes on behind what a call gave
abbrev pub GoesBehind : Option Progress → Event × Span → Fault → Coming → Coming → Type 0
GoesBehind None next fault old new = new.last_end ≡ old.last_end
GoesBehind (Some progress) next fault old new =
    new.last_end ≡ end_of_last (item_at next fault progress) old.last_end

-- Why bytes are refused that come after those that came. The first of a text may be a mark of UTF-16.
abbrev pub IsRefusalFrom : Extent → List ℕ → Status → Type 0
IsRefusalFrom extent.Nothing bytes status.Utf16 = BeginsAsUtf16 bytes
IsRefusalFrom extent.Nothing bytes status.NotUtf8 = BeginsAsUtf16 bytes → ⊥
IsRefusalFrom _ bytes s = s ≡ status.NotUtf8

abbrev pub IsRefusal : List ℕ → Coming → Status → Type 0
IsRefusal bytes c s = IsRefusalFrom c.extent bytes s

-- What waits: the first bytes of a character that is cut, which are at most three, or none.
abbrev pub WaitsForRest : Coming → Type 0
WaitsForRest c = (length c.waiting.items ≤ 3) × IsCutCharacter c.waiting.items

-- Memory ran out for bytes that came. If more of the text was wanted, nothing but that fault is left, whatever comes.
-- Nothing is added any more.
abbrev pub LosesRest : Coming → Coming → Type 0
LosesRest old new =
    LosesText old.parser new.parser × (new ≡ record old { parser = new.parser; extent = extent.All })

-- More came. The limit of what may wait stays, and where the last event ends. Where no more was wanted, none is.
abbrev pub GoesOn : Coming → Coming → Type 0
GoesOn old new =
    (new ≡ record old { parser = new.parser; waiting = new.waiting; extent = extent.Part })
    × NeedsNoMore old.parser new.parser

-- These characters came, and these bytes wait behind them.
abbrev pub TakesWhole : List ℕ → Vec ℕ Global → Coming → Status → Coming → Type 0
TakesWhole front behind old status.Done new =
    ((later : List ℕ) → at new.parser later ≡ at old.parser (chars front ++ later)) × (new.waiting ≡ behind)
    × GoesOn old new
TakesWhole front behind old status.NoMemory new = LosesRest old new
TakesWhole front behind old s new = ⊥

-- These bytes came in place of those that waited: whole characters of them are the parser's, and a cut one waits. They
-- are refused only if no bytes that may come later make them UTF-8, and taken in only if some do. If they are refused,
-- nothing changes.
abbrev pub TakesIn : List ℕ → Coming → Status → Coming → Type 0
TakesIn bytes old status.Done new =
    ((later : List ℕ) → at_bytes new later ≡ at old.parser (chars (bytes ++ later)))
    × IsUtf8SoFar bytes × WaitsForRest new × GoesOn old new
TakesIn bytes old status.NoMemory new = LosesRest old new
TakesIn bytes old s new = (IsUtf8SoFar bytes → ⊥) × IsRefusal bytes old s × (new ≡ old)

-- No more comes. If a character is cut off, nothing changes.
abbrev pub EndsPieces : Coming → Status → Coming → Type 0
EndsPieces old status.Done new =
    (old.waiting.items ≡ []) × ((later : List ℕ) → at new.parser later ≡ at old.parser [])
    × (wants_more new.parser ≡ false) × (new ≡ record old { parser = new.parser; extent = extent.All })
EndsPieces old status.NoMemory new = LosesRest old new
EndsPieces old s new = (s ≡ status.NotUtf8) × ((old.waiting.items ≡ []) → ⊥) × (new ≡ old)

-- These bytes come next: the parser is that of all that came, one behind the other, whatever comes after them. They are
-- refused only if no bytes that may come later make those that wait and these UTF-8, and added only if some do.
abbrev pub AddsSome : List ℕ → Coming → Status → Coming → Type 0
AddsSome bytes old status.Done new =
    ((later : List ℕ) → at_bytes new later ≡ at_bytes old (bytes ++ later))
    × IsUtf8SoFar (old.waiting.items ++ bytes) × WaitsForRest new × GoesOn old new
AddsSome bytes old status.NoMemory new = LosesRest old new
AddsSome bytes old s new =
    (IsUtf8SoFar (old.waiting.items ++ bytes) → ⊥) × IsRefusal (old.waiting.items ++ bytes) old s × (new ≡ old)

-- No bytes say that no more come. After that, and after a want of memory, nothing is added.
abbrev pub AddsBytes : Extent → List ℕ → Coming → Status → Coming → Type 0
AddsBytes extent.All bytes old s new = (s ≡ status.Whole) × (new ≡ old)
AddsBytes _ [] old s new = EndsPieces old s new
AddsBytes _ bytes old s new = AddsSome bytes old s new

abbrev pub Adds : List ℕ → Coming → Status → Coming → Type 0
Adds bytes old s new = AddsBytes old.extent bytes old s new

-- What waits and how much came stay, and where no more of the text was wanted, none is.
abbrev pub KeepsRest : Coming → Coming → Type 0
KeepsRest old new =
    (new ≡ record old { parser = new.parser; last_end = new.last_end }) × NeedsNoMore old.parser new.parser

abbrev pub IsCopyOfPieces : Coming → Coming → Type 0
IsCopyOfPieces old copy =
    (copy.parser ≡ old.parser) × (copy.waiting.items ≡ old.waiting.items) × (copy.extent ≡ old.extent)
    × (copy.most_waiting ≡ old.most_waiting) × (copy.last_end ≡ old.last_end)
