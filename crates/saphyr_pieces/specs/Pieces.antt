-- The parser of a text that comes in pieces, as its callers see it.
use Rattle.std.specs.Prelude.{◌≡◌, ℕ, Bool, true, false, List, ◌++◌, Option, Some, None}
use Rattle.saphyr_scalar.specs.declared.scalar.position.Span.{Span}
use Rattle.saphyr_scanner.specs.Views.Scanning.{Scanning, tokens_in}
use Rattle.saphyr_scanner.specs.Views.Tokens.{Piece}
use Rattle.saphyr_machine.specs.declared.event.Event.{Event}
use Rattle.saphyr_machine.specs.declared.fault.Fault.{Fault}
use Rattle.saphyr_machine.specs.declared.progress.Progress.{Progress}
use Rattle.saphyr_machine.specs.declared.progress.Progress.TheVariants as progress
use Rattle.saphyr_machine.specs.Answer.{OutOfMemory, fault_alone}
use Rattle.saphyr_machine.specs.Calls.{GivesNext, item_at}
use Rattle.saphyr_machine.specs.Cursor.{EventCursor, to_come}
use Rattle.saphyr_machine.specs.Passed.{before_tokens}
use Rattle.saphyr_pieces.specs.declared.pieces.Source.{Source}
use Rattle.saphyr_pieces.specs.declared.pieces.Source.TheVariants as source

-- How much of the text came, what came of it and the reader of events doesn't have, and that reader, with its scanner
-- and the tokens that it passed since its last event.
pub record Pieces : Type 0 where
  pub source : Source
  pub more : List ℕ
  pub scanner : Scanning
  pub reader : EventCursor
  pub passed : List Piece

-- the reader, if these characters come behind those that it has
abbrev pub reader_in : List ℕ → Pieces → EventCursor
reader_in more p = record p.reader { machine = record p.reader.machine { tokens = tokens_in more p.scanner } }

-- memory ran out, which the next call says
abbrev pub out_of_memory : EventCursor → EventCursor
out_of_memory c = record c { kept = Some (record { fault = OutOfMemory; given = false }) }

abbrev pub cursor_from : Source → Pieces → List ℕ → EventCursor
cursor_from source.Text p later = before_tokens p.passed (reader_in (p.more ++ later) p)
cursor_from source.Given p later = before_tokens p.passed p.reader
cursor_from source.Lost p later = out_of_memory p.reader

-- where the parser is in the events of the whole text, if these characters come after those that came
abbrev pub at : Pieces → List ℕ → EventCursor
at p later = cursor_from p.source p later

-- what came of the text, and no event was handed out of it
abbrev pub waiting : Pieces → List ℕ
waiting p = p.scanner.state.core.cursor.rest ++ p.more

abbrev pub wants_more_from : Source → Bool
wants_more_from source.Text = true
wants_more_from source.Given = false
wants_more_from source.Lost = false

-- whether more of the text is wanted: else all came, or the text is refused or lost
abbrev pub wants_more : Pieces → Bool
wants_more p = wants_more_from p.source

-- where no more of the text is wanted, none is wanted any more
abbrev pub NeedsNoMore : Pieces → Pieces → Type 0
NeedsNoMore old new = wants_more old ≡ false → wants_more new ≡ false

-- ## More of the text

abbrev pub AddsFrom : Bool → List ℕ → Pieces → Pieces → Type 0
AddsFrom true more old new = (waiting new ≡ waiting old ++ more) × (wants_more new ≡ true)
AddsFrom false more old new = new ≡ old

-- These characters came, and wait behind those that wait. If no more of the text was wanted, nothing changes.
abbrev pub AddsText : List ℕ → Pieces → Pieces → Type 0
AddsText more old new = AddsFrom (wants_more old) more old new

-- ## Out of memory

-- Memory ran out while the text came. No more of it is wanted, and whatever comes, nothing is left but that fault.
abbrev pub IsLost : Pieces → Type 0
IsLost p = (wants_more p ≡ false) × ((later : List ℕ) → to_come (at p later) ≡ fault_alone OutOfMemory)

abbrev pub LosesFrom : Bool → Pieces → Pieces → Type 0
LosesFrom true old new = IsLost new × (waiting new ≡ waiting old)
LosesFrom false old new = new ≡ old

-- The text is lost, if more of it was wanted, and nothing is added to what waits. Otherwise nothing changes.
abbrev pub LosesText : Pieces → Pieces → Type 0
LosesText old new = LosesFrom (wants_more old) old new

-- ## The next event

-- What a call for the next event gives, for all that may come later: it waits for more of the text, and nothing
-- changes; or it hands out what a parser of the whole text does.
abbrev pub HandsOutOrWaits : Option Progress → Event × Span → Fault → Pieces → Pieces → Type 0
HandsOutOrWaits None next fault old new =
    (wants_more new ≡ true) × ((later : List ℕ) → at new later ≡ at old later)
HandsOutOrWaits (Some progress) next fault old new =
    (later : List ℕ) → GivesNext (item_at next fault progress) (at old later) (at new later)

-- A fault is the last that is handed out: no more of the text is wanted.
abbrev pub FaultIsLast : Option Progress → Pieces → Type 0
FaultIsLast (Some progress.Fault) p = wants_more p ≡ false
FaultIsLast _ p = Unit {0}
